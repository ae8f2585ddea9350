-- Calls of a reader, one behind the other.
use Rattle.std.proofs.Common.{◌≡◌, ◌≢◌, inl, inr, ℕ, suc, ◌+◌, List, [], ◌++◌, length, Ok, refl, subst, ap, ◌∙◌, arith, append-nil}
use Rattle.std.specs.Io.KnownBytes.{Consumes}
use Rattle.std.proofs.KnownBytes.{Consumes-nil, Consumes-trans}
use Rattle.txn_bytes.specs.Sources.{HasGiven, IsPartRead, Reader}

-- a call that filled some of its buffer gave some bytes
pub is_some : (n : ℕ) (piece : List ℕ) → n ≡ length piece → (n ≡ 0 → ⊥) → piece ≢ []
is_some n piece count filled none = filled (count ∙ ap (λ (ys : List ℕ). length ys) none)

module _ {R : Type 0} (r : Reader R) (WantsMore : List ℕ → Type 0) where
  -- one call more gave some bytes
  pub given_more : (n : ℕ) (old mid new : R) (bytes piece : List ℕ)
      → HasGiven r WantsMore n old mid bytes → WantsMore bytes → r.gives mid new (Ok piece) → piece ≢ []
      → HasGiven r WantsMore (n + 1) old new (bytes ++ piece)
  given_more n old mid new bytes piece h wanted last some =
      let same : suc n ≡ n + 1 = omega (arith) in
      subst (λ m. HasGiven r WantsMore m old new (bytes ++ piece)) same (record {
        before = mid;
        front = bytes;
        piece = piece;
        earlier = h;
        wanted = wanted;
        last = last;
        some = some;
        parts = refl;
      })

  -- it gave some bytes, and nothing else was asked of it
  pub part_read : (n : ℕ) (old mid new : R) (bytes piece : List ℕ)
      → HasGiven r WantsMore n old mid bytes → WantsMore bytes → Consumes (r.remaining old) (r.remaining mid) bytes
      → r.gives mid new (Ok piece) → piece ≢ []
      → Consumes (r.remaining mid) (r.remaining new) piece → IsPartRead r WantsMore old new
  part_read n old mid new bytes piece h wanted taken last some more = record {
    before = new;
    calls = n + 1;
    bytes = bytes ++ piece;
    given = given_more n old mid new bytes piece h wanted last some;
    last = inl refl;
    taken = Consumes-trans _ _ _ _ _ taken more;
  }

  -- it said that it was at its end
  pub whole_read : (n : ℕ) (old mid new : R) (bytes piece : List ℕ)
      → HasGiven r WantsMore n old mid bytes → WantsMore bytes → Consumes (r.remaining old) (r.remaining mid) bytes
      → r.gives mid new (Ok piece) → piece ≡ []
      → Consumes (r.remaining mid) (r.remaining new) piece → IsPartRead r WantsMore old new
  whole_read n old mid new bytes piece h wanted taken last none more = record {
    before = mid;
    calls = n;
    bytes = bytes;
    given = h;
    last = inr (wanted, subst (λ ys. r.gives mid new (Ok ys)) none last);
    taken = subst (λ ys. Consumes (r.remaining old) (r.remaining new) ys)
        (ap (λ ys. bytes ++ ys) none ∙ append-nil bytes)
        (Consumes-trans _ _ _ _ _ taken more);
  }

  -- nothing was asked of it
  pub none_read : (old : R) → IsPartRead r WantsMore old old
  none_read old = record {
    before = old;
    calls = 0;
    bytes = [];
    given = (refl, refl);
    last = inl refl;
    taken = Consumes-nil (r.remaining old);
  }

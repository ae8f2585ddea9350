-- Lines that are held before a writer is asked to take them.
use Rattle.std.proofs.Common.{◌≡◌, ℕ, List, [], ◌++◌, length, take, Option, Some, Result, Ok, Err, OnOk, OnErr, Bool, false, append_assoc, append-nil, sym, ◌∙◌, ap, subst}
use Rattle.std.specs.Prelude.{is_ok}
use Rattle.std.proofs.Math.Seq.{take-append_seam}
use Rattle.std.specs.Io.KnownBytes.{Appends}
use Rattle.txn_bytes.specs.Written.{AppendsFront}
use Rattle.txn_bytes.proofs.Exports.{then, then_front}
use Rattle.report_text.specs.inner.Batched.{Batches}

-- all was handed on
passed_on : (a b c : Option (List ℕ)) (held bs : List ℕ) → Appends a b held → Appends b c bs → Batches a c held [] bs
passed_on a b c held bs h k = record { taken = held ++ bs; parts = sym (append-nil (held ++ bs)); written = then a b c held bs h k }

pub passed_on_ok : {T E : Type 0} (a b c : Option (List ℕ)) (held left bs : List ℕ) (r : Result T E) → left ≡ [] → Appends a b held → OnOk r (Appends b c bs)
    → OnOk r (Batches a c held left bs)
passed_on_ok a b c held left bs (Ok x) none h k = subst (λ zs. Batches a c held zs bs) (sym none) (passed_on a b c held bs h k)
passed_on_ok a b c held left bs (Err e) none h k = tt

-- one part after another
pub batches_then : (a b c : Option (List ℕ)) (held left more xs ys : List ℕ) → Batches a b held left xs → Batches b c left more ys → Batches a c held more (xs ++ ys)
batches_then a b c held left more xs ys h k = record {
  taken = h.taken ++ k.taken;
  parts =
      sym (append_assoc held xs ys) ∙ ap (λ zs. zs ++ ys) h.parts ∙ append_assoc h.taken left ys
      ∙ ap (λ zs. h.taken ++ zs) k.parts ∙ sym (append_assoc h.taken k.taken more);
  written = then a b c h.taken k.taken h.written k.written;
}

-- a beginning of what was left
pub unended : {T E : Type 0} (a b c : Option (List ℕ)) (left xs : List ℕ) (r : Result T E) → Batches a b [] left xs → OnErr r (AppendsFront b c left) → OnErr r (AppendsFront a c xs)
unended a b c left xs (Ok x) h k = tt
unended a b c left xs (Err e) h k = subst (λ zs. AppendsFront a c zs) (sym h.parts) (then_front a b c h.taken left h.written k)

-- a beginning of what was left, and of what was to come behind it
pub cut_off : (a b c : Option (List ℕ)) (left xs ys : List ℕ) → Batches a b [] left xs → AppendsFront b c (left ++ ys) → AppendsFront a c (xs ++ ys)
cut_off a b c left xs ys h k =
    subst (λ zs. AppendsFront a c zs)
    (sym (append_assoc h.taken left ys) ∙ ap (λ zs. zs ++ ys) (sym h.parts))
    (then_front a b c h.taken (left ++ ys) h.written k)

-- ---- a line that was cut off

-- what was held before it is held again
pub cut_back : {T E : Type 0} (held mid left bs : List ℕ) (n : ℕ) (r : Result T E) (b : Bool) → left ≡ take n mid → n ≡ length held → b ≡ is_ok r → b ≡ false
    → OnErr r (AppendsFront (Some held) (Some mid) bs) → left ≡ held
cut_back held mid left bs n (Ok x) b is count told failed h = absurd (cc)
cut_back held mid left bs n (Err e) b is count told failed h =
    is ∙ ap (λ k. take k mid) count ∙ ap (take (length held)) h.written ∙ take-append_seam held h.front

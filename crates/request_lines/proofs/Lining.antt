-- A line that is being taken off a reader.
use Rattle.std.proofs.Common.{◌≡◌, ◌≢◌, ℕ, zero, suc, ◌+◌, ◌-◌, ◌^◌, ◌<◌, inl, inr, Bool, true, false, cond, eqb, List, [], ◌∷◌, ◌++◌, length, take, Ok, refl, sym, ap, subst, ◌∙◌, arith, append-nil, append_assoc}
use Rattle.std.proofs.lemmas.Bool.{ltb-true, ltb-false, eqb-true, eqb-false}
use Rattle.std.proofs.lemmas.List.{take_all}
use Rattle.std.proofs.KnownBytes.{Consumes-nil, Consumes-trans, Consumes-kept}
use Rattle.std.specs.Io.KnownBytes.{Consumes}
use Rattle.request_lines.specs.declared.lines.Taken.TheVariants.{Whole, Long, Cut, End}
use Rattle.txn_bytes.specs.Sources.{HasGiven, IsFault, IsGiven, IsPiece, Reader}
use Rattle.request_lines.specs.Keeping.{Adds, EndsLine, GoesOn, IsLine, Keeps, KeepsLine}
use Rattle.request_lines.specs.Taking.{Holds, Stops, Takes, TakesLast, at_end, at_feed}
use Rattle.request_lines.proofs.Feeds.{lines_join}

no_bytes : (ys : List ℕ) → length ys ≡ 0 → ys ≡ []
no_bytes [] e = refl
no_bytes (y ∷ ys) e = absurd (omega (arith, e))

no_line : (n : ℕ) (ys : List ℕ) → 0 < n → length (take n ys) ≡ 0 → ys ≡ []
no_line zero ys some e = absurd (omega (arith, some))
no_line (suc n) [] some e = refl
no_line (suc n) (y ∷ ys) some e = absurd (omega (arith, e))

none_taken : (n : ℕ) (ys : List ℕ) → ys ≡ [] → length (take n ys) ≡ 0
none_taken zero ys e = refl
none_taken (suc n) [] e = refl
none_taken (suc n) (y ∷ ys) e = let some : suc (length ys) ≡ 0 = ap (λ (zs : List ℕ). length zs) e in absurd (omega (arith, some))

-- what is held
abbrev pub holding : List ℕ → Keeps → Holds
holding piece k = record { held = piece; kept = k.kept }

-- after so many calls it has come to a line, of which so much is kept, and behind it the piece is held
pub record IsUnderWay {R : Type 0} (r : Reader R) (old : R) (held : List ℕ) (calls : ℕ) (now : R)
    (piece : List ℕ) (k : Keeps) : Type 0 where
  pub line : List ℕ
  pub bytes : List ℕ
  pub given : IsGiven r (GoesOn held) calls old now bytes
  pub parts : held ++ bytes ≡ line ++ piece
  pub unbroken : IsLine line
  pub keeps : KeepsLine line k

module _ {R : Type 0} (r : Reader R) (old : R) (held : List ℕ) where
  abbrev pub Way : ℕ → R → List ℕ → Keeps → Type 0
  Way calls now piece k = IsUnderWay r old held calls now piece k

  pub way_first : (k : Keeps) → KeepsLine [] k → Way 0 old held k
  way_first k keeps = record {
    line = [];
    bytes = [];
    given = record { asked = (refl, refl); taken = Consumes-nil (r.remaining old) };
    parts = append-nil held;
    unbroken = tt;
    keeps = keeps;
  }

  -- all that is held goes to the line
  pub way_over : (calls : ℕ) (now : R) (piece : List ℕ) (k l : Keeps) → Way calls now piece k → IsLine piece → Adds piece k l → Way calls now [] l
  way_over calls now piece k l way line adds = record {
    line = way.line ++ piece;
    bytes = way.bytes;
    given = way.given;
    parts = way.parts ∙ sym (append-nil (way.line ++ piece));
    unbroken = lines_join way.line piece way.unbroken line;
    keeps = adds way.line way.keeps;
  }

  all_line : (calls : ℕ) (now : R) (k : Keeps) (way : Way calls now [] k) → held ++ way.bytes ≡ way.line
  all_line calls now k way = way.parts ∙ append-nil way.line

  -- the reader gives the next piece
  pub way_next : (calls : ℕ) (now new : R) (piece : List ℕ) (k : Keeps) → Way calls now [] k
      → IsPiece r now new piece → piece ≢ [] → Way (calls + 1) new piece k
  way_next calls now new piece k way more some =
      let line = all_line calls now k way in
      let next : suc calls ≡ calls + 1 = omega arith in
      record {
        line = way.line;
        bytes = way.bytes ++ piece;
        given = record {
          asked = subst (λ n. HasGiven r (GoesOn held) n old new (way.bytes ++ piece)) next (record {
            before = now;
            front = way.bytes;
            piece = piece;
            earlier = way.given.asked;
            wanted = subst IsLine (sym line) way.unbroken;
            last = more.asked;
            some = some;
            parts = refl;
          });
          taken = Consumes-trans _ _ _ way.bytes piece way.given.taken more.taken;
        };
        parts = sym (append_assoc held way.bytes piece) ∙ ap (λ (ys : List ℕ). ys ++ piece) line;
        unbroken = way.unbroken;
        keeps = way.keeps;
      }

  -- the line ends with a line feed
  pub ends_at_feed : (calls : ℕ) (now : R) (piece rest : List ℕ) (k l : Keeps) (before : List ℕ) → Way calls now piece k → EndsLine piece rest k l
      → Takes r old now (record { held = held; kept = before }) (holding rest l) (at_feed l)
  ends_at_feed calls now piece rest k l before way ends = by l.more refl
    where
      line : List ℕ
      line = way.line ++ ends.front

      keeps : KeepsLine line l
      keeps = ends.added way.line way.keeps

      parts : held ++ way.bytes ≡ line ++ 10 ∷ rest
      parts = way.parts ∙ ap (λ (ys : List ℕ). way.line ++ ys) ends.parts ∙ sym (append_assoc way.line ends.front (10 ∷ rest))

      unbroken : IsLine line
      unbroken = lines_join way.line ends.front way.unbroken ends.line

      by : (b : Bool) → l.more ≡ b → Takes r old now (record { held = held; kept = before }) (holding rest l) (cond b Long Whole)
      by true more = (line, record { calls = calls; bytes = way.bytes; given = way.given; parts = parts; unbroken = unbroken; kept = keeps.kept }, ltb-true 346 (length line) (sym keeps.more ∙ more))
      by false none = record {
        calls = calls;
        bytes = way.bytes;
        given = way.given;
        parts = parts ∙ ap (λ (ys : List ℕ). ys ++ 10 ∷ rest) (sym whole);
        unbroken = subst IsLine (sym whole) unbroken;
        kept = keeps.kept ∙ ap (take 346) (sym whole);
      }
        where
          whole : l.kept ≡ line
          whole = keeps.kept ∙ take_all 346 line (ltb-false 346 (length line) (sym keeps.more ∙ none))

  -- the input ends
  pub ends_at_end : (calls : ℕ) (now new : R) (piece : List ℕ) (k : Keeps) (before : List ℕ) → Way calls now [] k → IsPiece r now new piece → length piece ≡ 0
      → Takes r old new (record { held = held; kept = before }) (holding piece k) (at_end k)
  ends_at_end calls now new piece k before way last none = by (eqb (length k.kept) 0) refl
    where
      nothing : piece ≡ []
      nothing = no_bytes piece none

      ended : r.gives now new (Ok [])
      ended = subst (λ (ys : List ℕ). r.gives now new (Ok ys)) nothing last.asked

      taken : Consumes (r.remaining old) (r.remaining new) way.bytes
      taken = subst (Consumes (r.remaining old) (r.remaining new)) (append-nil way.bytes)
          (Consumes-trans _ _ _ way.bytes [] way.given.taken (subst (Consumes (r.remaining now) (r.remaining new)) nothing last.taken))

      ends : (line : List ℕ) → way.line ≡ line → TakesLast r old new (record { held = held; kept = before }) (holding piece k) line
      ends line same = record {
        calls = calls;
        bytes = way.bytes;
        last = now;
        given = way.given;
        parts = all_line calls now k way ∙ same;
        unbroken = subst IsLine same way.unbroken;
        ended = ended;
        taken = taken;
        at_end = last.ended nothing;
        left = nothing;
        kept = way.keeps.kept ∙ ap (take 346) same;
      }

      by : (b : Bool) → eqb (length k.kept) 0 ≡ b → Takes r old new (record { held = held; kept = before }) (holding piece k) (cond b End Cut)
      by true e = ends [] (no_line 346 way.line (omega arith) (ap (λ (ys : List ℕ). length ys) (sym way.keeps.kept) ∙ eqb-true (length k.kept) 0 e))
      by false e = (way.line, ends way.line refl, λ same. eqb-false (length k.kept) 0 e (ap (λ (ys : List ℕ). length ys) way.keeps.kept ∙ none_taken 346 way.line same))

  -- a read fails
  pub stops_at_fault : (calls : ℕ) (now new : R) (piece : List ℕ) (k : Keeps) (before : List ℕ) → Way calls now [] k → IsFault r now new → piece ≡ []
      → Stops r old new (record { held = held; kept = before }) (holding piece k)
  stops_at_fault calls now new piece k before way fault nothing = record {
    line = way.line;
    calls = calls;
    bytes = way.bytes;
    last = now;
    given = way.given;
    taken = Consumes-kept _ _ _ way.bytes way.given.taken fault.left;
    parts = way.parts ∙ ap (λ (ys : List ℕ). way.line ++ ys) (sym nothing);
    unbroken = way.unbroken;
    kept = way.keeps.kept;
    cause = inl (nothing, fault.asked);
  }

  -- there were too many
  pub stops_at_last : (calls : ℕ) (now : R) (piece : List ℕ) (k : Keeps) (before : List ℕ) → Way calls now piece k → calls ≡ 2 ^ 64 - 1
      → Stops r old now (record { held = held; kept = before }) (holding piece k)
  stops_at_last calls now piece k before way most = record {
    line = way.line;
    calls = calls;
    bytes = way.bytes;
    last = now;
    given = way.given;
    taken = way.given.taken;
    parts = way.parts;
    unbroken = way.unbroken;
    kept = way.keeps.kept;
    cause = inr (most, refl);
  }

-- The first line feed of some bytes.
use Rattle.std.proofs.Common.{◌≡◌, ℕ, zero, suc, ◌+◌, ◌<◌, ◌≤◌, Bool, true, false, not, cond, eqb, List, [], ◌∷◌, ◌++◌, length, take, drop, Some, None, refl, sym, ap, subst, ◌∙◌, arith}
use Rattle.std.specs.Prelude.{position, nat_lt}
use Rattle.std.specs.List.{position_or_len}
use Rattle.std.proofs.lemmas.Bool.{eqb-true, ltb-true, ltb-false}
use Rattle.std.proofs.lemmas.Option.{none-some}
use Rattle.request_lines.specs.Keeping.{Adds, EndsLine, IsLine, Keeps}

at_first_by : (b n : ℕ) (bs : List ℕ) (t : Bool) → eqb b 10 ≡ t → cond (not t) (1 + position_or_len (λ c. eqb c 10) bs) 0 ≡ n → n < suc (length bs)
    → ((m : ℕ) → position_or_len (λ c. eqb c 10) bs ≡ m → m < length bs → IsLine (take m bs) × (bs ≡ take m bs ++ 10 ∷ drop (suc m) bs))
    → IsLine (take n (b ∷ bs)) × (b ∷ bs ≡ take n (b ∷ bs) ++ 10 ∷ drop (suc n) (b ∷ bs))
at_first_by b zero bs true e is h more = (tt, ap (λ c. c ∷ bs) (eqb-true b 10 e))
at_first_by b (suc n) bs true e is h more = absurd (omega (arith, is))
at_first_by b zero bs false e is h more = absurd (omega (arith, is))
at_first_by b (suc n) bs false e is h more = let m = more n (omega (arith, is)) (omega (arith, h)) in ((e, m.0), ap (λ ys. b ∷ ys) m.1)

at_first : (bs : List ℕ) (n : ℕ) → position_or_len (λ c. eqb c 10) bs ≡ n → n < length bs → IsLine (take n bs) × (bs ≡ take n bs ++ 10 ∷ drop (suc n) bs)
at_first [] n is h = absurd (omega (arith, h))
at_first (b ∷ bs) n is h = at_first_by b n bs (eqb b 10) refl is h (at_first bs)

none_by : (b : ℕ) (bs : List ℕ) (t : Bool) → eqb b 10 ≡ t → length (b ∷ bs) ≤ cond (not t) (1 + position_or_len (λ c. eqb c 10) bs) 0
    → (length bs ≤ position_or_len (λ c. eqb c 10) bs → IsLine bs) → IsLine (b ∷ bs)
none_by b bs true e h more = absurd (omega (arith, h))
none_by b bs false e h more = (e, more (omega (arith, h)))

none_at : (bs : List ℕ) → length bs ≤ position_or_len (λ c. eqb c 10) bs → IsLine bs
none_at [] h = tt
none_at (b ∷ bs) h = none_by b bs (eqb b 10) refl h (none_at bs)

some_by : (p len n : ℕ) (t : Bool) → nat_lt p len ≡ t → cond t (Some p) None ≡ Some n → (p ≡ n) × (p < len)
some_by p len n true e is = (cc, ltb-true p len e)
some_by p len n false e is = absurd (none-some n is)

none_found_by : (p len : ℕ) (t : Bool) → nat_lt p len ≡ t → cond t (Some p) None ≡ None → len ≤ p
none_found_by p len true e is = absurd (none-some p (sym is))
none_found_by p len false e is = ltb-false p len e

-- it stands behind a line, and before what is left
pub first_feed : (bs : List ℕ) (n : ℕ) → position (λ b. eqb b 10) bs ≡ Some n → IsLine (take n bs) × (bs ≡ take n bs ++ 10 ∷ drop (suc n) bs)
first_feed bs n e =
    let found = some_by (position_or_len (λ b. eqb b 10) bs) (length bs) n (nat_lt (position_or_len (λ b. eqb b 10) bs) (length bs)) refl e in
    at_first bs n found.0 (subst (λ m. m < length bs) found.0 found.1)

-- bytes without one are no more than a line
pub no_feed : (bs : List ℕ) → position (λ b. eqb b 10) bs ≡ None → IsLine bs
no_feed bs e = none_at bs (none_found_by (position_or_len (λ b. eqb b 10) bs) (length bs) (nat_lt (position_or_len (λ b. eqb b 10) bs) (length bs)) refl e)

pub lines_join : (bs cs : List ℕ) → IsLine bs → IsLine cs → IsLine (bs ++ cs)
lines_join [] cs line more = more
lines_join (b ∷ bs) cs line more = (line.0, lines_join bs cs line.1 more)

-- ---- bytes that are handed over to a line

pub hands_front : (bs old new : List ℕ) (n : ℕ) (before after : Keeps) → bs ≡ old → position (λ b. eqb b 10) bs ≡ Some n → Adds (take n bs) before after → new ≡ drop (n + 1) old
    → EndsLine old new before after
hands_front bs old new n before after same found adds rest =
    let feed = first_feed bs n found in
    let next : suc n ≡ n + 1 = omega arith in
    record {
      front = take n bs;
      line = feed.0;
      parts = sym same ∙ feed.1 ∙ ap (λ (ys : List ℕ). take n bs ++ 10 ∷ ys) (ap (λ m. drop m bs) next ∙ ap (drop (n + 1)) same ∙ sym rest);
      added = adds;
    }

pub hands_all : (bs old new : List ℕ) (before after : Keeps) → bs ≡ old → position (λ b. eqb b 10) bs ≡ None → Adds bs before after → new ≡ []
    → IsLine old × (new ≡ []) × Adds old before after
hands_all bs old new before after same none adds rest = (subst IsLine same (no_feed bs none), rest, subst (λ (ys : List ℕ). Adds ys before after) same adds)

pub feed_within : (bs : List ℕ) (n : ℕ) → position (λ b. eqb b 10) bs ≡ Some n → n < length bs
feed_within bs n e =
    let found = some_by (position_or_len (λ b. eqb b 10) bs) (length bs) n (nat_lt (position_or_len (λ b. eqb b 10) bs) (length bs)) refl e in
    subst (λ m. m < length bs) found.0 found.1

-- The parts of bytes that are cut at one of them.
use Rattle.std.proofs.Common.{◌≡◌, ℕ, zero, suc, ◌+◌, ◌-◌, ◌<◌, ◌≤◌, List, [], ◌∷◌, length, take, drop, true, false, Bool, cond, not, eqb, ltb, Some, None, refl, sym, ap, subst, ◌∙◌, arith}
use Rattle.line_language.specs.Words.{before, behind}
use Rattle.std.specs.Prelude.{position}
use Rattle.std.specs.List.{slice_split, position_or_len, onto_first}
use Rattle.std.proofs.lemmas.Bool.{ltb-true}
use Rattle.std.proofs.lemmas.Bool.Decides.{nat_tests}
use Rattle.std.proofs.lemmas.List.Splits.{slice_split_first}
use Rattle.std.proofs.lemmas.List.{take_rest}
use Rattle.std.proofs.lemmas.Option.{cond_some}

whole_by : (p : ℕ → Bool) (x : ℕ) (xs : List ℕ) (t : Bool) → p x ≡ t → suc (length xs) ≤ cond (not t) (1 + position_or_len p xs) 0
    → (length xs ≤ position_or_len p xs → slice_split p xs ≡ xs ∷ []) → slice_split p (x ∷ xs) ≡ (x ∷ xs) ∷ []
whole_by p x xs true e h more = absurd (omega (arith, h))
whole_by p x xs false e h more = rw e (ap (onto_first x) (more (omega (arith, h))))

-- bytes without a cut are one part
whole : (p : ℕ → Bool) (xs : List ℕ) → length xs ≤ position_or_len p xs → slice_split p xs ≡ xs ∷ []
whole p [] h = refl
whole p (x ∷ xs) h = whole_by p x xs (p x) refl h (whole p xs)

none_found : (a b : ℕ) → cond (ltb a b) (Some a) None ≡ None → b ≤ a
none_found a b e = grind (arith, nat_tests)

some_found : (a b k : ℕ) → cond (ltb a b) (Some a) None ≡ Some k → (a < b) × (a ≡ k)
some_found a b k e = let p = cond_some (ltb a b) a k e in (ltb-true a b p.0, p.1)

pub uncut : (p : ℕ → Bool) (xs : List ℕ) → position p xs ≡ None → slice_split p xs ≡ xs ∷ []
uncut p xs e = whole p xs (none_found (position_or_len p xs) (length xs) e)

pub cut_first : (p : ℕ → Bool) (xs : List ℕ) (k : ℕ) → position p xs ≡ Some k → slice_split p xs ≡ take k xs ∷ slice_split p (take (length xs - (k + 1)) (drop (k + 1) xs))
cut_first p xs k e =
    let h = some_found (position_or_len p xs) (length xs) k e in
    slice_split_first p xs 0 h.0
    ∙ ap (λ n. take n xs ∷ slice_split p (drop (n + 1) xs)) h.1
    ∙ ap (λ ys. take k xs ∷ slice_split p ys) (sym (take_rest xs (k + 1)))

-- ---- what stands before the first cut, and behind it

before_whole_by : (c b : ℕ) (bs : List ℕ) (t : Bool) → eqb b c ≡ t → suc (length bs) ≤ cond (not t) (1 + position_or_len (λ b. eqb b c) bs) 0
    → (length bs ≤ position_or_len (λ b. eqb b c) bs → (before c bs ≡ bs) × (behind c bs ≡ None)) → (before c (b ∷ bs) ≡ b ∷ bs) × (behind c (b ∷ bs) ≡ None)
before_whole_by c b bs true e h more = absurd (omega (arith, h))
before_whole_by c b bs false e h more = let m = more (omega (arith, h)) in rw e (ap (λ ys. b ∷ ys) m.0, m.1)

before_whole : (c : ℕ) (bs : List ℕ) → length bs ≤ position_or_len (λ b. eqb b c) bs → (before c bs ≡ bs) × (behind c bs ≡ None)
before_whole c [] h = (refl, refl)
before_whole c (b ∷ bs) h = before_whole_by c b bs (eqb b c) refl h (before_whole c bs)

pub before_all : (c : ℕ) (bs : List ℕ) → position (λ b. eqb b c) bs ≡ None → (before c bs ≡ bs) × (behind c bs ≡ None)
before_all c bs e = before_whole c bs (none_found (position_or_len (λ b. eqb b c) bs) (length bs) e)

at_first_by : (c b n : ℕ) (bs : List ℕ) (t : Bool) → eqb b c ≡ t → cond (not t) (1 + position_or_len (λ b. eqb b c) bs) 0 ≡ n → n < suc (length bs)
    → ((m : ℕ) → position_or_len (λ b. eqb b c) bs ≡ m → m < length bs → (before c bs ≡ take m bs) × (behind c bs ≡ Some (drop (suc m) bs)))
    → (before c (b ∷ bs) ≡ take n (b ∷ bs)) × (behind c (b ∷ bs) ≡ Some (drop (suc n) (b ∷ bs)))
at_first_by c b zero bs true e is h more = rw e (refl, refl)
at_first_by c b (suc n) bs true e is h more = absurd (omega (arith, is))
at_first_by c b zero bs false e is h more = absurd (omega (arith, is))
at_first_by c b (suc n) bs false e is h more = let m = more n (omega (arith, is)) (omega (arith, h)) in rw e (ap (λ ys. b ∷ ys) m.0, m.1)

at_first : (c : ℕ) (bs : List ℕ) (n : ℕ) → position_or_len (λ b. eqb b c) bs ≡ n → n < length bs → (before c bs ≡ take n bs) × (behind c bs ≡ Some (drop (suc n) bs))
at_first c [] n is h = absurd (omega (arith, h))
at_first c (b ∷ bs) n is h = at_first_by c b n bs (eqb b c) refl is h (at_first c bs)

pub before_first : (c : ℕ) (bs : List ℕ) (k : ℕ) → position (λ b. eqb b c) bs ≡ Some k
    → (before c bs ≡ take k bs) × (behind c bs ≡ Some (take (length bs - (k + 1)) (drop (k + 1) bs)))
before_first c bs k e =
    let h = some_found (position_or_len (λ b. eqb b c) bs) (length bs) k e in
    let p = at_first c bs k h.1 (subst (λ n. n < length bs) h.1 h.0) in
    let next : suc k ≡ k + 1 = omega arith in
    (p.0, p.1 ∙ ap (λ n. Some (drop n bs)) next ∙ ap Some (sym (take_rest bs (k + 1))))

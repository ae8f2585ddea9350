-- Digits whose first is not 0 spell the number that they write.
use Rattle.std.proofs.Common.{◌≡◌, ℕ, zero, suc, pos, ◌+◌, ◌-◌, ◌*◌, ◌<◌, ◌≤◌, ◌^◌, List, [], ◌∷◌, length, take, true, false, nat_eq, Bool, Some, get_or, refl, subst, arith}
use Rattle.std.specs.Prelude.{◌==◌}
use Rattle.std.specs.Char.{digit_value, is_ascii_digit}
use Rattle.std.specs.List.{list_all}
use Rattle.std.specs.Str.Parse.{digits_value}
use Rattle.std.proofs.lemmas.Bool.{and_from, and_parts, lt-ltb, ne_eqb}
use Rattle.std.proofs.lemmas.Bool.Decides.{nat_tests}
use Rattle.std.proofs.lemmas.Int.Digits.{digits_value_more}
use Rattle.line_language.specs.Numbers.{number_of}

all_next : (f : ℕ → Bool) (xs : List ℕ) (i : ℕ) → i < length xs → list_all f (take i xs) ≡ true → f (get_or xs i 0) ≡ true → list_all f (take (suc i) xs) ≡ true
all_next f [] i l h t = absurd (omega arith)
all_next f (x ∷ xs) zero l h t = and_from (f x) true t refl
all_next f (x ∷ xs) (suc i) l h t =
    let p = and_parts (f x) (list_all f (take i xs)) h in and_from (f x) (list_all f (take (suc i) xs)) p.0 (all_next f xs i (omega arith) p.1 t)

pub all_more : (f : ℕ → Bool) (xs : List ℕ) (i : ℕ) → i < length xs → list_all f (take i xs) ≡ true → f (get_or xs i 0) ≡ true → list_all f (take (i + 1) xs) ≡ true
all_more f xs i l h t =
    let s : suc i ≡ i + 1 = omega arith in
    subst (λ k. list_all f (take k xs) ≡ true) s (all_next f xs i l h t)

pub value_more : (ds : List ℕ) (i count : ℕ) → i < length ds → is_ascii_digit (get_or ds i 0) ≡ true → count ≡ digits_value 10 (take i ds)
    → digits_value 10 (take (i + 1) ds) ≡ count * 10 + (get_or ds i 0 - 48)
value_more ds i count inside digit value =
    let worth : digit_value (get_or ds i 0) ≡ get_or ds i 0 - 48 = grind (arith, nat_tests) in
    rw (digits_value_more 10 ds i inside, worth, value)

other : (d c : ℕ) → c < d → nat_eq d c ≡ false
other d c h = ne_eqb d c (λ e. omega (arith, e, h))

pub counted_is : (d : ℕ) (ds : List ℕ) (n : ℕ) → 49 ≤ d → list_all is_ascii_digit (d ∷ ds) ≡ true → n ≡ digits_value 10 (d ∷ ds) → n < 2 ^ 63 → number_of (d ∷ ds) ≡ Some (pos n)
counted_is d ds n first all value small =
    let no_zero : (d == 48) ≡ false = other d 48 first in
    let no_minus : (d == 45) ≡ false = other d 45 (omega (arith, first)) in
    let no_plus : (d == 43) ≡ false = other d 43 (omega (arith, first)) in
    rw (no_minus, no_plus, all, ← value, lt-ltb n (2 ^ 63) small) (rw no_zero refl)

-- Numbers and their spelling.
use Rattle.std.proofs.Common.{◌≡◌, ℕ, ◌<◌, ◌^◌, suc, List, [], ◌∷◌, length, get_or, true, false, Bool, cond, not, nat_eq, ◌&&◌, ◌||◌, ℤ, pos, negsuc, neg_ℤ, Some, None, Result, Ok, Err, refl, sym, ap, ◌∙◌, subst, arith, rules, ⊎_elim, true≢false, zero, lit<}
use Rattle.std.specs.Prelude.{codes, decimal}
use Rattle.std.specs.Char.{is_ascii_digit}
use Rattle.std.specs.Int.{w64}
use Rattle.std.specs.Prelude.{FitsSigned}
use Rattle.std.specs.List.{list_all}
use Rattle.std.specs.Result.{result_ok}
use Rattle.std.specs.Str.{bytes_eq, IsUtf8, IsAscii}
use Rattle.std.specs.Str.Parse.{signed_digits_value, without_leading_sign, ParsesSigned, digits_value}
use Rattle.std.proofs.lemmas.Bool.{and_parts, and_from, or_cases, or_right, not-true, ltb-true, lt-ltb, eq-eqb, eqb-true}
use Rattle.std.proofs.lemmas.Option.{same_Some}
use Rattle.std.proofs.lemmas.Fmt.{IsAscii-from_digits, decimal_digit, decimal-digits_value, digits_decimal, first_decimal, digits_value-decimal}
use Rattle.std.proofs.lemmas.Str.{IsUtf8-from_ascii}
use Rattle.std.proofs.lemmas.Bool.Decides.{nat_tests}
use Rattle.std.proofs.lemmas.Slice.Eq.{bytes_eq-Decides}
use Rattle.std.proofs.lemmas.Str.Parse.{IsNumeralModel, numerals_by_value}
use Rattle.serial_spec.specs.Operations.{is_i64}
use Rattle.line_language.specs.Printing.{spelled_number}
use Rattle.line_language.specs.Numbers.{is_count, is_numeral, without_minus, number_of}

abbrev AreDigits : List ℕ → Type 0
AreDigits ds = list_all is_ascii_digit ds ≡ true

pub own : IsNumeralModel AreDigits (digits_value 10)
own = numerals_by_value AreDigits (search rules)

-- what a numeral has behind its sign, which is no plus
pub record IsSpelled (bs : List ℕ) : Type 0 where
  pub some : 0 < length (without_leading_sign bs)
  pub digits : AreDigits (without_leading_sign bs)
  pub unsigned : without_leading_sign bs ≡ without_minus bs

-- ---- what a numeral is

count_parts : (bs : List ℕ) → is_count bs ≡ true → (0 < length bs) × AreDigits bs × (nat_eq (get_or bs 0 0) 48 ≡ false)
count_parts [] h = cc
count_parts (b ∷ bs) h =
    let p = and_parts (not (nat_eq b 48)) (list_all is_ascii_digit (b ∷ bs)) h in
    (omega arith, p.1, not-true (nat_eq b 48) p.0)

is_zero : (bs : List ℕ) → bytes_eq bs (codes "0") ≡ true → bs ≡ 48 ∷ []
is_zero bs h = (bytes_eq-Decides bs (48 ∷ [])).0 h

not_sign : (b : ℕ) (bs : List ℕ) → AreDigits (b ∷ bs) → (nat_eq b 43 ≡ false) × (nat_eq b 45 ≡ false)
not_sign b bs h = let p = (and_parts (is_ascii_digit b) (list_all is_ascii_digit bs) h).0 in (grind (arith, nat_tests, p), grind (arith, nat_tests, p))

unsigned : (b : ℕ) (bs : List ℕ) → AreDigits (b ∷ bs) → IsSpelled (b ∷ bs)
unsigned b bs h =
    let p = not_sign b bs h in
    record { some = rw (p.1, p.0) (omega arith); digits = rw (p.1, p.0) h; unsigned = rw (p.1, p.0) refl }

spelled_by : (b : ℕ) (bs : List ℕ) (t : Bool) → nat_eq b 45 ≡ t → (bytes_eq (b ∷ bs) (codes "0") || is_count (cond t bs (b ∷ bs))) ≡ true → IsSpelled (b ∷ bs)
spelled_by b bs true e h =
    ⊎_elim (λ (z : bytes_eq (b ∷ bs) (codes "0") ≡ true). unsigned b bs (subst AreDigits (sym (is_zero (b ∷ bs) z)) refl))
    (λ (k : is_count bs ≡ true). let p = count_parts bs k in record { some = rw e p.0; digits = rw e p.1; unsigned = rw e refl })
    (or_cases (bytes_eq (b ∷ bs) (codes "0")) (is_count bs) h)
spelled_by b bs false e h =
    ⊎_elim (λ (z : bytes_eq (b ∷ bs) (codes "0") ≡ true). unsigned b bs (subst AreDigits (sym (is_zero (b ∷ bs) z)) refl))
    (λ (k : is_count (b ∷ bs) ≡ true). unsigned b bs (count_parts (b ∷ bs) k).1)
    (or_cases (bytes_eq (b ∷ bs) (codes "0")) (is_count (b ∷ bs)) h)

pub spelled : (bs : List ℕ) → is_numeral bs ≡ true → IsSpelled bs
spelled [] h = cc
spelled (b ∷ bs) h = spelled_by b bs (nat_eq b 45) refl h

-- ---- reading it

ascii_digits : (ds : List ℕ) → AreDigits ds → IsAscii ds
ascii_digits ds h = IsAscii-from_digits ds (own.to ds h)

ascii_by : (b : ℕ) (bs : List ℕ) (t : Bool) → nat_eq b 45 ≡ t → AreDigits (cond t bs (b ∷ bs)) → IsAscii (b ∷ bs)
ascii_by b bs true e h zero = grind (arith, nat_tests, e)
ascii_by b bs true e h (suc i) = ascii_digits bs h i
ascii_by b bs false e h i = ascii_digits (b ∷ bs) h i

pub utf8 : (bs : List ℕ) → is_numeral bs ≡ true → IsUtf8 bs
utf8 [] h = cc
utf8 (b ∷ bs) h = let p = spelled (b ∷ bs) h in IsUtf8-from_ascii (b ∷ bs) (ascii_by b bs (nat_eq b 45) refl (subst AreDigits p.unsigned p.digits))

fits : (z : ℤ) → is_i64 z ≡ true → FitsSigned w64 z
fits (pos n) h = record { sfits = ltb-true n (2 ^ 63) h }
fits (negsuc n) h = record { sfits = ltb-true n (2 ^ 63) h }

pub fits_back : (z : ℤ) → FitsSigned w64 z → is_i64 z ≡ true
fits_back (pos n) h = lt-ltb n (2 ^ 63) h.sfits
fits_back (negsuc n) h = lt-ltb n (2 ^ 63) h.sfits

read_by : {E : Type 0} (bs : List ℕ) (r : Result ℤ E) (t : Bool) → is_numeral bs ≡ true → ParsesSigned w64 10 bs r → is_i64 (signed_digits_value 10 bs) ≡ t → result_ok r ≡ cond t (Some (signed_digits_value 10 bs)) None
read_by bs (Ok x) true h p e = ap Some p.1
read_by bs (Ok x) false h p e = absurd (true≢false (sym (fits_back (signed_digits_value 10 bs) p.0.1) ∙ e))
read_by bs (Err x) true h p e = let s = spelled bs h in absurd (p ((s.some, own.to _ s.digits), fits (signed_digits_value 10 bs) e))
read_by bs (Err x) false h p e = refl

pub read : {E : Type 0} (bs : List ℕ) (r : Result ℤ E) → is_numeral bs ≡ true → ParsesSigned w64 10 bs r → result_ok r ≡ number_of bs
read bs r h p = rw h (read_by bs r (is_i64 (signed_digits_value 10 bs)) h p refl)

-- ---- spelling it

decimal_zero : decimal 0 ≡ 48 ∷ []
decimal_zero = decimal_digit 0 (lit< tt)

-- the number of digits of which the first is not 0
count_spelled : (ds : List ℕ) → is_count ds ≡ true → digits_value 10 ds < 2 ^ 64 → decimal (digits_value 10 ds) ≡ ds
count_spelled ds h small =
    let p = count_parts ds h in
    decimal-digits_value own ds p.1 p.0 (λ e. absurd (true≢false (sym (eq-eqb _ _ e) ∙ p.2))) small

first_is : (ds : List ℕ) → ds ≡ 48 ∷ [] → is_count ds ≡ false
first_is ds e = rw e refl

-- and it is not 0
count_positive : (ds : List ℕ) (n : ℕ) → is_count ds ≡ true → digits_value 10 ds ≡ n → n < 2 ^ 64 → (m : ℕ) × (n ≡ suc m)
count_positive ds zero h e small =
    absurd (true≢false (sym h ∙ first_is ds (sym (count_spelled ds h (omega (arith, e, small))) ∙ ap decimal e ∙ decimal_zero)))
count_positive ds (suc m) h e small = (m, refl)

-- the digits of a number that is not 0
count_of : (n : ℕ) → 0 < n → n < 2 ^ 64 → is_count (decimal n) ≡ true
count_of n some small = by (decimal n) (digits_decimal own n small) (first_decimal n some small)
  where
    by : (ds : List ℕ) → AreDigits ds → 48 < get_or ds 0 0 → is_count ds ≡ true
    by [] h k = absurd (omega (arith, k))
    by (d ∷ ds) h k = and_from _ _ (grind (arith, nat_tests, k)) h

-- ---- what is read is spelled so, and what is spelled so is read

and_cond : {A : Type 0} (b c : Bool) (x y : A) → cond (b && c) (Some x) None ≡ Some y → (b ≡ true) × (c ≡ true) × (x ≡ y)
and_cond true true x y h = (refl, refl, same_Some x y h)
and_cond true false x y h = cc
and_cond false c x y h = cc

-- digits without a sign
abbrev value : List ℕ → ℕ
value ds = digits_value 10 ds

plain_value : (b : ℕ) (bs : List ℕ) → AreDigits (b ∷ bs) → signed_digits_value 10 (b ∷ bs) ≡ pos (value (b ∷ bs))
plain_value b bs h = let p = not_sign b bs h in rw (p.1, p.0) refl

reads_zero : (bs : List ℕ) (z : ℤ) → bs ≡ 48 ∷ [] → signed_digits_value 10 bs ≡ z → bs ≡ spelled_number z
reads_zero bs z e v = e ∙ sym decimal_zero ∙ ap spelled_number (ap (signed_digits_value 10) (sym e) ∙ v)

reads_count : (b : ℕ) (bs : List ℕ) (z : ℤ) → is_count (b ∷ bs) ≡ true → is_i64 z ≡ true → signed_digits_value 10 (b ∷ bs) ≡ z → b ∷ bs ≡ spelled_number z
reads_count b bs z h fit v =
    let is : pos (value (b ∷ bs)) ≡ z = sym (plain_value b bs (count_parts (b ∷ bs) h).1) ∙ v in
    let small : value (b ∷ bs) < 2 ^ 63 = ltb-true (value (b ∷ bs)) (2 ^ 63) (subst (λ (y : ℤ). is_i64 y ≡ true) (sym is) fit) in
    sym (count_spelled (b ∷ bs) h (omega (arith, small))) ∙ ap spelled_number is

reads_minus : (bs : List ℕ) (z : ℤ) → is_count bs ≡ true → is_i64 z ≡ true → neg_ℤ (pos (value bs)) ≡ z → 45 ∷ bs ≡ spelled_number z
reads_minus bs z h fit v = by (value bs) refl
  where
    by : (n : ℕ) → value bs ≡ n → 45 ∷ bs ≡ spelled_number z
    by zero e = let p = count_positive bs zero h e (lit< tt) in absurd (omega (arith, p.1))
    by (suc n) e =
        let is : negsuc n ≡ z = sym (ap (λ (k : ℕ). neg_ℤ (pos k)) e) ∙ v in
        let small : n < 2 ^ 63 = ltb-true n (2 ^ 63) (subst (λ (y : ℤ). is_i64 y ≡ true) (sym is) fit) in
        ap (λ (ds : List ℕ). 45 ∷ ds) (sym (count_spelled bs h (omega (arith, e, small))) ∙ ap decimal e) ∙ ap spelled_number is

reads_by : (b : ℕ) (bs : List ℕ) (z : ℤ) (t : Bool) → nat_eq b 45 ≡ t → (bytes_eq (b ∷ bs) (codes "0") || is_count (cond t bs (b ∷ bs))) ≡ true → is_i64 z ≡ true → signed_digits_value 10 (b ∷ bs) ≡ z → b ∷ bs ≡ spelled_number z
reads_by b bs z t e h fit v =
    ⊎_elim (λ (k : bytes_eq (b ∷ bs) (codes "0") ≡ true). reads_zero (b ∷ bs) z (is_zero (b ∷ bs) k) v)
    (λ (k : is_count (cond t bs (b ∷ bs)) ≡ true). by t e k)
    (or_cases (bytes_eq (b ∷ bs) (codes "0")) (is_count (cond t bs (b ∷ bs))) h)
  where
    by : (t : Bool) → nat_eq b 45 ≡ t → is_count (cond t bs (b ∷ bs)) ≡ true → b ∷ bs ≡ spelled_number z
    by true f k = let same : b ≡ 45 = eqb-true b 45 f in rw same (reads_minus bs z k fit (subst (λ (c : ℕ). signed_digits_value 10 (c ∷ bs) ≡ z) same v))
    by false f k = reads_count b bs z k fit v

pub number_reads : (bs : List ℕ) (z : ℤ) → number_of bs ≡ Some z → (is_i64 z ≡ true) × (bs ≡ spelled_number z)
number_reads [] z h = cc
number_reads (b ∷ bs) z h =
    let p = and_cond (is_numeral (b ∷ bs)) (is_i64 (signed_digits_value 10 (b ∷ bs))) (signed_digits_value 10 (b ∷ bs)) z h in
    let fit : is_i64 z ≡ true = subst (λ (y : ℤ). is_i64 y ≡ true) p.2 p.1 in
    (fit, reads_by b bs z (nat_eq b 45) refl p.0 fit p.2)

number_from : (bs : List ℕ) (z : ℤ) → is_numeral bs ≡ true → signed_digits_value 10 bs ≡ z → is_i64 z ≡ true → number_of bs ≡ Some z
number_from bs z h v fit = rw (h, v) (rw fit refl)

plain_again : (ds : List ℕ) (n : ℕ) → is_count ds ≡ true → value ds ≡ n → n < 2 ^ 63 → number_of ds ≡ Some (pos n)
plain_again [] n h v small = cc
plain_again (d ∷ ds) n h v small =
    let p = count_parts (d ∷ ds) h in
    let unsigned : nat_eq d 45 ≡ false = (not_sign d ds p.1).1 in
    number_from (d ∷ ds) (pos n) (or_right (bytes_eq (d ∷ ds) (codes "0")) _ (rw unsigned h)) (plain_value d ds p.1 ∙ ap pos v) (lt-ltb n (2 ^ 63) small)

again_by : (n : ℕ) → n < 2 ^ 63 → number_of (decimal n) ≡ Some (pos n)
again_by zero small = ap number_of decimal_zero
again_by (suc n) small = plain_again (decimal (suc n)) (suc n) (count_of (suc n) (omega arith) (omega (arith, small))) (digits_value-decimal own (suc n) (omega (arith, small))) small

pub number_again : (z : ℤ) → is_i64 z ≡ true → number_of (spelled_number z) ≡ Some z
number_again (pos n) h = again_by n (ltb-true n (2 ^ 63) h)
number_again (negsuc n) h =
    let small : n < 2 ^ 63 = ltb-true n (2 ^ 63) h in
    number_from (45 ∷ decimal (suc n)) (negsuc n)
    (or_right (bytes_eq (45 ∷ decimal (suc n)) (codes "0")) _ (count_of (suc n) (omega arith) (omega (arith, small))))
    (ap (λ (k : ℕ). neg_ℤ (pos k)) (digits_value-decimal own (suc n) (omega (arith, small))))
    h

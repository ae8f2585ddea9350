-- How texts compare, told by the words with which their fields begin.
use Rattle.std.proofs.Common.{◌≡◌, ℕ, zero, suc, ◌+◌, ◌*◌, ◌-◌, ◌<◌, ◌≤◌, List, [], ◌∷◌, ◌++◌, length, take, drop, get_or, replicate, Ordering, Less, Equal, Greater, refl, sym, ap, subst, ◌∙◌, arith, take-append-drop, length-take-le}
use Rattle.std.specs.List.{AllByRecursion}
use Rattle.std.specs.Ordering.{nat_cmp, ordering_then}
use Rattle.std.specs.Cmp.Lexicographic.{slice_cmp}
use Rattle.std.specs.Int.{from_be_bytes, w32, w64}
use Rattle.std.proofs.Math.Nat.{mul-le-mul_right, suc-mul}
use Rattle.std.proofs.lemmas.Bool.Decides.{nat_tests}
use Rattle.std.proofs.lemmas.List.{length-take, take-take}

-- ---- numbers

less : (a b : ℕ) → a < b → nat_cmp a b ≡ Less
less a b h = grind (arith, nat_tests)

more : (a b : ℕ) → b < a → nat_cmp a b ≡ Greater
more a b h = grind (arith, nat_tests)

even : (a b : ℕ) → a ≡ b → nat_cmp a b ≡ Equal
even a b h = grind (arith, nat_tests)

was_less : (a b : ℕ) → nat_cmp a b ≡ Less → a < b
was_less a b h = grind (arith, nat_tests)

was_more : (a b : ℕ) → nat_cmp a b ≡ Greater → b < a
was_more a b h = grind (arith, nat_tests)

was_even : (a b : ℕ) → nat_cmp a b ≡ Equal → a ≡ b
was_even a b h = grind (arith, nat_tests)

-- where the one is added to what is equal
added : (c d r s : ℕ) → c ≡ d → nat_cmp (c + r) (d + s) ≡ nat_cmp r s
added c d r s same = by (nat_cmp r s) refl
  where
    by : (o : Ordering) → nat_cmp r s ≡ o → nat_cmp (c + r) (d + s) ≡ nat_cmp r s
    by Less e = let h = was_less r s e in less (c + r) (d + s) (omega (arith, h, same)) ∙ sym e
    by Equal e = let h = was_even r s e in even (c + r) (d + s) (omega (arith, h, same)) ∙ sym e
    by Greater e = let h = was_more r s e in more (c + r) (d + s) (omega (arith, h, same)) ∙ sym e

-- the greater digit decides, where what stands behind is less than one of it
digit : (x y w r s : ℕ) → r < w → s < w → nat_cmp (x * w + r) (y * w + s) ≡ ordering_then (nat_cmp x y) (nat_cmp r s)
digit x y w r s p q = by (nat_cmp x y) refl
  where
    by : (o : Ordering) → nat_cmp x y ≡ o → nat_cmp (x * w + r) (y * w + s) ≡ ordering_then o (nat_cmp r s)
    by Less e =
        let h : suc x ≤ y = omega (arith, was_less x y e) in
        less (x * w + r) (y * w + s) (omega (arith, mul-le-mul_right w h, suc-mul x w, p))
    by Equal e = added (x * w) (y * w) r s (ap (λ n. n * w) (was_even x y e))
    by Greater e =
        let h : suc y ≤ x = omega (arith, was_more x y e) in
        more (x * w + r) (y * w + s) (omega (arith, mul-le-mul_right w h, suc-mul y w, q))

-- ---- bytes as a number, the first of them worth most

abbrev weight : List ℕ → ℕ
weight [] = 1
weight (x ∷ xs) = 256 * weight xs

abbrev worth : List ℕ → ℕ
worth [] = 0
worth (x ∷ xs) = x * weight xs + worth xs

abbrev AreBytes : List ℕ → Type 0
AreBytes xs = AllByRecursion (λ x. x < 256) xs

bounded : (xs : List ℕ) → AreBytes xs → worth xs < weight xs
bounded [] all = omega arith
bounded (x ∷ xs) all =
    let h : suc x ≤ 256 = omega (arith, all.0) in
    omega (arith, bounded xs all.1, mul-le-mul_right (weight xs) h, suc-mul x (weight xs))

same_weight : (xs ys : List ℕ) → length xs ≡ length ys → weight xs ≡ weight ys
same_weight [] [] e = refl
same_weight [] (y ∷ ys) e = absurd (omega (arith, e))
same_weight (x ∷ xs) [] e = absurd (omega (arith, e))
same_weight (x ∷ xs) (y ∷ ys) e = ap (λ w. 256 * w) (same_weight xs ys (omega (arith, e)))

-- as many bytes compare as their numbers do
by_worth : (xs ys : List ℕ) → length xs ≡ length ys → AreBytes xs → AreBytes ys → nat_cmp (worth xs) (worth ys) ≡ slice_cmp nat_cmp xs ys
by_worth [] [] e all also = refl
by_worth [] (y ∷ ys) e all also = absurd (omega (arith, e))
by_worth (x ∷ xs) [] e all also = absurd (omega (arith, e))
by_worth (x ∷ xs) (y ∷ ys) e all also =
    let long : length xs ≡ length ys = omega (arith, e) in
    let w : weight ys ≡ weight xs = sym (same_weight xs ys long) in
    let small : worth ys < weight xs = subst (λ (n : ℕ). worth ys < n) w (bounded ys also.1) in
    ap (λ n. nat_cmp (x * weight xs + worth xs) (y * n + worth ys)) w
    ∙ digit x y (weight xs) (worth xs) (worth ys) (bounded xs all.1) small
    ∙ ap (ordering_then (nat_cmp x y)) (by_worth xs ys long all.1 also.1)

-- a word is what its bytes are worth
worth_of_word : (xs : List ℕ) → length xs ≡ 8 → from_be_bytes w64 xs ≡ worth xs
worth_of_word (a ∷ b ∷ c ∷ d ∷ e ∷ f ∷ g ∷ h ∷ []) l = omega arith
worth_of_word xs l = absurd (omega (arith, l))

-- so is half a word
worth_of_half : (xs : List ℕ) → length xs ≡ 4 → from_be_bytes w32 xs ≡ worth xs
worth_of_half (a ∷ b ∷ c ∷ d ∷ []) l = omega arith
worth_of_half xs l = absurd (omega (arith, l))

all_bytes : (xs : List ℕ) → ((i : ℕ) → get_or xs i 0 < 256) → AreBytes xs
all_bytes [] small = tt
all_bytes (x ∷ xs) small = (small 0, all_bytes xs (λ i. small (suc i)))

pub words_compare : (xs ys : List ℕ) → length xs ≡ 8 → length ys ≡ 8 → ((i : ℕ) → get_or xs i 0 < 256) → ((i : ℕ) → get_or ys i 0 < 256)
    → nat_cmp (from_be_bytes w64 xs) (from_be_bytes w64 ys) ≡ slice_cmp nat_cmp xs ys
words_compare xs ys l m all also =
    ap (λ n. nat_cmp n (from_be_bytes w64 ys)) (worth_of_word xs l)
    ∙ ap (nat_cmp (worth xs)) (worth_of_word ys m)
    ∙ by_worth xs ys (l ∙ sym m) (all_bytes xs all) (all_bytes ys also)

pub halves_compare : (xs ys : List ℕ) → length xs ≡ 4 → length ys ≡ 4 → ((i : ℕ) → get_or xs i 0 < 256) → ((i : ℕ) → get_or ys i 0 < 256)
    → nat_cmp (from_be_bytes w32 xs) (from_be_bytes w32 ys) ≡ slice_cmp nat_cmp xs ys
halves_compare xs ys l m all also =
    ap (λ n. nat_cmp n (from_be_bytes w32 ys)) (worth_of_half xs l)
    ∙ ap (nat_cmp (worth xs)) (worth_of_half ys m)
    ∙ by_worth xs ys (l ∙ sym m) (all_bytes xs all) (all_bytes ys also)

-- ---- texts, with zeros behind them

through : (c r q o : Ordering) → (r ≡ o → q ≡ o) → ordering_then c r ≡ o → ordering_then c q ≡ o
through Less r q o f h = h
through Equal r q o f h = f h
through Greater r q o f h = h

-- where the first bytes of two fields differ, they decide
decided : (n : ℕ) (s t : List ℕ) (a b : ℕ) → length s + a ≡ length t + b → (o : Ordering) → (Equal ≡ o → ⊥)
    → slice_cmp nat_cmp (take n (s ++ replicate a 0)) (take n (t ++ replicate b 0)) ≡ o → slice_cmp nat_cmp s t ≡ o
decided zero s t a b e o differ h = absurd (differ h)
decided (suc n) [] [] zero zero e o differ h = h
decided (suc n) [] [] zero (suc b) e o differ h = absurd (omega (arith, e))
decided (suc n) [] [] (suc a) zero e o differ h = absurd (omega (arith, e))
decided (suc n) [] [] (suc a) (suc b) e o differ h = decided n [] [] a b (omega (arith, e)) o differ h
decided (suc n) [] (y ∷ t) zero b e o differ h = absurd (omega (arith, e))
decided (suc n) [] (y ∷ t) (suc a) b e o differ h = by (nat_cmp 0 y) refl (λ g. decided n [] t a b (omega (arith, e)) o differ g) h
  where
    rest : (t : List ℕ) → slice_cmp nat_cmp [] t ≡ o → Less ≡ o
    rest [] g = absurd (differ g)
    rest (z ∷ t) g = g

    by : (c : Ordering) → nat_cmp 0 y ≡ c
        → (slice_cmp nat_cmp (take n (replicate a 0)) (take n (t ++ replicate b 0)) ≡ o → slice_cmp nat_cmp [] t ≡ o)
        → ordering_then c (slice_cmp nat_cmp (take n (replicate a 0)) (take n (t ++ replicate b 0))) ≡ o → Less ≡ o
    by Less is f g = g
    by Equal is f g = rest t (f g)
    by Greater is f g = absurd (omega (arith, was_more 0 y is))
decided (suc n) (x ∷ s) [] a zero e o differ h = absurd (omega (arith, e))
decided (suc n) (x ∷ s) [] a (suc b) e o differ h = by (nat_cmp x 0) refl (λ g. decided n s [] a b (omega (arith, e)) o differ g) h
  where
    rest : (s : List ℕ) → slice_cmp nat_cmp s [] ≡ o → Greater ≡ o
    rest [] g = absurd (differ g)
    rest (z ∷ s) g = g

    by : (c : Ordering) → nat_cmp x 0 ≡ c
        → (slice_cmp nat_cmp (take n (s ++ replicate a 0)) (take n (replicate b 0)) ≡ o → slice_cmp nat_cmp s [] ≡ o)
        → ordering_then c (slice_cmp nat_cmp (take n (s ++ replicate a 0)) (take n (replicate b 0))) ≡ o → Greater ≡ o
    by Less is f g = absurd (omega (arith, was_less x 0 is))
    by Equal is f g = rest s (f g)
    by Greater is f g = g
decided (suc n) (x ∷ s) (y ∷ t) a b e o differ h =
    through (nat_cmp x y) (slice_cmp nat_cmp (take n (s ++ replicate a 0)) (take n (t ++ replicate b 0))) (slice_cmp nat_cmp s t) o
    (λ g. decided n s t a b (omega (arith, e)) o differ g) h

-- where they are the same, so are the bytes
same_bytes : (xs ys : List ℕ) → slice_cmp nat_cmp xs ys ≡ Equal → xs ≡ ys
same_bytes [] [] e = refl
same_bytes [] (y ∷ ys) e = cc
same_bytes (x ∷ xs) [] e = cc
same_bytes (x ∷ xs) (y ∷ ys) e = by (nat_cmp x y) refl (λ g. same_bytes xs ys g) e
  where
    by : (c : Ordering) → nat_cmp x y ≡ c → (slice_cmp nat_cmp xs ys ≡ Equal → xs ≡ ys) → ordering_then c (slice_cmp nat_cmp xs ys) ≡ Equal → x ∷ xs ≡ y ∷ ys
    by Less is f g = cc
    by Equal is f g = let head : x ≡ y = was_even x y is in let tail : xs ≡ ys = f g in cc
    by Greater is f g = cc

-- fronts of one list compare as their lengths do
by_length : (w : List ℕ) (k m : ℕ) → k ≤ length w → m ≤ length w → slice_cmp nat_cmp (take k w) (take m w) ≡ nat_cmp k m
by_length w zero zero p q = refl
by_length [] zero (suc m) p q = absurd (omega (arith, q))
by_length [] (suc k) m p q = absurd (omega (arith, p))
by_length (x ∷ w) zero (suc m) p q = sym (less 0 (suc m) (omega arith))
by_length (x ∷ w) (suc k) zero p q = sym (more (suc k) 0 (omega arith))
by_length (x ∷ w) (suc k) (suc m) p q =
    let one : 1 + k ≡ suc k = omega arith in
    let other : 1 + m ≡ suc m = omega arith in
    ap (λ c. ordering_then c (slice_cmp nat_cmp (take k w) (take m w))) (even x x refl)
    ∙ by_length w k m (omega (arith, p)) (omega (arith, q))
    ∙ sym (added 1 1 k m refl)
    ∙ ap (λ n. nat_cmp n (1 + m)) one ∙ ap (nat_cmp (suc k)) other

-- two fields of n bytes, of which the first k and m are held
module _ (n k m : ℕ) (xs ys us vs : List ℕ) (within : k ≤ n) (within2 : m ≤ n) (long : length xs ≡ n) (long2 : length ys ≡ n)
    (blank : drop k xs ≡ replicate (n - k) 0) (blank2 : drop m ys ≡ replicate (n - m) 0)
    (view : take k xs ≡ us) (view2 : take m ys ≡ vs) where
  whole : xs ≡ us ++ replicate (n - k) 0
  whole = sym (take-append-drop k xs) ∙ ap (λ ws. ws ++ drop k xs) view ∙ ap (λ ws. us ++ ws) blank

  whole2 : ys ≡ vs ++ replicate (n - m) 0
  whole2 = sym (take-append-drop m ys) ∙ ap (λ ws. ws ++ drop m ys) view2 ∙ ap (λ ws. vs ++ ws) blank2

  count : length us ≡ k
  count = ap length (sym view) ∙ length-take-le k xs (omega (arith, within, long))

  count2 : length vs ≡ m
  count2 = ap length (sym view2) ∙ length-take-le m ys (omega (arith, within2, long2))

  -- the words tell, where they differ
  pub words_tell : (o : Ordering) → slice_cmp nat_cmp (take 8 xs) (take 8 ys) ≡ o → (Equal ≡ o → ⊥) → slice_cmp nat_cmp us vs ≡ o
  words_tell o is differ =
      decided 8 us vs (n - k) (n - m) (omega (arith, count, count2, within, within2)) o differ
      (sym (ap (λ ws. slice_cmp nat_cmp (take 8 ws) (take 8 ys)) whole ∙ ap (λ ws. slice_cmp nat_cmp (take 8 (us ++ replicate (n - k) 0)) (take 8 ws)) whole2) ∙ is)

  -- and where they are the same, and the texts differ longer, the lengths do
  pub lengths_tell : slice_cmp nat_cmp (take 8 xs) (take 8 ys) ≡ Equal → k ≤ 8 → m ≤ 8 → slice_cmp nat_cmp us vs ≡ nat_cmp k m
  lengths_tell is few few2 =
      let same : take 8 xs ≡ take 8 ys = same_bytes (take 8 xs) (take 8 ys) is in
      let ours : us ≡ take k (take 8 ys) = sym view ∙ sym (take-take k 8 xs few) ∙ ap (take k) same in
      let theirs : vs ≡ take m (take 8 ys) = sym view2 ∙ sym (take-take m 8 ys few2) in
      ap (λ ws. slice_cmp nat_cmp ws vs) ours ∙ ap (λ ws. slice_cmp nat_cmp (take k (take 8 ys)) ws) theirs
      ∙ by_length (take 8 ys) k m (omega (arith, length-take 8 ys, long2, within, few)) (omega (arith, length-take 8 ys, long2, within2, few2))

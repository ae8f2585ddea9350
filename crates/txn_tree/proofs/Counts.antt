-- How many items of a list pass a test, where the test or the list changes.
use Rattle.std.proofs.Common.{◌≡◌, ℕ, zero, suc, ◌+◌, Bool, true, false, not, ◌&&◌, cond, count_by, List, [], ◌∷◌, ◌++◌, Some, is_some, unwrap_or, refl, sym, ap, ◌∙◌, true≢false, arith}
use Rattle.std.specs.Prelude.{slice_get}
use Rattle.std.proofs.lemmas.List.Sums.{sum_by-cons, sum_by_push}
use Rattle.txn_names.specs.Path.{Path, path_eq}
use Rattle.txn_names.proofs.Exports.{same_path, path_eq_self}

count-cons : {X : Type 0} (p : X → Bool) (x : X) (xs : List X) → count_by p (x ∷ xs) ≡ cond (p x) 1 0 + count_by p xs
count-cons p x xs = sum_by-cons (λ y. cond (p y) 1 0) x xs

pub count_push : {X : Type 0} (p : X → Bool) (xs : List X) (x : X) → count_by p (xs ++ x ∷ []) ≡ count_by p xs + cond (p x) 1 0
count_push p xs x = sum_by_push (λ y. cond (p y) 1 0) xs x

-- tests that agree on the items count alike
pub count_same : {X : Type 0} (p q : X → Bool) (xs : List X) → ((n : ℕ) (x : X) → slice_get xs n ≡ Some x → p x ≡ q x) → count_by p xs ≡ count_by q xs
count_same p q [] f = refl
count_same p q (x ∷ xs) f =
    count-cons p x xs ∙ ap (λ b. cond b 1 0 + count_by p xs) (f 0 x refl)
    ∙ ap (λ n. cond (q x) 1 0 + n) (count_same p q xs (λ n. f (suc n))) ∙ sym (count-cons q x xs)

pub count_none : {X : Type 0} (p : X → Bool) (xs : List X) → ((n : ℕ) (x : X) → slice_get xs n ≡ Some x → p x ≡ false) → count_by p xs ≡ 0
count_none p [] f = refl
count_none p (x ∷ xs) f =
    let head : count_by p (x ∷ xs) ≡ 0 + count_by p xs = count-cons p x xs ∙ ap (λ b. cond b 1 0 + count_by p xs) (f 0 x refl) in
    let rest = count_none p xs (λ n. f (suc n)) in
    omega (arith, head, rest)

-- one that passes is counted
pub count_has : {X : Type 0} (p : X → Bool) (xs : List X) (n : ℕ) (x : X) → slice_get xs n ≡ Some x → p x ≡ true → count_by p xs ≡ 0 → ⊥
count_has p [] n x at e none = true≢false (sym (ap is_some at))
count_has p (y ∷ xs) zero x at e none =
    let same : y ≡ x = ap (λ o. unwrap_or o x) at in
    let one : count_by p (y ∷ xs) ≡ 1 + count_by p xs = count-cons p y xs ∙ ap (λ b. cond b 1 0 + count_by p xs) (ap p same ∙ e) in
    omega (arith, one, none)
count_has p (y ∷ xs) (suc n) x at e none = let all = count-cons p y xs in count_has p xs n x at e (omega (arith, all, none))

-- those that pass are those that fail another test and those that pass it too
pub count_split : {X : Type 0} (p q : X → Bool) (xs : List X) → count_by p xs ≡ count_by (λ x. p x && not (q x)) xs + count_by (λ x. p x && q x) xs
count_split p q [] = refl
count_split p q (x ∷ xs) =
    let less = count-cons (λ y. p y && not (q y)) x xs in
    let both = count-cons (λ y. p y && q y) x xs in
    count-cons p x xs ∙ by _ _ _ (p x) (q x) (count_split p q xs) ∙ sym (ap (λ n. n + count_by (λ y. p y && q y) (x ∷ xs)) less ∙ ap (λ n. (cond (p x && not (q x)) 1 0 + count_by (λ y. p y && not (q y)) xs) + n) both)
  where
    by : (a b c : ℕ) (f g : Bool) → a ≡ b + c → cond f 1 0 + a ≡ (cond (f && not g) 1 0 + b) + (cond (f && g) 1 0 + c)
    by a b c true true e = omega (arith, e)
    by a b c true false e = omega (arith, e)
    by a b c false g e = omega (arith, e)

-- one that stands at one place alone is counted once, if it passes
pub count_one : (p : Path → Bool) (ns : List Path) (t : Path) (n : ℕ) → slice_get ns n ≡ Some t → ((m : ℕ) → slice_get ns m ≡ Some t → m ≡ n)
    → count_by (λ u. p u && path_eq t u) ns ≡ cond (p t) 1 0
count_one p [] t n at only = absurd (true≢false (sym (ap is_some at)))
count_one p (u ∷ ns) t zero at only =
    let same : u ≡ t = ap (λ o. unwrap_or o u) at in
    count-cons (λ v. p v && path_eq t v) u ns
    ∙ ap (λ k. cond (p u && path_eq t u) 1 0 + k) (count_none (λ v. p v && path_eq t v) ns others)
    ∙ ap (λ v. cond (p v && path_eq t v) 1 0 + 0) same
    ∙ ap (λ b. cond (p t && b) 1 0 + 0) (path_eq_self t) ∙ by (p t)
  where
    off : (a b : Bool) → (b ≡ true → ⊥) → (a && b) ≡ false
    off true true f = absurd (f refl)
    off true false f = refl
    off false b f = refl

    others : (m : ℕ) (v : Path) → slice_get ns m ≡ Some v → (p v && path_eq t v) ≡ false
    others m v found = off (p v) (path_eq t v) (λ e. absurd (by_place (only (suc m) (found ∙ ap Some (sym (same_path t v e))))))
      where
        by_place : suc m ≡ zero → ⊥
        by_place q = omega (arith, q)

    by : (b : Bool) → cond (b && true) 1 0 + 0 ≡ cond b 1 0
    by true = refl
    by false = refl
count_one p (u ∷ ns) t (suc n) at only =
    let head : count_by (λ v. p v && path_eq t v) (u ∷ ns) ≡ 0 + count_by (λ v. p v && path_eq t v) ns =
    count-cons (λ v. p v && path_eq t v) u ns
    ∙ ap (λ b. cond b 1 0 + count_by (λ v. p v && path_eq t v) ns) (off (p u) (path_eq t u) (λ e. by_place (only zero (ap Some (sym (same_path t u e)))))) in
    let rest = count_one p ns t n at (λ m found. let q = only (suc m) found in omega (arith, q)) in
    omega (arith, head, rest)
  where
    off : (a b : Bool) → (b ≡ true → ⊥) → (a && b) ≡ false
    off true true f = absurd (f refl)
    off true false f = refl
    off false b f = refl

    by_place : zero ≡ suc n → ⊥
    by_place q = omega (arith, q)

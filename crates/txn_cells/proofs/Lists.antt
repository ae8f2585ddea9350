-- The lists of keys by number: one more at the end, and one changed.
use Rattle.std.proofs.Common.{◌≡◌, ◌+◌, ◌<◌, ◌≤◌, ℕ, zero, suc, cond, nat_eq, true, List, [], ◌∷◌, ◌++◌, length, set, slice_get, Option, Some, is_some, unwrap_or, refl, sym, ap, subst, ◌∙◌, arith}
use Rattle.std.specs.List.{list_any}
use Rattle.std.specs.Map.{keys_of}
use Rattle.std.proofs.lemmas.Bool.{eq-eqb, false≢true, ne_eqb, or_left, or_right}
use Rattle.txn_names.specs.Path.{label_eq}
use Rattle.txn_names.proofs.Exports.{label_eq_self}
use Rattle.txn_cells.specs.Kept.{Listed, Lists, busy_in, listed_at, one_busy}
use Rattle.txn_cells.proofs.Puts.{on_number}

pub keys_grown : (lists : Lists) (u : ℕ) → listed_at (lists ++ [] ∷ []) u ≡ listed_at lists u
keys_grown [] zero = refl
keys_grown [] (suc u) = refl
keys_grown (keys ∷ lists) zero = refl
keys_grown (keys ∷ lists) (suc u) = keys_grown lists u

pub busy_grown : (lists : Lists) → busy_in (lists ++ [] ∷ []) ≡ busy_in lists
busy_grown [] = refl
busy_grown (keys ∷ lists) = ap (λ (n : ℕ). one_busy keys + n) (busy_grown lists)

pub keys_past : (lists : Lists) (u : ℕ) → length lists ≤ u → listed_at lists u ≡ []
keys_past [] u past = refl
keys_past (keys ∷ lists) zero past = absurd (omega (arith, past))
keys_past (keys ∷ lists) (suc u) past = keys_past lists u (omega (arith, past))

-- ---- one changed

both_more : (a b : ℕ) → nat_eq a b ≡ nat_eq (suc a) (suc b)
both_more a b =
    on_number a b (λ x. x ≡ nat_eq (suc a) (suc b))
    (λ e. sym (eq-eqb (suc a) (suc b) (ap suc e)))
    (λ e. sym (ne_eqb (suc a) (suc b) (λ same. false≢true (sym e ∙ eq-eqb a b (omega (arith, same))))))

pub keys-set : (lists : Lists) (i : ℕ) (keys : Listed) → i < length lists → (u : ℕ) → listed_at (set lists i keys) u ≡ cond (nat_eq i u) keys (listed_at lists u)
keys-set [] i keys within u = absurd (omega (arith, within))
keys-set (x ∷ lists) zero keys within zero = refl
keys-set (x ∷ lists) zero keys within (suc u) = ap (λ b. cond b keys (listed_at lists u)) (sym (ne_eqb zero (suc u) (λ e. omega (arith, e))))
keys-set (x ∷ lists) (suc i) keys within zero = ap (λ b. cond b keys x) (sym (ne_eqb (suc i) zero (λ e. omega (arith, e))))
keys-set (x ∷ lists) (suc i) keys within (suc u) = keys-set lists i keys (omega (arith, within)) u ∙ ap (λ b. cond b keys (listed_at lists u)) (both_more i u)

pub busy-set : (lists : Lists) (i : ℕ) (keys : Listed) → i < length lists → busy_in (set lists i keys) + one_busy (listed_at lists i) ≡ busy_in lists + one_busy keys
busy-set [] i keys within = absurd (omega (arith, within))
busy-set (x ∷ lists) zero keys within = omega arith
busy-set (x ∷ lists) (suc i) keys within = let rest = busy-set lists i keys (omega (arith, within)) in omega (arith, rest)

-- ---- how many are busy

one_at_most : (keys : Listed) → one_busy keys ≤ 1
one_at_most [] = omega arith
one_at_most (k ∷ ks) = omega arith

pub busy_at_most : (lists : Lists) → busy_in lists ≤ length lists
busy_at_most [] = omega arith
busy_at_most (keys ∷ lists) = let rest = busy_at_most lists in let one = one_at_most keys in omega (arith, rest, one)

pub none_busy_in : (listed : Listed) → length listed ≡ 0 → one_busy listed ≡ 0
none_busy_in [] e = refl
none_busy_in (x ∷ xs) e = absurd (omega (arith, e))

pub one_busy_in : (listed : Listed) → 0 < length listed → one_busy listed ≡ 1
one_busy_in [] some = absurd (omega (arith, some))
one_busy_in (x ∷ xs) some = refl

pub busy_with_one : (keys : Listed) (k : List ℕ × ℕ) → one_busy (keys ++ k ∷ []) ≡ 1
busy_with_one [] k = refl
busy_with_one (x ∷ keys) k = refl

-- the list at a place has one key more
pub keys-push : (lists : Lists) (i : ℕ) (now : Listed) (k : List ℕ × ℕ) → i < length lists → now ≡ listed_at lists i ++ k ∷ []
    → (u : ℕ) → listed_at (set lists i now) u ≡ cond (nat_eq i u) (listed_at lists u ++ k ∷ []) (listed_at lists u)
keys-push lists i now k within is u =
    keys-set lists i now within u
    ∙ on_number i u (λ b. cond b now (listed_at lists u) ≡ cond b (listed_at lists u ++ k ∷ []) (listed_at lists u))
    (λ e. subst (λ (v : ℕ). now ≡ listed_at lists v ++ k ∷ []) e is)
    (λ _. refl)

-- where there are no keys there are none to take
pub none_to_take : (lists : Lists) (t u : ℕ) → listed_at lists t ≡ [] → listed_at lists u ≡ cond (nat_eq t u) [] (listed_at lists u)
none_to_take lists t u none =
    on_number t u (λ b. listed_at lists u ≡ cond b [] (listed_at lists u))
    (λ e. subst (λ (v : ℕ). listed_at lists v ≡ []) e none)
    (λ _. refl)

-- the key that is listed at a place is among those that are
pub any_listed : (k : List ℕ) (p i : ℕ) (listed : List (List ℕ × ℕ)) → slice_get listed i ≡ Some (k, p) → list_any (label_eq k) (keys_of listed) ≡ true
any_listed k p i [] at = absurd (false≢true (ap is_some at))
any_listed k p zero (e ∷ es) at = or_left (label_eq k e.0) (list_any (label_eq k) (keys_of es)) (subst (λ (q : List ℕ). label_eq k q ≡ true) (sym (ap (λ (o : Option (List ℕ × ℕ)). (unwrap_or o e).0) at)) (label_eq_self k))
any_listed k p (suc i) (e ∷ es) at = or_right (label_eq k e.0) (list_any (label_eq k) (keys_of es)) (any_listed k p i es at)

-- The sum over a group, key by key.
use Rattle.std.proofs.Common.{◌≡◌, ℕ, ℤ, zero, suc, pos, ◌+◌, ◌<◌, ◌+ℤ◌, ◌-ℤ◌, true, false, cond, Bool, List, [], ◌∷◌, length, take, Option, Some, None, is_some, unwrap_or, refl, ap, ◌∙◌, arith}
use Rattle.std.specs.Prelude.{slice_get}
use Rattle.std.specs.List.{AllByRecursion, IsDistinct}
use Rattle.std.specs.Map.{keys_of, lookup}
use Rattle.std.specs.Cmp.Lexicographic.{nat_list_eq_equiv}
use Rattle.std.proofs.lemmas.Bool.{false≢true}
use Rattle.std.proofs.lemmas.Int.{ints}
use Rattle.txn_names.specs.Path.{label_eq}
use Rattle.txn_names.specs.Groups.{has}
use Rattle.txn_names.specs.Text.{IsKey}
use Rattle.txn_names.proofs.Exports.{on_test}
use Rattle.serial_spec.specs.Operations.{amount}
use Rattle.serial_spec.specs.Rows.{value_in}
use Rattle.serial_spec.specs.Serial.{Map, put}
use Rattle.serial_spec.specs.Sums.{sum_in}
use Rattle.serial_spec.proofs.Exports.{sum_in-cong, sum_in-else, sum_in-put, sum_in-rows}
use Rattle.report_tables.specs.Valued.{Values, joined, value_at}

-- what a key with this value adds to the sum of the group
abbrev pub part_of : List ℕ → List ℕ → Option ℤ → ℤ
part_of g k v = cond (has g k) (amount v) (pos 0)

-- what all keys add
abbrev pub total : List ℕ → Values → ℤ
total g [] = pos 0
total g (e ∷ es) = total g es +ℤ part_of g e.0 e.1

-- ---- the total is the sum

nowhere : (es : Values) (k : List ℕ) → AllByRecursion (λ q. label_eq k q ≡ false) (keys_of es) → value_at es k ≡ None
nowhere [] k all = refl
nowhere (e ∷ es) k all = ap (λ b. joined (cond b (Some e.1) (lookup (label_eq k) es))) all.0 ∙ nowhere es k all.1

sum_nothing : (g : List ℕ) → sum_in (value_at []) g ≡ pos 0
sum_nothing g = sum_in-cong (value_at []) (value_in []) g (λ k _. refl) ∙ sum_in-rows [] g tt tt

-- a key in front of others
sum_first : (m : Map) (g k : List ℕ) (v : Option ℤ) → IsKey k → m k ≡ None → sum_in (put m k v) g ≡ sum_in m g +ℤ part_of g k v
sum_first m g k v key none =
    on_test (has g k) (λ b. has g k ≡ b → sum_in (put m k v) g ≡ sum_in m g +ℤ cond b (amount v) (pos 0))
    (λ there _.
    let all : sum_in (put m k v) g ≡ sum_in m g +ℤ (amount v -ℤ amount (m k)) = sum_in-put m g k v key there in
    let old : amount (m k) ≡ pos 0 = ap amount none in
    omega (arith, ints, all, old))
    (λ other _.
    let all : sum_in (put m k v) g ≡ sum_in m g = sum_in-else m g k v other in
    omega (arith, ints, all))
    refl

first_is_put : (e : List ℕ × Option ℤ) (es : Values) (k : List ℕ) → value_at (e ∷ es) k ≡ put (value_at es) e.0 e.1 k
first_is_put e es k = by (label_eq k e.0) ∙ ap (λ b. cond b e.1 (value_at es k)) (nat_list_eq_equiv.symm k e.0)
  where
    by : (b : Bool) → joined (cond b (Some e.1) (lookup (label_eq k) es)) ≡ cond b e.1 (value_at es k)
    by true = refl
    by false = refl

pub sum_is_total : (g : List ℕ) (es : Values) → IsDistinct label_eq (keys_of es) → AllByRecursion IsKey (keys_of es) → sum_in (value_at es) g ≡ total g es
unfolding IsDistinct
sum_is_total g [] distinct keys = sum_nothing g
sum_is_total g (e ∷ es) distinct keys =
    sum_in-cong (value_at (e ∷ es)) (put (value_at es) e.0 e.1) g (λ k _. first_is_put e es k)
    ∙ sum_first (value_at es) g e.0 e.1 keys.0 (nowhere es e.0 distinct.0)
    ∙ ap (λ s. s +ℤ part_of g e.0 e.1) (sum_is_total g es distinct.1 keys.1)

-- ---- one key more

same_entry : (x e : List ℕ × Option ℤ) → Some x ≡ Some e → x ≡ e
same_entry x e h = ap (λ o. unwrap_or o x) h

-- those in front, and the one at the place
pub total_more : (g : List ℕ) (es : Values) (n : ℕ) (k : List ℕ) (v : Option ℤ) → slice_get es n ≡ Some (k, v) → total g (take (n + 1) es) ≡ total g (take n es) +ℤ part_of g k v
total_more g [] n k v at = absurd (false≢true (ap is_some at))
total_more g (x ∷ es) zero k v at = ap (λ (e : List ℕ × Option ℤ). pos 0 +ℤ part_of g e.0 e.1) (same_entry x (k, v) at)
total_more g (x ∷ es) (suc n) k v at =
    let more : suc n + 1 ≡ suc (n + 1) = omega arith in
    let rest : total g (take (n + 1) es) ≡ total g (take n es) +ℤ part_of g k v = total_more g es n k v at in
    let front : total g (take (suc n + 1) (x ∷ es)) ≡ total g (take (n + 1) es) +ℤ part_of g x.0 x.1 = ap (λ m. total g (take m (x ∷ es))) more in
    omega (arith, ints, rest, front)

pub entry_within : (es : Values) (n : ℕ) → n < length es → (k : List ℕ) × (v : Option ℤ) × (slice_get es n ≡ Some (k, v))
entry_within [] n h = absurd (omega (arith, h))
entry_within (e ∷ es) zero h = (e.0, e.1, refl)
entry_within (e ∷ es) (suc n) h = entry_within es n (omega (arith, h))

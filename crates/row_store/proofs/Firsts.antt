-- What the first values of two rows tell of how the rows compare.
use Rattle.std.proofs.Common.{◌≡◌, ◌≢◌, ◌%◌, ◌*◌, ◌+◌, ◌/◌, ℕ, not, [], ◌∷◌, length, refl, sym, ap, ◌∙◌, arith, Ordering, Less, Equal, Greater, is_lt, is_gt}
use Rattle.std.specs.Ordering.{ordering_then}
use Rattle.sqlite_value.specs.declared.value.Value.{Value}
use Rattle.sqlite_value.specs.declared.value.Value.TheVariants.{Null, Int, Real, Text, Blob}
use Rattle.sqlite_value.specs.declared.keys.Collation.TheVariants.{Binary}
use Rattle.sqlite_value.specs.declared.keys.Order.{Order}
use Rattle.sqlite_value.specs.Order.{Row, column, value_cmp}
use Rattle.sqlite_value.specs.Keys.{ascending, entry_cmp, first_key, later, prefix_cmp}
use Rattle.sqlite_value.proofs.KeyLemmas.{first_key-digit}
use Rattle.sqlite_value.proofs.OrderLemmas.{value_cmp-Null}
use Rattle.row_store.specs.declared.probe.Probe.{Probe}
use Rattle.row_store.specs.declared.probe.Probe.TheVariants.{BelowKey, UpToKey, BelowRowid, BelowEntry}
use Rattle.row_store.specs.inner.Passes.{passes, IsFirst, IsFirstIn}

-- where the lowest digit is 0 the first column ascends by its bytes
pub first_ascends : (o : Order) → o.digits % 8 ≡ 0 → first_key o ≡ ascending Binary
first_ascends o h =
    let is : o.digits ≡ 0 + 8 * (o.digits / 8) = omega (arith, h) in
    ap (λ (n : ℕ). first_key (record { digits = n })) is ∙ first_key-digit (ascending Binary) (o.digits / 8)

firm : (o r : Ordering) → (o ≡ Equal → ⊥) → ordering_then o r ≡ o
firm Less r differ = refl
firm Equal r differ = absurd (differ refl)
firm Greater r differ = refl

-- NULL is less than any other value
below_some : (k : Value) → k ≢ Null → value_cmp Null k ≡ Less
below_some Null some = absurd (some refl)
below_some (Int n) some = value_cmp-Null (Int n)
below_some (Real x) some = value_cmp-Null (Real x)
below_some (Text t) some = value_cmp-Null (Text t)
below_some (Blob b) some = value_cmp-Null (Blob b)

module _ (o : Order) (plain : first_key o ≡ ascending Binary) where
  prefix_tells : (e key : Row) → column key 0 ≢ Null → (c : Ordering) → (c ≡ Equal → ⊥) → value_cmp (column e 0) (column key 0) ≡ c → prefix_cmp o e key ≡ c
  prefix_tells e [] some c differ is = absurd (some refl)
  prefix_tells [] (k ∷ key) some c differ is = sym (below_some k some) ∙ is
  prefix_tells (x ∷ e) (k ∷ key) some c differ is =
      rw plain (ap (λ r. ordering_then r (prefix_cmp (later o) e key)) is ∙ firm c _ differ)

  entry_tells : (e key : Row) → column key 0 ≢ Null → (c : Ordering) → (c ≡ Equal → ⊥) → value_cmp (column e 0) (column key 0) ≡ c → entry_cmp o e key ≡ c
  entry_tells e [] some c differ is = absurd (some refl)
  entry_tells [] (k ∷ key) some c differ is = sym (below_some k some) ∙ is
  entry_tells (x ∷ e) (k ∷ key) some c differ is =
      rw plain (ap (λ r. ordering_then r (entry_cmp (later o) e key)) is ∙ firm c _ differ)

  -- a key of one value is compared by that alone
  pub prefix_ties : (e key : Row) → length key ≡ 1 → column key 0 ≢ Null → value_cmp (column e 0) (column key 0) ≡ Equal → prefix_cmp o e key ≡ Equal
  prefix_ties e [] one some is = absurd (some refl)
  prefix_ties [] (k ∷ key) one some is = cc (below_some k some)
  prefix_ties (x ∷ e) (k ∷ []) one some is = rw plain (ap (λ r. ordering_then r Equal) is)
  prefix_ties (x ∷ e) (k ∷ l ∷ key) one some is = absurd (omega (arith, one))

-- the first values decide, where they differ
pub entry_first_tells : (o : Order) (e key : Row) (v : Value) → IsFirstIn o key v → v ≢ Null → (c : Ordering) → (c ≡ Equal → ⊥) → c ≡ value_cmp (column e 0) v → entry_cmp o e key ≡ c
entry_first_tells o e key v first some c differ is =
    let told = first some in
    entry_tells o told.1 e key (λ h. some (told.0 ∙ h)) c differ (ap (value_cmp (column e 0)) (sym told.0) ∙ sym is)

-- so they do in a search
pub first_tells : (p : Probe) (v : Value) (e : Row) → IsFirst p v → v ≢ Null → (c : Ordering) → (c ≡ Equal → ⊥) → c ≡ value_cmp (column e 0) v → passes p e ≡ is_lt c
first_tells (BelowKey o key) v e first some c differ is =
    let told = first some in
    ap is_lt (prefix_tells o told.1 e key.now (λ h. some (told.0 ∙ h)) c differ (ap (value_cmp (column e 0)) (sym told.0) ∙ sym is))
first_tells (UpToKey o key) v e first some c differ is =
    let told = first some in
    ap (λ r. not (is_gt r)) (prefix_tells o told.1 e key.now (λ h. some (told.0 ∙ h)) c differ (ap (value_cmp (column e 0)) (sym told.0) ∙ sym is))
    ∙ turned c differ
  where
    turned : (c : Ordering) → (c ≡ Equal → ⊥) → not (is_gt c) ≡ is_lt c
    turned Less differ = refl
    turned Equal differ = absurd (differ refl)
    turned Greater differ = refl
first_tells (BelowRowid id) v e first some c differ is = ap is_lt (ap (value_cmp (column e 0)) (sym first) ∙ sym is)
first_tells (BelowEntry o other) v e first some c differ is = ap is_lt (entry_first_tells o e other.now v first some c differ is)

-- where they are alike, and are all that is compared, they decide too
pub first_ties : (o : Order) (e key : Row) (v : Value) → IsFirstIn o key v → v ≢ Null → length key ≡ 1 → Equal ≡ value_cmp (column e 0) v → prefix_cmp o e key ≡ Equal
first_ties o e key v first some one is =
    let told = first some in
    prefix_ties o told.1 e key one (λ h. some (told.0 ∙ h)) (ap (value_cmp (column e 0)) (sym told.0) ∙ sym is)

-- no row is above an empty key
pub none_above : (o : Order) (e key : Row) → key ≡ [] → prefix_cmp o e key ≡ Equal
none_above o [] key none = rw none refl
none_above o (x ∷ e) key none = rw none refl

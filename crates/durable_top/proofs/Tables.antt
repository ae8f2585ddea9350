-- Rows and changes over one plain table.
use Rattle.std.proofs.Common.{is_some, ◌≡◌, ℕ, zero, suc, ℤ, ◌+◌, ◌<◌, Bool, true, false, cond, List, [], ◌∷◌, ◌++◌, length, map, take, get_or, Option, Some, None, refl, sym, ap, ◌∙◌, arith}
use Rattle.std.proofs.lemmas.List.{take_more, map-append}
use Rattle.std.proofs.lemmas.Option.{get_or_from_slice_get, slice_get_within}
use Rattle.std.specs.List.{slice_get}
use Rattle.txn_names.specs.Path.{label_eq}
use Rattle.txn_names.proofs.Exports.{on_label}
use Rattle.txn_names.specs.declared.change.Change.{Change}
use Rattle.serial_spec.specs.History.{or_else}
use Rattle.serial_spec.specs.Serial.{Map, put}
use Rattle.serial_spec.specs.Values.{value_or}
use Rattle.serial_spec.specs.Rows.{Rows, value_in}
use Rattle.serial_spec.specs.Changes.{change_at, overlay}
use Rattle.durable_top.specs.declared.store.Row.{Row}
use Rattle.durable_top.specs.Numbers.{with_first}
use Rattle.durable_top.specs.Store.{plain}

keeps_first : (b : Bool) (n : ℤ) (y z : Option ℤ) → cond b (Some n) (or_else y z) ≡ or_else (cond b (Some n) y) z
keeps_first true n y z = refl
keeps_first false n y z = refl

row_push : (rows : Rows) (key : List ℕ) (v : ℤ) (k : List ℕ) → value_in (rows ++ (key, v) ∷ []) k ≡ with_first (value_in rows) key v k
row_push [] key v k = refl
row_push (r ∷ rows) key v k = ap (λ x. cond (label_eq r.0 k) (Some r.1) x) (row_push rows key v k)
    ∙ keeps_first (label_eq r.0 k) r.1 (value_in rows k) (cond (label_eq key k) (Some v) None)

-- one more row behind the others gives its key a value where it had none
rows_push : (rows : Rows) (key : List ℕ) (v : ℤ) → value_in (rows ++ (key, v) ∷ []) ≡ with_first (value_in rows) key v
rows_push rows key v = λ i k. row_push rows key v k i

-- so one more row of those in a list
pub with_more : {X : Type 0} (of : X → List ℕ × ℤ) (rows : List X) (i : ℕ) (r : X) → i < length rows → r ≡ get_or rows i r
    → with_first (value_in (map of (take i rows))) (of r).0 (of r).1 ≡ value_in (map of (take (i + 1) rows))
with_more of rows i r within at =
    sym (rows_push (map of (take i rows)) (of r).0 (of r).1)
    ∙ ap value_in (sym (map-append of (take i rows) (r ∷ [])) ∙ ap (map of) (ap (λ q. take i rows ++ q ∷ []) at ∙ sym (take_more rows i r within)))

-- a key that has none is given it
pub first_put : (m : Map) (key : List ℕ) (v : ℤ) → is_some (m key) ≡ false → put m key (Some v) ≡ with_first m key v
first_put m key v none = λ i k. on_label key k (λ b. cond b (Some v) (m k) ≡ or_else (m k) (cond b (Some v) None)) (λ same. here (m k) (m key) (ap m same) none) (λ _. apart (m k)) i
  where
    here : (x y : Option ℤ) → y ≡ x → is_some y ≡ false → Some v ≡ or_else x (Some v)
    here None y e n = refl
    here (Some w) y e n = absurd cc

    apart : (x : Option ℤ) → x ≡ or_else x None
    apart (Some w) = refl
    apart None = refl

-- and one that has a value keeps it
pub first_kept : (m : Map) (key : List ℕ) (v : ℤ) → is_some (m key) ≡ true → m ≡ with_first m key v
first_kept m key v some = λ i k. on_label key k (λ b. m k ≡ or_else (m k) (cond b (Some v) None)) (λ same. here (m k) (m key) (ap m same) some) (λ _. apart (m k)) i
  where
    here : (x y : Option ℤ) → y ≡ x → is_some y ≡ true → x ≡ or_else x (Some v)
    here None None e n = absurd cc
    here None (Some w) e n = absurd cc
    here (Some w) y e n = refl

    apart : (x : Option ℤ) → x ≡ or_else x None
    apart (Some w) = refl
    apart None = refl

-- one more row, from the first on
pub plain_more : (table : Rows) (rows : List Row) (i : ℕ) (r : Row) → plain rows ≡ take i table → slice_get table i ≡ Some (r.key, r.value)
    → plain (rows ++ r ∷ []) ≡ take (i + 1) table
plain_more table rows i r e at =
    map-append (λ (q : Row). (q.key, q.value)) rows (r ∷ [])
    ∙ ap (λ rs. rs ++ (r.key, r.value) ∷ []) e
    ∙ ap (λ x. take i table ++ x ∷ []) (sym (get_or_from_slice_get table i (r.key, r.value) (r.key, r.value) at))
    ∙ sym (take_more table i (r.key, r.value) (slice_get_within table i (r.key, r.value) at))

-- there is something at each place of a list
pub row_within : {X : Type 0} (xs : List X) (i : ℕ) → i < length xs → None ≡ slice_get xs i → ⊥
row_within [] i h e = absurd (omega arith)
row_within (r ∷ rs) zero h e = cc
row_within (r ∷ rs) (suc i) h e = row_within rs i (omega arith) e

-- ---- one change after another

-- the last change decides at its key
pub last_change : (cs : List Change) (c : Change) (k : List ℕ) → change_at (cs ++ c ∷ []) k ≡ cond (label_eq c.key k) (Some c.value) (change_at cs k)
last_change [] c k = refl
last_change (d ∷ cs) c k =
    ap (λ x. or_else x (cond (label_eq d.key k) (Some d.value) None)) (last_change cs c k)
    ∙ apart (label_eq c.key k) c.value (change_at cs k) (cond (label_eq d.key k) (Some d.value) None)
  where
    apart : (b : Bool) (v : Option ℤ) (y z : Option (Option ℤ)) → or_else (cond b (Some v) y) z ≡ cond b (Some v) (or_else y z)
    apart true v y z = refl
    apart false v y z = refl

-- so one more change is put into the map
pub overlay_push : (cs : List Change) (c : Change) (m : Map) → overlay (cs ++ c ∷ []) m ≡ put (overlay cs m) c.key c.value
overlay_push cs c m =
    let each : (k : List ℕ) → overlay (cs ++ c ∷ []) m k ≡ put (overlay cs m) c.key c.value k = λ k.
    ap (λ x. value_or x (m k)) (last_change cs c k) ∙ chosen (label_eq c.key k) c.value (change_at cs k) (m k) in
    λ i k. each k i
  where
    chosen : (b : Bool) (v : Option ℤ) (x : Option (Option ℤ)) (w : Option ℤ) → value_or (cond b (Some v) x) w ≡ cond b v (value_or x w)
    chosen true v x w = refl
    chosen false v x w = refl

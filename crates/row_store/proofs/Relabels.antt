-- One tree is listed otherwise, and what undoes the newest write is made.
use Rattle.slot_list.specs.Slotted.{Slotted}
use Rattle.std.proofs.Common.{◌≡◌, ℕ, ◌-◌, ◌<◌, ◌≤◌, List, [], ◌∷◌, ◌++◌, map, drop, length, get_or, set, sym, ap, ◌∙◌, subst, arith, inl, inr}
use Rattle.std.proofs.lemmas.Bool.{cases_eq}
use Rattle.std.proofs.Math.Logic.{∥∥₁_elim, ∥∥₁_map}
use denote.Struct.Props.{props}
use mathlib.Core.HLevel.{Unit-prop}
use Rattle.std.proofs.lemmas.List.{length-set, length-map, get_or-set_same, get_or-set_other, drop_at, length-append}
use Rattle.sqlite_value.specs.Order.{Row}
use Rattle.sqlite_trees.specs.View.{IsShaped}
use Rattle.sqlite_trees.specs.Listing.{Heading, no_heading, shape_in}
use Rattle.row_store.specs.declared.log.Head.{Head}
use Rattle.row_store.specs.declared.log.Undo.{Undo}
use Rattle.row_store.specs.declared.log.Undo.TheVariants.{Rows, Listed}
use Rattle.row_store.specs.declared.rows.Change.{Change}
use Rattle.row_store.specs.declared.rows.Change.TheVariants.{Nothing, Inserted, Replaced, Removed, Emptied}
use Rattle.row_store.specs.declared.store.RowStore.{RowStore}
use Rattle.row_store.specs.Undo.{reverted, IsRevertible}
use Rattle.row_store.specs.RowView.{now, rows_in}
use Rattle.row_store.specs.Heading.{heading}
use Rattle.row_store.specs.Path.{State, undo, Fits, undone, IsPath}
use Rattle.row_store.proofs.Lists.{map_set, set_at, read_at, set_back}
use Rattle.row_store.proofs.Paths.{path_push, path_pop}
use Rattle.row_store.specs.Shown.{path_now}

module _ (hs : List Head) (t : ℕ) (was new : Head) (within : t < length hs) (is : was ≡ get_or hs t was) where
  headings : List Heading
  headings = map heading hs

  pub label_back : set (map heading (set hs t new)) t (heading was) ≡ map heading hs
  label_back =
      let read : get_or (map heading hs) t no_heading ≡ heading was = read_at heading hs t was no_heading within is in
      rw (map_set heading hs t new, ← read) (set_back (map heading hs) t (heading new) no_heading (rw length-map within))

  pub path_relabelled : (rows : List (List Row)) (room : List ℕ) (version : ℕ) (log : List Undo) → IsShaped new.shape (get_or rows t [])
      → IsPath room log (record { headings = map heading hs; rows = rows; version = version })
      → IsPath room (log ++ Listed t was ∷ []) (record { headings = map heading (set hs t new); rows = rows; version = version })
  path_relabelled rows room version log fits path =
      let old : State = record { headings = map heading hs; rows = rows; version = version } in
      let state : State = record { headings = map heading (set hs t new); rows = rows; version = version } in
      let sound = path_now _ log old path in
      let back : undo (Listed t was) state ≡ old = λ i. record { headings = label_back i; rows = rows; version = version } in
      let count : length (map heading (set hs t new)) ≡ length (map heading hs) = rw (map_set heading hs t new) (length-set (map heading hs) t (heading new)) in
      let here : get_or (map heading (set hs t new)) t no_heading ≡ heading new = set_at heading hs t new no_heading within in
      let shaped : (k : ℕ) → IsShaped (shape_in (map heading (set hs t new)) k) (get_or rows k []) = λ k. elim (cases_eq k t) [
        | inl same ↦ rw same (subst (λ (x : Heading). IsShaped x.0 (get_or rows t [])) (sym here) fits)
        | inr other ↦
            let kept : get_or (map heading (set hs t new)) k no_heading ≡ get_or (map heading hs) k no_heading =
            rw (map_set heading hs t new) (get_or-set_other (map heading hs) t k (heading new) no_heading other) in
            subst (λ (x : Heading). IsShaped x.0 (get_or rows k [])) (sym kept) (sound.shaped k)
      ] in
      let low : t < length (map heading (set hs t new)) = rw (count, length-map) within in
      path_push _ log (Listed t was) old state back low (record { count = (count ∙ sound.count.0, sound.count.1); shaped = shaped; short = sound.short }) path

-- what is left of a log when its newest entry is taken
pub popped : (log rest : List Undo) (u : Undo) (s : State) → log ≡ rest ++ u ∷ [] → undone (drop (length log - 1) log) s ≡ undo u s
popped log rest u s is =
    let count : length log - 1 ≡ length rest = omega (arith, ap length is, length-append rest (u ∷ [])) in
    let last : drop (length log - 1) log ≡ u ∷ [] = ap (drop (length log - 1)) is ∙ drop_at rest (u ∷ []) (length log - 1) (sym count) in
    ap (λ more. undone more s) last

IsRevertible-prop : (change : Change) (rows : List Row) → IsProp (IsRevertible change rows)
IsRevertible-prop Nothing rows = Unit-prop
IsRevertible-prop (Inserted at) rows = hlevel props
IsRevertible-prop (Replaced at row) rows = hlevel props
IsRevertible-prop (Removed at row) rows = hlevel props
IsRevertible-prop (Emptied taken) rows = Unit-prop

-- the newest entry of the log
module _ (s : RowStore) (rest : List Undo) where
  pub path_popped : (u : Undo) → s.log.items ≡ rest ++ u ∷ [] → ∥ IsPath (map (λ v. v.capacity) s.rows.items) rest (undo u (now s)) × Fits u (now s) ∥₁
  path_popped u is = ∥∥₁_map s.path (λ h. path_pop _ rest u (now s) (rw is at h))

  pub low_rows_popped : (t : ℕ) (change : Change) → s.log.items ≡ rest ++ Rows t change ∷ [] → t < length s.rows.items
  low_rows_popped t change is =
      let prop : IsProp (t < length s.rows.items) = hlevel props in
      ∥∥₁_elim (path_popped (Rows t change) is) prop (λ h. omega (arith, h.1.0, length-map s.rows.items (λ (v : Slotted Row). v.items)))

  pub fits_popped : (t : ℕ) (change : Change) → s.log.items ≡ rest ++ Rows t change ∷ [] → IsRevertible change (rows_in (now s).rows t)
  fits_popped t change is = ∥∥₁_elim (path_popped (Rows t change) is) (IsRevertible-prop change _) (λ h. h.1.1)

  pub room_popped : (t : ℕ) (change : Change) → s.log.items ≡ rest ++ Rows t change ∷ []
      → length (reverted change (rows_in (now s).rows t)) ≤ get_or (map (λ (v : Slotted Row). v.capacity) s.rows.items) t 0
  room_popped t change is =
      let prop : IsProp (length (reverted change (rows_in (now s).rows t)) ≤ get_or (map (λ (v : Slotted Row). v.capacity) s.rows.items) t 0) = hlevel props in
      ∥∥₁_elim (path_popped (Rows t change) is) prop (λ h.
      let same = get_or-set_same (now s).rows t (reverted change (rows_in (now s).rows t)) [] h.1.0 in
      omega (arith, (path_now _ rest _ h.0).short t, ap length same))

  pub low_head_popped : (t : ℕ) (head : Head) → s.log.items ≡ rest ++ Listed t head ∷ [] → t < length s.headings.items
  low_head_popped t head is =
      let prop : IsProp (t < length s.headings.items) = hlevel props in
      ∥∥₁_elim (path_popped (Listed t head) is) prop (λ h. omega (arith, h.1, length-map s.headings.items heading))

-- One tree's rows are edited.
use Rattle.slot_list.specs.Slotted.{Slotted}
use Rattle.std.proofs.Common.{◌≡◌, ℕ, ◌<◌, ◌≤◌, List, [], ◌∷◌, ◌++◌, map, length, get_or, set, refl, ap, arith, inl, inr}
use Rattle.std.proofs.lemmas.Bool.{cases_eq}
use Rattle.std.proofs.lemmas.List.{length-set, length-map, get_or-set_same, get_or-set_other}
use Rattle.sqlite_value.specs.Order.{Row}
use Rattle.sqlite_trees.specs.declared.store.Shape.{Shape}
use Rattle.sqlite_trees.specs.declared.store.Shape.TheVariants.{Absent, Table, Index, Pageless, FrozenTable, FrozenIndex}
use Rattle.sqlite_trees.specs.View.{IsShaped}
use Rattle.sqlite_trees.specs.Listing.{Heading, shape_in}
use Rattle.sqlite_trees.proofs.TreeLemmas.{IsShaped-filter, IsShaped-put_row, IsIndex-insert_entry}
use Rattle.row_store.specs.declared.edit.Edit.{Edit}
use Rattle.row_store.specs.declared.edit.Edit.TheVariants.{Put, Delete, Insert, Remove, Empty}
use Rattle.row_store.specs.declared.rows.Change.{Change}
use Rattle.row_store.specs.declared.log.Undo.{Undo}
use Rattle.row_store.specs.declared.log.Undo.TheVariants.{Rows}
use Rattle.row_store.specs.Undo.{reverted, IsUndoneBy}
use Rattle.row_store.specs.inner.Edit.{edited, Suits, IsFor, EditsRows, HasRoomOf}
use Rattle.row_store.specs.Path.{State, undo, IsPath}
use Rattle.row_store.proofs.Lists.{map_set, set_at, read_at, set_back}
use Rattle.row_store.proofs.Paths.{path_push, path_grow}
use Rattle.row_store.specs.Shown.{path_now}

pub edits : (edit : Edit) (t : ℕ) (change : Change) (old : List (Slotted Row)) (was v : Slotted Row) → t < length old → was ≡ get_or old t was
    → (v.items ≡ edited edit was.items) × IsUndoneBy change v.items was.items → length v.items ≤ v.capacity → EditsRows edit t change old (set old t v)
edits edit t change old was v within is h fit =
    let read = read_at (λ (x : Slotted Row). x.items) old t was [] within is in
    let now = set_at (λ (x : Slotted Row). x.items) old t v [] within in
    let room = set_at (λ (x : Slotted Row). x.capacity) old t v 0 within in
    record {
      rows = rw (read, ← h.0) (map_set (λ (x : Slotted Row). x.items) old t v);
      undone = rw (read, now) h.1;
      short = rw (now, room) fit;
    }

pub none_shaped : (shape : Shape) → IsShaped shape []
none_shaped Absent = refl
none_shaped Pageless = refl
none_shaped Table = (tt, tt)
none_shaped FrozenTable = (tt, tt)
none_shaped (Index o) = tt
none_shaped (FrozenIndex o) = tt

pub suits : (edit : Edit) (shape : Shape) (rows : List Row) → IsFor edit shape → IsShaped shape rows → Suits edit rows
suits (Put row) shape rows h s = (rw h.0 at s, h.1)
suits (Delete id) shape rows h s = rw h at s
suits (Insert o entry) shape rows h s = rw h at s
suits (Remove o entry) shape rows h s = rw h at s
suits Empty shape rows h s = tt

-- an edit keeps the order that it asks for
still_shaped : (edit : Edit) (shape : Shape) (rows : List Row) → IsFor edit shape → IsShaped shape rows → IsShaped shape (edited edit rows)
still_shaped (Put row) shape rows h s = rw h.0 (IsShaped-put_row row.now rows h.1 (rw h.0 at s))
still_shaped (Delete id) shape rows h s = IsShaped-filter shape _ rows s
still_shaped (Insert o entry) shape rows h s = rw h (IsIndex-insert_entry o entry.now rows (rw h at s))
still_shaped (Remove o entry) shape rows h s = IsShaped-filter shape _ rows s
still_shaped Empty shape rows h s = none_shaped shape

pub rows_back : (edit : Edit) (t : ℕ) (change : Change) (old new : List (Slotted Row)) → t < length old → EditsRows edit t change old new
    → set (set (map (λ v. v.items) old) t (edited edit (get_or (map (λ v. v.items) old) t []))) t
    (reverted change (get_or (set (map (λ v. v.items) old) t (edited edit (get_or (map (λ v. v.items) old) t []))) t [])) ≡ map (λ v. v.items) old
rows_back edit t change old new within h =
    let all = map (λ (v : Slotted Row). v.items) old in
    let low : t < length all = omega (arith, within, length-map old (λ (v : Slotted Row). v.items)) in
    let undone = h.undone.back in
    rw (← h.rows, undone, h.rows) (set_back all t _ [] low)

-- the path goes on to the state with the edited rows
pub path_edited : (edit : Edit) (t version : ℕ) (change : Change) (hs : List Heading) (old new : List (Slotted Row)) (log : List Undo) → t < 16 → IsFor edit (shape_in hs t)
    → EditsRows edit t change old new → HasRoomOf old new
    → IsPath (map (λ v. v.capacity) old) log (record { headings = hs; rows = map (λ v. v.items) old; version = version })
    → IsPath (map (λ v. v.capacity) new) (log ++ Rows t change ∷ []) (record { headings = hs; rows = map (λ v. v.items) new; version = version })
path_edited edit t version change hs old new log low fits h room path =
    let was : State = record { headings = hs; rows = map (λ v. v.items) old; version = version } in
    let state : State = record { headings = hs; rows = map (λ v. v.items) new; version = version } in
    let sound = path_now _ log was path in
    let within : t < length (map (λ (v : Slotted Row). v.items) old) = omega (arith, sound.count.1) in
    let es = edited edit (get_or (map (λ (v : Slotted Row). v.items) old) t []) in
    let count : length (map (λ (v : Slotted Row). v.items) new) ≡ 16 = rw (h.rows, length-set) sound.count.1 in
    let rows : set (map (λ (v : Slotted Row). v.items) new) t (reverted change (get_or (map (λ (v : Slotted Row). v.items) new) t [])) ≡ map (λ (v : Slotted Row). v.items) old =
    rw (h.undone.back, h.rows) (set_back (map (λ (v : Slotted Row). v.items) old) t _ [] within) in
    let back : undo (Rows t change) state ≡ was = λ i. record { headings = hs; rows = rows i; version = version } in
    let shaped : (k : ℕ) → IsShaped (shape_in hs k) (get_or (map (λ (v : Slotted Row). v.items) new) k []) = λ k. elim (cases_eq k t) [
      | inl same ↦ rw (same, h.rows, get_or-set_same (map (λ (v : Slotted Row). v.items) old) t es [] within) (still_shaped edit (shape_in hs t) _ fits (sound.shaped t))
      | inr other ↦ rw (h.rows, get_or-set_other (map (λ (v : Slotted Row). v.items) old) t k es [] other) (sound.shaped k)
    ] in
    let short : (k : ℕ) → length (get_or (map (λ (v : Slotted Row). v.items) new) k []) ≤ get_or (map (λ (v : Slotted Row). v.capacity) new) k 0 = λ k. elim (cases_eq k t) [
      | inl same ↦ rw same h.short
      | inr other ↦
          let kept : get_or (map (λ (v : Slotted Row). v.items) new) k [] ≡ get_or (map (λ (v : Slotted Row). v.items) old) k [] = rw h.rows (get_or-set_other (map (λ (v : Slotted Row). v.items) old) t k es [] other) in
          omega (arith, room k, sound.short k, ap length kept)
    ] in
    path_push _ log (Rows t change) was state back (omega (arith, count), h.undone.fits) (record { count = (sound.count.0, count); shaped = shaped; short = short }) (path_grow _ _ log was room path)

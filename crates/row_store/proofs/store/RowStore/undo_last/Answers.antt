use Rattle.slot_list.specs.Slotted.{Slotted}
use Rattle.std.proofs.Common.{◌≡◌, [], ◌∷◌, ◌++◌, length, map, set, ap, ◌∙◌, arith, sym}
use Rattle.std.proofs.lemmas.List.{length_push}
use Rattle.std.proofs.Math.Logic.{∥∥₁_map}
use Rattle.sqlite_value.specs.Order.{Row}
use Rattle.row_store.specs.declared.log.Undo.TheVariants.{Rows, Listed, Version}
use Rattle.row_store.specs.Heading.{heading}
use Rattle.row_store.specs.RowView.{now}
use Rattle.row_store.specs.Path.{undo}
use Rattle.row_store.proofs.Lists.{map_set}
use Rattle.row_store.proofs.Paths.{path_grow}
use Rattle.row_store.proofs.Relabels.{popped, path_popped, low_rows_popped, fits_popped, room_popped, low_head_popped}
use Rattle.row_store.proofs.store.RowStore.undo_last.Goals as goal

pub undo_rows-requires-clause-within : goal.undo_rows-requires-clause-within
undo_rows-requires-clause-within c =
    let s = c.args.self.now in
    let log : s.log.items ≡ c.pop.new.self.items ++ Rows c.in-Some-Rows.tree c.in-Some-Rows.change ∷ [] = rw c.in-Some-Rows.field-0-is at c.in-Some-Rows.ensures.items in
    low_rows_popped s c.pop.new.self.items c.in-Some-Rows.tree c.in-Some-Rows.change log

pub undo_rows-requires-clause-fits : goal.undo_rows-requires-clause-fits
undo_rows-requires-clause-fits c =
    let s = c.args.self.now in
    let log : s.log.items ≡ c.pop.new.self.items ++ Rows c.in-Some-Rows.tree c.in-Some-Rows.change ∷ [] = rw c.in-Some-Rows.field-0-is at c.in-Some-Rows.ensures.items in
    fits_popped s c.pop.new.self.items c.in-Some-Rows.tree c.in-Some-Rows.change log

pub undo_rows-requires-clause-room : goal.undo_rows-requires-clause-room
undo_rows-requires-clause-room c =
    let s = c.args.self.now in
    let log : s.log.items ≡ c.pop.new.self.items ++ Rows c.in-Some-Rows.tree c.in-Some-Rows.change ∷ [] = rw c.in-Some-Rows.field-0-is at c.in-Some-Rows.ensures.items in
    room_popped s c.pop.new.self.items c.in-Some-Rows.tree c.in-Some-Rows.change log

pub invariant_of-self-in-Some-Rows : goal.invariant_of-self-in-Some-Rows
invariant_of-self-in-Some-Rows c =
    let s = c.args.self.now in
    let rest = c.pop.new.self.items in
    let u = Rows c.in-Some-Rows.tree c.in-Some-Rows.change in
    let log : s.log.items ≡ rest ++ u ∷ [] = rw c.in-Some-Rows.field-0-is at c.in-Some-Rows.ensures.items in
    let new = c.undo_rows.new.rows.items in
    let rows = c.undo_rows.ensures.rows in
    let same : undo u (now s) ≡ record { headings = (now s).headings; rows = map (λ (v : Slotted Row). v.items) new; version = s.version } =
    λ i. record { headings = (now s).headings; rows = sym rows i; version = s.version } in
    record {
      within = λ k d low. omega (arith, c.requires k d low, ap length log, length_push rest u);
      rising = s.rising;
      path = ∥∥₁_map (path_popped s rest u log) (λ h. path_grow _ _ rest _ c.undo_rows.ensures.room (rw same at h.0));
    }

pub index_mut-requires : goal.index_mut-requires
index_mut-requires c =
    let s = c.args.self.now in
    let log : s.log.items ≡ c.pop.new.self.items ++ Listed c.in-Some-Listed.tree c.in-Some-Listed.head ∷ [] = rw c.in-Some-Listed.field-0-is at c.in-Some-Listed.ensures.items in
    omega (arith, low_head_popped s c.pop.new.self.items c.in-Some-Listed.tree c.in-Some-Listed.head log, s.headings.ok.0)

pub invariant_of-self-in-Some-Listed : goal.invariant_of-self-in-Some-Listed
invariant_of-self-in-Some-Listed c =
    let s = c.args.self.now in
    let rest = c.pop.new.self.items in
    let t = c.in-Some-Listed.tree in
    let head = c.in-Some-Listed.head in
    let u = Listed t head in
    let log : s.log.items ≡ rest ++ u ∷ [] = rw c.in-Some-Listed.field-0-is at c.in-Some-Listed.ensures.items in
    let same : undo u (now s) ≡ record { headings = map heading (set s.headings.items t head); rows = (now s).rows; version = s.version } =
    λ i. record { headings = sym (map_set heading s.headings.items t head) i; rows = (now s).rows; version = s.version } in
    record {
      within = λ k d low. omega (arith, c.requires k d low, ap length log, length_push rest u);
      rising = s.rising;
      path = ∥∥₁_map (path_popped s rest u log) (λ h. rw same at h.0);
    }

pub invariant_of-self-in-Some-Version : goal.invariant_of-self-in-Some-Version
invariant_of-self-in-Some-Version c =
    let s = c.args.self.now in
    let rest = c.pop.new.self.items in
    let u = Version c.in-Some-Version.version in
    let log : s.log.items ≡ rest ++ u ∷ [] = rw c.in-Some-Version.field-0-is at c.in-Some-Version.ensures.items in
    record {
      within = λ k d low. omega (arith, c.requires k d low, ap length log, length_push rest u);
      rising = s.rising;
      path = ∥∥₁_map (path_popped s rest u log) (λ h. h.0);
    }

pub returns-in-Some-Listed-clause-state : goal.returns-in-Some-Listed-clause-state
returns-in-Some-Listed-clause-state c =
    let s = c.args.self.now in
    let rest = c.pop.new.self.items in
    let t = c.in-Some-Listed.tree in
    let head = c.in-Some-Listed.head in
    let log : s.log.items ≡ rest ++ Listed t head ∷ [] = rw c.in-Some-Listed.field-0-is at c.in-Some-Listed.ensures.items in
    (λ i. record { headings = map_set heading s.headings.items t head i; rows = (now s).rows; version = s.version }) ∙ sym (popped s.log.items rest (Listed t head) (now s) log)

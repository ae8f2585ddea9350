use Rattle.slot_list.specs.Slotted.{Slotted}
use Rattle.std.proofs.Common.{◌≡◌, [], ◌∷◌, ◌++◌, length, map, refl, ap, arith, sym, subst}
use Rattle.std.proofs.lemmas.List.{length_push}
use Rattle.std.proofs.Math.Logic.{∥∥₁_map}
use Rattle.sqlite_value.specs.Order.{Row}
use Rattle.row_store.specs.declared.log.Undo.TheVariants.{Rows}
use Rattle.row_store.specs.RowView.{now}
use Rattle.row_store.specs.Path.{State, IsPath}
use Rattle.row_store.proofs.Kept.{counted, shaped_in}
use Rattle.row_store.proofs.Edits.{suits, path_edited, rows_back}
use Rattle.row_store.proofs.Paths.{path_grow}
use Rattle.row_store.proofs.store.RowStore.write.Goals as goal

pub edit_rows-requires-clause-within : goal.edit_rows-requires-clause-within
edit_rows-requires-clause-within c = omega (arith, (counted c.args.self.now).1, c.requires.within)

pub edit_rows-requires-clause-suits : goal.edit_rows-requires-clause-suits
edit_rows-requires-clause-suits c = suits c.args.edit _ _ c.requires.shape (shaped_in c.args.self.now c.args.tree)

pub invariant_of-self-in-Break-branch-2 : goal.invariant_of-self-in-Break-branch-2
invariant_of-self-in-Break-branch-2 c =
    let s = c.args.self.now in
    let new = c.edit_rows.new.rows.items in
    let state : State = record { headings = (now s).headings; rows = map (λ (v : Slotted Row). v.items) new; version = s.version } in
    let same : state ≡ now s =
    λ i. record { headings = (now s).headings; rows = c.in_err-change.ensures.err i; version = s.version } in
    record {
      within = rw c.reserve.ensures.items s.within;
      rising = s.rising;
      path = ∥∥₁_map s.path (λ h. rw c.reserve.ensures.items (subst (IsPath (map (λ (v : Slotted Row). v.capacity) new) s.log.items) (sym same) (path_grow _ _ s.log.items (now s) c.edit_rows.ensures.room h)));
    }

pub invariant_of-self-2 : goal.invariant_of-self-2
invariant_of-self-2 c =
    let s = c.args.self.now in
    let change = c.in_ok-change.change in
    let log : c.push_reserved.new.self.items ≡ s.log.items ++ Rows c.args.tree change ∷ [] = rw (c.push_reserved.ensures.items, c.reserve.ensures.items) refl in
    record {
      within = λ k d small. omega (arith, s.within k d small, ap length log, length_push s.log.items (Rows c.args.tree change));
      rising = s.rising;
      path = ∥∥₁_map s.path (λ h. rw log (path_edited c.args.edit c.args.tree s.version change (now s).headings s.rows.items c.edit_rows.new.rows.items s.log.items c.requires.within c.requires.shape c.in_ok-change.ensures.ok c.in_ok-change.ensures.room h));
    }

pub returns-clause-ok : goal.returns-clause-ok
returns-clause-ok c =
    let s = c.args.self.now in
    let change = c.in_ok-change.change in
    let h = c.in_ok-change.ensures.ok in
    let log : c.push_reserved.new.self.items ≡ s.log.items ++ Rows c.args.tree change ∷ [] = rw (c.push_reserved.ensures.items, c.reserve.ensures.items) refl in
    let back = rows_back c.args.edit c.args.tree change s.rows.items c.edit_rows.new.rows.items (omega (arith, c.requires.within, (counted s).1)) h in
    record {
      state = λ i. record { headings = (now s).headings; rows = h.rows i; version = s.version };
      more = Rows c.args.tree change ∷ [];
      log = log;
      back = λ i. record { headings = (now s).headings; rows = back i; version = s.version };
      marks = refl;
    }

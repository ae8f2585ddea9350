use Rattle.std.proofs.Common.{◌≡◌, [], ◌∷◌, ◌++◌, length, refl, ap, arith, inl, ◌∙◌}
use Rattle.std.proofs.lemmas.List.{length_push}
use Rattle.std.proofs.Math.Logic.{∥∥₁_map}
use Rattle.sqlite_trees.specs.View.{View}
use Rattle.row_store.specs.declared.log.Undo.TheVariants.{Version}
use Rattle.row_store.specs.RowView.{now}
use Rattle.row_store.proofs.Backs.{numbers, number_path}
use Rattle.row_store.proofs.traits.RowStoreAlter.set_version.Goals as goal

pub invariant_of-self-2 : goal.invariant_of-self-2
invariant_of-self-2 c =
    let s = c.args.self.now in
    let log : c.push_reserved.new.self.items ≡ s.log.items ++ Version s.version ∷ [] = rw (c.push_reserved.ensures.items, c.reserve.ensures.items) refl in
    record {
      within = λ k d small. omega (arith, s.within k d small, ap length log, length_push s.log.items (Version s.version));
      rising = s.rising;
      path = ∥∥₁_map s.path (λ h. rw log (number_path _ s.log.items (now s) c.args.version h));
    }

pub returns-clause-ok : goal.returns-clause-ok
returns-clause-ok c _ =
    let s = c.args.self.now in
    let log : c.push_reserved.new.self.items ≡ s.log.items ++ Version s.version ∷ [] = rw (c.push_reserved.ensures.items, c.reserve.ensures.items) refl in
    numbers (now s) s.log.items s.marks.items s.cursors.items c.args.version c.push_reserved.new.self.items s.within log

pub returns-clause-quiet : goal.returns-clause-quiet
returns-clause-quiet c =
    let s = c.args.self.now in
    let log : c.push_reserved.new.self.items ≡ s.log.items ++ Version s.version ∷ [] = rw (c.push_reserved.ensures.items, c.reserve.ensures.items) refl in
    let is = (numbers (now s) s.log.items s.marks.items s.cursors.items c.args.version c.push_reserved.new.self.items s.within log).is in
    record { shield = λ h. h; clean = omega arith; counts = omega arith; closes = λ _ h. inl h; outcomes = λ db h. h ∙ ap (λ (v : View). v.committed) is }

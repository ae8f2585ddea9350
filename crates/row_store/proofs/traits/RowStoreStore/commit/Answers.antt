use Rattle.std.proofs.Common.{length, refl, ap, ◌∙◌, arith, true, inl}
use Rattle.std.proofs.Math.Logic.{∥∥₁_map}
use Rattle.sqlite_trees.specs.View.{View}
use Rattle.sqlite_trees.proofs.Doubt.{no_doubt}
use Rattle.row_store.specs.RowView.{now}
use Rattle.row_store.specs.Shown.{path_now}
use Rattle.row_store.proofs.Backs.{commits, only_commits}
use Rattle.row_store.proofs.traits.RowStoreStore.commit.Goals as goal

pub invariant_of-self : goal.invariant_of-self
invariant_of-self c =
    let s = c.args.self.now in
    let none = ap length c.clear.ensures.items in
    record {
      within = λ k d low. absurd (omega (arith, none, low));
      rising = λ i j a b. absurd (omega (arith, none, b));
      path = ∥∥₁_map s.path (λ h. rw c.end_log.ensures (path_now _ s.log.items (now s) h));
    }

pub returns-clause-ok : goal.returns-clause-ok
returns-clause-ok c _ =
    let s = c.args.self.now in
    commits (now s) s.log.items s.marks.items s.cursors.items (now s) c.end_log.new.log.items c.clear.new.self.items s.cursors.items refl c.end_log.ensures c.clear.ensures.items

pub returns-clause-frame : goal.returns-clause-frame
returns-clause-frame c clean = only_commits _ _ (returns-clause-ok c clean)

pub returns-clause-crash : goal.returns-clause-crash
returns-clause-crash c db h = inl (refl, h ∙ ap (λ (v : View). v.committed) (returns-clause-ok c (no_doubt true refl)).is)

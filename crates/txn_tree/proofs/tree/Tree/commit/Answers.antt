use Rattle.std.proofs.Common.{◌≡◌, ◌∙◌, ℕ, Some, ap, arith}
use Rattle.std.specs.Prelude.{slice_get}
use Rattle.txn_names.specs.Path.{Path}
use Rattle.txn_tree.specs.States.{States, names}
use Rattle.txn_tree.specs.Asked.{live_children_of}
use Rattle.txn_tree.specs.Numbered.{live_children_named}
use Rattle.txn_tree.proofs.Children.{cause_by_children, no_cause_by_children}
use Rattle.txn_tree.proofs.tree.Tree.commit.Goals as goal

live : (tree : States) (n k : ℕ) (t : Path) → slice_get (names tree) n ≡ Some t → k ≡ live_children_named tree (slice_get (names tree) n) → k ≡ live_children_of tree t
live tree n k t named counted = counted ∙ ap (live_children_named tree) named

pub returns-then-live_children_at-gt0-clause-refused : goal.returns-then-live_children_at-gt0-clause-refused
returns-then-live_children_at-gt0-clause-refused c =
    let told = live c.args.self.now c.in_ok-txn.txn c.live_children_at.result c.args.name.now c.in_ok-txn.ensures.named c.live_children_at.ensures in
    cause_by_children c.args.self.now c.args.name.now c.in_ok-txn.ensures.refused (omega (arith, told))

pub returns-clause-refused : goal.returns-clause-refused
returns-clause-refused c =
    let told = live c.args.self.now c.in_ok-txn.txn c.live_children_at.result c.args.name.now c.in_ok-txn.ensures.named c.live_children_at.ensures in
    no_cause_by_children c.args.self.now c.args.name.now c.in_ok-txn.ensures.refused (omega (arith, told))

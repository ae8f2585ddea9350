use Rattle.std.proofs.Common.{◌≡◌, true, rules}
use Rattle.std.specs.Prelude.{slice_get, is_some}
use Rattle.txn_tree.specs.States.{names}
use Rattle.txn_cells.proofs.Dropping.{dropping_first, dropping_next, begun_under}
use Rattle.txn_cells.proofs.table.CellTable.+drop_under.Goals as goal

pub loop-next-init : goal.loop-next-init
loop-next-init g t c =
    let tree = c.args.tree.now in
    let begun : is_some (slice_get (names tree) c.args.txn) ≡ true = search rules in
    dropping_first tree c.args.txn c.args.self.now (begun_under tree c.args.txn begun) c.drop_one.new.self (record { contents = c.drop_one.ensures.contents; places = c.drop_one.ensures.places })
    c.first_child-next.result c.first_child-next.ensures.first c.first_child-next.ensures.later

pub loop-next-preserved : goal.loop-next-preserved
loop-next-preserved g t c =
    dropping_next c.args.tree.now c.args.txn c.args.self.now c.loop-next.self c.in-Some.child (rw c.in-Some.is at c.loop-next.invariant) c.drop_under.new.self
    (record { contents = c.drop_under.ensures.contents; places = c.drop_under.ensures.places }) c.next_sibling-next.result c.next_sibling-next.ensures

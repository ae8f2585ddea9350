use Rattle.std.proofs.Common.{◌≡◌, ◌-◌, true, length}
use Rattle.std.specs.Prelude.{IfSome}
use Rattle.txn_tree.specs.States.{names}
use Rattle.txn_tree.specs.Siblings.{is_top_at}
use Rattle.manager_core.proofs.Tops.{ClosingAt}
use Rattle.manager_core.proofs.TopsInTurn.{place_of}
use Rattle.manager_core.proofs.tables.Tables.close_tops.Given as goal

abbrev pub invariant-loop-top : goal.invariant-loop-top
invariant-loop-top l = record {
  rows : l.log.rows ≡ l.initial.log.rows;
  far : ClosingAt l.log.rows l.initial.log.entries l.log.entries l.initial.self l.self l.log.room (place_of l.top (length (names l.self.tree)));
  is_top : IfSome l.top (λ c. is_top_at l.self.tree c ≡ true);
}

abbrev pub decreases-loop-top : goal.decreases-loop-top
decreases-loop-top l = length (names l.self.tree) - place_of l.top (length (names l.self.tree))

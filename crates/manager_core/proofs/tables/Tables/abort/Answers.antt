use Rattle.std.proofs.Common.{rules, ◌∙◌}
use Rattle.manager_core.specs.Tables.{Tabled}
use Rattle.manager_core.proofs.Locks.{aborts_by_name, below_named}
use Rattle.manager_core.proofs.Looked.{dropped_stays, seen_apart, seen_named, waits_dropped}
use Rattle.manager_core.proofs.tables.Tables.abort.Goals as goal

pub returns-in-Ok-clause-aborts : goal.returns-in-Ok-clause-aborts
returns-in-Ok-clause-aborts c =
    let m : Tabled = record { tree = c.self.inside.tree; marks = c.self.inside.marks; estate = c.self.inside.estate; waits = c.self.inside.waits } in
    let number = rw c.unwrap-txn.ensures at c.no_of.ensures.number in
    rw (← c.self.view_is)
    (aborts_by_name m _ _ _ _ c.args.name.now c.unwrap-txn.result c.in-Ok.ensures.names c.in-Ok.ensures.aborted (search rules) number c.abort-in-Ok.ensures (search rules))

pub returns-in-Ok-clause-fewer : goal.returns-in-Ok-clause-fewer
returns-in-Ok-clause-fewer c =
    let m = c.self.inside in
    let number = rw c.unwrap-txn.ensures at c.no_of.ensures.number in
    rw (← c.self.view_is)
    (λ none n below waits. c.drop_under.ensures.fewer n (below_named m.tree _ c.args.name.now c.unwrap-txn.result c.in-Ok.ensures.names number n ∙ below) waits)

pub invariant_of-self : goal.invariant_of-self
invariant_of-self c =
    let m = c.self.inside in
    let tree = c.abort.new.self in
    let txn = c.unwrap-txn.result in
    let new = c.abort-in-Ok.new.self.locks in
    seen_apart tree m.estate.locks new m.waits.waits c.drop_under.new.self.waits m.looks c.forget_under.new.self txn (dropped_stays tree m.estate.locks new txn c.abort-in-Ok.ensures.modes)
    (waits_dropped tree m.waits.waits c.drop_under.new.self.waits txn c.drop_under.ensures.waits) c.forget_under.ensures
    (seen_named m.tree tree m.estate.locks m.waits.waits m.looks c.in-Ok.ensures.names c.self.invariant)

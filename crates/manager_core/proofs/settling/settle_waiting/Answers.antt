use Rattle.manager_core.proofs.Suspects.{own_if_it_waits}
use Rattle.manager_core.proofs.settling.settle_waiting.Goals as goal

pub break_own_cycles-requires-clause-own : goal.break_own_cycles-requires-clause-own
break_own_cycles-requires-clause-own c =
    let asked = c.args.request.now in
    let ready = c.requires in
    rw c.add_asked.ensures.entries
    (own_if_it_waits _ _ c.args.tables.now asked.by asked.name.now asked.asked.now
    ready.allowed ready.quiet)

pub returns : goal.returns
returns c =
    rw (c.add_asked.ensures.rows, c.add_asked.ensures.entries) at c.break_own_cycles.ensures

use Rattle.manager_core.proofs.Victims.{settled_quiet}
use Rattle.manager_core.proofs.settling.settle_answered.Goals as goal

pub returns-then-may_close_cycle : goal.returns-then-may_close_cycle
returns-then-may_close_cycle c =
    rw (c.add_asked.ensures.rows, c.add_asked.ensures.entries) at c.break_cycles.ensures

pub returns-else-may_close_cycle : goal.returns-else-may_close_cycle
returns-else-may_close_cycle c =
    let ready = c.requires in
    let quiet = c.may_close_cycle.ensures c.if-may_close_cycle.false _ _ _ _
    ready.allowed ready.are ready.quiet in
    settled_quiet ready c.add_asked.ensures.rows c.add_asked.ensures.entries quiet

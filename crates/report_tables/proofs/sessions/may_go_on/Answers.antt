use Rattle.std.proofs.Common.{◌∙◌, sym, ap, not, ◌&&◌}
use Rattle.serial_spec.specs.Waits.{is_waits}
use Rattle.report_tables.proofs.Speaking.{may_go_on}
use Rattle.report_tables.proofs.sessions.may_go_on.Goals as goal

pub returns-else-is_same : goal.returns-else-is_same
returns-else-is_same c is also =
    let f = c.if-is_same.false in
    f ∙ sym (ap (λ b. b && not (is_waits c.args.answer.now)) f)
    ∙ may_go_on c.args.waits.now c.in-Some.waiting c.args.event.now c.args.answer.now c.is_same.result c.in-Some.is is also c.is_same.ensures.0 c.is_same.ensures.1

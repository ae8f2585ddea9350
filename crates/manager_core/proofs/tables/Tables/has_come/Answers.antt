use Rattle.std.proofs.Common.{ap, ◌∙◌}
use Rattle.manager_core.specs.Parking.{come_by}
use Rattle.manager_core.proofs.KeptOut.{has_come_as}
use Rattle.manager_core.proofs.tables.Tables.has_come.Goals as goal

pub returns : goal.returns
returns c rows h allowed are =
    c.come_by.ensures ∙ ap (λ cause. come_by cause c.args.when) (c.err.ensures.value ∙ c.number_by_marks.ensures.cause)
    ∙ has_come_as rows h c.args.self.now allowed are c.args.name.now c.number_by_marks.ensures.some c.args.when

use Rattle.std.proofs.Common.{FitsSigned, rules, sym, ap, ◌∙◌}
use Rattle.std.specs.Int.{w128}
use Rattle.std.proofs.lemmas.Int.{to_z-of_z}
use Rattle.serial_spec.specs.Flat.{same_reply}
use Rattle.serial_spec.specs.Sums.{reply_of_sum}
use Rattle.report_tables.proofs.Counting.{key_past, sum_at}
use Rattle.report_tables.proofs.serving.is_due_over.Goals as goal

pub returns-in-Some : goal.returns-in-Some
returns-in-Some c es tallied g at =
    let fits : FitsSigned w128 c.in-Some.sum.now = search rules in
    c.is_same_reply.ensures
    ∙ ap (same_reply c.args.reply.now) (c.reply_over.ensures ∙ ap reply_of_sum (to_z-of_z w128 c.in-Some.sum.now fits ∙ sum_at es c.args.groups.now.entries c.args.number _ g c.in-Some.sum.now tallied (sym c.in-Some.ensures.entry) at))

pub returns-in-None : goal.returns-in-None
returns-in-None c es tallied g at = absurd (key_past c.args.groups.now.entries c.args.number g (sym c.in-None.ensures.entry) at)

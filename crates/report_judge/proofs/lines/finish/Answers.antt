use Rattle.std.proofs.Common.{sym, ◌∙◌}
use Rattle.report_judge.proofs.Judging.{judged_faulty, judged_whole, not_over, over}
use Rattle.report_judge.proofs.Following.{on_ok}
use Rattle.report_judge.proofs.lines.finish.Goals as goal

pub returns-then-is_over : goal.returns-then-is_over
returns-then-is_over c =
    on_ok c.passes.result _ _ c.passes.ensures
    (λ v run bs stands.
    let e = over bs c.args.judge.now stands (sym c.is_over.ensures ∙ c.if-is_over.true) in
    judged_whole bs e.last v e.reads (run e.last e.seen e.ended e.line))

pub returns-else-is_over : goal.returns-else-is_over
returns-else-is_over c bs stands =
    judged_faulty bs c.args.judge.now.standing.line (not_over bs c.args.judge.now stands (sym c.is_over.ensures ∙ c.if-is_over.false))

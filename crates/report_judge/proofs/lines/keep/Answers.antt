use Rattle.std.proofs.Common.{ℕ, List, ◌≤◌, length, sym, subst}
use Rattle.report_judge.specs.Judging.{IsLine}
use Rattle.report_judge.proofs.Judging.{bytes_long}
use Rattle.report_judge.proofs.lines.keep.Goals as goal

pub returns-then-not-extend-clause-stands : goal.returns-then-not-extend-clause-stands
returns-then-not-extend-clause-stands c bs whole stands =
    let j = c.args.judge.now in
    let told = c.if-not-extend.ensures in
    record {
      short = subst (λ (p : List ℕ). length p ≤ 633) (sym told.1) stands.short;
      line = subst IsLine (sym told.1) stands.line;
      due = bytes_long bs j.kept c.args.bytes.now c.extend.new.self j.standing.line j.standing.seen j.standing.seen j.standing.faulty stands.line whole told.0 stands.due;
    }

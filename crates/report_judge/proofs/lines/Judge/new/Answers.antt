use Rattle.std.proofs.Common.{ℕ, List, [], ◌≤◌, false, length, refl, sym, subst, arith}
use Rattle.report_judge.specs.Judging.{GoesFrom, IsLine}
use Rattle.report_judge.proofs.Judging.{first_stands}
use Rattle.report_judge.proofs.lines.Judge.new.Goals as goal

pub returns-clause-stands : goal.returns-clause-stands
returns-clause-stands c = record {
  line = subst IsLine (sym c.new-2.ensures) refl;
  short = subst (λ (p : List ℕ). length p ≤ 633) (sym c.new-2.ensures) (omega arith);
  due = subst (λ (p : List ℕ). GoesFrom [] p 1 c.in_ok-seen.seen false) (sym c.new-2.ensures) (first_stands c.in_ok-seen.seen c.in_ok-seen.ensures);
}

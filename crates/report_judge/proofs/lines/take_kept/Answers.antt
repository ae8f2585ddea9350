use Rattle.std.proofs.Common.{ℕ, List, ◌++◌, ◌∷◌, [], ◌≤◌, length, refl, sym, subst, arith}
use Rattle.report_judge.specs.Judging.{GoesFrom, IsLine}
use Rattle.report_judge.proofs.lines.take_kept.Goals as goal

pub returns-clause-stands : goal.returns-clause-stands
returns-clause-stands c bs stands =
    let x = c.args.judge.now.standing in
    let y = c.take_line.new.standing in
    let whole = subst IsLine (sym c.as_bytes.ensures.value) stands.line in
    let due = subst (λ (p : List ℕ). GoesFrom bs p x.line x.seen x.faulty) (sym c.as_bytes.ensures.value) stands.due in
    record {
      short = subst (λ (p : List ℕ). length p ≤ 633) (sym c.clear.ensures) (omega arith);
      line = subst IsLine (sym c.clear.ensures) refl;
      due = subst (λ (p : List ℕ). GoesFrom (bs ++ 10 ∷ []) p y.line y.seen y.faulty) (sym c.clear.ensures) (c.in_ok-take_line.ensures.due bs whole due);
    }

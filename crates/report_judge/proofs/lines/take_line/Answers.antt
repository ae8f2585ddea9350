use Rattle.std.proofs.Common.{◌+◌, Bool, ◌++◌, ◌∷◌, [], sym, subst}
use Rattle.report_check.specs.Passing.{next}
use Rattle.report_judge.specs.Judging.{GoesFrom}
use Rattle.report_judge.specs.Kept.{Steps}
use Rattle.report_judge.proofs.Judging.{line_ended, line_refused}
use Rattle.report_judge.proofs.lines.take_line.Goals as goal

pub returns-then-branch-clause-due : goal.returns-then-branch-clause-due
returns-then-branch-clause-due c bs whole due =
    let x = c.args.standing.now in
    let p = c.args.line.now in
    let z = c.take.new.seen in
    subst (λ (b : Bool). GoesFrom (bs ++ 10 ∷ []) [] (x.line + 1) z b) (sym c.if-standing.false)
    (line_ended bs p x.line x.seen z whole (subst (λ (b : Bool). GoesFrom bs p x.line x.seen b) c.if-standing.false due)
    (λ r seen at. subst (λ (ok : Bool). Steps ok (next r p) z) c.if-branch.true (c.in_ok-take.ensures r seen at)))

pub returns-else-branch-clause-due : goal.returns-else-branch-clause-due
returns-else-branch-clause-due c bs whole due =
    let x = c.args.standing.now in
    let p = c.args.line.now in
    let z = c.take.new.seen in
    line_refused bs p x.line x.seen z whole (subst (λ (b : Bool). GoesFrom bs p x.line x.seen b) c.if-standing.false due)
    (λ r seen at. subst (λ (ok : Bool). Steps ok (next r p) z) c.if-branch.false (c.in_ok-take.ensures r seen at))

use Rattle.report_judge.proofs.Judging.{open_still, settled_so}
use Rattle.report_judge.proofs.lines.settled.Goals as goal

pub returns-then-judge-clause-settled : goal.returns-then-judge-clause-settled
returns-then-judge-clause-settled c bs stands = settled_so bs c.args.judge.now stands c.if-judge.true

pub returns-else-judge-clause-wanted : goal.returns-else-judge-clause-wanted
returns-else-judge-clause-wanted c none bs stands = open_still bs c.args.judge.now stands c.if-judge.false

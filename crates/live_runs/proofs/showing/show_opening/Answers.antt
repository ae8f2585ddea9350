use Rattle.durable_top.specs.Store.{plain}
use Rattle.report_text.specs.Lines.{opening_text}
use Rattle.live_runs.proofs.Passing.{passed, unpassed}
use Rattle.live_runs.proofs.showing.show_opening.Goals as goal

pub returns-clause-ok : goal.returns-clause-ok
returns-clause-ok g c =
    passed _ c.args.out.now c.write_opening.new.out c.pass_on.new.self (opening_text (plain c.args.rows.now))
    c.in_ok-write_opening.ensures.ok c.pass_on.ensures.kept c.pass_on.result c.pass_on.ensures.asked

pub returns-clause-err : goal.returns-clause-err
returns-clause-err g c =
    unpassed _ c.args.out.now c.write_opening.new.out c.pass_on.new.self (opening_text (plain c.args.rows.now))
    c.in_ok-write_opening.ensures.ok c.pass_on.ensures.kept c.pass_on.result c.pass_on.ensures.asked

use Rattle.session_runs.proofs.Exports.{done, missed, run_accounts}
use Rattle.worker_runs.proofs.reporting.serve_over.Goals as goal

pub returns-clause-done : goal.returns-clause-done
returns-clause-done g c =
    let r = c.run_text-ran in let e = c.end_run.ensures in
    done g.S.TopStore g.W.Write.contents _ _ _ _ _ _ _ _ r.result r.ensures.ok e.left e.kept e.dropped

pub returns-clause-undone : goal.returns-clause-undone
returns-clause-undone g c =
    let r = c.run_text-ran in let e = c.end_run.ensures in
    missed g.S.TopStore _ _ _ _ _ _ _ _ _ _ _ _ r.result r.ensures.ok r.ensures.err r.ensures.asked r.ensures.unwritten e.left e.kept e.dropped e.unwritten e.unflushed e.told

pub returns-clause-accounts : goal.returns-clause-accounts
returns-clause-accounts g c =
    let r = c.run_text-ran in let e = c.end_run.ensures in
    run_accounts g.S.TopStore _ _ _ _ _ _ _ _ _ _ _ e.passed e.silent
    (missed g.S.TopStore _ _ _ _ _ _ _ _ _ _ _ _ r.result r.ensures.ok r.ensures.err r.ensures.asked r.ensures.unwritten e.left e.kept e.dropped e.unwritten e.unflushed e.told)
    e.status

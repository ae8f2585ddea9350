use Rattle.std.specs.Prelude.{codes}
use Rattle.line_language.specs.Report.{line, spelled_rows}
use Rattle.durable_top.specs.Store.{plain}
use Rattle.txn_bytes.proofs.Exports.{front_of, on_err, then_on_err}
use Rattle.report_text.proofs.report.write_opening.Goals as goal

pub returns-in_err-put-clause-err : goal.returns-in_err-put-clause-err
returns-in_err-put-clause-err g c =
    on_err c.from_residual.result (front_of _ _ (line (codes "open")) (spelled_rows (plain c.args.rows.now)) c.in_err-put.ensures.err)

pub returns-clause-err : goal.returns-clause-err
returns-clause-err g c = then_on_err _ _ _ (line (codes "open")) (spelled_rows (plain c.args.rows.now)) _ c.in_ok-put.ensures.ok c.put_opening.ensures.err

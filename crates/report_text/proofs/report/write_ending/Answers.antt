use Rattle.std.proofs.Common.{List, ℕ, ◌++◌}
use Rattle.std.specs.Prelude.{codes}
use Rattle.line_language.specs.Report.{line, spelled_rows}
use Rattle.txn_bytes.proofs.Exports.{front_of, on_err, then, then_front, then_on_err}
use Rattle.report_text.proofs.report.write_ending.Goals as goal

pub returns-in_err-put-clause-err : goal.returns-in_err-put-clause-err
returns-in_err-put-clause-err g c =
    let t : List ℕ = line (codes "table") in
    let f : List ℕ = spelled_rows c.args.table.now.rows in
    on_err c.from_residual.result (front_of _ _ (t ++ f) (line (codes "end")) (front_of _ _ t f c.in_err-put.ensures.err))

pub returns-in_err-put_table-clause-err : goal.returns-in_err-put_table-clause-err
returns-in_err-put_table-clause-err g c =
    let t : List ℕ = line (codes "table") in
    let f : List ℕ = spelled_rows c.args.table.now.rows in
    on_err c.from_residual-in_err-put_table.result (front_of _ _ (t ++ f) (line (codes "end")) (then_front _ _ _ t f c.in_ok-put.ensures.ok c.in_err-put_table.ensures.err))

pub returns-clause-err : goal.returns-clause-err
returns-clause-err g c =
    let t : List ℕ = line (codes "table") in
    let f : List ℕ = spelled_rows c.args.table.now.rows in
    let table = then _ _ _ t f c.in_ok-put.ensures.ok c.in_ok-put_table.ensures.ok in
    then_on_err _ _ _ (t ++ f) (line (codes "end")) _ table c.put-2.ensures.err

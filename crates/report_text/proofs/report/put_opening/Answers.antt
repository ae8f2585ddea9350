use Rattle.std.proofs.Common.{◌≡◌, ◌+◌, ℕ, Some, drop, subst}
use Rattle.std.specs.Prelude.{slice_get}
use Rattle.txn_bytes.specs.Written.{AppendsFront}
use Rattle.txn_bytes.proofs.Exports.{front_of, on_err, then, then_front}
use Rattle.serial_spec.specs.Rows.{Rows}
use Rattle.line_language.specs.Report.{spelled_rows}
use Rattle.durable_top.specs.Store.{plain}
use Rattle.report_text.specs.Lines.{row_lines}
use Rattle.report_text.proofs.Parts.{plain-at, plain-take, spelled_rows-at, spelled_rows-parted}
use Rattle.report_text.proofs.report.put_opening.Goals as goal

pub returns-in_err-put_opening_row-clause-err : goal.returns-in_err-put_opening_row-clause-err
returns-in_err-put_opening_row-clause-err g c =
    let rows : Rows = plain c.args.rows.now in
    let k : ℕ = c.loop-row.row-index in
    let there : slice_get rows k ≡ Some (c.row-item.result.key, c.row-item.result.value) = plain-at c.args.rows.now k c.row-item.result c.loop-row-test.true c.row-item.is in
    let before = rw plain-take at c.loop-row.invariant in
    let whole = then_front _ _ _ _ (row_lines (slice_get rows k)) before (rw there c.in_err-put_opening_row.ensures.err) in
    on_err c.from_residual.result
    (subst (λ bs. AppendsFront (g.W.Write.contents c.args.out.now) (g.W.Write.contents c.put_opening_row.new.out) bs) (spelled_rows-parted rows k)
    (front_of _ _ _ (spelled_rows (drop (k + 1) rows)) whole))

pub loop-row-preserved : goal.loop-row-preserved
loop-row-preserved g c =
    let rows : Rows = plain c.args.rows.now in
    let k : ℕ = c.loop-row.row-index in
    let there : slice_get rows k ≡ Some (c.row-item.result.key, c.row-item.result.value) = plain-at c.args.rows.now k c.row-item.result c.loop-row-test.true c.row-item.is in
    let before = rw plain-take at c.loop-row.invariant in
    rw (plain-take, spelled_rows-at rows k) (then _ _ _ _ (row_lines (slice_get rows k)) before (rw there c.in_ok-put_opening_row.ensures.ok))

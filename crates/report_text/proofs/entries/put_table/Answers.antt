use Rattle.std.proofs.Common.{◌+◌, ℕ, drop, subst}
use Rattle.std.specs.Prelude.{slice_get}
use Rattle.txn_bytes.specs.Written.{AppendsFront}
use Rattle.txn_bytes.proofs.Exports.{front_of, on_err, then, then_front}
use Rattle.serial_spec.specs.Rows.{Rows}
use Rattle.line_language.specs.Report.{spelled_rows}
use Rattle.report_text.specs.Lines.{row_lines}
use Rattle.report_text.proofs.Parts.{spelled_rows-at, spelled_rows-parted}
use Rattle.report_text.proofs.entries.put_table.Goals as goal

pub returns-in_err-put_row_at-clause-err : goal.returns-in_err-put_row_at-clause-err
returns-in_err-put_row_at-clause-err g c =
    let rows : Rows = c.args.table.now.rows in
    let k : ℕ = c.loop-place.place in
    let whole = then_front _ _ _ _ (row_lines (slice_get rows k)) c.loop-place.invariant c.in_err-put_row_at.ensures.err in
    on_err c.from_residual.result
    (subst (λ bs. AppendsFront (g.W.Write.contents c.args.out.now) (g.W.Write.contents c.put_row_at.new.out) bs) (spelled_rows-parted rows k)
    (front_of _ _ _ (spelled_rows (drop (k + 1) rows)) whole))

pub loop-place-preserved : goal.loop-place-preserved
loop-place-preserved g c =
    let rows : Rows = c.args.table.now.rows in
    let k : ℕ = c.loop-place.place in
    rw (spelled_rows-at rows k) (then _ _ _ _ (row_lines (slice_get rows k)) c.loop-place.invariant c.in_ok-put_row_at.ensures.ok)

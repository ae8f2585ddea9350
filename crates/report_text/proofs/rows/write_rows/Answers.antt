use Rattle.std.proofs.Common.{◌+◌, List, ℕ, drop, subst}
use Rattle.txn_bytes.specs.Written.{AppendsFront}
use Rattle.txn_bytes.proofs.Exports.{front_of, on_err, then, then_front}
use Rattle.line_language.specs.Report.{line}
use Rattle.durable_top.specs.declared.store.Row.{Row}
use Rattle.report_text.specs.Rows.{numbered_row, numbered_rows}
use Rattle.report_text.proofs.Parts.{numbered-at, numbered-parted}
use Rattle.report_text.proofs.rows.write_rows.Goals as goal

pub returns-in_err-put_numbered_line-clause-err : goal.returns-in_err-put_numbered_line-clause-err
returns-in_err-put_numbered_line-clause-err g c =
    let rows : List Row = c.args.rows.now in
    let k : ℕ = c.loop-row.row-index in
    let whole = then_front _ _ _ _ (line (numbered_row c.row-item.result)) c.loop-row.invariant c.in_err-put_numbered_line.ensures.err in
    on_err c.from_residual.result
    (subst (λ bs. AppendsFront (g.W.Write.contents c.args.out.now) (g.W.Write.contents c.put_numbered_line.new.out) bs)
    (numbered-parted rows k c.row-item.result c.loop-row-test.true c.row-item.is)
    (front_of _ _ _ (numbered_rows (drop (k + 1) rows)) whole))

pub loop-row-preserved : goal.loop-row-preserved
loop-row-preserved g c =
    rw (numbered-at c.args.rows.now c.loop-row.row-index c.row-item.result c.loop-row-test.true c.row-item.is)
    (then _ _ _ _ (line (numbered_row c.row-item.result)) c.loop-row.invariant c.in_ok-put_numbered_line.ensures.ok)

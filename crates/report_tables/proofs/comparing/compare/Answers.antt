use Rattle.std.proofs.Common.{◌<◌, ◌≤◌, length, ◌∙◌, sym, arith}
use Rattle.report_tables.proofs.Matching.{compared_first, compared_more}
use Rattle.report_tables.proofs.comparing.compare.Goals as goal

pub returns-else-place-table : goal.returns-else-place-table
returns-else-place-table c =
    let es = c.args.values.now.entries in
    let table = c.args.table.now in
    let none : length es ≤ c.loop-number.number = omega (arith, c.len-number-end.ensures.len, c.loop-number-test.false) in
    let less : c.loop-number.place < length table = omega (arith, c.loop-number.invariant.0, c.if-place-table.false) in
    sym (compared_first c.args.first table es ∙ c.loop-number.invariant.1 ∙ compared_more c.args.first table es c.loop-number.place c.loop-number.number none less)

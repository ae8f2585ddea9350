use Rattle.std.proofs.Common.{SFits, w64}
use Rattle.std.proofs.lemmas.Int.{to_z-of_z}
use Rattle.serial_spec.specs.Rows.{value_in}
use Rattle.durable_top.proofs.Numbering.{commits_joined, same_keys_made}
use Rattle.durable_top.proofs.row_table.make.Goals as goal

pub returns-in-Ok-clause-same : goal.returns-in-Ok-clause-same
returns-in-Ok-clause-same c =
    same_keys_made _ c.args.changes.now (value_in c.args.values.now.rows) _ (value_in c.args.numbers.now.rows) _ c.requires.same c.in-Ok.ensures.values c.in-Ok.ensures.numbers

pub returns-in-Ok-clause-ok : goal.returns-in-Ok-clause-ok
returns-in-Ok-clause-ok c =
    let fits : SFits w64 c.args.number = c.ranges.number in
    let made = c.in-Ok.ensures.numbers in
    let is = simp to_z-of_z at made in
    commits_joined c.args.number _ c.args.changes.now c.args.values.now.rows c.change_both.new.values.rows (value_in c.args.numbers.now.rows) _
    c.requires.same c.has_none_below_0.ensures c.requires.next c.requires.fits c.in-Ok.ensures.values is

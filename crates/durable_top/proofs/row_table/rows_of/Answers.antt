use Rattle.std.proofs.Common.{SFits, w64, rules, sym, arith}
use Rattle.std.proofs.lemmas.Int.{to_z-of_z}
use Rattle.serial_spec.specs.Rows.{value_in}
use Rattle.durable_top.proofs.Tables.{row_within}
use Rattle.durable_top.proofs.Numbering.{joined_more, joined_numbered}
use Rattle.durable_top.proofs.row_table.rows_of.Goals as goal
use Rattle.durable_top.proofs.row_table.rows_of.Goals.{in-Some+in_ok-push, in_default}

pub loop-place-preserved : goal.loop-place-preserved
loop-place-preserved c = elim c.match-at.branch [
  | in-Some+in_ok-push w ↦
      let fits : SFits w64 w.in-Some.value = search rules in
      let counted : SFits w64 w.number_of-commit.result = search rules in
      rw (w.rows-is, w.in_ok-push.ensures.items)
      (joined_more c.args.values.now.rows (value_in c.args.numbers.now.rows) c.loop-place.rows.items c.loop-place.place _ _ _ c.loop-place.invariant (simp to_z-of_z (sym w.in-Some.ensures)) (simp to_z-of_z w.number_of-commit.ensures))
  | in_default w ↦ absurd (row_within c.args.values.now.rows c.loop-place.place (omega arith) w.in_default.ensures)
]

pub returns-in_err-push-clause-least : goal.returns-in_err-push-clause-least
returns-in_err-push-clause-least c = joined_numbered c.args.values.now.rows (value_in c.args.numbers.now.rows) _ c.has_none_below_0.ensures

pub returns-clause-least : goal.returns-clause-least
returns-clause-least c = joined_numbered c.args.values.now.rows (value_in c.args.numbers.now.rows) _ c.has_none_below_0.ensures

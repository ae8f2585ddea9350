use Rattle.std.proofs.Common.{◌≡◌, false, is_some, ◌∙◌, rules, SFits, w64}
use Rattle.std.proofs.lemmas.Int.{to_z-of_z}
use Rattle.serial_spec.specs.Rows.{value_in}
use Rattle.durable_top.proofs.Tables.{first_put}
use Rattle.durable_top.proofs.rows.put_first.Goals as goal

pub returns-in_ok-put : goal.returns-in_ok-put
returns-in_ok-put c =
    let fits : SFits w64 c.args.value = c.ranges.value in
    let put_row = simp to_z-of_z at c.in_ok-put.ensures.ok in
    let none : is_some (value_in c.args.table.now.rows c.args.key.now) ≡ false = search rules in
    put_row ∙ first_put (value_in c.args.table.now.rows) c.args.key.now c.args.value none

use Rattle.std.proofs.Common.{◌≡◌, false, is_some, Some, rules, sym, ap, ◌∙◌, SFits, w64}
use Rattle.std.proofs.lemmas.Int.{to_z-of_z}
use Rattle.serial_spec.specs.Rows.{value_in}
use Rattle.durable_top.proofs.Entries.{entries_put}
use Rattle.durable_top.proofs.Tables.{first_put, first_kept}
use Rattle.durable_top.proofs.numbers.put_first.Goals as goal

pub returns-then-is_some : goal.returns-then-is_some
returns-then-is_some c =
    let m = value_in c.args.numbers.now.entries in
    first_kept m c.args.row.now.key c.args.row.now.commit (sym (ap is_some c.number_in.ensures) ∙ sym c.is_some.ensures ∙ c.if-is_some.true)

pub returns-in-Ok : goal.returns-in-Ok
returns-in-Ok c =
    let es = c.args.numbers.now.entries in
    let none : is_some (value_in es c.args.row.now.key) ≡ false = sym (ap is_some c.number_in.ensures) ∙ sym c.is_some.ensures ∙ c.if-is_some.false in
    let fits : SFits w64 c.args.row.now.commit = search rules in
    let made = c.in-Ok.ensures.updates.0 in
    let is = simp to_z-of_z at made in
    entries_put es c.insert.new.self.entries c.args.row.now.key (Some c.args.row.now.commit) is
    ∙ first_put (value_in es) c.args.row.now.key c.args.row.now.commit none

use Rattle.std.proofs.Common.{◌≡◌, true, false, is_some, Some, None, sym, ap, ◌∙◌, SFits, w64}
use Rattle.std.proofs.lemmas.Int.{to_z-of_z}
use Rattle.serial_spec.specs.Rows.{value_in}
use Rattle.serial_spec.specs.Serial.{put}
use Rattle.durable_top.proofs.Entries.{entries_put, number_given, number_taken}
use Rattle.durable_top.proofs.numbers.put_reserved.Goals as goal

pub returns-then-is_some-clause-put : goal.returns-then-is_some-clause-put
returns-then-is_some-clause-put c =
    let es = c.args.numbers.now.entries in
    let fits : SFits w64 c.args.number = c.ranges.number in
    let some : is_some c.args.change.now.value ≡ true = sym c.is_some.ensures ∙ c.if-is_some.true in
    let made = rw c.unwrap.ensures at c.insert.ensures.updates in
    let is = simp to_z-of_z at made.0 in
    entries_put es c.insert.new.self.entries c.args.change.now.key (Some c.args.number) is
    ∙ ap (put (value_in es) c.args.change.now.key) (sym (number_given c.args.number c.args.change.now.value some))

pub returns-else-is_some-clause-put : goal.returns-else-is_some-clause-put
returns-else-is_some-clause-put c =
    let es = c.args.numbers.now.entries in
    let none : is_some c.args.change.now.value ≡ false = sym c.is_some.ensures ∙ c.if-is_some.false in
    entries_put es c.swap_remove.new.self.entries c.args.change.now.key None c.swap_remove.ensures.updates.0
    ∙ ap (put (value_in es) c.args.change.now.key) (sym (number_taken _ c.args.change.now.value none))

use Rattle.std.proofs.Common.{◌≡◌, ◌<◌, ◌≤◌, ◌+◌, ◌-◌, ◌^◌, ◌++◌, ◌∷◌, ℕ, List, [], length, take, refl, ap, sym, ◌∙◌, arith, Some, None}
use Rattle.std.proofs.lemmas.Option.{slice_get_read}
use Rattle.slot_list.specs.Slots.{members}
use Rattle.slot_list.proofs.Picks.{members_length, none_past}
use Rattle.slot_list.proofs.slots.member_at.Goals as goal

pub returns-then-place-len : goal.returns-then-place-len
returns-then-place-len g c =
    let ms = members c.args.slots.now c.args.order.now c.args.len in
    sym (slice_get_read ms c.args.len c.args.place c.member_of.result.now (sym (members_length c.args.slots.now c.args.order.now c.args.len c.requires)) c.if-place-len.true c.member_of.ensures)

pub returns-else-place-len : goal.returns-else-place-len
returns-else-place-len g c = sym (none_past c.args.slots.now c.args.order.now c.args.len c.requires c.args.place (omega (arith, c.if-place-len.false)))

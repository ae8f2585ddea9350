use Rattle.std.proofs.Common.{◌≡◌, ◌<◌, ◌≤◌, ◌+◌, ◌-◌, ◌^◌, ◌++◌, ◌∷◌, ℕ, List, [], length, take, refl, ap, sym, ◌∙◌, arith, Some, None}
use Rattle.slot_list.specs.Slots.{members}
use Rattle.slot_list.proofs.Picks.{members_length}
use Rattle.slot_list.proofs.list.SlotList.at.Goals as goal

pub member_of-requires-clause-place : goal.member_of-requires-clause-place
member_of-requires-clause-place g c =
    let l = c.self.inside in
    let h : c.args.place < length (members l.slots.items l.order.items l.len) = rw (sym c.self.view_is) at c.requires in
    omega (arith, h, members_length l.slots.items l.order.items l.len c.self.invariant.0)

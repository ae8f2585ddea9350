use Rattle.std.proofs.Common.{◌≡◌, ◌<◌, ◌≤◌, ◌+◌, ◌-◌, ◌^◌, ◌++◌, ◌∷◌, ℕ, List, [], length, take, refl, ap, sym, ◌∙◌, arith, Some, None}
use Rattle.slot_list.specs.Slots.{members}
use Rattle.slot_list.proofs.Picks.{members_length}
use Rattle.slot_list.proofs.list.SlotList.remove.Goals as goal

pub take_at-taken-requires-clause-place : goal.take_at-taken-requires-clause-place
take_at-taken-requires-clause-place g c =
    let l = c.self.inside in
    let h : c.args.place < length (members l.slots.items l.order.items l.len) = rw (sym c.self.view_is) at c.requires in
    omega (arith, h, members_length l.slots.items l.order.items l.len c.self.invariant.0)

pub invariant_of-self : goal.invariant_of-self
invariant_of-self g c =
    let i = c.self.invariant in
    let t = c.take_at-taken.ensures in
    (t.kept, omega (arith, i.1, t.count), omega (arith, i.2, t.slots), omega (arith, i.3, t.order), i.4)

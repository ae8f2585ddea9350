use Rattle.std.proofs.Common.{◌≡◌, ◌<◌, ◌≤◌, ◌+◌, ◌-◌, ◌^◌, ◌++◌, ◌∷◌, ℕ, List, [], length, take, refl, ap, sym, ◌∙◌, arith, Some, None}
use Rattle.slot_list.specs.Slots.{members}
use Rattle.slot_list.proofs.Picks.{members_length}
use Rattle.slot_list.proofs.list.SlotList.insert_reserved.Goals as goal

pub put_at-requires-clause-place : goal.put_at-requires-clause-place
put_at-requires-clause-place g c =
    let l = c.self.inside in
    let h : c.args.place ≤ length (members l.slots.items l.order.items l.len) = rw (sym c.self.view_is) at c.requires.place in
    omega (arith, h, members_length l.slots.items l.order.items l.len c.self.invariant.0)

pub put_at-requires-clause-few : goal.put_at-requires-clause-few
put_at-requires-clause-few g c =
    let l = c.self.inside in
    let i = c.self.invariant in
    let h : length (members l.slots.items l.order.items l.len) < l.capacity = rw (sym c.self.view_is) at c.requires.room in
    omega (arith, h, members_length l.slots.items l.order.items l.len i.0, i.2, i.3, i.4)

pub put_at-requires-clause-slots : goal.put_at-requires-clause-slots
put_at-requires-clause-slots g c =
    let l = c.self.inside in
    let i = c.self.invariant in
    let h : length (members l.slots.items l.order.items l.len) < l.capacity = rw (sym c.self.view_is) at c.requires.room in
    omega (arith, h, members_length l.slots.items l.order.items l.len i.0, i.2, i.3, i.4)

pub put_at-requires-clause-order : goal.put_at-requires-clause-order
put_at-requires-clause-order g c =
    let l = c.self.inside in
    let i = c.self.invariant in
    let h : length (members l.slots.items l.order.items l.len) < l.capacity = rw (sym c.self.view_is) at c.requires.room in
    omega (arith, h, members_length l.slots.items l.order.items l.len i.0, i.2, i.3, i.4)

pub invariant_of-self : goal.invariant_of-self
invariant_of-self g c =
    let l = c.self.inside in
    let i = c.self.invariant in
    let h : length (members l.slots.items l.order.items l.len) < l.capacity = rw (sym c.self.view_is) at c.requires.room in
    let room : l.len < l.capacity = omega (arith, h, members_length l.slots.items l.order.items l.len i.0) in
    (c.put_at.ensures.kept, c.put_at.ensures.count l.capacity room i.1, omega (arith, i.2, c.put_at.ensures.slots), omega (arith, i.3, c.put_at.ensures.order), i.4)

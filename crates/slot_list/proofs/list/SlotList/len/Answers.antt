use Rattle.std.proofs.Common.{◌≡◌, ◌<◌, ◌≤◌, ◌+◌, ◌-◌, ◌^◌, ◌++◌, ◌∷◌, ℕ, List, [], length, take, refl, ap, sym, ◌∙◌, arith, Some, None}
use Rattle.slot_list.proofs.Picks.{members_length}
use Rattle.slot_list.proofs.list.SlotList.len.Goals as goal

pub returns-clause-len : goal.returns-clause-len
returns-clause-len g c =
    let l = c.self.inside in
    rw (← c.self.view_is) (sym (members_length l.slots.items l.order.items l.len c.self.invariant.0))

pub returns-clause-within : goal.returns-clause-within
returns-clause-within g c =
    let l = c.self.inside in
    let i = c.self.invariant in
    rw (← c.self.view_is) (omega (arith, members_length l.slots.items l.order.items l.len i.0, i.0.some, i.1))

pub returns-clause-few : goal.returns-clause-few
returns-clause-few g c =
    let l = c.self.inside in
    let i = c.self.invariant in
    rw (← c.self.view_is) (omega (arith, members_length l.slots.items l.order.items l.len i.0, i.0.some, i.1, i.4))

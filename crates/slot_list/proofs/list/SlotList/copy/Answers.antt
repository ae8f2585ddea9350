use Rattle.std.proofs.Common.{◌≡◌, ◌<◌, ◌≤◌, ◌+◌, ◌-◌, ◌^◌, ◌++◌, ◌∷◌, ℕ, List, [], length, take, refl, ap, sym, ◌∙◌, arith, Some, None}
use Rattle.slot_list.proofs.list.SlotList.copy.Goals as goal

pub invariant_of-result : goal.invariant_of-result
invariant_of-result g c =
    let l = c.self.inside in
    let i = c.self.invariant in
    let v = c.extend_from_slice.new.self in
    let o = c.extend_from_slice-2.new.self in
    let slots : v.items ≡ l.slots.items = c.in_ok-extend_from_slice.ensures.items ∙ rw (c.new-slots.ensures.items, c.deref.ensures.value) refl in
    let order : o.items ≡ l.order.items = c.in_ok-extend_from_slice-2.ensures.items ∙ rw (c.new-order.ensures.items, c.deref-2.ensures.value) refl in
    let long : length v.items ≡ length l.slots.items = ap length slots in
    let longer : length o.items ≡ length l.order.items = ap length order in (
      rw (slots, order) i.0,
      c.common-capacity.ensures.most (length v.items) (omega (arith, v.ok.0, v.ok.1, c.capacity.ensures)) (omega (arith, o.ok.0, o.ok.1, c.capacity-2.ensures, long, longer, i.0.count)) (omega (arith, long, i.1, i.4)),
      omega (arith, c.common-capacity.ensures.slots, c.capacity.ensures),
      omega (arith, c.common-capacity.ensures.order, c.capacity-2.ensures),
      c.common-capacity.ensures.few,
    )

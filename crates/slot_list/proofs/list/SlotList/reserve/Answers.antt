use Rattle.std.proofs.Common.{◌≡◌, ◌<◌, ◌≤◌, ◌+◌, ◌-◌, ◌^◌, ◌++◌, ◌∷◌, ℕ, List, [], length, take, refl, ap, sym, ◌∙◌, arith, Some, None}
use Rattle.slot_list.proofs.Picks.{members_length}
use Rattle.slot_list.proofs.list.SlotList.reserve.Goals as goal

pub returns-then-additional-self-clause-ok : goal.returns-then-additional-self-clause-ok
returns-then-additional-self-clause-ok g c =
    let l = c.self.inside in
    let i = c.self.invariant in
    let inside : length c.args.self.now.items ≡ l.len = rw (← c.self.view_is) (members_length l.slots.items l.order.items l.len i.0) in
    let room : c.args.self.now.capacity ≡ l.capacity = rw (← c.self.view_is) refl in
    omega (arith, inside, room, i.0.some, i.1, c.if-additional-self.true)

pub returns-then-more-len-clause-succeeds : goal.returns-then-more-len-clause-succeeds
returns-then-more-len-clause-succeeds g c =
    let l = c.self.inside in
    let i = c.self.invariant in
    let inside : length c.args.self.now.items ≡ l.len = rw (← c.self.view_is) (members_length l.slots.items l.order.items l.len i.0) in
    let room : c.args.self.now.capacity ≡ l.capacity = rw (← c.self.view_is) refl in
    λ h. absurd (omega (arith, h, inside, room, i.0.some, i.1, c.if-additional-self.false))

pub returns-in_err-reserve-clause-succeeds : goal.returns-in_err-reserve-clause-succeeds
returns-in_err-reserve-clause-succeeds g c =
    let l = c.self.inside in
    let i = c.self.invariant in
    let inside : length c.args.self.now.items ≡ l.len = rw (← c.self.view_is) (members_length l.slots.items l.order.items l.len i.0) in
    let room : c.args.self.now.capacity ≡ l.capacity = rw (← c.self.view_is) refl in
    λ h. absurd (omega (arith, h, inside, room, i.0.some, i.1, c.if-additional-self.false))

pub returns-in_err-reserve-2-clause-succeeds : goal.returns-in_err-reserve-2-clause-succeeds
returns-in_err-reserve-2-clause-succeeds g c =
    let l = c.self.inside in
    let i = c.self.invariant in
    let inside : length c.args.self.now.items ≡ l.len = rw (← c.self.view_is) (members_length l.slots.items l.order.items l.len i.0) in
    let room : c.args.self.now.capacity ≡ l.capacity = rw (← c.self.view_is) refl in
    λ h. absurd (omega (arith, h, inside, room, i.0.some, i.1, c.if-additional-self.false))

pub invariant_of-self-2 : goal.invariant_of-self-2
invariant_of-self-2 g c =
    let l = c.self.inside in
    let i = c.self.invariant in
    let inside : length c.args.self.now.items ≡ l.len = rw (← c.self.view_is) (members_length l.slots.items l.order.items l.len i.0) in
    let room : c.args.self.now.capacity ≡ l.capacity = rw (← c.self.view_is) refl in
    let v = c.reserve.new.self in
    let o = c.reserve-2.new.self in
    let long : length v.items ≡ length l.slots.items = ap length c.reserve.ensures.items in
    let longer : length o.items ≡ length l.order.items = ap length c.reserve-2.ensures.items in
    let most = c.common-self-inside.ensures.most in (
      rw (c.reserve.ensures.items, c.reserve-2.ensures.items) i.0,
      most (length v.items) (omega (arith, v.ok.0, v.ok.1, c.capacity.ensures)) (omega (arith, o.ok.0, o.ok.1, c.capacity-2.ensures, long, longer, i.0.count)) (omega (arith, long, i.1, i.4)),
      omega (arith, c.common-self-inside.ensures.slots, c.capacity.ensures),
      omega (arith, c.common-self-inside.ensures.order, c.capacity-2.ensures),
      c.common-self-inside.ensures.few,
    )

pub returns-clause-ok : goal.returns-clause-ok
returns-clause-ok g c =
    let l = c.self.inside in
    let i = c.self.invariant in
    let inside : length c.args.self.now.items ≡ l.len = rw (← c.self.view_is) (members_length l.slots.items l.order.items l.len i.0) in
    let room : c.args.self.now.capacity ≡ l.capacity = rw (← c.self.view_is) refl in
    let v = c.reserve.new.self in
    let o = c.reserve-2.new.self in
    let long : length v.items ≡ length l.slots.items = ap length c.reserve.ensures.items in
    let longer : length o.items ≡ length l.order.items = ap length c.reserve-2.ensures.items in
    let most = c.common-self-inside.ensures.most in
    let made : l.len + c.args.additional ≤ c.common-self-inside.result =
    most (l.len + c.args.additional)
    (omega (arith, c.in_ok-reserve.ensures.ok, c.reserve.ensures.len, c.capacity.ensures, c.len.ensures, i.0.some, l.slots.ok.0, l.slots.ok.1))
    (omega (arith, c.in_ok-reserve-2.ensures.ok, c.reserve-2.ensures.len, c.capacity-2.ensures, c.len.ensures, i.0.some, i.0.count, l.slots.ok.0, l.slots.ok.1, l.order.ok.0, l.order.ok.1))
    (omega (arith, c.if-more-len.false, c.len.ensures, c.len-2.ensures, i.0.some, i.1, i.4, l.slots.ok.0)) in
    omega (arith, made, inside)

pub returns-clause-kept : goal.returns-clause-kept
returns-clause-kept g c =
    let l = c.self.inside in
    let i = c.self.invariant in
    let inside : length c.args.self.now.items ≡ l.len = rw (← c.self.view_is) (members_length l.slots.items l.order.items l.len i.0) in
    let room : c.args.self.now.capacity ≡ l.capacity = rw (← c.self.view_is) refl in
    let v = c.reserve.new.self in
    let o = c.reserve-2.new.self in
    let long : length v.items ≡ length l.slots.items = ap length c.reserve.ensures.items in
    let longer : length o.items ≡ length l.order.items = ap length c.reserve-2.ensures.items in
    let most = c.common-self-inside.ensures.most in
    let made : l.capacity ≤ c.common-self-inside.result =
    most l.capacity (omega (arith, i.2, c.reserve.ensures.capacity, c.capacity.ensures)) (omega (arith, i.3, c.reserve-2.ensures.capacity, c.capacity-2.ensures)) i.4 in
    omega (arith, made, room)

pub returns-then-additional-self-clause-within : goal.returns-then-additional-self-clause-within
returns-then-additional-self-clause-within g c =
    let l = c.self.inside in
    let i = c.self.invariant in
    let inside : length c.args.self.now.items ≡ l.len = rw (← c.self.view_is) (members_length l.slots.items l.order.items l.len i.0) in
    let room : c.args.self.now.capacity ≡ l.capacity = rw (← c.self.view_is) refl in
    omega (arith, inside, room, i.0.some, i.1)

pub returns-then-more-len-clause-within : goal.returns-then-more-len-clause-within
returns-then-more-len-clause-within g c =
    let l = c.self.inside in
    let i = c.self.invariant in
    let inside : length c.args.self.now.items ≡ l.len = rw (← c.self.view_is) (members_length l.slots.items l.order.items l.len i.0) in
    let room : c.args.self.now.capacity ≡ l.capacity = rw (← c.self.view_is) refl in
    omega (arith, inside, room, i.0.some, i.1)

pub returns-in_err-reserve-clause-within : goal.returns-in_err-reserve-clause-within
returns-in_err-reserve-clause-within g c =
    let l = c.self.inside in
    let i = c.self.invariant in
    let inside : length c.args.self.now.items ≡ l.len = rw (← c.self.view_is) (members_length l.slots.items l.order.items l.len i.0) in
    let room : c.args.self.now.capacity ≡ l.capacity = rw (← c.self.view_is) refl in
    rw c.reserve.ensures.items (omega (arith, members_length l.slots.items l.order.items l.len i.0, i.0.some, i.1))

pub returns-in_err-reserve-2-clause-within : goal.returns-in_err-reserve-2-clause-within
returns-in_err-reserve-2-clause-within g c =
    let l = c.self.inside in
    let i = c.self.invariant in
    let inside : length c.args.self.now.items ≡ l.len = rw (← c.self.view_is) (members_length l.slots.items l.order.items l.len i.0) in
    let room : c.args.self.now.capacity ≡ l.capacity = rw (← c.self.view_is) refl in
    rw (c.reserve.ensures.items, c.reserve-2.ensures.items) (omega (arith, members_length l.slots.items l.order.items l.len i.0, i.0.some, i.1))

pub returns-clause-within : goal.returns-clause-within
returns-clause-within g c =
    let l = c.self.inside in
    let i = c.self.invariant in
    let inside : length c.args.self.now.items ≡ l.len = rw (← c.self.view_is) (members_length l.slots.items l.order.items l.len i.0) in
    let room : c.args.self.now.capacity ≡ l.capacity = rw (← c.self.view_is) refl in
    let v = c.reserve.new.self in
    let o = c.reserve-2.new.self in
    let long : length v.items ≡ length l.slots.items = ap length c.reserve.ensures.items in
    let longer : length o.items ≡ length l.order.items = ap length c.reserve-2.ensures.items in
    let most = c.common-self-inside.ensures.most in
    let made : l.capacity ≤ c.common-self-inside.result =
    most l.capacity (omega (arith, i.2, c.reserve.ensures.capacity, c.capacity.ensures)) (omega (arith, i.3, c.reserve-2.ensures.capacity, c.capacity-2.ensures)) i.4 in
    rw (c.reserve.ensures.items, c.reserve-2.ensures.items) (omega (arith, members_length l.slots.items l.order.items l.len i.0, i.0.some, i.1, made))

use Rattle.std.proofs.Common.{◌≡◌, ◌<◌, ◌≤◌, ◌+◌, ◌-◌, ◌^◌, ◌++◌, ◌∷◌, ℕ, List, [], length, take, refl, ap, sym, ◌∙◌, arith, Some, None}
use Rattle.slot_list.proofs.Picks.{put_free}
use Rattle.slot_list.proofs.slots.put_in_free.Goals as goal

pub returns-clause-kept : goal.returns-clause-kept
returns-clause-kept g c =
    let order = c.args.order.now.items in
    rw c.replace.ensures.after
    (put_free c.args.slots.now.items order c.args.len c.requires.kept (take (length order - 1) order) c.take_free-slot.new.order.items c.take_free-slot.result c.args.place c.args.member
    c.take_free-slot.ensures.free c.take_free-slot.ensures.order c.requires.free c.requires.place).0

pub returns-clause-members : goal.returns-clause-members
returns-clause-members g c =
    let order = c.args.order.now.items in
    rw c.replace.ensures.after
    (put_free c.args.slots.now.items order c.args.len c.requires.kept (take (length order - 1) order) c.take_free-slot.new.order.items c.take_free-slot.result c.args.place c.args.member
    c.take_free-slot.ensures.free c.take_free-slot.ensures.order c.requires.free c.requires.place).1

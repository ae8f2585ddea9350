use Rattle.std.proofs.Common.{◌≡◌, ◌<◌, ◌≤◌, ◌+◌, ◌-◌, ◌^◌, ◌++◌, ◌∷◌, ℕ, List, [], length, get_or, take, refl, ap, sym, ◌∙◌, arith, Some, None}
use Rattle.std.specs.Prelude.{slice_get}
use Rattle.std.proofs.lemmas.Option.{slice_get_read, slice_get-get_or, get_or_from_slice_get}
use Rattle.slot_list.specs.Slots.{members}
use Rattle.slot_list.proofs.Numbers.{all_at}
use Rattle.slot_list.proofs.Picks.{put_over, member_is}
use Rattle.slot_list.proofs.slots.replace_at.Goals as goal

pub returns-clause-members : goal.returns-clause-members
returns-clause-members g c =
    let order = c.args.order.now in
    let kept = c.requires.kept in
    let n : ℕ = get_or order c.args.place 0 in
    let at : slice_get order c.args.place ≡ Some n = slice_get-get_or order c.args.place 0 (omega (arith, kept.count, kept.some, c.requires.place)) in
    rw c.replace.ensures.after (put_over c.args.slots.now.items order c.args.len kept n c.args.place c.args.member at c.requires.place).1

pub returns-clause-member : goal.returns-clause-member
returns-clause-member g c =
    let order = c.args.order.now in
    let kept = c.requires.kept in
    let n : ℕ = get_or order c.args.place 0 in
    let at : slice_get order c.args.place ≡ Some n = slice_get-get_or order c.args.place 0 (omega (arith, kept.count, kept.some, c.requires.place)) in
    let slots = c.args.slots.now.items in
    let r = c.replace.result in
    let here : slice_get slots n ≡ Some r = slice_get_read slots (length slots) n r refl (all_at (λ m. m < length slots) order c.args.place n kept.within at) (rw c.replace.ensures.value c.index_mut.ensures.value) in
    sym (get_or_from_slice_get (members slots order c.args.len) c.args.place r r (member_is slots order c.args.len kept c.args.place n c.requires.place at ∙ here))

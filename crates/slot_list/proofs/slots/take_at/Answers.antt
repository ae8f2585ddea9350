use Rattle.std.proofs.Common.{◌≡◌, ◌<◌, ◌≤◌, ◌+◌, ◌-◌, ◌^◌, ◌++◌, ◌∷◌, ℕ, List, [], length, take, refl, ap, sym, ◌∙◌, arith, Some, None}
use Rattle.std.specs.Prelude.{slice_get}
use Rattle.std.specs.List.{remove}
use Rattle.std.proofs.lemmas.Option.{slice_get_read, get_or_from_slice_get}
use Rattle.slot_list.specs.Slots.{members}
use Rattle.slot_list.proofs.Numbers.{all_at}
use Rattle.slot_list.proofs.Picks.{take_out, member_is}
use Rattle.slot_list.proofs.slots.take_at.Goals as goal

pub returns-clause-kept : goal.returns-clause-kept
returns-clause-kept g c =
    let order = c.args.order.now.items in
    let kept = c.requires.kept in
    let n : ℕ = c.remove-slot.result in
    let at : slice_get order c.args.place ≡ Some n = slice_get_read order (length order) c.args.place n refl (omega (arith, kept.count, kept.some, c.requires.place)) c.remove-slot.ensures.value in
    let is : c.push_reserved.new.self.items ≡ remove order c.args.place ++ n ∷ [] = c.push_reserved.ensures.items ∙ ap (λ ns. ns ++ n ∷ []) c.remove-slot.ensures.items in
    rw c.replace.ensures.after (take_out c.args.slots.now.items order c.args.len kept c.push_reserved.new.self.items n c.args.place c.args.filler is at c.requires.place).0

pub returns-clause-members : goal.returns-clause-members
returns-clause-members g c =
    let order = c.args.order.now.items in
    let kept = c.requires.kept in
    let n : ℕ = c.remove-slot.result in
    let at : slice_get order c.args.place ≡ Some n = slice_get_read order (length order) c.args.place n refl (omega (arith, kept.count, kept.some, c.requires.place)) c.remove-slot.ensures.value in
    let is : c.push_reserved.new.self.items ≡ remove order c.args.place ++ n ∷ [] = c.push_reserved.ensures.items ∙ ap (λ ns. ns ++ n ∷ []) c.remove-slot.ensures.items in
    rw c.replace.ensures.after (take_out c.args.slots.now.items order c.args.len kept c.push_reserved.new.self.items n c.args.place c.args.filler is at c.requires.place).1

pub returns-clause-member : goal.returns-clause-member
returns-clause-member g c =
    let order = c.args.order.now.items in
    let kept = c.requires.kept in
    let n : ℕ = c.remove-slot.result in
    let at : slice_get order c.args.place ≡ Some n = slice_get_read order (length order) c.args.place n refl (omega (arith, kept.count, kept.some, c.requires.place)) c.remove-slot.ensures.value in
    let slots = c.args.slots.now.items in
    let r = c.replace.result in
    let here : slice_get slots n ≡ Some r = slice_get_read slots (length slots) n r refl (all_at (λ m. m < length slots) order c.args.place n kept.within at) (rw c.replace.ensures.value c.index_mut.ensures.value) in
    sym (get_or_from_slice_get (members slots order c.args.len) c.args.place r r (member_is slots order c.args.len kept c.args.place n c.requires.place at ∙ here))

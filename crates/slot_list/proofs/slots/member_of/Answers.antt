use Rattle.std.proofs.Common.{◌≡◌, ◌<◌, ◌≤◌, ◌+◌, ◌-◌, ◌^◌, ◌++◌, ◌∷◌, ℕ, List, [], length, get_or, take, refl, ap, sym, ◌∙◌, arith, Some, None}
use Rattle.std.specs.Prelude.{slice_get}
use Rattle.std.proofs.lemmas.Option.{slice_get_read, slice_get-get_or, get_or_from_slice_get}
use Rattle.slot_list.specs.Slots.{members}
use Rattle.slot_list.proofs.Numbers.{all_at}
use Rattle.slot_list.proofs.Picks.{member_is}
use Rattle.slot_list.proofs.slots.member_of.Goals as goal

pub returns : goal.returns
returns g c =
    let slots = c.args.slots.now in
    let order = c.args.order.now in
    let kept = c.requires.kept in
    let n : ℕ = get_or order c.args.place 0 in
    let r = c.index-slots-slot.result in
    let at : slice_get order c.args.place ≡ Some n = slice_get-get_or order c.args.place 0 (omega (arith, kept.count, kept.some, c.requires.place)) in
    let here : slice_get slots n ≡ Some r = slice_get_read slots (length slots) n r refl (all_at (λ m. m < length slots) order c.args.place n kept.within at) c.index-slots-slot.is in
    sym (get_or_from_slice_get (members slots order c.args.len) c.args.place r r (member_is slots order c.args.len kept c.args.place n c.requires.place at ∙ here))

use Rattle.std.proofs.Common.{◌≡◌, ◌<◌, ◌≤◌, ◌+◌, ◌-◌, ◌^◌, ◌++◌, ◌∷◌, ℕ, List, [], length, take, refl, ap, sym, ◌∙◌, arith, Some, None}
use Rattle.std.proofs.Common.{rules}
use Rattle.std.proofs.Common.{subst}
use Rattle.std.specs.List.{insert}
use Rattle.slot_list.specs.Slots.{IsKept, members}
use Rattle.slot_list.proofs.Picks.{put_new}
use Rattle.slot_list.proofs.slots.put_in_new.Goals as goal

pub returns-clause-kept : goal.returns-clause-kept
returns-clause-kept g c =
    let slots = c.args.slots.now.items in
    let order = c.args.order.now.items in
    let new : List ℕ = c.insert.new.self.items in
    let full = c.requires.full in
    let kept : IsKept (length slots) order (length slots) = subst (IsKept (length slots) order) (sym full) c.requires.kept in
    let done = put_new slots order new (length slots) c.args.place c.args.member kept refl (search rules) (omega (arith, c.requires.place, full)) in
    rw c.push_reserved.ensures.items (subst (λ n. IsKept (length (slots ++ c.args.member ∷ [])) new (n + 1)) full done.0)

pub returns-clause-members : goal.returns-clause-members
returns-clause-members g c =
    let slots = c.args.slots.now.items in
    let order = c.args.order.now.items in
    let new : List ℕ = c.insert.new.self.items in
    let full = c.requires.full in
    let kept : IsKept (length slots) order (length slots) = subst (IsKept (length slots) order) (sym full) c.requires.kept in
    let done = put_new slots order new (length slots) c.args.place c.args.member kept refl (search rules) (omega (arith, c.requires.place, full)) in
    rw c.push_reserved.ensures.items (subst (λ n. members (slots ++ c.args.member ∷ []) new (n + 1) ≡ insert (members slots order n) c.args.place c.args.member) full done.1)

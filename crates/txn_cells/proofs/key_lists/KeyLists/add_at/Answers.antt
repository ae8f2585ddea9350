use Rattle.std.proofs.Common.{◌≡◌, ◌<◌, ℕ, [], ◌∷◌, ◌++◌, length, ap, sym, ◌∙◌, arith}
use Rattle.std.proofs.lemmas.List.{get_or_default}
use Rattle.std.proofs.lemmas.Option.{unwrap_or-slice_get}
use Rattle.txn_cells.specs.Kept.{Listed, Lists, listed_at, one_busy}
use Rattle.txn_cells.proofs.Lists.{busy-set, busy_at_most, busy_with_one, keys-push, none_busy_in, one_busy_in}
use Rattle.txn_cells.proofs.key_lists.KeyLists.add_at.Goals as goal

pub overflow_add-self : goal.overflow_add-self
overflow_add-self c =
    let most = busy_at_most c.self.inside.lists.items in
    omega (arith, most, c.self.invariant, c.self.inside.lists.ok.0)

pub invariant_of-self-then-first : goal.invariant_of-self-then-first
invariant_of-self-then-first c =
    let lists : Lists = c.self.inside.lists.items in
    let p : ℕ = c.args.list in
    let within : p < length lists = rw (sym c.self.view_is) at c.requires.within in
    let asked : listed_at lists p ≡ c.index.result.now = unwrap_or-slice_get lists p [] ∙ get_or_default lists p [] c.index.result.now within ∙ sym c.index.ensures in
    let changed = busy-set lists p c.add.new.self within in
    let now : one_busy c.add.new.self ≡ 1 = ap one_busy c.in_ok-add.ensures.ok ∙ busy_with_one c.index_mut.result.now (c.args.key.now, c.args.place) in
    let before : one_busy (listed_at lists p) ≡ 0 = none_busy_in (listed_at lists p) (omega (arith, ap length asked, c.len-first.ensures, c.if-first.true)) in
    omega (arith, changed, now, before, c.self.invariant)

pub invariant_of-self-else-first : goal.invariant_of-self-else-first
invariant_of-self-else-first c =
    let lists : Lists = c.self.inside.lists.items in
    let p : ℕ = c.args.list in
    let within : p < length lists = rw (sym c.self.view_is) at c.requires.within in
    let asked : listed_at lists p ≡ c.index.result.now = unwrap_or-slice_get lists p [] ∙ get_or_default lists p [] c.index.result.now within ∙ sym c.index.ensures in
    let changed = busy-set lists p c.add.new.self within in
    let now : one_busy c.add.new.self ≡ 1 = ap one_busy c.in_ok-add.ensures.ok ∙ busy_with_one c.index_mut.result.now (c.args.key.now, c.args.place) in
    let before : one_busy (listed_at lists p) ≡ 1 = one_busy_in (listed_at lists p) (omega (arith, ap length asked, c.len-first.ensures, c.if-first.false)) in
    omega (arith, changed, now, before, c.self.invariant)

pub returns-then-first-clause-ok : goal.returns-then-first-clause-ok
returns-then-first-clause-ok c =
    let lists : Lists = c.self.inside.lists.items in
    let p : ℕ = c.args.list in
    let within : p < length lists = rw (sym c.self.view_is) at c.requires.within in
    let had : listed_at lists p ≡ c.index_mut.result.now = unwrap_or-slice_get lists p [] ∙ get_or_default lists p [] c.index_mut.result.now within ∙ sym c.index_mut.ensures.value in
    rw (sym c.self.view_is) (keys-push lists p c.add.new.self (c.args.key.now, c.args.place) within (c.in_ok-add.ensures.ok ∙ ap (λ (ks : Listed). ks ++ (c.args.key.now, c.args.place) ∷ []) (sym had)))

pub returns-else-first-clause-ok : goal.returns-else-first-clause-ok
returns-else-first-clause-ok c =
    let lists : Lists = c.self.inside.lists.items in
    let p : ℕ = c.args.list in
    let within : p < length lists = rw (sym c.self.view_is) at c.requires.within in
    let had : listed_at lists p ≡ c.index_mut.result.now = unwrap_or-slice_get lists p [] ∙ get_or_default lists p [] c.index_mut.result.now within ∙ sym c.index_mut.ensures.value in
    rw (sym c.self.view_is) (keys-push lists p c.add.new.self (c.args.key.now, c.args.place) within (c.in_ok-add.ensures.ok ∙ ap (λ (ks : Listed). ks ++ (c.args.key.now, c.args.place) ∷ []) (sym had)))

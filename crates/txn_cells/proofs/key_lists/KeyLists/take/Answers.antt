use Rattle.std.proofs.Common.{◌≡◌, ◌<◌, ◌≤◌, ℕ, [], length, nat_eq, ap, sym, ◌∙◌, arith, if◌then◌else◌}
use Rattle.std.proofs.lemmas.List.{get_or_default}
use Rattle.std.proofs.lemmas.Option.{unwrap_or-slice_get}
use Rattle.txn_cells.specs.Kept.{Listed, Lists, listed_at, one_busy}
use Rattle.txn_cells.proofs.Lists.{busy-set, keys-set, keys_past, none_to_take, one_busy_in}
use Rattle.txn_cells.proofs.key_lists.KeyLists.take.Goals as goal

pub overflow_sub-self : goal.overflow_sub-self
overflow_sub-self c =
    let lists : Lists = c.self.inside.lists.items in
    let p : ℕ = c.place-place.result in
    let within : p < length lists = omega (arith, c.self.inside.lists.ok.0, c.len.ensures) in
    let had : listed_at lists p ≡ c.replace-taken.result = unwrap_or-slice_get lists p [] ∙ get_or_default lists p [] c.index_mut.result.now within ∙ sym c.index_mut.ensures.value ∙ sym c.replace-taken.ensures.value in
    let busy : one_busy (listed_at lists p) ≡ 1 = one_busy_in (listed_at lists p) (omega (arith, ap length had, c.len-2.ensures)) in
    let changed = busy-set lists p [] within in
    omega (arith, changed, busy, c.self.invariant)

pub invariant_of-self : goal.invariant_of-self
invariant_of-self c =
    let lists : Lists = c.self.inside.lists.items in
    let p : ℕ = c.place-place.result in
    let within : p < length lists = omega (arith, c.self.inside.lists.ok.0, c.len.ensures) in
    let had : listed_at lists p ≡ c.replace-taken.result = unwrap_or-slice_get lists p [] ∙ get_or_default lists p [] c.index_mut.result.now within ∙ sym c.index_mut.ensures.value ∙ sym c.replace-taken.ensures.value in
    let busy : one_busy (listed_at lists p) ≡ 1 = one_busy_in (listed_at lists p) (omega (arith, ap length had, c.len-2.ensures)) in
    let changed = busy-set lists p c.replace-taken.new.dest within in
    let gone : one_busy c.replace-taken.new.dest ≡ 0 = ap one_busy (c.replace-taken.ensures.after ∙ c.new-empty.ensures) in
    omega (arith, changed, busy, gone, c.self.invariant)

pub returns-then-len-gt0-clause-lists : goal.returns-then-len-gt0-clause-lists
returns-then-len-gt0-clause-lists c =
    let lists : Lists = c.self.inside.lists.items in
    let p : ℕ = c.place-place.result in
    let within : p < length lists = omega (arith, c.self.inside.lists.ok.0, c.len.ensures) in
    rw (sym c.self.view_is, sym c.place-place.ensures)
    (λ u. keys-set lists p c.replace-taken.new.dest within u ∙ ap (λ (ks : Listed). if nat_eq p u then ks else listed_at lists u) (c.replace-taken.ensures.after ∙ c.new-empty.ensures))

pub returns-else-len-gt0-clause-lists : goal.returns-else-len-gt0-clause-lists
returns-else-len-gt0-clause-lists c =
    let lists : Lists = c.self.inside.lists.items in
    let p : ℕ = c.place-place.result in
    let within : p < length lists = omega (arith, c.self.inside.lists.ok.0, c.len.ensures) in
    rw (sym c.self.view_is, sym c.place-place.ensures)
    (λ u. keys-set lists p c.replace-taken.new.dest within u ∙ ap (λ (ks : Listed). if nat_eq p u then ks else listed_at lists u) (c.replace-taken.ensures.after ∙ c.new-empty.ensures))

pub returns-then-len-gt0-clause-taken : goal.returns-then-len-gt0-clause-taken
returns-then-len-gt0-clause-taken c =
    let lists : Lists = c.self.inside.lists.items in
    let p : ℕ = c.place-place.result in
    let within : p < length lists = omega (arith, c.self.inside.lists.ok.0, c.len.ensures) in
    rw (sym c.self.view_is, sym c.place-place.ensures)
    (c.replace-taken.ensures.value ∙ c.index_mut.ensures.value ∙ get_or_default lists p c.index_mut.result.now [] within ∙ sym (unwrap_or-slice_get lists p []))

pub returns-else-len-gt0-clause-taken : goal.returns-else-len-gt0-clause-taken
returns-else-len-gt0-clause-taken c =
    let lists : Lists = c.self.inside.lists.items in
    let p : ℕ = c.place-place.result in
    let within : p < length lists = omega (arith, c.self.inside.lists.ok.0, c.len.ensures) in
    rw (sym c.self.view_is, sym c.place-place.ensures)
    (c.replace-taken.ensures.value ∙ c.index_mut.ensures.value ∙ get_or_default lists p c.index_mut.result.now [] within ∙ sym (unwrap_or-slice_get lists p []))

pub returns-then-len-place-clause-lists : goal.returns-then-len-place-clause-lists
returns-then-len-place-clause-lists c =
    let lists : Lists = c.self.inside.lists.items in
    let p : ℕ = c.place-place.result in
    let past : length lists ≤ p = omega (arith, c.self.inside.lists.ok.0, c.len.ensures) in
    rw (sym c.self.view_is, sym c.place-place.ensures) (λ u. none_to_take lists p u (keys_past lists p past))

use Rattle.std.proofs.Common.{◌≡◌, ◌-◌, ◌<◌, ◌≤◌, length, get_or, All, slice_get, Some, sym, ◌∙◌, ap, arith, inl}
use Rattle.std.proofs.lemmas.List.{get_or_default}
use Rattle.std.proofs.lemmas.Option.{slice_get_within, get_or_from_slice_get}
use Rattle.row_store.specs.declared.store.RowStore.{RowStore}
use Rattle.row_store.specs.Path.{State, undone}
use Rattle.row_store.specs.RowView.{now, shown}
use Rattle.row_store.proofs.Backs.{went_back}
use Rattle.row_store.proofs.Views.{cut}
use Rattle.row_store.proofs.traits.RowStoreStore.rollback_to.Goals as goal

below_newest : (s : RowStore) → All (λ n. n ≤ get_or s.marks.items (length s.marks.items - 1) 0) s.marks.items
below_newest s k d low = omega (arith, s.rising k (length s.marks.items - 1) (omega arith) (omega arith), get_or_default s.marks.items k d 0 low)

pub undo_to-requires : goal.undo_to-requires
undo_to-requires c =
    let s = c.args.self.now in
    let kept = c.in-Some.field-0.now in
    let last : slice_get s.marks.items (length s.marks.items - 1) ≡ Some kept = sym (rw c.deref.ensures.value at c.in-Some.ensures.value) in
    let is : kept ≡ get_or s.marks.items (length s.marks.items - 1) 0 = sym (get_or_from_slice_get s.marks.items (length s.marks.items - 1) kept 0 last) in
    rw is (below_newest s)

pub returns-in-Some-clause-ok : goal.returns-in-Some-clause-ok
returns-in-Some-clause-ok c _ _ =
    let s = c.args.self.now in
    let mid = c.undo_to.new.self in
    let kept = c.in-Some.field-0.now in
    let last : slice_get s.marks.items (length s.marks.items - 1) ≡ Some kept = sym (rw c.deref.ensures.value at c.in-Some.ensures.value) in
    let some : 0 < length s.marks.items = omega (arith, slice_get_within s.marks.items (length s.marks.items - 1) kept last) in
    let is : kept ≡ get_or s.marks.items (length s.marks.items - 1) 0 = sym (get_or_from_slice_get s.marks.items (length s.marks.items - 1) kept 0 last) in
    let low : kept ≤ length s.log.items = rw is (s.within _ 0 (omega arith)) in
    went_back (now s) s.log.items s.marks.items s.cursors.items (now mid) mid.log.items mid.marks.items c.clear.new.self.items kept is some low (rw is (below_newest s)) c.undo_to.ensures.log c.undo_to.ensures.state (ap (λ v. v.items) c.undo_to.ensures.marks)

pub returns-in-Some-clause-quiet : goal.returns-in-Some-clause-quiet
returns-in-Some-clause-quiet c =
    let s = c.args.self.now in
    let mid = c.undo_to.new.self in
    let kept = c.in-Some.field-0.now in
    let last : slice_get s.marks.items (length s.marks.items - 1) ≡ Some kept = sym (rw c.deref.ensures.value at c.in-Some.ensures.value) in
    let some : 0 < length s.marks.items = omega (arith, slice_get_within s.marks.items (length s.marks.items - 1) kept last) in
    let is : kept ≡ get_or s.marks.items (length s.marks.items - 1) 0 = sym (get_or_from_slice_get s.marks.items (length s.marks.items - 1) kept 0 last) in
    let low : kept ≤ length s.log.items = rw is (s.within _ 0 (omega arith)) in
    let first : undone mid.log.items (now mid) ≡ undone s.log.items (now s) = rw (c.undo_to.ensures.log, c.undo_to.ensures.state) (cut s.log.items (now s) 0 kept (omega arith) low) in
    record { shield = λ h. h; clean = omega arith; counts = omega arith; closes = λ _ h. inl h; outcomes = λ db h. h ∙ ap (λ (x : State). (shown x).trees) first }

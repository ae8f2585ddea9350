use Rattle.std.proofs.Common.{◌≡◌, length, ap, ◌∙◌, arith, inl}
use Rattle.row_store.specs.RowView.{now, shown}
use Rattle.row_store.specs.Path.{State, undone}
use Rattle.row_store.proofs.Backs.{rolled_back}
use Rattle.row_store.proofs.traits.RowStoreStore.rollback.Goals as goal

pub invariant_of-self : goal.invariant_of-self
invariant_of-self c =
    let s = c.args.self.now in
    let none = ap length c.clear.ensures.items in
    record { within = λ k d low. absurd (omega (arith, none, low)); rising = λ i j a b. absurd (omega (arith, none, b)); path = s.path }

pub undo_to-requires : goal.undo_to-requires
undo_to-requires c = let none = ap length c.clear.ensures.items in λ k d low. absurd (omega (arith, none, low))

pub returns-clause-undone : goal.returns-clause-undone
returns-clause-undone c =
    let s = c.args.self.now in
    let mid = c.undo_to.new.self in
    rolled_back (now s) s.log.items s.marks.items s.cursors.items (now mid) mid.log.items mid.marks.items c.clear-2.new.self.items c.undo_to.ensures.state c.undo_to.ensures.log (ap (λ v. v.items) c.undo_to.ensures.marks ∙ c.clear.ensures.items)

pub returns-clause-quiet : goal.returns-clause-quiet
returns-clause-quiet c =
    let s = c.args.self.now in
    let mid = c.undo_to.new.self in
    let first : undone mid.log.items (now mid) ≡ undone s.log.items (now s) = rw c.undo_to.ensures.log c.undo_to.ensures.state in
    record { shield = λ h. h; clean = omega arith; counts = omega arith; closes = λ _ h. inl h; outcomes = λ db h. h ∙ ap (λ (x : State). (shown x).trees) first }

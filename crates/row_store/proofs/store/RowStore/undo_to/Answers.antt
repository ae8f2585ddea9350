use Rattle.std.proofs.Common.{◌≡◌, ◌-◌, ◌<◌, length, take, drop, arith, ap, ◌∙◌, take-take, length-take-le}
use Rattle.row_store.specs.Path.{undone}
use Rattle.row_store.specs.RowView.{now}
use Rattle.row_store.proofs.Lists.{same_take, same_drop}
use Rattle.row_store.proofs.Views.{cut}
use Rattle.row_store.proofs.store.RowStore.undo_to.Goals as goal

pub loop-self-preserved : goal.loop-self-preserved
loop-self-preserved c =
    let s = c.args.self.now in
    let mid = c.loop-self.self in
    let new = c.undo_last.new.self in
    let was = c.loop-self.invariant in
    let n = length mid.log.items in
    let some : c.args.kept < n = omega (arith, mid.log.ok.0) in
    let log : new.log.items ≡ take (n - 1) s.log.items = c.undo_last.ensures.log ∙ ap (take (n - 1)) was.log ∙ take-take (n - 1) n s.log.items (omega arith) in
    let count : length new.log.items ≡ n - 1 = ap length log ∙ length-take-le (n - 1) s.log.items (omega (arith, was.most)) in
    let state : now new ≡ undone (drop (n - 1) s.log.items) (now s) =
    c.undo_last.ensures.state ∙ ap (λ l. undone (drop (n - 1) l) (now mid)) was.log ∙ ap (undone (drop (n - 1) (take n s.log.items))) was.state ∙ cut s.log.items (now s) (n - 1) n (omega arith) was.most in
    record {
      log = rw count log;
      most = omega (arith, count, was.most);
      least = λ less. absurd (omega (arith, count, some, less));
      state = rw count state;
      marks = c.undo_last.ensures.marks ∙ was.marks;
    }

pub returns-clause-log : goal.returns-clause-log
returns-clause-log c =
    let was = c.loop-self.invariant in
    was.log ∙ same_take c.args.self.now.log.items (length c.loop-self.self.log.items) c.args.kept (omega (arith, c.loop-self.self.log.ok.0)) was.least

pub returns-clause-state : goal.returns-clause-state
returns-clause-state c =
    let was = c.loop-self.invariant in
    was.state ∙ ap (λ l. undone l (now c.args.self.now)) (same_drop c.args.self.now.log.items (length c.loop-self.self.log.items) c.args.kept (omega (arith, c.loop-self.self.log.ok.0)) was.least)

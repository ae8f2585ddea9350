use Rattle.std.proofs.Common.{true, refl, ◌≡◌, length, take, drop, ap, sym, ◌∙◌, arith}
use Rattle.sqlite_trees.specs.View.{View}
use Rattle.sqlite_trees.proofs.Doubt.{no_doubt}
use Rattle.row_store.specs.RowView.{row_view, now}
use Rattle.row_store.specs.Path.{undone}
use Rattle.row_store.proofs.Calls.{failed, quiet, both, went, refused, any_error}
use Rattle.row_store.proofs.Kept.{low_tree, low_rows, low_heads}
use Rattle.row_store.proofs.Objects.{destroys}
use Rattle.row_store.proofs.Views.{wrote, stayed, led_back, led_now, led_on}
use Rattle.row_store.proofs.traits.RowStoreAlter.destroy.Goals as goal

pub write-requires-clause-within : goal.write-requires-clause-within
write-requires-clause-within c = low_tree c.args.self.now c.args.tree (omega arith) (c.requires.present (no_doubt true refl))

pub returns-in_err-write-clause-err : goal.returns-in_err-write-clause-err
returns-in_err-write-clause-err c =
    let s = c.args.self.now in
    let new = c.write.new.self in
    any_error c.from_residual.result _ (λ e. failed (row_view s) (row_view new) (stayed s new c.in_err-write.ensures.err) e)

pub returns-in_err-write-clause-quiet : goal.returns-in_err-write-clause-quiet
returns-in_err-write-clause-quiet c =
    let s = c.args.self.now in
    let new = c.write.new.self in
    quiet s new (ap (λ (v : View). v.committed) (stayed s new c.in_err-write.ensures.err))

pub returns-then-is_err-clause-err : goal.returns-then-is_err-clause-err
returns-then-is_err-clause-err c =
    let s = c.args.self.now in
    let mid = c.write.new.self in
    let last = c.relabel-listed.new.self in
    let new = c.undo_to.new.self in
    let second = refused c.relabel-listed.result _ c.relabel-listed.ensures.err (sym c.is_err.ensures.value ∙ c.if-is_err.true) in
    let led = led_on s mid last _ _ (led_now s mid _ c.in_ok-write.ensures.ok) second in
    let n : c.len-from.result ≡ length s.log.items = omega (arith, c.len-from.ensures, s.log.ok.0) in
    let log : new.log.items ≡ take (length s.log.items) last.log.items = rw n at c.undo_to.ensures.log in
    let state : now new ≡ undone (drop (length s.log.items) last.log.items) (now last) = rw n at c.undo_to.ensures.state in
    let back = led_back s last new _ led log state c.undo_to.ensures.marks in
    any_error c.relabel-listed.result _ (λ e. failed (row_view s) (row_view new) (stayed s new back) e)

pub returns-then-is_err-clause-quiet : goal.returns-then-is_err-clause-quiet
returns-then-is_err-clause-quiet c =
    let s = c.args.self.now in
    let mid = c.write.new.self in
    let last = c.relabel-listed.new.self in
    let new = c.undo_to.new.self in
    let second = refused c.relabel-listed.result _ c.relabel-listed.ensures.err (sym c.is_err.ensures.value ∙ c.if-is_err.true) in
    let led = led_on s mid last _ _ (led_now s mid _ c.in_ok-write.ensures.ok) second in
    let n : c.len-from.result ≡ length s.log.items = omega (arith, c.len-from.ensures, s.log.ok.0) in
    let log : new.log.items ≡ take (length s.log.items) last.log.items = rw n at c.undo_to.ensures.log in
    let state : now new ≡ undone (drop (length s.log.items) last.log.items) (now last) = rw n at c.undo_to.ensures.state in
    let back = led_back s last new _ led log state c.undo_to.ensures.marks in
    quiet s new (ap (λ (v : View). v.committed) (stayed s new back))

pub returns-else-is_err-clause-ok : goal.returns-else-is_err-clause-ok
returns-else-is_err-clause-ok c =
    let s = c.args.self.now in
    let low = low_tree s c.args.tree (omega arith) (c.requires.present (no_doubt true refl)) in
    both c.relabel-listed.result (λ _ led _. destroys s c.write.new.self c.relabel-listed.new.self c.args.tree (omega arith) (low_rows s c.args.tree low) (low_heads s c.args.tree low)
    c.in_ok-write.ensures.ok (rw c.absent.ensures at led)) c.relabel-listed.ensures.within c.relabel-listed.ensures.ok

pub returns-else-is_err-clause-quiet : goal.returns-else-is_err-clause-quiet
returns-else-is_err-clause-quiet c =
    let s = c.args.self.now in
    let mid = c.write.new.self in
    let new = c.relabel-listed.new.self in
    let second = went c.relabel-listed.result _ c.relabel-listed.ensures.ok (sym c.is_err.ensures.value ∙ c.if-is_err.false) in
    let led = led_on s mid new _ _ (led_now s mid _ c.in_ok-write.ensures.ok) second in
    quiet s new (ap (λ (v : View). v.committed) (wrote s new _ led))

use Rattle.std.proofs.Common.{◌≡◌, ◌<◌, ◌+◌, take, drop, ℕ, zero, suc, true, List, [], ◌∷◌, length, get_or, refl, sym, ap, ◌∙◌, arith}
use Rattle.std.specs.List.{AllByRecursion}
use Rattle.std.proofs.lemmas.List.{take_more}
use Rattle.sqlite_trees.specs.View.{View}
use Rattle.sqlite_trees.specs.declared.schema.Object.{Object}
use Rattle.sqlite_trees.specs.Objects.{Relists, MayRelist}
use Rattle.sqlite_trees.proofs.Doubt.{no_doubt}
use Rattle.sqlite_trees.proofs.StoreLemmas.{relists_more}
use Rattle.row_store.specs.Path.{undone}
use Rattle.row_store.specs.RowView.{now, row_view}
use Rattle.row_store.proofs.Calls.{went, refused, quiet, fails_to_relist}
use Rattle.row_store.proofs.Kept.{named_shape, low_heads}
use Rattle.row_store.proofs.Objects.{relists}
use Rattle.row_store.proofs.Views.{stayed, led_back, led_now, led_on}
use Rattle.row_store.proofs.traits.RowStoreAlter.relist.Goals as goal

each_at : {X : Type 0} (P : X → Type 0) (xs : List X) (at : ℕ) (d : X) → AllByRecursion P xs → at < length xs → P (get_or xs at d)
each_at P [] at d all within = absurd (omega arith)
each_at P (x ∷ xs) zero d all within = all.0
each_at P (x ∷ xs) (suc at) d all within = each_at P xs at d all.1 (omega arith)

still_shaped : (a b : View) (done : List (ℕ × Object)) (change : ℕ × Object) → Relists a b done → MayRelist a change → b.shape change.0 ≡ change.1.shape
still_shaped a b done change p may = ap (λ (v : View). v.shape change.0) p.is ∙ may.shaped

more_relisted : (a b c : View) (all : List (ℕ × Object)) (at : ℕ) (d : ℕ × Object) → at < length all → Relists a b (take at all) → Relists b c (get_or all at d ∷ []) → Relists a c (take (at + 1) all)
more_relisted a b c all at d within p q = rw (take_more all at d within) (relists_more a b c (take at all) (get_or all at d) p q)

pub relist_one-requires : goal.relist_one-requires
relist_one-requires c =
    let may = each_at _ c.args.changes.now c.loop-change.change-index _ (c.requires.each (no_doubt true refl)) c.loop-change-test.true in
    sym (named_shape c.loop-change.self _ (omega arith)) ∙ still_shaped (row_view c.args.self.now) (row_view c.loop-change.self) _ _ c.loop-change.invariant.listed may

pub loop-change-preserved : goal.loop-change-preserved
loop-change-preserved c =
    let s = c.loop-change.self in
    let new = c.relist_one.new.self in
    let may = each_at _ c.args.changes.now c.loop-change.change-index _ (c.requires.each (no_doubt true refl)) c.loop-change-test.true in
    let so = sym c.is_err.ensures.value ∙ c.if-is_err.false in
    let low = went c.relist_one.result _ c.relist_one.ensures.within so in
    let led = went c.relist_one.result _ c.relist_one.ensures.ok so in
    let shaped = still_shaped (row_view c.args.self.now) (row_view s) _ _ c.loop-change.invariant.listed may in
    record {
      listed = more_relisted (row_view c.args.self.now) (row_view s) (row_view new) c.args.changes.now c.loop-change.change-index _ c.loop-change-test.true
          c.loop-change.invariant.listed (relists s new _ _ (omega arith) (low_heads s _ low) may.present shaped led);
      led = led_now c.args.self.now new _ (led_on c.args.self.now s new _ _ c.loop-change.invariant.led led);
    }

pub returns-then-is_err-clause-err : goal.returns-then-is_err-clause-err
returns-then-is_err-clause-err c =
    let s = c.args.self.now in
    let mid = c.loop-change.self in
    let last = c.relist_one.new.self in
    let new = c.undo_to.new.self in
    let second = refused c.relist_one.result _ c.relist_one.ensures.err (sym c.is_err.ensures.value ∙ c.if-is_err.true) in
    let led = led_on s mid last _ _ c.loop-change.invariant.led second in
    let n : c.len-from.result ≡ length s.log.items = omega (arith, c.len-from.ensures, s.log.ok.0) in
    let log : new.log.items ≡ take (length s.log.items) last.log.items = rw n at c.undo_to.ensures.log in
    let state : now new ≡ undone (drop (length s.log.items) last.log.items) (now last) = rw n at c.undo_to.ensures.state in
    let back = led_back s last new _ led log state c.undo_to.ensures.marks in
    fails_to_relist (row_view s) (row_view new) (stayed s new back) _

pub returns-then-is_err-clause-quiet : goal.returns-then-is_err-clause-quiet
returns-then-is_err-clause-quiet c =
    let s = c.args.self.now in
    let mid = c.loop-change.self in
    let last = c.relist_one.new.self in
    let new = c.undo_to.new.self in
    let second = refused c.relist_one.result _ c.relist_one.ensures.err (sym c.is_err.ensures.value ∙ c.if-is_err.true) in
    let led = led_on s mid last _ _ c.loop-change.invariant.led second in
    let n : c.len-from.result ≡ length s.log.items = omega (arith, c.len-from.ensures, s.log.ok.0) in
    let log : new.log.items ≡ take (length s.log.items) last.log.items = rw n at c.undo_to.ensures.log in
    let state : now new ≡ undone (drop (length s.log.items) last.log.items) (now last) = rw n at c.undo_to.ensures.state in
    let back = led_back s last new _ led log state c.undo_to.ensures.marks in
    quiet s new (ap (λ (v : View). v.committed) (stayed s new back))

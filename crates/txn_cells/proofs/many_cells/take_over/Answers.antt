use Rattle.std.proofs.Common.{◌≡◌, ◌++◌, ◌∷◌, [], ℕ, List, Option, None, Some, length, nat_eq, refl, sym, take, ap, ◌∙◌, arith}
use Rattle.std.specs.Prelude.{slice_get}
use Rattle.std.specs.List.Sorted.{IsStrictlyIncreasing}
use Rattle.std.specs.Map.{keys_of, lookup}
use Rattle.std.proofs.lemmas.Option.{slice_get_read}
use Rattle.indexmap.proofs.CallerLemmas.{insert_entry-new}
use Rattle.txn_cells.specs.Kept.{Held}
use Rattle.txn_cells.proofs.Finding.{next_is, not_before}
use Rattle.txn_cells.proofs.many_cells.take_over.Goals as goal

pub loop-txn-preserved : goal.loop-txn-preserved
loop-txn-preserved g c =
    let few : Held _ = c.args.few.now in
    let m = c.loop-txn.contents in
    let n : ℕ = c.loop-txn.txn-index in
    let t : ℕ = c.txn-item.result in
    let had : Option _ = c.get.result in
    let xs : List ℕ = c.numbers-txn-items.result.now in
    let is : xs ≡ keys_of few = c.numbers-txn-items.ensures.is in
    let rising : IsStrictlyIncreasing (keys_of few) = rw is at c.numbers-txn-items.ensures.rising in
    let at : slice_get (keys_of few) n ≡ Some t = rw is at (slice_get_read xs (length xs) n t refl c.loop-txn-test.true c.txn-item.is) in
    let none : lookup (nat_eq t) m.entries ≡ None = ap (λ (es : Held _). lookup (nat_eq t) es) c.loop-txn.invariant.entries ∙ not_before few t n rising at in
    record {
      entries =
          (rw c.unwrap.ensures at c.insert.ensures.entries)
          ∙ insert_entry-new nat_eq m t had none
          ∙ ap (λ (es : Held _). es ++ (t, had) ∷ []) c.loop-txn.invariant.entries
          ∙ ap (λ (o : Option _). take n few ++ (t, o) ∷ []) c.get.ensures
          ∙ sym (next_is few t n rising at);
      room = omega (arith, c.loop-txn.invariant.room, c.insert.ensures.spare);
    }

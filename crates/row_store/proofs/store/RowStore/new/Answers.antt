use Rattle.std.proofs.Common.{◌≡◌, ℕ, List, [], length, map, replicate, refl, ap, arith}
use Rattle.sqlite_value.specs.Order.{Row}
use Rattle.sqlite_trees.specs.Listing.{Heading, no_heading}
use Rattle.row_store.specs.Heading.{heading}
use Rattle.row_store.specs.Path.{IsSound}
use Rattle.row_store.proofs.Lists.{all_default}
use Rattle.row_store.proofs.store.RowStore.new.Goals as goal

fresh : (room : List ℕ) → IsSound room (record { headings = replicate 16 no_heading; rows = replicate 16 []; version = 0 })
fresh room = record {
  count = (refl, refl);
  shaped = λ t. rw (all_default {X = Heading} no_heading 16 t, all_default {X = List Row} [] 16 t) refl;
  short = λ t. omega (arith, ap length (all_default {X = List Row} [] 16 t));
}

pub invariant_of-result : goal.invariant_of-result
invariant_of-result c =
    let n : c.loop.counter ≡ 16 = omega arith in
    let headings : map heading c.loop.headings.items ≡ replicate 16 no_heading = rw n at c.loop.invariant.0 in
    let rows : map (λ v. v.items) c.loop.rows.items ≡ replicate 16 [] = rw n at c.loop.invariant.1 in
    let none : length c.new-4.result.items ≡ 0 = ap length c.new-4.ensures.items in
    record {
      within = λ k d low. absurd (omega (arith, none, low));
      rising = λ i j a b. absurd (omega (arith, none, b));
      path = ∣ rw (c.new-3.ensures.items, headings, rows) (fresh _) ∣₁;
    }

pub returns-clause-clean : goal.returns-clause-clean
returns-clause-clean c = rw c.new-3.ensures.items refl

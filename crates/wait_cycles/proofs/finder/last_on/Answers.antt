use Rattle.std.proofs.Common.{ℕ, List, Option, Some, None, ◌∙◌}
use Rattle.std.specs.Prelude.{IfNone, IfSome}
use Rattle.wait_cycles.specs.Cycles.{IsCycle}
use Rattle.wait_cycles.specs.Trails.{IsLastReached}
use Rattle.wait_cycles.proofs.Sorted.{cycle_onto, last_reached_onto}
use Rattle.wait_cycles.proofs.finder.last_on.Goals as goal

pub returns-clause-some : goal.returns-clause-some
returns-clause-some c = by c.last_start.result (rw c.deref-2.ensures.value at c.last_start.ensures.some)
  where
    by : (o : Option ℕ) → IfSome o (λ start. IsLastReached c.sort_pairs.new.sorted.items start c.last_start.new.trail.reached)
        → IfSome o (λ start. IsLastReached c.args.pairs.now start c.last_start.new.trail.reached)
    by None is = is
    by (Some start) is = last_reached_onto c.sort_pairs.new.sorted.items c.args.pairs.now c.sort_pairs.ensures.same start c.last_start.new.trail.reached is

pub returns-clause-none : goal.returns-clause-none
returns-clause-none c = by c.last_start.result (rw c.deref-2.ensures.value at c.last_start.ensures.none)
  where
    by : (o : Option ℕ) → IfNone o ((xs : List ℕ) → IsCycle c.sort_pairs.new.sorted.items xs → ⊥) → IfNone o ((xs : List ℕ) → IsCycle c.args.pairs.now xs → ⊥)
    by None none = λ xs cycle. none xs (cycle_onto c.args.pairs.now c.sort_pairs.new.sorted.items (λ a b e. c.sort_pairs.ensures.same a b ∙ e) xs cycle)
    by (Some start) none = none

use Rattle.std.proofs.Common.{ℕ, Option, Some, None}
use Rattle.std.specs.Prelude.{IfSome}
use Rattle.wait_cycles.specs.Cycles.{IsLastOn}
use Rattle.wait_cycles.specs.Trails.{IsLastReached}
use Rattle.wait_cycles.proofs.Again.{is_last_on}
use Rattle.wait_cycles.proofs.finder.Work.victim.Goals as goal

pub returns-clause-some : goal.returns-clause-some
returns-clause-some c = by c.last_on.result c.last_on.ensures.some
  where
    by : (o : Option ℕ) → IfSome o (λ start. IsLastReached c.args.pairs.now start c.last_on.new.space.trail.reached) → IfSome o (λ txn. IsLastOn c.args.pairs.now txn)
    by None is = is
    by (Some start) is = is_last_on c.args.pairs.now start c.last_on.new.space.trail.reached is

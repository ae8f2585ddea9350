use Rattle.std.proofs.Common.{◌≡◌, ℕ, nat_eq, Option, Some, None, false, sym}
use Rattle.std.specs.Prelude.{slice_get, IfNone, IfSome}
use Rattle.std.specs.List.{position}
use Rattle.std.specs.Map.{keys_of}
use Rattle.wait_cycles.specs.Cycles.{is_member}
use Rattle.wait_cycles.specs.Trails.{nodes, reached_in}
use Rattle.wait_cycles.proofs.Kept.{place_found, place_missed}
use Rattle.wait_cycles.proofs.trail.Trail.place_of.Goals as goal

pub returns-clause-some : goal.returns-clause-some
returns-clause-some c = rw (sym c.self.view_is) (by c.get_index_of.result c.get_index_of.ensures.index)
  where
    by : (o : Option ℕ) → o ≡ position (nat_eq c.args.txn) (keys_of c.self.inside.before.entries) → IfSome o (λ place. slice_get (nodes (reached_in c.self.inside.before.entries)) place ≡ Some c.args.txn)
    by None e = tt
    by (Some n) e = place_found c.args.txn n c.self.inside.before.entries (sym e)

pub returns-clause-none : goal.returns-clause-none
returns-clause-none c = rw (sym c.self.view_is) (by c.get_index_of.result c.get_index_of.ensures.index)
  where
    by : (o : Option ℕ) → o ≡ position (nat_eq c.args.txn) (keys_of c.self.inside.before.entries) → IfNone o (is_member c.args.txn (nodes (reached_in c.self.inside.before.entries)) ≡ false)
    by None e = place_missed c.args.txn c.self.inside.before.entries (sym e)
    by (Some n) e = tt

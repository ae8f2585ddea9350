use Rattle.std.proofs.Common.{sym, ◌∙◌}
use Rattle.wait_cycles.proofs.Kept.{found_in}
use Rattle.wait_cycles.proofs.trail.Trail.has.Goals as goal

pub returns : goal.returns
returns c = rw (sym c.self.view_is) (c.contains_key.ensures ∙ found_in c.args.txn c.self.inside.before.entries)

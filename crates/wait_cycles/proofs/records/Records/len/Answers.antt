use Rattle.std.proofs.Common.{sym}
use Rattle.wait_cycles.proofs.Listed.{once}
use Rattle.wait_cycles.proofs.Stored.{all_apart}
use Rattle.wait_cycles.proofs.records.Records.len.Goals as goal

pub returns-clause-once : goal.returns-clause-once
returns-clause-once c = rw (sym c.self.view_is) (once _ _ (all_apart c.self.inside.slab c.self.inside.keys.items c.self.inside.table.items c.self.invariant.0))

use Rattle.manager_core.proofs.Looked.{seen_same}
use Rattle.manager_core.proofs.tables.Tables.reserve_changes.Goals as goal

pub invariant_of-self : goal.invariant_of-self
invariant_of-self c = seen_same _ _ c.self.inside.looks _ _ c.reserve_changes.ensures.same.modes c.self.invariant

use Rattle.manager_core.proofs.Looked.{seen_none}
use Rattle.manager_core.proofs.tables.Tables.new.Goals as goal

pub invariant_of-result : goal.invariant_of-result
invariant_of-result c = seen_none _ _ _ c.new-5.result c.new-5.ensures

use Rattle.std.proofs.Common.{ap}
use Rattle.sql_store.proofs.memory.MemoryStore.new.Goals as goal

pub returns-in-Ok-clause-empty : goal.returns-in-Ok-clause-empty
returns-in-Ok-clause-empty c k = ap (λ m. m k) c.in-Ok.ensures.empty

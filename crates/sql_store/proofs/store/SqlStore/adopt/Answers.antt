use Rattle.std.proofs.Common.{Err, ap}
use Rattle.sql_store.proofs.store.SqlStore.adopt.Goals as goal

pub returns-in-Ok-clause-made : goal.returns-in-Ok-clause-made
returns-in-Ok-clause-made g c clean = c.in-Ok.ensures.made clean

pub returns-in-Err-clause-refused : goal.returns-in-Err-clause-refused
returns-in-Err-clause-refused g c clean is = c.in-Err.ensures.refused clean (ap Err is)

use Rattle.std.proofs.Common.{◌≡◌}
use Rattle.durable_top.specs.declared.store.StoreFault.TheVariants.{Refused}
use Rattle.sql_store.proofs.store.adopted.Goals as goal

pub returns-clause-refused : goal.returns-clause-refused
returns-clause-refused g c is = let same : c.in-Err.fault ≡ Refused = cc in (c.in-Err.field-0-1, λ clean. c.in-Err.ensures.refused clean same)

use Rattle.std.proofs.Common.{◌≡◌, Err, ap, rules}
use Rattle.durable_top.specs.declared.store.StoreFault.TheVariants.{Refused}
use Rattle.sql_store.proofs.inside.settle_found.Goals as goal

pub returns-in_err-settle_rows-clause-refused : goal.returns-in_err-settle_rows-clause-refused
returns-in_err-settle_rows-clause-refused g c clean inside is =
    let e = c.in_err-settle_rows.field-0.0 in
    let same : c.from_residual-in_err-settle_rows.result ≡ Err e = search rules in
    let told = rw same at is in
    let refused : e ≡ Refused = cc in
    rw (c.deref-3.ensures.value, c.deref-4.ensures.value) at (c.in_err-settle_rows.ensures.refused clean inside (ap Err refused))

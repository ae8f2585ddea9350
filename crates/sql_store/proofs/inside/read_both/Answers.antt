use Rattle.std.proofs.Common.{◌≡◌, Err, inr, ap, rules}
use Rattle.sqlite.specs.Held.{state}
use Rattle.sqlite.specs.State.{HasCleanDisk}
use Rattle.durable_top.specs.declared.store.StoreFault.TheVariants.{Refused}
use Rattle.sql_store.proofs.Steps.{clean_before}
use Rattle.sql_store.proofs.inside.read_both.Goals as goal

pub returns-in_err-new-clause-refused : goal.returns-in_err-new-clause-refused
returns-in_err-new-clause-refused g c clean inside is =
    let was : HasCleanDisk (state g.S.Store c.read_old.new.tx.conn.now) = clean_before (state g.S.Store c.read_old.new.tx.conn.now) (state g.S.Store c.read_new.new.tx.conn.now) c.read_new.ensures.steps.survives clean in
    let e = c.in_err-new.field-0.0 in
    let same : c.from_residual-in_err-new.result ≡ Err e = search rules in
    let told = rw same at is in
    let refused : e ≡ Refused = cc in
    inr (c.read_old.new.tx.conn.now, c.in_ok-old.old.items, c.in_ok-old.ensures.asked was, c.in_err-new.ensures.refused clean (c.in_ok-old.ensures.on was inside).0 (ap Err refused))

pub returns-clause-asked : goal.returns-clause-asked
returns-clause-asked g c clean =
    let was : HasCleanDisk (state g.S.Store c.read_old.new.tx.conn.now) = clean_before (state g.S.Store c.read_old.new.tx.conn.now) (state g.S.Store c.read_new.new.tx.conn.now) c.read_new.ensures.steps.survives clean in
    (c.read_old.new.tx.conn.now, c.in_ok-old.ensures.asked was, c.in_ok-new.ensures.asked clean)

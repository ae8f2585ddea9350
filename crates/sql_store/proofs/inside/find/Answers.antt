use Rattle.std.proofs.Common.{◌≡◌, Err, inl, inr, ap, sym, ◌∙◌, rules}
use Rattle.sqlite.specs.Held.{state}
use Rattle.sqlite.specs.State.{HasCleanDisk}
use Rattle.durable_top.specs.declared.store.StoreFault.TheVariants.{Refused}
use Rattle.sql_store.proofs.Steps.{clean_before}
use Rattle.sql_store.proofs.inside.find.Goals as goal

pub returns-in-Ok-clause-asked : goal.returns-in-Ok-clause-asked
returns-in-Ok-clause-asked g c clean =
    let was : HasCleanDisk (state g.S.Store c.read_both.new.tx.conn.now) = clean_before (state g.S.Store c.read_both.new.tx.conn.now) (state g.S.Store c.are_both_apart.new.tx.conn.now) c.are_both_apart.ensures.steps.survives clean in
    (c.read_both.new.tx.conn.now, c.in_ok-old.ensures.asked was, c.in-Ok.ensures.same clean)

pub returns-in-Err-clause-refused : goal.returns-in-Err-clause-refused
returns-in-Err-clause-refused g c clean inside is =
    let was : HasCleanDisk (state g.S.Store c.read_both.new.tx.conn.now) = clean_before (state g.S.Store c.read_both.new.tx.conn.now) (state g.S.Store c.are_both_apart.new.tx.conn.now) c.are_both_apart.ensures.steps.survives clean in
    let refused : c.fault_of.result ≡ Refused = cc in
    inr (
      c.read_both.new.tx.conn.now,
      c.in_ok-old.old.items,
      c.in_ok-old.new.items,
      c.in_ok-old.ensures.asked was,
      c.in-Err.ensures.refused clean (c.in_ok-old.ensures.on was inside).0 (sym c.fault_of.ensures ∙ refused),
    )

pub returns-in_err-old-clause-refused : goal.returns-in_err-old-clause-refused
returns-in_err-old-clause-refused g c clean inside is =
    let failed : c.from_residual.result ≡ Err c.in_err-old.field-0.0 = search rules in
    let refused : c.in_err-old.field-0.0 ≡ Refused = cc in
    inl (c.in_err-old.ensures.refused clean inside (ap Err refused))

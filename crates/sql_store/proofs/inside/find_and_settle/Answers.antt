use Rattle.std.proofs.Common.{◌≡◌, Err, inl, inr, ap, ◌∙◌, rules}
use Rattle.sqlite.specs.Held.{state}
use Rattle.sqlite.specs.State.{HasCleanDisk}
use Rattle.durable_top.specs.declared.store.StoreFault.TheVariants.{Refused}
use Rattle.sql_store.proofs.Steps.{clean_before, if_ok_on, on_ok_then}
use Rattle.sql_store.proofs.Moving.{moves_none}
use Rattle.sql_store.proofs.Opens.{none_old}
use Rattle.sql_store.proofs.inside.find_and_settle.Goals as goal

pub returns-in_err-found-clause-refused : goal.returns-in_err-found-clause-refused
returns-in_err-found-clause-refused g c clean inside is =
    let e = c.in_err-found.field-0.0 in
    let same : c.from_residual.result ≡ Err e = search rules in
    let told = rw same at is in
    let refused : e ≡ Refused = cc in
    inl (c.in_err-found.ensures.refused clean inside (ap Err refused))

pub returns-clause-refused : goal.returns-clause-refused
returns-clause-refused g c clean inside is =
    let was : HasCleanDisk (state g.S.Store c.find.new.tx.conn.now) = clean_before (state g.S.Store c.find.new.tx.conn.now) (state g.S.Store c.settle_found.new.tx.conn.now) c.settle_found.ensures.steps.survives clean in
    let found = c.in_ok-found.found in
    inr (
      c.find.new.tx.conn.now,
      found.old.items,
      found.new.items,
      c.in_ok-found.ensures.asked was,
      c.settle_found.ensures.refused clean (c.in_ok-found.ensures.on was inside).0 is,
    )

pub returns-clause-asked : goal.returns-clause-asked
returns-clause-asked g c clean inside =
    let was : HasCleanDisk (state g.S.Store c.find.new.tx.conn.now) = clean_before (state g.S.Store c.find.new.tx.conn.now) (state g.S.Store c.settle_found.new.tx.conn.now) c.settle_found.ensures.steps.survives clean in
    let found = c.in_ok-found.found in
    if_ok_on c.settle_found.result _ _ (λ opened are moves. record {
      found = c.find.new.tx.conn.now;
      old_rows = found.old.items;
      new_rows = found.new.items;
      finds = c.in_ok-found.ensures.asked was;
      moves = moves;
      numbered = are;
    }) c.settle_found.ensures.numbered (c.settle_found.ensures.asked clean (c.in_ok-found.ensures.on was inside).0)

pub returns-clause-stays : goal.returns-clause-stays
returns-clause-stays g c clean inside =
    let was : HasCleanDisk (state g.S.Store c.find.new.tx.conn.now) = clean_before (state g.S.Store c.find.new.tx.conn.now) (state g.S.Store c.settle_found.new.tx.conn.now) c.settle_found.ensures.steps.survives clean in
    let found = c.in_ok-found.found in
    on_ok_then c.settle_found.result (λ moves has none.
    let no_rows = none_old found.old.items _ (c.in_ok-found.ensures.read was has).old_is none in
    let same = moves_none g.S.Store found.old.items found.new.items c.find.new.tx.conn.now c.settle_found.new.tx.conn.now no_rows moves in
    ap (λ h. (state g.S.Store h).now) same ∙ (c.in_ok-found.ensures.same was).0.now_is)
    (c.settle_found.ensures.asked clean (c.in_ok-found.ensures.on was inside).0)

use Rattle.std.proofs.Common.{◌≡◌, Err, inl, inr, rules}
use Rattle.sqlite.specs.Held.{state}
use Rattle.sqlite.specs.State.{HasCleanDisk}
use Rattle.sql_store.proofs.Steps.{clean_before}
use Rattle.sql_store.proofs.inside.are_both_apart.Goals as goal

pub returns-in_err-is_old_apart-clause-refused : goal.returns-in_err-is_old_apart-clause-refused
returns-in_err-is_old_apart-clause-refused g c clean inside =
    let e = c.in_err-is_old_apart.field-0.0 in
    let same : c.from_residual.result ≡ Err e = search rules in
    rw same (λ refused. inl (c.is_old_apart.new.tx.conn.now, e, c.in_err-is_old_apart.ensures.refused clean inside, refused))

pub returns-in_err-is_new_apart-clause-refused : goal.returns-in_err-is_new_apart-clause-refused
returns-in_err-is_new_apart-clause-refused g c clean inside =
    let was : HasCleanDisk (state g.S.Store c.is_old_apart.new.tx.conn.now) = clean_before (state g.S.Store c.is_old_apart.new.tx.conn.now) (state g.S.Store c.is_new_apart.new.tx.conn.now) c.is_new_apart.ensures.steps.survives clean in
    let e = c.in_err-is_new_apart.field-0.0 in
    let same : c.from_residual-in_err-is_new_apart.result ≡ Err e = search rules in
    rw same (λ refused. inr (
      c.is_old_apart.new.tx.conn.now,
      c.in_ok-is_old_apart.ensures.same was,
      (c.is_new_apart.new.tx.conn.now, e, c.in_err-is_new_apart.ensures.refused clean (c.in_ok-is_old_apart.ensures.on was inside).0, refused),
    ))

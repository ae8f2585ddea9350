use Rattle.std.proofs.Common.{◌≡◌, inl, inr, sym, ◌∙◌, arith}
use Rattle.sqlite.specs.State.{HasCleanDisk}
use Rattle.durable_top.specs.declared.store.StoreFault.TheVariants.{Refused}
use Rattle.std.proofs.lemmas.Result.{IfOk-weaker}
use Rattle.sqlite.specs.Held.{state}
use Rattle.sql_store.proofs.Steps.{if_ok_both}
use Rattle.sql_store.proofs.Loaded.{answered, same_map}
use Rattle.sql_store.proofs.load.load_rows.Goals as goal

pub returns-in-Ok-clause-rows : goal.returns-in-Ok-clause-rows
returns-in-Ok-clause-rows g c clean known =
    let db = (state g.S.Store c.args.conn.now).now.trees in
    if_ok_both c.sorted.result _ _ _ c.sorted.ensures.read c.sorted.ensures.rising
    (λ read is rising. same_map (db 2) c.in-Ok.rows.items read.items (answered db c.in-Ok.rows.items (c.in-Ok.ensures.rows clean known)) (rw c.as_slice.ensures.value at is) rising)

pub returns-in-Ok-clause-asked : goal.returns-in-Ok-clause-asked
returns-in-Ok-clause-asked g c clean =
    IfOk-weaker c.sorted.result _ _ (λ read is. (c.in-Ok.rows.items, c.in-Ok.ensures.asked clean, rw c.as_slice.ensures.value at is)) c.sorted.ensures.read

pub returns-in-Ok-clause-refused : goal.returns-in-Ok-clause-refused
returns-in-Ok-clause-refused g c clean is = inr (inr (c.in-Ok.rows.items, c.in-Ok.ensures.asked clean, rw c.as_slice.ensures.value at (c.sorted.ensures.refused is)))

pub returns-in-Err-clause-refused : goal.returns-in-Err-clause-refused
returns-in-Err-clause-refused g c clean is =
    let was : HasCleanDisk (state g.S.Store c.fetch.new.conn) = omega (arith, c.settle.ensures.survives.clean, clean) in
    let refused : c.settle.result ≡ Refused = cc in
    let h = c.settle.ensures.refused clean refused in
    inr (inl (c.fetch.new.conn, c.in-Err.error, c.in-Err.ensures.refused was (sym c.fault_of.ensures ∙ h.0), sym c.fault_of.ensures ∙ h.0, h.1))

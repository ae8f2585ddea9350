use Rattle.std.proofs.Common.{inr}
use Rattle.std.proofs.lemmas.Result.{IfOk-weaker}
use Rattle.sqlite.specs.Held.{state}
use Rattle.serial_spec.specs.Rows.{value_in}
use Rattle.sqlite.specs.State.{HasCleanDisk}
use Rattle.sql_store.specs.Inside.{AreMade}
use Rattle.sql_store.proofs.Steps.{on_both, clean_before}
use Rattle.sql_store.proofs.Opens.{opened_by, found_out}
use Rattle.sql_store.proofs.inside.open_inside.Goals as goal

pub returns-in-Ok-clause-opened : goal.returns-in-Ok-clause-opened
returns-in-Ok-clause-opened g c clean inside =
    let x = state g.S.Store c.args.tx.now.conn.now in
    let y = state g.S.Store c.make_tables.new.tx.conn.now in
    let z = state g.S.Store c.find_and_settle.new.tx.conn.now in
    let was : HasCleanDisk y = clean_before y z c.find_and_settle.ensures.steps.survives clean in
    let made : AreMade x.now y.now = c.in-Ok.ensures.made was inside in
    on_both c.find_and_settle.result _ (λ it h kept. opened_by x.now y.now z.now h.old_rows h.new_rows made h.read h.settled kept)
    (c.find_and_settle.ensures.settled clean (c.in-Ok.ensures.on was inside).0) (c.find_and_settle.ensures.stays clean (c.in-Ok.ensures.on was inside).0)

pub returns-in-Ok-clause-found : goal.returns-in-Ok-clause-found
returns-in-Ok-clause-found g c clean inside =
    let x = state g.S.Store c.args.tx.now.conn.now in
    let y = state g.S.Store c.make_tables.new.tx.conn.now in
    let z = state g.S.Store c.find_and_settle.new.tx.conn.now in
    let was : HasCleanDisk y = clean_before y z c.find_and_settle.ensures.steps.survives clean in
    let made : AreMade x.now y.now = c.in-Ok.ensures.made was inside in
    IfOk-weaker c.find_and_settle.result _ _ (λ it h. found_out x.now y.now z.now h.old_rows h.new_rows it.is_apart (value_in it.numbers.rows) made h.read h.apart h.decided h.settled h.numbered) (c.find_and_settle.ensures.settled clean (c.in-Ok.ensures.on was inside).0)

pub returns-in-Ok-clause-refused : goal.returns-in-Ok-clause-refused
returns-in-Ok-clause-refused g c clean inside is =
    let was : HasCleanDisk (state g.S.Store c.make_tables.new.tx.conn.now) = clean_before (state g.S.Store c.make_tables.new.tx.conn.now) (state g.S.Store c.find_and_settle.new.tx.conn.now) c.find_and_settle.ensures.steps.survives clean in
    inr (c.make_tables.new.tx.conn.now, c.in-Ok.ensures.answers.asked was inside, c.find_and_settle.ensures.refused clean (c.in-Ok.ensures.on was inside).0 is)

pub returns-in-Ok-clause-asked : goal.returns-in-Ok-clause-asked
returns-in-Ok-clause-asked g c clean inside =
    let was : HasCleanDisk (state g.S.Store c.make_tables.new.tx.conn.now) = clean_before (state g.S.Store c.make_tables.new.tx.conn.now) (state g.S.Store c.find_and_settle.new.tx.conn.now) c.find_and_settle.ensures.steps.survives clean in
    IfOk-weaker c.find_and_settle.result _ _ (λ opened settles. (c.make_tables.new.tx.conn.now, c.in-Ok.ensures.answers.asked was inside, settles))
    (c.find_and_settle.ensures.asked clean (c.in-Ok.ensures.on was inside).0)

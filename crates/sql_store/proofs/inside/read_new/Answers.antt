use Rattle.std.proofs.Common.{inl, inr, rules}
use Rattle.sqlite.specs.Held.{state}
use Rattle.sql_store.proofs.Steps.{if_ok_both}
use Rattle.std.proofs.lemmas.Result.{IfOk-weaker}
use Rattle.sql_store.specs.Reading.{seen}
use Rattle.sql_store.proofs.Loaded.{answered, same_map, shown_row}
use Rattle.sql_store.proofs.Opens.{none_read}
use Rattle.sql_store.proofs.inside.read_new.Goals as goal

pub returns-in-Ok-clause-rows : goal.returns-in-Ok-clause-rows
returns-in-Ok-clause-rows g c clean has =
    let db = (state g.S.Store c.args.tx.now.conn.now).now.trees in
    if_ok_both c.sorted.result _ _ _ c.sorted.ensures.read c.sorted.ensures.rising
    (λ read is rising. same_map (db 2) c.in-Ok.rows.items read.items (answered db c.in-Ok.rows.items (c.in-Ok.ensures.selects.rows clean has)) (rw c.as_slice.ensures.value at is) rising)

pub returns-in-Ok-clause-none : goal.returns-in-Ok-clause-none
returns-in-Ok-clause-none g c clean has =
    let db = (state g.S.Store c.args.tx.now.conn.now).now.trees in
    IfOk-weaker c.sorted.result _ _
    (λ read is. none_read shown_row seen (db 2) c.in-Ok.rows.items read.items (answered db c.in-Ok.rows.items (c.in-Ok.ensures.selects.rows clean has)) (rw c.as_slice.ensures.value at is)) c.sorted.ensures.read

pub returns-in-Ok-clause-asked : goal.returns-in-Ok-clause-asked
returns-in-Ok-clause-asked g c clean =
    IfOk-weaker c.sorted.result _ _ (λ read is. (c.in-Ok.rows.items, c.in-Ok.ensures.selects.shown clean, rw c.as_slice.ensures.value at is)) c.sorted.ensures.read

pub returns-in-Ok-clause-refused : goal.returns-in-Ok-clause-refused
returns-in-Ok-clause-refused g c clean inside is =
    inr (c.select_inside.new.tx.conn.now, c.in-Ok.rows.items, c.in-Ok.ensures.selects.shown clean, rw c.as_slice.ensures.value at (c.sorted.ensures.refused is))

pub returns-in-Err-clause-refused : goal.returns-in-Err-clause-refused
returns-in-Err-clause-refused g c clean inside is =
    inl (c.select_inside.new.tx.conn.now, c.in-Err.error, c.in-Err.ensures.selects.refused clean inside, search rules)

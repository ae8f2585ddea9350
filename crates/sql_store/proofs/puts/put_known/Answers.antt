use Rattle.std.proofs.Common.{◌≡◌, ◌<◌, Ok, Err, inl, subst, rules}
use Rattle.sqlite.specs.Held.{state}
use Rattle.sqlite.specs.State.{ExecutesInside}
use Rattle.sql_store.specs.Asked.{update_text, params_of, IsLeft}
use Rattle.sql_store.specs.Calls.{IfInside}
use Rattle.sql_store.proofs.Answering.{did_so, gave_so}
use Rattle.sql_store.proofs.Causes.{inside_caused}
use Rattle.sql_store.proofs.Steps.{steps_by}
use Rattle.sql_store.proofs.Ways.{left_first, left_put}
use Rattle.sql_store.proofs.puts.put_known.Goals as goal

pub returns-then-is_left-clause-answers : goal.returns-then-is_left-clause-answers
returns-then-is_left-clause-answers g c =
    let row = c.args.row.now in
    let old = c.args.tx.now.conn.now in
    let mid = c.update.new.tx.conn.now in
    let zero : c.in_ok-count.count ≡ 0 = search rules in
    let none : IfInside g.S.Store old mid (IsLeft g.S.Store (params_of row) old mid) = λ clean inside.
    inl (subst (λ n. ExecutesInside 0 update_text (params_of row) (state g.S.Store old) (state g.S.Store mid) (Ok n)) zero (c.in_ok-count.ensures.runs clean inside)) in
    left_put g.S.Store row.key row.value row.commit none c.update.ensures.survives c.put.ensures.answers

pub returns-else-is_left-clause-answers : goal.returns-else-is_left-clause-answers
returns-else-is_left-clause-answers g c =
    let ran = c.in_ok-count.ensures.runs in
    let met : 0 < c.in_ok-count.count = search rules in
    did_so g.S.Store (steps_by update_text (params_of c.args.row.now) (state g.S.Store c.args.tx.now.conn.now) (state g.S.Store c.update.new.tx.conn.now) (Ok c.in_ok-count.count) ran c.update.ensures.survives)
    (λ clean inside. inl (c.in_ok-count.count, met, ran clean inside))

pub returns-in_err-count-clause-answers : goal.returns-in_err-count-clause-answers
returns-in_err-count-clause-answers g c =
    let e = c.in_err-count.field-0.0 in
    let ran = c.in_err-count.ensures.runs in
    let old = state g.S.Store c.args.tx.now.conn.now in
    let new = state g.S.Store c.update.new.tx.conn.now in
    let same : c.from_residual.result ≡ Err e = search rules in
    rw same (gave_so g.S.Store (steps_by update_text (params_of c.args.row.now) old new (Err e) ran c.update.ensures.survives)
    (λ clean inside. inside_caused update_text (params_of c.args.row.now) old new e (ran clean inside)) (λ clean inside. inl (ran clean inside)))

pub returns-then-is_left-clause-first : goal.returns-then-is_left-clause-first
returns-then-is_left-clause-first g c =
    let row = c.args.row.now in
    let old = c.args.tx.now.conn.now in
    let mid = c.update.new.tx.conn.now in
    let zero : c.in_ok-count.count ≡ 0 = search rules in
    let none : IfInside g.S.Store old mid (IsLeft g.S.Store (params_of row) old mid) = λ clean inside.
    inl (subst (λ n. ExecutesInside 0 update_text (params_of row) (state g.S.Store old) (state g.S.Store mid) (Ok n)) zero (c.in_ok-count.ensures.runs clean inside)) in
    left_first g.S.Store row.key row.value row.commit update_text (Ok c.in_ok-count.count) old mid c.put.new.tx.conn.now c.in_ok-count.ensures.runs none c.put.ensures.answers

pub returns-else-is_left-clause-first : goal.returns-else-is_left-clause-first
returns-else-is_left-clause-first g c clean inside = inl (Ok c.in_ok-count.count, c.in_ok-count.ensures.runs clean inside)

pub returns-in_err-count-clause-first : goal.returns-in_err-count-clause-first
returns-in_err-count-clause-first g c clean inside = inl (Err c.in_err-count.field-0.0, c.in_err-count.ensures.runs clean inside)

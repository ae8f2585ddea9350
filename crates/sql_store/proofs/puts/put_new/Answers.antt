use Rattle.std.proofs.Common.{Ok, Err, inl, inr, sym, ◌∙◌}
use Rattle.sqlite.specs.Held.{state}
use Rattle.sql_store.specs.Asked.{insert_text, params_of, IsLeft}
use Rattle.sql_store.specs.Calls.{IfInside}
use Rattle.sql_store.proofs.Answering.{did_so, gave_so}
use Rattle.sql_store.proofs.Causes.{inside_caused}
use Rattle.sql_store.proofs.Steps.{steps_by}
use Rattle.sql_store.proofs.Ways.{left_first, left_put}
use Rattle.sql_store.proofs.puts.put_new.Goals as goal

pub returns-in-Ok-clause-answers : goal.returns-in-Ok-clause-answers
returns-in-Ok-clause-answers g c =
    let count = c.in-Ok.field-0 in
    let ran = c.in-Ok.ensures.runs in
    did_so g.S.Store (steps_by insert_text (params_of c.args.row.now) (state g.S.Store c.args.tx.now.conn.now) (state g.S.Store c.insert.new.tx.conn.now) (Ok count) ran c.insert.ensures.survives)
    (λ clean inside. inr (inl (count, ran clean inside)))

pub returns-then-breaks_rule-clause-answers : goal.returns-then-breaks_rule-clause-answers
returns-then-breaks_rule-clause-answers g c =
    let row = c.args.row.now in
    let old = c.args.tx.now.conn.now in
    let mid = c.insert.new.tx.conn.now in
    let broke : IfInside g.S.Store old mid (IsLeft g.S.Store (params_of row) old mid) = λ clean inside.
    inr (c.in-Err.error, sym c.breaks_rule.ensures ∙ c.if-breaks_rule.true, c.in-Err.ensures.runs clean inside) in
    left_put g.S.Store row.key row.value row.commit broke c.insert.ensures.survives c.put.ensures.answers

pub returns-else-breaks_rule-clause-answers : goal.returns-else-breaks_rule-clause-answers
returns-else-breaks_rule-clause-answers g c =
    let e = c.in-Err.error in
    let ran = c.in-Err.ensures.runs in
    let old = state g.S.Store c.args.tx.now.conn.now in
    let new = state g.S.Store c.insert.new.tx.conn.now in
    gave_so g.S.Store (steps_by insert_text (params_of c.args.row.now) old new (Err e) ran c.insert.ensures.survives)
    (λ clean inside. inside_caused insert_text (params_of c.args.row.now) old new e (ran clean inside)) (λ clean inside. inr (inl (sym c.breaks_rule.ensures ∙ c.if-breaks_rule.false, ran clean inside)))

pub returns-in-Ok-clause-first : goal.returns-in-Ok-clause-first
returns-in-Ok-clause-first g c clean inside = inl (Ok c.in-Ok.field-0, c.in-Ok.ensures.runs clean inside)

pub returns-then-breaks_rule-clause-first : goal.returns-then-breaks_rule-clause-first
returns-then-breaks_rule-clause-first g c =
    let row = c.args.row.now in
    let old = c.args.tx.now.conn.now in
    let mid = c.insert.new.tx.conn.now in
    let broke : IfInside g.S.Store old mid (IsLeft g.S.Store (params_of row) old mid) = λ clean inside.
    inr (c.in-Err.error, sym c.breaks_rule.ensures ∙ c.if-breaks_rule.true, c.in-Err.ensures.runs clean inside) in
    left_first g.S.Store row.key row.value row.commit insert_text (Err c.in-Err.error) old mid c.put.new.tx.conn.now c.in-Err.ensures.runs broke c.put.ensures.answers

pub returns-else-breaks_rule-clause-first : goal.returns-else-breaks_rule-clause-first
returns-else-breaks_rule-clause-first g c clean inside = inl (Err c.in-Err.error, c.in-Err.ensures.runs clean inside)

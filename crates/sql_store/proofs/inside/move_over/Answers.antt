use Rattle.std.proofs.Common.{◌≡◌, Err, inl, inr, rules}
use Rattle.sql_store.proofs.Answering.{answers_then, answers_as}
use Rattle.sql_store.proofs.Steps.{on_ok_then}
use Rattle.sql_store.proofs.inside.move_over.Goals as goal

pub returns-in_err-move_rows-clause-answers : goal.returns-in_err-move_rows-clause-answers
returns-in_err-move_rows-clause-answers g c =
    let e = c.in_err-move_rows.field-0.0 in
    let same : c.from_residual.result ≡ Err e = search rules in
    rw same (answers_as g.S.Store (λ h. h) (λ x gave refused. inl (gave refused)) c.in_err-move_rows.ensures.answers)

pub returns-clause-answers : goal.returns-clause-answers
returns-clause-answers g c =
    let put = c.move_rows.new.tx.conn.now in
    let first = c.in_ok-move_rows.ensures.answers in
    answers_then g.S.Store first.steps c.in_ok-move_rows.ensures.on
    (λ was inside. on_ok_then c.empty.result (λ ran. (put, first.asked was inside, ran)))
    (λ was inside e gave refused. inr (put, first.asked was inside, (c.empty.new.tx.conn.now, e, gave, refused))) c.empty.ensures.answers

use Rattle.std.proofs.Common.{◌≡◌, Err, inl, inr, rules}
use Rattle.sql_store.proofs.Answering.{answers_then, answers_as}
use Rattle.sql_store.proofs.Steps.{on_ok_then}
use Rattle.sql_store.proofs.inside.make_tables.Goals as goal

pub returns-in_err-create_old-clause-answers : goal.returns-in_err-create_old-clause-answers
returns-in_err-create_old-clause-answers g c =
    let e = c.in_err-create_old.field-0.0 in
    let same : c.from_residual.result ≡ Err e = search rules in
    rw same (answers_as g.S.Store (λ h. h) (λ x gave refused. inl (c.create_old.new.tx.conn.now, x, gave, refused)) c.in_err-create_old.ensures.answers)

pub returns-clause-answers : goal.returns-clause-answers
returns-clause-answers g c =
    let mid = c.create_old.new.tx.conn.now in
    let first = c.in_ok-create_old.ensures.answers in
    answers_then g.S.Store first.steps (λ was inside. (c.in_ok-create_old.ensures.on was inside).0)
    (λ was inside. on_ok_then c.create.result (λ ran. (mid, first.asked was inside, ran)))
    (λ was inside e gave refused. inr (mid, first.asked was inside, (c.create.new.tx.conn.now, e, gave, refused))) c.create.ensures.answers

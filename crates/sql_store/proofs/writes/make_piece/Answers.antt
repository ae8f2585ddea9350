use Rattle.std.proofs.Common.{SFits, w64, inl, inr}
use Rattle.std.proofs.lemmas.Int.{to_z-of_z}
use Rattle.sql_store.proofs.Answering.{answers_as}
use Rattle.sql_store.proofs.Steps.{on_ok_then}
use Rattle.sql_store.proofs.writes.make_piece.Goals as goal

pub returns-then-piece-eq1-clause-answers : goal.returns-then-piece-eq1-clause-answers
returns-then-piece-eq1-clause-answers g c =
    let number : SFits w64 c.args.number = c.ranges.number in
    let one = c.if-piece-eq1.true in
    let each = simp to_z-of_z at c.make_each.ensures.answers in
    answers_as g.S.Store (on_ok_then c.make_each.result (λ made. inl (one, made))) (λ e gave. inl (one, gave)) each

pub returns-else-piece-eq1-clause-answers : goal.returns-else-piece-eq1-clause-answers
returns-else-piece-eq1-clause-answers g c =
    let number : SFits w64 c.args.number = c.ranges.number in
    let rows = simp to_z-of_z at c.make_rows.ensures.answers in
    answers_as g.S.Store (on_ok_then c.make_rows.result (λ made. inr made)) (λ e gave. inr gave) rows

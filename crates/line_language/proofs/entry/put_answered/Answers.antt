use Rattle.std.proofs.Common.{[], ◌∷◌}
use Rattle.std.specs.Prelude.{codes}
use Rattle.txn_bytes.proofs.Exports.{front_of, on_err, then, then_front, then_on_err}
use Rattle.line_language.proofs.entry.put_answered.Goals as goal

pub returns-in_err-put_place-clause-err : goal.returns-in_err-put_place-clause-err
returns-in_err-put_place-clause-err g c =
    on_err c.from_residual.result (front_of _ _ _ _ (front_of _ _ _ _ (front_of _ _ _ _ (front_of _ _ _ _ c.in_err-put_place.ensures.err))))

pub returns-in_err-put-clause-err : goal.returns-in_err-put-clause-err
returns-in_err-put-clause-err g c =
    on_err c.from_residual-in_err-put.result (front_of _ _ _ _ (front_of _ _ _ _ (front_of _ _ _ _ (then_front _ _ _ _ (32 ∷ []) c.in_ok-put_place.ensures.ok c.in_err-put.ensures.err))))

pub returns-in_err-put_event-clause-err : goal.returns-in_err-put_event-clause-err
returns-in_err-put_event-clause-err g c =
    let before = then _ _ _ _ (32 ∷ []) c.in_ok-put_place.ensures.ok c.in_ok-put.ensures.ok in
    on_err c.from_residual-in_err-put_event.result (front_of _ _ _ _ (front_of _ _ _ _ (then_front _ _ _ _ _ before c.in_err-put_event.ensures.err)))

pub returns-in_err-put-2-clause-err : goal.returns-in_err-put-2-clause-err
returns-in_err-put-2-clause-err g c =
    let before = then _ _ _ _ (32 ∷ []) c.in_ok-put_place.ensures.ok c.in_ok-put.ensures.ok in
    let asked = then _ _ _ _ _ before c.in_ok-put_event.ensures.ok in
    on_err c.from_residual-in_err-put-2.result (front_of _ _ _ _ (then_front _ _ _ _ (codes " -> ") asked c.in_err-put-2.ensures.err))

pub returns-clause-err : goal.returns-clause-err
returns-clause-err g c =
    let before = then _ _ _ _ (32 ∷ []) c.in_ok-put_place.ensures.ok c.in_ok-put.ensures.ok in
    let asked = then _ _ _ _ _ before c.in_ok-put_event.ensures.ok in
    let all = then _ _ _ _ (codes " -> ") asked c.in_ok-put-2.ensures.ok in
    then_on_err _ _ _ _ _ _ all c.put_answer.ensures.err

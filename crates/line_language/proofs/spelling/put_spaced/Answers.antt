use Rattle.std.proofs.Common.{[], ◌∷◌}
use Rattle.txn_bytes.proofs.Exports.{front_of, on_err, then, then_front, then_on_err}
use Rattle.line_language.proofs.spelling.put_spaced.Goals as goal

pub returns-in_err-put_named-clause-err : goal.returns-in_err-put_named-clause-err
returns-in_err-put_named-clause-err g c =
    on_err c.from_residual.result (front_of _ _ _ _ (front_of _ _ _ _ c.in_err-put_named.ensures.err))

pub returns-in_err-put-clause-err : goal.returns-in_err-put-clause-err
returns-in_err-put-clause-err g c =
    on_err c.from_residual-in_err-put.result (front_of _ _ _ _ (then_front _ _ _ _ _ c.in_ok-put_named.ensures.ok c.in_err-put.ensures.err))

pub returns-clause-err : goal.returns-clause-err
returns-clause-err g c =
    then_on_err _ _ _ _ _ _ (then _ _ _ _ (32 ∷ []) c.in_ok-put_named.ensures.ok c.in_ok-put.ensures.ok) c.put-2.ensures.err

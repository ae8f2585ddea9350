use Rattle.std.proofs.Common.{[], ◌∷◌, ◌++◌}
use Rattle.std.specs.Prelude.{codes, decimal}
use Rattle.txn_bytes.proofs.Exports.{front_of, on_err, then, then_front, then_on_err}
use Rattle.report_text.proofs.verdict.put_no.Goals as goal

pub returns-in_err-put-clause-err : goal.returns-in_err-put-clause-err
returns-in_err-put-clause-err g c = on_err c.from_residual.result (front_of _ _ (codes "no " ++ decimal c.args.number) (10 ∷ []) (front_of _ _ (codes "no ") (decimal c.args.number) c.in_err-put.ensures.err))

pub returns-in_err-put_size-clause-err : goal.returns-in_err-put_size-clause-err
returns-in_err-put_size-clause-err g c =
    on_err c.from_residual-in_err-put_size.result (front_of _ _ _ _ (then_front _ _ _ (codes "no ") _ c.in_ok-put.ensures.ok c.in_err-put_size.ensures.err))

pub returns-clause-err : goal.returns-clause-err
returns-clause-err g c =
    then_on_err _ _ _ _ (10 ∷ []) _ (then _ _ _ (codes "no ") _ c.in_ok-put.ensures.ok c.in_ok-put_size.ensures.ok) c.put-2.ensures.err

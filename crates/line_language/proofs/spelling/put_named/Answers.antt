use Rattle.txn_bytes.proofs.Exports.{front_of, on_err, then_on_err}
use Rattle.line_language.proofs.spelling.put_named.Goals as goal

pub returns-in_err-put-clause-err : goal.returns-in_err-put-clause-err
returns-in_err-put-clause-err g c = on_err c.from_residual.result (front_of _ _ _ _ c.in_err-put.ensures.err)

pub returns-clause-err : goal.returns-clause-err
returns-clause-err g c = then_on_err _ _ _ _ _ _ c.in_ok-put.ensures.ok c.write_to.ensures.err

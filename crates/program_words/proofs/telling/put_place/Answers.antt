use Rattle.txn_bytes.proofs.Exports.{cut_before, handed_on, puts_then}
use Rattle.program_words.proofs.telling.put_place.Goals as goal

pub returns-in_err-put_counted : goal.returns-in_err-put_counted
returns-in_err-put_counted g c = handed_on (cut_before _ (cut_before _ c.in_err-put_counted.ensures)) c.from_residual.ensures.0

pub returns-in_err-put : goal.returns-in_err-put
returns-in_err-put g c = handed_on (cut_before _ (puts_then c.in_ok-put_counted.ensures c.in_err-put.ensures)) c.from_residual-in_err-put.ensures.0

pub returns : goal.returns
returns g c = puts_then (puts_then c.in_ok-put_counted.ensures c.in_ok-put.ensures) c.put_kind.ensures

use Rattle.txn_bytes.proofs.Exports.{cut_before, handed_on, puts_then}
use Rattle.program_words.proofs.telling.put_fault.Goals as goal

pub returns-in_err-put_cause : goal.returns-in_err-put_cause
returns-in_err-put_cause g c = handed_on (cut_before _ c.in_err-put_cause.ensures) c.from_residual.ensures.0

pub returns : goal.returns
returns g c = puts_then c.in_ok-put_cause.ensures c.put.ensures

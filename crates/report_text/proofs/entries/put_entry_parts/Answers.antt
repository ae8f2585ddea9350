use Rattle.std.proofs.Common.{[], ◌∷◌}
use Rattle.txn_bytes.proofs.Exports.{front_of, on_err, then_on_err}
use Rattle.report_text.proofs.entries.put_entry_parts.Goals as goal

pub returns-in_err-put_entry-clause-err : goal.returns-in_err-put_entry-clause-err
returns-in_err-put_entry-clause-err g c = on_err c.from_residual.result (front_of _ _ _ _ c.in_err-put_entry.ensures.err)

pub returns-clause-err : goal.returns-clause-err
returns-clause-err g c = then_on_err _ _ _ _ (10 ∷ []) _ c.in_ok-put_entry.ensures.ok c.put.ensures.err

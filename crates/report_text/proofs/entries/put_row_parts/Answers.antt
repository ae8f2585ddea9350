use Rattle.std.proofs.Common.{[], ◌∷◌, SFits, w64, rules}
use Rattle.std.proofs.lemmas.Int.{to_z-of_z}
use Rattle.txn_bytes.proofs.Exports.{front_of, on_err, then_on_err}
use Rattle.report_text.proofs.entries.put_row_parts.Goals as goal

pub returns-in_err-put_row-clause-err : goal.returns-in_err-put_row-clause-err
returns-in_err-put_row-clause-err g c =
    let fits : SFits w64 c.args.value = search rules in
    on_err c.from_residual.result (front_of _ _ _ _ (simp to_z-of_z at c.in_err-put_row.ensures.err))

pub returns-clause-err : goal.returns-clause-err
returns-clause-err g c =
    let fits : SFits w64 c.args.value = search rules in
    then_on_err _ _ _ _ (10 ∷ []) _ (simp to_z-of_z at c.in_ok-put_row.ensures.ok) c.put.ensures.err

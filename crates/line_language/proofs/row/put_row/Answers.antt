use Rattle.std.proofs.Common.{[], ◌∷◌, SFits, w64, rules}
use Rattle.std.proofs.lemmas.Int.{to_z-of_z}
use Rattle.txn_bytes.proofs.Exports.{front_of, on_err, then, then_front, then_on_err}
use Rattle.line_language.proofs.row.put_row.Goals as goal

pub returns-in_err-put-clause-err : goal.returns-in_err-put-clause-err
returns-in_err-put-clause-err g c =
    on_err c.from_residual.result (front_of _ _ _ _ (front_of _ _ _ _ (rw c.as_bytes.ensures.value at c.in_err-put.ensures.err)))

pub returns-in_err-put-2-clause-err : goal.returns-in_err-put-2-clause-err
returns-in_err-put-2-clause-err g c =
    on_err c.from_residual-in_err-put-2.result (front_of _ _ _ _ (then_front _ _ _ _ (61 ∷ []) (rw c.as_bytes.ensures.value at c.in_ok-put.ensures.ok) c.in_err-put-2.ensures.err))

pub returns-clause-err : goal.returns-clause-err
returns-clause-err g c =
    let fits : SFits w64 c.args.value = search rules in
    then_on_err _ _ _ _ _ _ (then _ _ _ _ (61 ∷ []) (rw c.as_bytes.ensures.value at c.in_ok-put.ensures.ok) c.in_ok-put-2.ensures.ok) (simp to_z-of_z at c.put_number.ensures.err)

use Rattle.std.proofs.Common.{[], ◌∷◌}
use Rattle.std.proofs.Common.{SFits, w64, rules}
use Rattle.std.proofs.lemmas.Int.{to_z-of_z}
use Rattle.txn_bytes.proofs.Exports.{front_of, on_err, then, then_front, then_on_err, then_on_ok}
use Rattle.line_language.proofs.spelling.put_valued.Goals as goal

pub returns-in_err-put_keyed-clause-err : goal.returns-in_err-put_keyed-clause-err
returns-in_err-put_keyed-clause-err g c =
    on_err c.from_residual.result (front_of _ _ _ _ (front_of _ _ _ _ c.in_err-put_keyed.ensures.err))

pub returns-in_err-put-clause-err : goal.returns-in_err-put-clause-err
returns-in_err-put-clause-err g c =
    on_err c.from_residual-in_err-put.result (front_of _ _ _ _ (then_front _ _ _ _ _ c.in_ok-put_keyed.ensures.ok c.in_err-put.ensures.err))

pub returns-clause-ok : goal.returns-clause-ok
returns-clause-ok g c =
    let fits : SFits w64 c.args.number = search rules in
    then_on_ok _ _ _ _ _ _ (then _ _ _ _ (32 ∷ []) c.in_ok-put_keyed.ensures.ok c.in_ok-put.ensures.ok) (simp to_z-of_z at c.put_number.ensures.ok)

pub returns-clause-err : goal.returns-clause-err
returns-clause-err g c =
    let fits : SFits w64 c.args.number = search rules in
    then_on_err _ _ _ _ _ _ (then _ _ _ _ (32 ∷ []) c.in_ok-put_keyed.ensures.ok c.in_ok-put.ensures.ok) (simp to_z-of_z at c.put_number.ensures.err)

use Rattle.std.proofs.Common.{refl}
use Rattle.row_store.proofs.Calls.{any_error, failed}
use Rattle.row_store.proofs.traits.RowStoreStore.seek.Goals as goal

pub returns-in_err-set_cursor-clause-err : goal.returns-in_err-set_cursor-clause-err
returns-in_err-set_cursor-clause-err c = any_error c.from_residual.result _ (λ e. failed _ _ refl e)

use Rattle.std.proofs.Common.{◌≡◌, sym, subst, rules}
use Rattle.std.specs.Prelude.{IfOk, IsTrue}
use Rattle.serial_spec.specs.Rows.{value_in}
use Rattle.durable_top.specs.Store.{plain, told}
use Rattle.sqlite.specs.Held.{state}
use Rattle.sql_store.specs.Asked.{Loaded}
use Rattle.sql_store.specs.Kept.{Spares}
use Rattle.sql_store.specs.Refusals.{CannotLoad}
use Rattle.durable_top.specs.declared.store.StoreFault.TheVariants.{Refused}
use Rattle.sql_store.proofs.Steps.{told_if, told_err, told_err_if}
use Rattle.sql_store.proofs.Forgotten.{no_other, no_other_trees, rows_forgotten, same_forgotten}
use Rattle.sql_store.specs.Stored.{Stored, table, may_leave, may_leave_numbered}
use Rattle.sql_store.proofs.Doubts.{no_doubt}
use Rattle.sql_store.proofs.store.SqlStoreTopStore.load.Goals as goal

pub returns-clause-rows : goal.returns-clause-rows
returns-clause-rows g c none =
    let sure = no_doubt _ c.self.inside.is_known none in
    subst (λ (v : Stored _). IfOk c.load_settled-answer.result (λ rows. value_in (plain rows.items) ≡ table g.S.Store v.connection)) c.self.view_is
    (rows_forgotten c.load_settled-answer.result _ (c.load_settled-answer.ensures.rows sure.0 (λ _. c.self.invariant.0 sure.1)))

pub returns-clause-crash_numbers : goal.returns-clause-crash_numbers
returns-clause-crash_numbers g c none left may =
    let sure = no_doubt _ c.self.inside.is_known none in
    subst (λ (v : Stored _). may_leave_numbered g.S.Store v.connection left) c.self.view_is
    (no_other g.S.Store c.self.inside.connection c.load_settled-answer.new.conn c.load_settled-answer.ensures.survives sure.0 left may)

pub returns-clause-crash : goal.returns-clause-crash
returns-clause-crash g c none left may =
    let sure = no_doubt _ c.self.inside.is_known none in
    subst (λ (v : Stored _). may_leave g.S.Store v.connection left) c.self.view_is
    (same_forgotten g.S.Store c.self.inside.connection c.load_settled-answer.new.conn (no_other g.S.Store c.self.inside.connection c.load_settled-answer.new.conn c.load_settled-answer.ensures.survives sure.0) left may)

pub returns-clause-asked : goal.returns-clause-asked
returns-clause-asked g c = record {
  failed = search rules;
  faults = search rules;
  known = search rules;
  numbers = search rules;
  top = search rules;
  cause = search rules;
  asked = λ clean.
      subst (λ (v : Stored _). IfOk (told c.load_settled-answer.result) (Loaded g.S.Store v.connection c.load_settled-answer.new.conn)) c.self.view_is
      (told_if c.load_settled-answer.result _ (c.load_settled-answer.ensures.asked clean));
  kept = λ clean.
      subst (λ (v : Stored _). Spares (state g.S.Store v.connection) (state g.S.Store c.load_settled-answer.new.conn)) c.self.view_is (c.load_settled-answer.ensures.spared clean);
  crash = λ clean db may.
      subst (λ (v : Stored _). (state g.S.Store v.connection).may_leave db) c.self.view_is (no_other_trees g.S.Store c.self.inside.connection c.load_settled-answer.new.conn c.load_settled-answer.ensures.survives clean db may);
  stays_open = λ clean was.
      told_err_if c.load_settled-answer.result _ (c.load_settled-answer.ensures.open clean (subst (λ (v : Stored _). IsTrue (state g.S.Store v.connection).is_open) (sym c.self.view_is) was));
  limit = subst (λ (v : Stored _). (state g.S.Store c.load_settled-answer.new.conn).step_limit ≡ (state g.S.Store v.connection).step_limit) c.self.view_is c.load_settled-answer.ensures.survives.limit;
  refused = λ clean is.
      subst (λ (v : Stored _). CannotLoad g.S.Store v.connection c.load_settled-answer.new.conn) c.self.view_is (c.load_settled-answer.ensures.refused clean (told_err c.load_settled-answer.result Refused is));
}

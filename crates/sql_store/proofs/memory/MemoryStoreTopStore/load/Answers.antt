use Rattle.std.proofs.Common.{◌≡◌, ◌∙◌, subst}
use Rattle.std.specs.Prelude.{IfOk}
use Rattle.row_store.specs.Steps.{over_memory}
use Rattle.row_store.specs.declared.store.RowStore.{RowStore}
use Rattle.serial_spec.specs.Rows.{value_in}
use Rattle.durable_top.specs.Numbered.{entries_in}
use Rattle.durable_top.specs.Store.{plain}
use Rattle.sql_store.specs.Stored.{Stored, numbered, table, may_leave, may_leave_numbered}
use Rattle.sql_store.proofs.Doubts.{sure_in_memory}
use Rattle.sql_store.proofs.memory.MemoryStoreTopStore.load.Goals as goal

pub returns-clause-rows : goal.returns-clause-rows
returns-clause-rows c none =
    subst (λ (v : Stored RowStore). IfOk c.load.result (λ rows. value_in (plain rows.items) ≡ table over_memory v.connection)) c.self.view_is
    (c.load.ensures.rows (sure_in_memory c.load.new.self (c.load.ensures.asked.known ∙ c.self.invariant)))

pub returns-clause-numbers : goal.returns-clause-numbers
returns-clause-numbers c none =
    subst (λ (v : Stored RowStore). IfOk c.load.result (λ rows. entries_in rows.items ≡ numbered over_memory v.connection)) c.self.view_is
    (c.load.ensures.numbers (sure_in_memory c.load.new.self (c.load.ensures.asked.known ∙ c.self.invariant)))

pub returns-clause-kept : goal.returns-clause-kept
returns-clause-kept c none sound =
    subst (λ (v : Stored RowStore). table over_memory c.load.new.self.connection ≡ table over_memory v.connection) c.self.view_is
    (c.load.ensures.kept (sure_in_memory c.load.new.self (c.load.ensures.asked.known ∙ c.self.invariant)) sound)

pub returns-clause-kept_numbers : goal.returns-clause-kept_numbers
returns-clause-kept_numbers c none sound =
    subst (λ (v : Stored RowStore). numbered over_memory c.load.new.self.connection ≡ numbered over_memory v.connection) c.self.view_is
    (c.load.ensures.kept_numbers (sure_in_memory c.load.new.self (c.load.ensures.asked.known ∙ c.self.invariant)) sound)

pub returns-clause-crash : goal.returns-clause-crash
returns-clause-crash c none left may =
    subst (λ (v : Stored RowStore). may_leave over_memory v.connection left) c.self.view_is
    (c.load.ensures.crash (sure_in_memory c.load.new.self (c.load.ensures.asked.known ∙ c.self.invariant)) left may)

pub returns-clause-crash_numbers : goal.returns-clause-crash_numbers
returns-clause-crash_numbers c none left may =
    subst (λ (v : Stored RowStore). may_leave_numbered over_memory v.connection left) c.self.view_is
    (c.load.ensures.crash_numbers (sure_in_memory c.load.new.self (c.load.ensures.asked.known ∙ c.self.invariant)) left may)

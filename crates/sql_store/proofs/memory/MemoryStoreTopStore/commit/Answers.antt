use Rattle.std.proofs.Common.{◌≡◌, ◌∙◌, ◌⊎◌, subst}
use Rattle.std.specs.Prelude.{OnOk, IfErr}
use Rattle.row_store.specs.Steps.{over_memory}
use Rattle.row_store.specs.declared.store.RowStore.{RowStore}
use Rattle.serial_spec.specs.Serial.{Map}
use Rattle.serial_spec.specs.Changes.{overlay}
use Rattle.durable_top.specs.declared.store.StoreFault.TheVariants.{Failed}
use Rattle.durable_top.specs.Numbered.{Commits}
use Rattle.sql_store.specs.Stored.{Stored, numbered, table, may_leave, may_leave_numbered}
use Rattle.sql_store.proofs.Doubts.{sure_in_memory}
use Rattle.sql_store.proofs.memory.MemoryStoreTopStore.commit.Goals as goal

pub returns-clause-ok : goal.returns-clause-ok
returns-clause-ok c none =
    subst (λ (v : Stored RowStore). OnOk c.commit.result (table over_memory c.commit.new.self.connection ≡ overlay c.args.changes.now (table over_memory v.connection))) c.self.view_is
    (c.commit.ensures.ok (sure_in_memory c.commit.new.self (c.commit.ensures.asked.known ∙ c.self.invariant)))

pub returns-clause-numbers : goal.returns-clause-numbers
returns-clause-numbers c none =
    subst (λ (v : Stored RowStore). OnOk c.commit.result (Commits c.args.changes.now (numbered over_memory v.connection) (numbered over_memory c.commit.new.self.connection))) c.self.view_is
    (c.commit.ensures.numbers (sure_in_memory c.commit.new.self (c.commit.ensures.asked.known ∙ c.self.invariant)))

pub returns-clause-refused : goal.returns-clause-refused
returns-clause-refused c none =
    subst (λ (v : Stored RowStore). IfErr c.commit.result (λ fault. (fault ≡ Failed → ⊥) → table over_memory c.commit.new.self.connection ≡ table over_memory v.connection)) c.self.view_is
    (c.commit.ensures.refused (sure_in_memory c.commit.new.self (c.commit.ensures.asked.known ∙ c.self.invariant)))

pub returns-clause-kept_numbers : goal.returns-clause-kept_numbers
returns-clause-kept_numbers c none =
    subst (λ (v : Stored RowStore). IfErr c.commit.result (λ fault. (fault ≡ Failed → ⊥) → numbered over_memory c.commit.new.self.connection ≡ numbered over_memory v.connection)) c.self.view_is
    (c.commit.ensures.kept_numbers (sure_in_memory c.commit.new.self (c.commit.ensures.asked.known ∙ c.self.invariant)))

pub returns-clause-crash : goal.returns-clause-crash
returns-clause-crash c none left may =
    subst (λ (v : Stored RowStore). may_leave over_memory v.connection left ⊎ (left ≡ overlay c.args.changes.now (table over_memory v.connection))) c.self.view_is
    (c.commit.ensures.crash (sure_in_memory c.commit.new.self (c.commit.ensures.asked.known ∙ c.self.invariant)) left may)

pub returns-clause-crash_numbers : goal.returns-clause-crash_numbers
returns-clause-crash_numbers c none left may =
    subst (λ (v : Stored RowStore). may_leave_numbered over_memory v.connection left ⊎ Commits c.args.changes.now (numbered over_memory v.connection) left) c.self.view_is
    (c.commit.ensures.crash_numbers (sure_in_memory c.commit.new.self (c.commit.ensures.asked.known ∙ c.self.invariant)) left may)

pub returns-clause-settled : goal.returns-clause-settled
returns-clause-settled c none =
    subst (λ (v : Stored RowStore). OnOk c.commit.result ((left : Map) → may_leave over_memory c.commit.new.self.connection left → left ≡ overlay c.args.changes.now (table over_memory v.connection))) c.self.view_is
    (c.commit.ensures.settled (sure_in_memory c.commit.new.self (c.commit.ensures.asked.known ∙ c.self.invariant)))

pub returns-clause-settled_numbers : goal.returns-clause-settled_numbers
returns-clause-settled_numbers c none = c.commit.ensures.settled_numbers (sure_in_memory c.commit.new.self (c.commit.ensures.asked.known ∙ c.self.invariant))

use Rattle.sql_store.proofs.file.DatabaseStoreTopStore.load.Goals as goal

pub returns-clause-crash : goal.returns-clause-crash
returns-clause-crash c = rw c.deref_mut.ensures.value at c.load.ensures.crash

pub returns-clause-crash_numbers : goal.returns-clause-crash_numbers
returns-clause-crash_numbers c = rw c.deref_mut.ensures.value at c.load.ensures.crash_numbers

pub returns-clause-asked : goal.returns-clause-asked
returns-clause-asked c = rw c.deref_mut.ensures.value at c.load.ensures.asked

use Rattle.sql_store.proofs.file.DatabaseStoreTopStore.commit.Goals as goal

pub returns-clause-ok : goal.returns-clause-ok
returns-clause-ok c = rw c.deref_mut.ensures.value at c.commit.ensures.ok

pub returns-clause-numbers : goal.returns-clause-numbers
returns-clause-numbers c = rw c.deref_mut.ensures.value at c.commit.ensures.numbers

pub returns-clause-crash : goal.returns-clause-crash
returns-clause-crash c = rw c.deref_mut.ensures.value at c.commit.ensures.crash

pub returns-clause-crash_numbers : goal.returns-clause-crash_numbers
returns-clause-crash_numbers c = rw c.deref_mut.ensures.value at c.commit.ensures.crash_numbers

pub returns-clause-settled : goal.returns-clause-settled
returns-clause-settled c = rw c.deref_mut.ensures.value at c.commit.ensures.settled

pub returns-clause-shut : goal.returns-clause-shut
returns-clause-shut c = rw c.deref_mut.ensures.value at c.commit.ensures.shut

pub returns-clause-shut_numbers : goal.returns-clause-shut_numbers
returns-clause-shut_numbers c = rw c.deref_mut.ensures.value at c.commit.ensures.shut_numbers

pub returns-clause-asked : goal.returns-clause-asked
returns-clause-asked c = rw c.deref_mut.ensures.value at c.commit.ensures.asked

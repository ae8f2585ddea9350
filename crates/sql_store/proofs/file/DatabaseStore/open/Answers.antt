use Rattle.sql_store.proofs.file.DatabaseStore.open.Goals as goal

pub returns-in-Ok-on_the_heap-clause-doubted : goal.returns-in-Ok-on_the_heap-clause-doubted
returns-in-Ok-on_the_heap-clause-doubted c = rw c.in-Ok-on_the_heap.ensures.ok c.in-Ok.ensures.doubted

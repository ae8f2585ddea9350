use Rattle.std.proofs.lemmas.Result.{IfOk-weaker}
use Rattle.sql_store.proofs.Doubts.{memory_is_clean}
use Rattle.sql_store.proofs.store.SqlStore+RowStore.in_memory.Goals as goal

pub returns-in-Ok-clause-empty : goal.returns-in-Ok-clause-empty
returns-in-Ok-clause-empty c =
    IfOk-weaker c.adopted.result _ _ (λ store h. h (memory_is_clean store.connection)) (c.adopted.ensures.empty c.in-Ok.ensures.empty.2)

pub returns-in-Ok-clause-refused : goal.returns-in-Ok-clause-refused
returns-in-Ok-clause-refused c is =
    let h = c.adopted.ensures.refused is in
    (c.in-Ok.connection, c.in-Ok.ensures.empty, h.1 (memory_is_clean h.0))

pub returns-in-Ok-clause-made : goal.returns-in-Ok-clause-made
returns-in-Ok-clause-made c =
    IfOk-weaker c.adopted.result _ _ (λ store h. (c.in-Ok.connection, c.in-Ok.ensures.empty, h (memory_is_clean store.connection))) c.adopted.ensures.made

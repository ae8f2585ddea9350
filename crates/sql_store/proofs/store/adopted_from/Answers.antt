use Rattle.sql_store.proofs.Steps.{if_ok_both}
use Rattle.sql_store.proofs.store.adopted_from.Goals as goal

pub returns-in-Ok-clause-doubted : goal.returns-in-Ok-clause-doubted
returns-in-Ok-clause-doubted g c =
    if_ok_both c.adopted.result _ _ _ c.adopted.ensures.made c.adopted.ensures.doubted
    (λ store made doubted clean. (c.in-Ok.connection, made clean, doubted clean))

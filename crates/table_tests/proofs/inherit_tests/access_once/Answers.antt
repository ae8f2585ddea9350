use Rattle.table_tests.proofs.inherit_tests.access_once.Goals as goal

pub access-requires : goal.access-requires
access-requires c =
    record { place = c.in_ok-reserve_for.ensures.ok c.in-Some.txn c.in-Some.ensures.number }

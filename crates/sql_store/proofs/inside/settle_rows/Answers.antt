use Rattle.std.proofs.Common.{◌≡◌, length, rules}
use Rattle.sql_store.proofs.Moving.{none_from, moves_by}
use Rattle.sql_store.proofs.inside.settle_rows.Goals as goal

pub returns-in-Ok-clause-asked : goal.returns-in-Ok-clause-asked
returns-in-Ok-clause-asked g c clean inside =
    let none : length c.args.new.now ≡ 0 = search rules in
    moves_by g.S.Store c.args.old.now c.args.new.now c.args.tx.now.conn.now c.move_over.new.tx.conn.now (search rules)
    (none_from c.args.new.now none) (c.in-Ok.ensures.answers.asked clean inside)

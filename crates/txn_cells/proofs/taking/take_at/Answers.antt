use Rattle.std.proofs.Common.{sym, ◌∙◌}
use Rattle.txn_cells.proofs.Placing.{keys_more}
use Rattle.txn_cells.proofs.Puts.{at_ok}
use Rattle.txn_cells.proofs.Seen.{listed_more}
use Rattle.txn_cells.proofs.taking.take_at.Goals as goal

pub returns-else-is_err-clause-listed : goal.returns-else-is_err-clause-listed
returns-else-is_err-clause-listed g c =
    let more = at_ok c.add-listed.result c.add-listed.ensures.ok (sym c.is_err.ensures.value ∙ c.if-is_err.false) in
    listed_more c.args.places.now c.args.keys.now c.requires.listed c.take.new.self c.add-listed.new.self c.args.txn c.args.key.now c.in_ok-take.ensures.ok
    (keys_more c.args.keys.now c.add-listed.new.self c.args.txn c.args.key.now c.args.place more)

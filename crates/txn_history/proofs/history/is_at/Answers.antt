use Rattle.std.proofs.Common.{sym, ap, ◌∙◌}
use Rattle.std.specs.Option.{option_copied}
use Rattle.txn_history.proofs.Keys.{at_place}
use Rattle.txn_history.proofs.history.is_at.Goals as goal

pub returns-in-Some : goal.returns-in-Some
returns-in-Some c = λ h.
    at_place c.args.key.now c.in-Some.known.now c.args.keys.now.keys c.args.place
    (sym (ap option_copied c.in-Some.is) ∙ c.get_index.ensures.key) (sym c.eq.ensures ∙ h)

use Rattle.std.proofs.Common.{Some, List, ℕ, sym, ap, ◌∙◌}
use Rattle.std.specs.Option.{option_copied}
use Rattle.txn_names.proofs.Exports.{same_path}
use Rattle.txn_tree.proofs.register.Register.is_at.Goals as goal

pub returns-in-Some : goal.returns-in-Some
returns-in-Some c = λ h.
    sym c.name_of.ensures ∙ ap option_copied c.in-Some.is
    ∙ ap (λ (t : List (List ℕ)). Some t) (same_path c.in-Some.known.now c.args.name.now (sym c.eq.ensures ∙ h))

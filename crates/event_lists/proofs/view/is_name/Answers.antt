use Rattle.std.proofs.Common.{List, ℕ, sym, ap, ◌∙◌}
use Rattle.txn_names.specs.Path.{path_eq}
use Rattle.txn_names.proofs.Exports.{path_eq_self, same_path}
use Rattle.event_lists.proofs.view.is_name.Goals as goal

pub returns : goal.returns
returns c = (
  λ h. same_path c.args.one.now c.args.other.now (sym c.eq.ensures ∙ h),
  λ p. c.eq.ensures ∙ ap (λ (t : List (List ℕ)). path_eq c.args.one.now t) (sym p) ∙ path_eq_self c.args.one.now,
)

use Rattle.std.proofs.Common.{◌≡◌, ◌∙◌, ℕ, Some, cond, sym, ap, subst}
use Rattle.std.specs.Prelude.{slice_get}
use Rattle.txn_names.specs.Path.{path_eq}
use Rattle.txn_tree.specs.States.{States, names, status_in}
use Rattle.txn_tree.proofs.Written.{names_kept, status_written, tree_written}
use Rattle.txn_tree.proofs.register.Register.set_at.Goals as goal

pub invariant_of-self : goal.invariant_of-self
invariant_of-self c = tree_written _ c.self.invariant _ c.args.status c.requires.other

pub returns-clause-names : goal.returns-clause-names
returns-clause-names c =
    names_kept _ _ c.args.status ∙ ap (λ (s : States). names s) c.self.view_is

pub returns-clause-status : goal.returns-clause-status
returns-clause-status c = λ t at u.
    let tree : States = c.self.inside.states.entries in
    let here = subst (λ (s : States). slice_get (names s) c.args.txn ≡ Some t) (sym c.self.view_is) at in
    status_written tree c.self.invariant c.place.result c.args.status t (subst (λ (n : ℕ). slice_get (names tree) n ≡ Some t) (sym c.place.ensures) here) u
    ∙ ap (λ (s : States). cond (path_eq t u) c.args.status (status_in s u)) c.self.view_is

use Rattle.std.proofs.Common.{◌≡◌, true, false, sym, ap, ◌∙◌}
use Rattle.std.specs.Prelude.{is_some}
use Rattle.std.specs.Map.{lookup}
use Rattle.txn_names.specs.Path.{path_eq}
use Rattle.txn_tree.proofs.Numbers.{number_at, no_root, is_begun}
use Rattle.txn_tree.proofs.register.Register.no_of.Goals as goal

pub returns-in_err-place-clause-begun : goal.returns-in_err-place-clause-begun
returns-in_err-place-clause-begun c =
    let states = c.self.inside.states.entries in
    let none : is_some (lookup (path_eq c.args.name.now) states) ≡ false = sym c.get_index_of.ensures.found ∙ ap is_some c.in_err-place.was in
    rw (c.from_residual.ensures, sym c.self.view_is) (sym none ∙ is_begun states c.self.invariant c.args.name.now c.has_labels.ensures)

pub returns-in_err-place-clause-rootless : goal.returns-in_err-place-clause-rootless
returns-in_err-place-clause-rootless c = rw (sym c.self.view_is) (no_root c.self.inside.states.entries c.self.invariant)

pub returns-clause-number : goal.returns-clause-number
returns-clause-number c =
    let states = c.self.inside.states.entries in
    rw (sym c.self.view_is, c.new.ensures)
    (number_at _ c.self.invariant.distinct c.args.name.now c.in_ok-place.place (sym c.get_index_of.ensures.index ∙ c.in_ok-place.was))

pub returns-clause-begun : goal.returns-clause-begun
returns-clause-begun c =
    let states = c.self.inside.states.entries in
    let some : is_some (lookup (path_eq c.args.name.now) states) ≡ true = sym c.get_index_of.ensures.found ∙ ap is_some c.in_ok-place.was in
    rw (sym c.self.view_is) (sym some ∙ is_begun states c.self.invariant c.args.name.now c.has_labels.ensures)

pub returns-clause-rootless : goal.returns-clause-rootless
returns-clause-rootless c = rw (sym c.self.view_is) (no_root c.self.inside.states.entries c.self.invariant)

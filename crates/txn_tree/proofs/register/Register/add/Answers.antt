use Rattle.std.proofs.Common.{◌≡◌, ◌++◌, ◌∷◌, [], None, sym, ap, subst, ◌∙◌}
use Rattle.std.specs.List.{IsDistinct}
use Rattle.std.specs.Map.{lookup}
use Rattle.indexmap.proofs.CallerLemmas.{insert_entry-new}
use Rattle.txn_names.specs.Path.{path_eq}
use Rattle.txn_tree.specs.declared.status.Status.TheVariants.{Live}
use Rattle.txn_tree.specs.States.{IsTree, names}
use Rattle.txn_tree.specs.Causes.{cause_at_begin}
use Rattle.txn_tree.proofs.Changes.{tree_begun}
use Rattle.txn_tree.proofs.Refusals.{new_to_begin, place_to_begin}
use Rattle.txn_tree.proofs.register.Register.add.Goals as goal
use Rattle.txn_tree.proofs.register.Register.add.Goals.{in-Ok, in-Err}

begins : (c : goal.Joined-insert) → cause_at_begin c.self.inside.states.entries c.args.name.now ≡ None
begins c = subst (λ s. cause_at_begin s c.args.name.now ≡ None) (sym c.self.view_is) c.requires.begins

new : (c : goal.Joined-insert) → lookup (path_eq c.args.name.now) c.self.inside.states.entries ≡ None
new c = new_to_begin _ _ (begins c) c.self.invariant c.requires.name

pub invariant_of-self : goal.invariant_of-self
invariant_of-self c =
    let t = c.args.name.now in
    let states = c.self.inside.states in
    elim c.match-insert.branch [
      | in-Ok w ↦
          let last = w.in-Ok.ensures.entries ∙ insert_entry-new path_eq states t Live (new c) in
          let distinct = subst (λ s. IsDistinct path_eq (names s)) last c.insert.ensures.unique in
          subst IsTree (sym last) (tree_begun states.entries t c.self.invariant c.requires.name (place_to_begin states.entries t (begins c)) distinct)
      | in-Err w ↦ subst IsTree (sym w.in-Err.ensures.err) c.self.invariant
    ]

pub returns-clause-last : goal.returns-clause-last
returns-clause-last c =
    let t = c.args.name.now in
    let states = c.self.inside.states in
    elim c.match-insert.branch [
      | in-Ok w ↦ rw w.result-is (w.in-Ok.ensures.entries ∙ insert_entry-new path_eq states t Live (new c) ∙ ap (λ s. s ++ (t, Live) ∷ []) c.self.view_is)
      | in-Err w ↦ rw w.result-is tt
    ]

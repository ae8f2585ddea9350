use Rattle.std.proofs.Common.{◌≡◌, ◌∙◌, ℕ, Option, not, false, sym, ap, subst}
use Rattle.std.specs.Prelude.{is_some, IfSome}
use Rattle.txn_tree.specs.States.{States}
use Rattle.txn_tree.specs.Asked.{IsNumberOf, is_absent_in}
use Rattle.txn_tree.specs.Numbered.{live_children_named}
use Rattle.txn_tree.proofs.Told.{named_at, nobody_below}
use Rattle.txn_tree.proofs.tree.Tree.live_children.Goals as goal

pub returns-in-Some : goal.returns-in-Some
returns-in-Some c =
    let t = c.args.name.now in
    let number = subst (λ (o : Option ℕ). IfSome o (IsNumberOf c.args.self.now t)) c.in-Some.is c.no_of.ensures.number in
    c.live_children_at.ensures ∙ ap (live_children_named c.args.self.now) (named_at c.args.self.now t c.in-Some.txn number)

pub returns-in-None : goal.returns-in-None
returns-in-None c =
    let t = c.args.name.now in
    let absent : not (is_absent_in c.args.self.now t) ≡ false = sym c.no_of.ensures.begun ∙ ap is_some c.in-None.is in
    rw (sym c.self.view_is)
    (nobody_below c.self.inside.register c.self.inside.nodes.items c.self.inside.tops c.self.invariant.0 c.self.invariant.1 t c.has_labels.ensures
    (subst (λ (s : States). not (is_absent_in s t) ≡ false) (sym c.self.view_is) absent))

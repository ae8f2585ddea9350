use Rattle.std.proofs.Common.{◌≡◌, ◌∙◌, ℕ, Option, Some, sym, ap, subst}
use Rattle.std.specs.Prelude.{slice_get, IfSome}
use Rattle.txn_tree.specs.States.{States, names}
use Rattle.txn_tree.specs.Asked.{IsNumberOf}
use Rattle.txn_tree.specs.Numbered.{is_active_named}
use Rattle.txn_names.specs.Path.{Path}
use Rattle.txn_tree.proofs.Told.{named_at}
use Rattle.txn_tree.proofs.tree.Tree.active_no_of.Goals as goal

named : (tree : States) (t : Path) (o : Option ℕ) (n : ℕ) → o ≡ Some n → IfSome o (IsNumberOf tree t) → slice_get (names tree) n ≡ Some t
named tree t o n is number = named_at tree t n (subst (λ (q : Option ℕ). IfSome q (IsNumberOf tree t)) is number)

pub returns-then-is_active_at-clause-named : goal.returns-then-is_active_at-clause-named
returns-then-is_active_at-clause-named c = named c.args.self.now c.args.name.now c.no_of.result c.in_ok-txn.txn c.in_ok-txn.was c.no_of.ensures.number

pub returns-then-is_active_at-clause-is : goal.returns-then-is_active_at-clause-is
returns-then-is_active_at-clause-is c =
    sym c.if-is_active_at.true ∙ c.is_active_at.ensures
    ∙ ap (is_active_named c.args.self.now) (named c.args.self.now c.args.name.now c.no_of.result c.in_ok-txn.txn c.in_ok-txn.was c.no_of.ensures.number)

pub returns-else-is_active_at-clause-is : goal.returns-else-is_active_at-clause-is
returns-else-is_active_at-clause-is c =
    sym c.if-is_active_at.false ∙ c.is_active_at.ensures
    ∙ ap (is_active_named c.args.self.now) (named c.args.self.now c.args.name.now c.no_of.result c.in_ok-txn.txn c.in_ok-txn.was c.no_of.ensures.number)

use Rattle.std.proofs.Common.{◌≡◌, Bor, Option, Some, None, is_some, refl, sym, ap, subst, ◌∙◌, arith}
use Rattle.std.specs.Option.{option_copied}
use Rattle.txn_names.specs.declared.name.Name.{Name}
use Rattle.txn_tree.specs.Numbered.{is_under}
use Rattle.txn_tree.proofs.Under.{none_above, not_under, under_by_parent, under_itself}
use Rattle.txn_tree.proofs.tree.Tree.is_under.Goals as goal

pub loop-above-preserved : goal.loop-above-preserved
loop-above-preserved c =
    let inside = c.self.inside in
    let named = rw (sym c.self.view_is) at c.in-Some.ensures.named in
    c.loop-above.invariant
    ∙ rw (sym c.self.view_is)
    (under_by_parent inside.register inside.nodes.items inside.tops c.self.invariant.0 c.self.invariant.1 c.args.txn c.loop-above.above c.in-Some.parent (omega arith) named)

pub returns-in-None-clause-under : goal.returns-in-None-clause-under
returns-in-None-clause-under c =
    let inside = c.self.inside in
    let top = rw (sym c.self.view_is) at (sym c.in-None.ensures.some) in
    sym (c.loop-above.invariant
    ∙ rw (sym c.self.view_is) (none_above inside.register inside.nodes.items inside.tops c.self.invariant.0 c.self.invariant.1 c.args.txn c.loop-above.above (omega arith) top))

pub returns-then-place-clause-under : goal.returns-then-place-clause-under
returns-then-place-clause-under c =
    let inside = c.self.inside in
    sym (c.loop-above.invariant
    ∙ rw (sym c.self.view_is) (not_under inside.register inside.nodes.items inside.tops c.self.invariant.0 c.self.invariant.1 c.args.txn c.loop-above.above (omega arith)))

copied : (o : Option (Bor Name)) → is_some o ≡ is_some (option_copied o)
copied None = refl
copied (Some t) = refl

pub returns-clause-under : goal.returns-clause-under
returns-clause-under c =
    let same : c.loop-above.above ≡ c.args.txn = omega arith in
    c.is_some.ensures ∙ copied c.name_of.result ∙ ap is_some c.name_of.ensures ∙ under_itself c.args.self.now c.args.txn
    ∙ sym (c.loop-above.invariant ∙ ap (is_under c.args.self.now c.args.txn) same)

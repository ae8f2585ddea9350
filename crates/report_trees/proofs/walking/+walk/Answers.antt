use Rattle.std.proofs.Common.{◌≡◌, ◌∙◌, ◌<◌, ◌+◌, ◌-◌, ◌^◌, ◌++◌, ◌∷◌, [], ℕ, suc, List, Option, Some, ap, sym, subst, append_assoc, arith}
use Rattle.std.specs.Prelude.{IfSome}
use Rattle.report_trees.specs.Trees.{shown_of, tree_below, undone_at}
use Rattle.report_trees.specs.declared.outcomes.Shown.{Shown}
use Rattle.report_trees.specs.declared.telling.Told.{Told}
use Rattle.report_trees.proofs.Along.{IsUnderWay, child_place, left, less_left, own_told, place_below, under_way_first, under_way_last, under_way_next}
use Rattle.report_trees.proofs.walking.+walk.Goals as goal

pub children-init : goal.children-init
children-init t c = record {
  fits = c.first_of-child.ensures.fits;
  way = λ places tells linked are. under_way_first places tells c.args.more c.args.level c.args.place c.args.above c.args.out.now.items c.args.links.now c.args.told.now linked are c.first_of-child.result c.first_of-child.ensures.first;
}

pub children-preserved : goal.children-preserved
children-preserved t c = record {
  fits = c.next_of-child.ensures.fits;
  way = λ places tells linked are.
      let i = c.in-Some.number in
      let more = c.args.more in
      let level = c.args.level in
      let above = c.args.above in
      let before = c.args.out.now.items in
      let out = c.children.out.items in
      let way = subst (λ (o : Option ℕ). IsUnderWay places tells more level c.args.place above before o out) c.in-Some.is (c.children.invariant.way places tells linked are) in
      let at = child_place places tells more level c.args.place above before c.args.links.now c.args.told.now linked are i out way in
      let own : c.told_at-own.result ≡ tells i = c.told_at-own.ensures ∙ own_told places tells more level c.args.place above before c.args.links.now c.args.told.now linked are i _ at in
      let shown : c.shown_of.result ≡ shown_of i level (tells i) above = c.shown_of.ensures ∙ ap (λ t. shown_of i level t above) own in
      let undone : c.undone_at-undone.result ≡ undone_at (tells i).aborted above = c.undone_at-undone.ensures ∙ ap (λ (t : Told). undone_at t.aborted above) own in
      let place : c.saturating_add-below.result ≡ suc i = c.saturating_add-below.ensures ∙ place_below places tells more level c.args.place above before c.args.links.now c.args.told.now linked are i at in
      let deeper : level + 1 ≡ suc level = omega arith in
      let pushed : c.push.new.self.items ≡ out ++ shown_of i level (tells i) above ∷ [] = c.in_ok-push.ensures.items ∙ ap (λ s. out ++ s ∷ []) shown in
      under_way_next places tells more level c.args.place above before c.args.links.now c.args.told.now linked are i out _ c.next_of-child.result way c.next_of-child.ensures.kept
      (c.in_ok-walk.ensures places tells linked are ∙ (λ j. pushed j ++ tree_below tells places (more - 1) (deeper j) (place j) (undone j))
      ∙ append_assoc out (shown_of i level (tells i) above ∷ []) (tree_below tells places (more - 1) (suc level) (suc i) (undone_at (tells i).aborted above)));
}

pub children-smaller : goal.children-smaller
children-smaller t c =
    let fits : c.in-Some.number < 2 ^ 64 = subst (λ o. IfSome o (λ j. j < 2 ^ 64)) c.in-Some.is c.children.invariant.fits in
    subst (λ o. left c.next_of-child.result < left o) (sym c.in-Some.is) (less_left c.in-Some.number c.next_of-child.result fits c.next_of-child.ensures.later)

pub returns : goal.returns
returns t c places tells linked are =
    let some : 0 < c.args.more = omega (arith, c.if-more-eq0.false) in
    under_way_last places tells c.args.more c.args.level c.args.place c.args.above c.args.out.now.items c.args.links.now c.args.told.now linked are c.children.out.items some
    (subst (λ (o : Option ℕ). IsUnderWay places tells c.args.more c.args.level c.args.place c.args.above c.args.out.now.items o c.children.out.items) c.in_default.is (c.children.invariant.way places tells linked are))

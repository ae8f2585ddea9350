use Rattle.std.proofs.Common.{◌≡◌, ◌<◌, ◌^◌, ◌∙◌, ◌++◌, ℕ, List, None, Some, length, map, ap, sym, subst, arith}
use Rattle.std.specs.Prelude.{slice_get}
use Rattle.report_marks.specs.declared.deeds.Mark.{Mark}
use Rattle.report_trees.specs.inner.Linked.{AreTold, IsLinked}
use Rattle.report_trees.specs.Telling.{told_of}
use Rattle.report_trees.specs.Trees.{place_above, tree_below}
use Rattle.report_trees.proofs.walking.tree_of.Goals as goal

pub returns-clause-shown : goal.returns-clause-shown
returns-clause-shown c =
    let ms = c.args.notes.now.marks.items in
    let places = c.in_ok-places.places.items in
    let linked : IsLinked places c.in_ok-links.links = subst (λ (ps : List ℕ). IsLinked ps c.in_ok-links.links) c.deref.ensures.value c.in_ok-links.ensures in
    let count : c.len.result ≡ length places = omega (arith, c.len.ensures, c.deref.ensures.len, c.deref.ensures.value) in
    let few : length places < 2 ^ 63 = omega (arith, c.in_ok-places.places.small, c.in_ok-places.places.ok) in
    let are : AreTold (told_of 0 ms) (length places) c.deref-3.result.now = record {
      few = few;
      each = λ i less. ap (λ xs. slice_get xs i) c.deref-3.ensures.value ∙ c.in_ok-telling.ensures.told i (omega (arith, less, count)) ∙ ap (λ (l : List Mark). Some (told_of 0 l i)) c.deref-2.ensures.value;
    } in
    c.in_ok-walk.ensures places (told_of 0 ms) linked are ∙ ap (λ xs. xs ++ tree_below (told_of 0 ms) places 16 0 0 None) c.new-shown.ensures.items
    ∙ ap (λ (ps : List ℕ). tree_below (told_of 0 ms) ps 16 0 0 None) c.in_ok-places.ensures

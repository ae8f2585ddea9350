use Rattle.std.proofs.Common.{◌≡◌, ◌<◌, ℕ, suc, ◌+◌, ◌-◌, List, ◌∷◌, length, map, drop, arith, sym, ap, subst, ◌∙◌}
use Rattle.std.proofs.lemmas.List.{drop_all}
use Rattle.std.specs.List.{AllByRecursion}
use Rattle.std.specs.Ordering.{nat_cmp}
use Rattle.std.specs.Cmp.Lexicographic.{slice_cmp}
use Rattle.std.specs.declared.cmp.Ordering.TheVariants.{Less}
use Rattle.txn_names.specs.declared.change.Change.{Change}
use Rattle.serial_spec.specs.Changes.{overlay}
use Rattle.serial_spec.specs.Rows.{value_in}
use Rattle.serial_spec.specs.Serial.{Map, put}
use Rattle.serial_spec.proofs.Overlays.{change_below, overlay_before, changes_from}
use Rattle.serial_spec.proofs.changing.change_all.Goals as goal

pub loop-left-init : goal.loop-left-init
loop-left-init c =
    let cs : List Change = c.args.changes.now in
    record {
      within = omega arith;
      room = omega (arith, c.requires.room);
      values = sym (ap (λ (ds : List Change). overlay ds (value_in c.args.table.now.rows)) (drop_all (length cs) cs (omega arith)));
      kept = omega arith;
    }

pub loop-left-preserved : goal.loop-left-preserved
loop-left-preserved c =
    let cs : List Change = c.args.changes.now in
    let d : Change = c.index-changes-left.result in
    let left : ℕ = c.loop-left.left in
    let was = c.loop-left.invariant in
    let before = was.within in
    let next : left ≡ left - 1 + 1 = omega arith in
    let after : suc (left - 1) ≡ left = omega arith in
    let within : left - 1 < length cs = omega arith in
    let here : drop (left - 1) cs ≡ d ∷ drop left cs = changes_from cs (left - 1) left d next within c.index-changes-left.is in
    let below : AllByRecursion (λ q. slice_cmp nat_cmp d.key q ≡ Less) (map (λ (e : Change). e.key) (drop left cs)) =
    subst (λ n. AllByRecursion (λ q. slice_cmp nat_cmp d.key q ≡ Less) (map (λ (e : Change). e.key) (drop n cs))) after
    (change_below cs (left - 1) d c.requires.rising within c.index-changes-left.is) in
    record {
      within = omega arith;
      room = let r = was.room in let more = c.change_one.ensures.room in omega arith;
      values = c.change_one.ensures.values ∙ ap (λ (m : Map). put m d.key d.value) was.values
          ∙ overlay_before d (drop left cs) (value_in c.args.table.now.rows) below ∙ sym (ap (λ (ds : List Change). overlay ds (value_in c.args.table.now.rows)) here);
      kept = let r = was.kept in let more = c.change_one.ensures.room in omega arith;
    }

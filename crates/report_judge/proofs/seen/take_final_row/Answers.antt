use Rattle.std.proofs.Common.{refl, subst, w64}
use Rattle.std.proofs.lemmas.Int.{to_z-of_z}
use Rattle.report_judge.specs.Kept.{AddsRow}
use Rattle.report_judge.proofs.Following.{on_ok}
use Rattle.report_judge.proofs.Stepping.{final_steps}
use Rattle.report_judge.proofs.seen.take_final_row.Goals as goal

pub returns : goal.returns
returns c =
    let s = c.args.seen.now in
    on_ok c.add_final.result _ _ c.add_final.ensures
    (λ ok told r seen at. final_steps r s _ c.args.key.now c.args.value seen at refl refl refl refl refl refl ok
    (subst (λ v. AddsRow ok c.args.seen.now.table.items c.args.key.now v c.add_final.new.table.items) (to_z-of_z w64 c.args.value c.ranges.value) told))

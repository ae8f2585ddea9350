use Rattle.std.proofs.Common.{refl, subst, w64}
use Rattle.std.proofs.lemmas.Int.{to_z-of_z}
use Rattle.report_judge.specs.Kept.{Opens}
use Rattle.report_judge.proofs.Following.{on_ok}
use Rattle.report_judge.proofs.Stepping.{opening_early, opening_steps}
use Rattle.report_judge.proofs.seen.take_row.Goals as goal

pub returns : goal.returns
returns c =
    let s = c.args.seen.now in
    on_ok c.add_opening.result _ _ c.add_opening.ensures
    (λ ok told r seen at. opening_steps r s _ c.args.key.now c.args.value seen at refl refl refl refl refl ok
    (subst (λ v. Opens ok r.opening c.args.key.now v c.add_opening.new.values.entries) (to_z-of_z w64 c.args.value c.ranges.value) (told r.opening (opening_early r s.values.entries at seen.early).2 seen.kept.rising)))

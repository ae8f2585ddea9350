use Rattle.std.proofs.Common.{refl, sym}
use Rattle.std.specs.Prelude.{codes}
use Rattle.std.specs.Str.{bytes_eq}
use Rattle.report_check.specs.Passing.{Opening, at_part}
use Rattle.report_judge.specs.declared.seen.Part.TheVariants as kept
use Rattle.report_judge.proofs.Stepping.{kept_at, start_early, steps_if}
use Rattle.report_judge.proofs.seen.take_start.Goals as goal

pub returns : goal.returns
returns c r seen at =
    let s = c.args.seen.now in
    steps_if (bytes_eq c.args.bytes.now (codes "open")) c.is_start.result (at_part Opening r) _ (sym c.is_start.ensures)
    (λ _. record { part = refl; early = start_early r s.values.entries at seen.early; kept = kept_at r s seen.kept kept.Opening Opening })

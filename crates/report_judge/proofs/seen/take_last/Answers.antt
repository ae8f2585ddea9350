use Rattle.std.proofs.Common.{refl}
use Rattle.report_check.specs.Passing.{Ended}
use Rattle.report_judge.specs.declared.seen.Part.TheVariants as kept
use Rattle.report_judge.proofs.Stepping.{kept_at}
use Rattle.report_judge.proofs.seen.take_last.Goals as goal

pub returns : goal.returns
returns c r seen = record { part = refl; early = tt; kept = kept_at r c.args.seen.now seen.kept kept.Ended Ended }

-- Bytes have one verdict: each pass is a function of what was read, and a map has one list of rows in byte order.
use Rattle.std.proofs.Common.{◌≡◌, ℕ, Option, Some, None, Result, Ok, Err, sym, ap, ◌∙◌}
use Rattle.serial_spec.proofs.Exports.{rows_by_map}
use Rattle.report_check.specs.Passing.{Read, read}
use Rattle.report_check.specs.Verdicts.{IsCompared, IsJudged, IsRun, compared, first_wrong}
use Rattle.report_check.specs.Laws.{VerdictsAgree}
use Rattle.report_check.specs.declared.verdict.Verdict.{Verdict}

compared_once : (r : Read) (v w : Verdict) → IsCompared r v → IsCompared r w → v ≡ w
compared_once r v w a b =
    let same = rows_by_map a.due b.due a.rising b.rising (λ k. ap (λ m. m k) (a.left ∙ sym b.left)) in
    a.verdict ∙ ap (compared _ r.table) same ∙ sym b.verdict

run_once : (r : Read) (o : Option ℕ) (v w : Verdict) → IsRun r o v → IsRun r o w → v ≡ w
run_once r (Some n) v w a b = a ∙ sym b
run_once r None v w a b = compared_once r v w a b

judged_once : (j : Result Read ℕ) (v w : Verdict) → IsJudged j v → IsJudged j w → v ≡ w
judged_once (Err n) v w a b = a ∙ sym b
judged_once (Ok r) v w a b = run_once r (first_wrong r) v w a b

pub verdicts_agree : VerdictsAgree
verdicts_agree bs v w a b = judged_once (read bs) v w a b

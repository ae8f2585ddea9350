-- How a verdict is spelled.
use Rattle.std.specs.Prelude.{ℕ, List, ◌++◌, codes, decimal}
use Rattle.line_language.specs.Report.{line}
use Rattle.report_check.specs.declared.verdict.Verdict.{Verdict}
use Rattle.report_check.specs.declared.verdict.Verdict.TheVariants.{Yes, No}

abbrev pub spelled_verdict : Verdict → List ℕ
spelled_verdict Yes = line (codes "yes")
spelled_verdict (No n) = line (codes "no " ++ decimal n)

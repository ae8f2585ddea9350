use Rattle.std.proofs.Common.{◌≡◌, ℕ, List, ◌++◌, ◌∷◌, Some, None, length, length-append, sym, ap, subst, ◌∙◌, arith}
use Rattle.std.specs.Option.{option_copied}
use Rattle.line_language.specs.Words.{behind}
use Rattle.report_judge.specs.Judging.{IsLine}
use Rattle.report_judge.proofs.Judging.{way_first, way_last, way_next}
use Rattle.report_judge.proofs.Lining.{cut_line, cut_none}
use Rattle.report_judge.proofs.lines.take_bytes.Goals as goal

pub lines-init : goal.lines-init
lines-init c = (λ bs stands. way_first bs c.args.bytes.now c.args.judge.now stands, omega arith)

pub lines-preserved : goal.lines-preserved
lines-preserved c =
    let rest = c.lines.rest.now in
    let next = c.in-Some.next.now in
    let at : behind 10 rest ≡ Some next = sym c.cut_line.ensures.behind ∙ ap option_copied c.in-Some.is in
    let w = cut_line rest next at in
    let line = c.cut_line.ensures.before in
    let whole : IsLine c.cut_line.result.0.now = subst IsLine (sym line) w.1 in
    let split : rest ≡ c.cut_line.result.0.now ++ 10 ∷ next = w.0 ∙ ap (λ xs. xs ++ 10 ∷ next) (sym line) in (
      λ bs stands. way_next bs c.args.bytes.now rest c.cut_line.result.0.now next c.lines.judge c.end_line.new.judge (c.lines.invariant.0 bs stands) split
          (λ cs st. c.in_ok-end_line-in-Some.ensures.stands cs whole st),
      omega (arith, c.lines.invariant.1, c.end_line.ensures.line, ap (λ (xs : List ℕ). length xs) split, length-append c.cut_line.result.0.now (10 ∷ next)),
    )

pub returns-in-None-clause-stands : goal.returns-in-None-clause-stands
returns-in-None-clause-stands c bs stands =
    let rest = c.lines.rest.now in
    let at : behind 10 rest ≡ None = sym c.cut_line.ensures.behind ∙ ap option_copied c.in-None.is in
    way_last bs c.args.bytes.now rest c.lines.judge c.keep.new.judge (c.lines.invariant.0 bs stands) (λ cs st. c.keep.ensures.stands cs (cut_none rest at) st)

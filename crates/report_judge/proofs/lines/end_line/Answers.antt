use Rattle.std.proofs.Common.{ℕ, List, ◌++◌, ◌∷◌, [], ◌∙◌, sym, subst, append_assoc}
use Rattle.report_judge.specs.Judging.{Stands}
use Rattle.report_judge.proofs.Judging.{ended_apart, no_bytes, on_ok_map}
use Rattle.report_judge.proofs.lines.end_line.Goals as goal

pub returns-then-is_empty-clause-stands : goal.returns-then-is_empty-clause-stands
returns-then-is_empty-clause-stands c =
    on_ok_map c.take_line.result _ _ c.take_line.ensures.due
    (λ takes bs whole stands. record {
      line = stands.line;
      short = stands.short;
      due = ended_apart bs c.args.bytes.now c.args.judge.now.kept c.args.judge.now.standing c.take_line.new.standing
          (no_bytes c.args.judge.now.kept (sym c.is_empty.ensures ∙ c.if-is_empty.true)) stands.due (takes (bs ++ c.args.bytes.now) whole);
    })

pub returns-clause-stands : goal.returns-clause-stands
returns-clause-stands c =
    on_ok_map c.take_kept.result _ _ c.take_kept.ensures.stands
    (λ takes bs whole stands.
    subst (λ (xs : List ℕ). Stands xs c.take_kept.new.judge) (append_assoc bs c.args.bytes.now (10 ∷ [])) (takes (bs ++ c.args.bytes.now) (c.keep.ensures.stands bs whole stands)))

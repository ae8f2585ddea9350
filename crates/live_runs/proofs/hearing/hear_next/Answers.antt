use Rattle.std.proofs.Common.{refl, subst}
use Rattle.request_lines.specs.Taking.{Takes}
use Rattle.live_runs.specs.Hearing.{moment}
use Rattle.live_runs.proofs.Lines.{hears_long, hears_whole, unheard}
use Rattle.live_runs.proofs.hearing.hear_next.Goals as goal

pub returns-in-Ok-clause-ok : goal.returns-in-Ok-clause-ok
returns-in-Ok-clause-ok g c =
    let old = moment c.args.input.now c.args.lines.now c.args.live c.args.out.now c.args.err.now in
    let new = moment c.take_line.new.input c.take_line.new.self c.in-Ok.live c.answer.new.out c.answer.new.err in
    let takes = subst (Takes _ c.args.input.now c.take_line.new.input c.args.lines.now c.take_line.new.self)
    c.in-Ok-Whole.field-0-is c.in-Ok-Whole.ensures.ok in
    hears_whole _ g.S.TopStore _ _ c.args.line old new c.line.result.now takes
    c.line.ensures.value c.in-Ok.ensures.ok

pub returns-in-Err-answer-clause-err : goal.returns-in-Err-answer-clause-err
returns-in-Err-answer-clause-err g c =
    let old = moment c.args.input.now c.args.lines.now c.args.live c.args.out.now c.args.err.now in
    let takes = subst (Takes _ c.args.input.now c.take_line.new.input c.args.lines.now c.take_line.new.self)
    c.in-Ok-Whole.field-0-is c.in-Ok-Whole.ensures.ok in
    unheard _ g.S.TopStore _ _
    old c.take_line.new.input c.take_line.new.self c.answer.new.out
    c.in-Err-answer.fault.1 c.in-Err-answer.fault.0 c.line.result.now takes c.line.ensures.value c.in-Err-answer.ensures.err

pub returns-in-Ok-Long-clause-ok : goal.returns-in-Ok-Long-clause-ok
returns-in-Ok-Long-clause-ok g c =
    let old = moment c.args.input.now c.args.lines.now c.args.live c.args.out.now c.args.err.now in
    let new = moment c.take_line.new.input c.take_line.new.self c.args.live c.args.out.now c.refuse.new.err in
    let takes = subst (Takes _ c.args.input.now c.take_line.new.input c.args.lines.now c.take_line.new.self)
    c.in-Ok-Long.field-0-is c.in-Ok-Long.ensures.ok in
    hears_long _ g.S.TopStore _ _
    c.args.line old new takes refl refl c.refuse.ensures

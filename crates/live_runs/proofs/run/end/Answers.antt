use Rattle.std.proofs.Common.{length, ap, sym, ◌∙◌, arith}
use Rattle.std.proofs.lemmas.List.{length-reverse}
use Rattle.serial_spec.specs.History.{History}
use Rattle.live_runs.proofs.Ended.{finishes, unfinished}
use Rattle.live_runs.proofs.Shown.{as_many_told}
use Rattle.live_runs.proofs.run.end.Goals as goal

pub show_rest-requires : goal.show_rest-requires
show_rest-requires g c =
    let count = c.len-written.ensures ∙ sym (length-reverse c.history.result.now.entries) ∙ ap (λ (h : History). length h) c.history.ensures in
    omega (arith, count, as_many_told g.S.TopStore c.args.live c.in-Ok.run'.0 c.in-Ok.run'.1 c.in-Ok.ensures.ok)

pub returns-in-Ok-show_rest-clause-ok : goal.returns-in-Ok-show_rest-clause-ok
returns-in-Ok-show_rest-clause-ok g c =
    let count = c.len-written.ensures ∙ sym (length-reverse c.history.result.now.entries) ∙ ap (λ (h : History). length h) c.history.ensures in
    finishes g.S.TopStore _ c.args.live c.in-Ok.run'.0 c.in-Ok.run'.1 c.in-Ok.ensures.ok c.in-Ok-show_rest.ensures.report
    c.args.out.now c.show_rest.new.out c.len-written.result count c.in-Ok-show_rest.ensures.ok

pub returns-clause-err : goal.returns-clause-err
returns-clause-err g c =
    let count = c.len-written.ensures ∙ sym (length-reverse c.history.result.now.entries) ∙ ap (λ (h : History). length h) c.history.ensures in
    unfinished g.S.TopStore _ c.args.live c.in-Ok.run'.0 c.in-Ok.run'.1 c.in-Ok.ensures.ok c.in-Err-show_rest.ensures.report
    c.args.out.now c.show_rest.new.out c.len-written.result count c.in-Err-show_rest.ensures.err

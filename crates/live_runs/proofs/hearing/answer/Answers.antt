use Rattle.std.proofs.Common.{length, None, refl, sym, ap, subst, ◌∙◌}
use Rattle.std.proofs.lemmas.List.{length-reverse}
use Rattle.serial_spec.specs.History.{History}
use Rattle.live_sessions.specs.Handling.{Handled}
use Rattle.live_runs.proofs.Answered.{room_behind, shown_since, unshown_since}
use Rattle.live_runs.proofs.hearing.answer.Goals as goal

pub show_entries-requires : goal.show_entries-requires
show_entries-requires g c =
    let old = c.args.live in
    let new = c.in-Ok.handled.0 in
    let taken = subst (λ f. Handled g.S.TopStore old c.args.bytes.now new f) c.in_default.is c.in-Ok.ensures.ok in
    let count = c.len-written.ensures ∙ sym (length-reverse c.history.result.now.entries) ∙ ap (λ (h : History). length h) c.history.ensures in
    room_behind g.S.TopStore old new c.args.bytes.now taken c.len-written.result count c.history-2.result.now.entries c.history-2.ensures

pub returns-in-Ok-show_entries-clause-ok : goal.returns-in-Ok-show_entries-clause-ok
returns-in-Ok-show_entries-clause-ok g c =
    let old = c.args.live in
    let new = c.in-Ok.handled.0 in
    let taken = subst (λ f. Handled g.S.TopStore old c.args.bytes.now new f) c.in_default.is c.in-Ok.ensures.ok in
    let count = c.len-written.ensures ∙ sym (length-reverse c.history.result.now.entries) ∙ ap (λ (h : History). length h) c.history.ensures in
    record {
      fault = None;
      handled = taken;
      told = refl;
      shown = shown_since g.S.TopStore old new c.args.bytes.now taken c.len-written.result count c.history-2.result.now.entries c.history-2.ensures
          _ c.has_legal_history.ensures c.labels.result.now c.labels.ensures
          c.args.out.now c.show_entries.new.out c.in-Ok-show_entries.ensures.ok;
    }

pub returns-in-Err-show_entries-clause-err : goal.returns-in-Err-show_entries-clause-err
returns-in-Err-show_entries-clause-err g c =
    let old = c.args.live in
    let new = c.in-Ok.handled.0 in
    let taken = subst (λ f. Handled g.S.TopStore old c.args.bytes.now new f) c.in_default.is c.in-Ok.ensures.ok in
    let count = c.len-written.ensures ∙ sym (length-reverse c.history.result.now.entries) ∙ ap (λ (h : History). length h) c.history.ensures in
    record {
      new = new;
      taken = taken;
      go = c.give_up.ensures;
      unshown = unshown_since g.S.TopStore old new c.args.bytes.now taken c.len-written.result count c.history-2.result.now.entries c.history-2.ensures
          _ c.has_legal_history.ensures c.labels.result.now c.labels.ensures
          c.args.out.now c.show_entries.new.out c.in-Err-show_entries.ensures.err;
    }

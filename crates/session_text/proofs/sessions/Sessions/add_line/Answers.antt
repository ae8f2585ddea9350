use Rattle.std.proofs.Common.{◌≡◌, ◌<◌, ℕ, List, [], ◌∷◌, ◌++◌, length, slice_get, sym, ap, subst, ◌∙◌}
use Rattle.std.proofs.Math.ListN.{set}
use Rattle.txn_bytes.proofs.Exports.{on_err}
use Rattle.serial_spec.specs.declared.event.Event.{Event}
use Rattle.event_lists.specs.Views.{event_by}
use Rattle.event_lists.specs.Words.{named}
use Rattle.serial_spec.specs.Interleaving.{Session, lines_of}
use Rattle.session_text.specs.Grammar.{IsText}
use Rattle.session_text.specs.Growing.{with_line_of}
use Rattle.session_text.proofs.Growing.{line_added, line_not_added, line_keeps_text}
use Rattle.session_text.proofs.sessions.Sessions.add_line.Goals as goal

pub returns-clause-ok : goal.returns-clause-ok
returns-clause-ok c =
    let is : event_by (named c.of-name.result) c.act_in.result ≡ c.args.line =
    ap (λ (t : List (List ℕ)). event_by t c.act_in.result) (c.of-name.ensures.value ∙ c.name_in.ensures) ∙ c.act_in.ensures.event ∙ c.event-event.ensures.value in
    let items : List Session = c.self.inside.sessions.items in
    let there : c.args.session < length items = subst (λ (ss : List Session). c.args.session < length ss) (sym c.self.view_is) c.requires.there in
    line_added items c.args.session c.index_mut.result.now c.push.new.self c.args.line there c.index_mut.ensures.value c.push.ensures.label (c.in_ok-push.ensures.ok ∙ ap (λ (e : Event). c.index_mut.result.now.lines ++ e ∷ []) is)
    ∙ ap (λ (ss : List Session). with_line_of ss c.args.session c.args.line) c.self.view_is

pub returns-in_err-push-clause-err : goal.returns-in_err-push-clause-err
returns-in_err-push-clause-err c =
    let items : List Session = c.self.inside.sessions.items in
    let there : c.args.session < length items = subst (λ (ss : List Session). c.args.session < length ss) (sym c.self.view_is) c.requires.there in
    on_err c.from_residual.result
    (line_not_added items c.args.session c.index_mut.result.now c.push.new.self there c.index_mut.ensures.value c.push.ensures.label c.in_err-push.ensures.err ∙ c.self.view_is)

pub invariant_of-self : goal.invariant_of-self
invariant_of-self c =
    let items : List Session = c.self.inside.sessions.items in
    let there : c.args.session < length items = subst (λ (ss : List Session). c.args.session < length ss) (sym c.self.view_is) c.requires.there in
    subst IsText
    (sym (line_not_added items c.args.session c.index_mut.result.now c.push.new.self there c.index_mut.ensures.value c.push.ensures.label c.in_err-push.ensures.err))
    c.self.invariant

pub invariant_of-self-2 : goal.invariant_of-self-2
invariant_of-self-2 c =
    let is : event_by (named c.of-name.result) c.act_in.result ≡ c.args.line =
    ap (λ (t : List (List ℕ)). event_by t c.act_in.result) (c.of-name.ensures.value ∙ c.name_in.ensures) ∙ c.act_in.ensures.event ∙ c.event-event.ensures.value in
    let items : List Session = c.self.inside.sessions.items in
    let there : c.args.session < length items = subst (λ (ss : List Session). c.args.session < length ss) (sym c.self.view_is) c.requires.there in
    let room : length (lines_of (slice_get items c.args.session)) < 1024 =
    subst (λ (ss : List Session). length (lines_of (slice_get ss c.args.session)) < 1024) (sym c.self.view_is) c.requires.room in
    let grows : set items c.args.session c.push.new.self ≡ with_line_of items c.args.session c.args.line =
    line_added items c.args.session c.index_mut.result.now c.push.new.self c.args.line there c.index_mut.ensures.value c.push.ensures.label (c.in_ok-push.ensures.ok ∙ ap (λ (e : Event). c.index_mut.result.now.lines ++ e ∷ []) is) in
    subst IsText (sym grows) (line_keeps_text items c.args.session c.args.line c.self.invariant c.event-event.ensures.valid room)

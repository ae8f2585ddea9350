use Rattle.std.proofs.Common.{◌≡◌, ◌-◌, List, length, rules, None, refl, sym, ap, subst, ◌∙◌}
use Rattle.std.proofs.Math.ListN.{set}
use Rattle.txn_bytes.proofs.Exports.{on_err}
use Rattle.serial_spec.specs.Interleaving.{Session}
use Rattle.event_lists.specs.Views.{event_by}
use Rattle.event_lists.specs.Words.{named}
use Rattle.line_language.proofs.Exports.{event_reads}
use Rattle.session_text.specs.Grammar.{IsText}
use Rattle.session_text.specs.Texts.{Command, misplaced, with_line}
use Rattle.session_text.proofs.Adding.{pushed, unpushed, kept}
use Rattle.session_text.proofs.sessions.Sessions.add_event.Goals as goal

pub invariant_of-self : goal.invariant_of-self
invariant_of-self c =
    let items : List Session = c.self.inside.sessions.items in
    let e = event_by (named c.args.name.now) c.args.act.now in
    let len : c.len-last.result ≡ length items = search rules in
    let placed : misplaced items (Command e) ≡ None = subst (λ (ss : List Session). misplaced ss (Command e) ≡ None) (sym c.self.view_is) c.requires.placed in
    let same : set items (c.len-last.result - 1) c.push.new.self ≡ items =
    unpushed items c.len-last.result c.index_mut.result.now c.push.new.self e (Command e) len refl placed
    c.index_mut.ensures.value c.push.ensures.label c.in_err-push.ensures.err in
    subst IsText (sym same) c.self.invariant

pub returns-in_err-push-clause-err : goal.returns-in_err-push-clause-err
returns-in_err-push-clause-err c =
    let items : List Session = c.self.inside.sessions.items in
    let e = event_by (named c.args.name.now) c.args.act.now in
    let len : c.len-last.result ≡ length items = search rules in
    let placed : misplaced items (Command e) ≡ None = subst (λ (ss : List Session). misplaced ss (Command e) ≡ None) (sym c.self.view_is) c.requires.placed in
    on_err c.from_residual.result
    (unpushed items c.len-last.result c.index_mut.result.now c.push.new.self e (Command e) len refl placed
    c.index_mut.ensures.value c.push.ensures.label c.in_err-push.ensures.err ∙ c.self.view_is)

pub invariant_of-self-2 : goal.invariant_of-self-2
invariant_of-self-2 c =
    let items : List Session = c.self.inside.sessions.items in
    let e = event_by (named c.args.name.now) c.args.act.now in
    let len : c.len-last.result ≡ length items = search rules in
    let placed : misplaced items (Command e) ≡ None = subst (λ (ss : List Session). misplaced ss (Command e) ≡ None) (sym c.self.view_is) c.requires.placed in
    let grows : set items (c.len-last.result - 1) c.push.new.self ≡ with_line items e =
    pushed items c.len-last.result c.index_mut.result.now c.push.new.self e (Command e) len refl placed
    c.index_mut.ensures.value c.push.ensures.label c.in_ok-push.ensures.ok in
    subst IsText (sym grows) (kept items e (Command e) c.self.invariant (event_reads c.args._bytes.now e c.requires.read).0 refl placed)

pub returns-clause-ok : goal.returns-clause-ok
returns-clause-ok c =
    let items : List Session = c.self.inside.sessions.items in
    let e = event_by (named c.args.name.now) c.args.act.now in
    let len : c.len-last.result ≡ length items = search rules in
    let placed : misplaced items (Command e) ≡ None = subst (λ (ss : List Session). misplaced ss (Command e) ≡ None) (sym c.self.view_is) c.requires.placed in
    pushed items c.len-last.result c.index_mut.result.now c.push.new.self e (Command e) len refl placed
    c.index_mut.ensures.value c.push.ensures.label c.in_ok-push.ensures.ok
    ∙ ap (λ (ss : List Session). with_line ss e) c.self.view_is

use Rattle.std.proofs.Common.{◌≡◌, ◌<◌, List, length, sym, subst, rules}
use Rattle.std.specs.Prelude.{IsFalse}
use Rattle.serial_spec.specs.Interleaving.{Session}
use Rattle.session_text.specs.Grammar.{IsText, is_taken}
use Rattle.session_text.specs.Texts.{with_header}
use Rattle.session_text.proofs.Growing.{session_keeps_text}
use Rattle.session_text.proofs.sessions.Sessions.add_session.Goals as goal

pub invariant_of-self-2 : goal.invariant_of-self-2
invariant_of-self-2 c =
    let items : List Session = c.self.inside.sessions.items in
    let free : IsFalse (is_taken c.args.label items) = subst (λ (ss : List Session). IsFalse (is_taken c.args.label ss)) (sym c.self.view_is) c.requires.free in
    let room : length items < 64 = subst (λ (ss : List Session). length ss < 64) (sym c.self.view_is) c.requires.room in
    let grows : c.push.new.self.items ≡ with_header items c.args.label = search rules in
    subst IsText (sym grows) (session_keeps_text items c.args.label c.self.invariant c.as_bytes-bytes.ensures.label free room)

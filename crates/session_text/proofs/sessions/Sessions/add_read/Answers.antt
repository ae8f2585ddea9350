use Rattle.std.proofs.Common.{Ok, sym, ap, ◌∙◌}
use Rattle.event_lists.specs.Views.{event_by}
use Rattle.event_lists.specs.Words.{named}
use Rattle.line_language.specs.Steps.{◌>>=◌, unless}
use Rattle.session_text.specs.Texts.{Command, at_line, grown, placed}
use Rattle.session_text.proofs.sessions.Sessions.add_read.Goals as goal

pub add_event-requires-clause-placed : goal.add_event-requires-clause-placed
add_event-requires-clause-placed c = sym (c.fault_of_command.ensures (event_by (named c.args.name.now) c.args.act.now)) ∙ c.in-None.is

pub returns-in-Some : goal.returns-in-Some
returns-in-Some c =
    let e = event_by (named c.args.name.now) c.args.act.now in
    ap (λ read. at_line c.args.number (placed c.args.self.now (read >>= λ d. Ok (Command d)))) c.requires.read
    ∙ ap (λ fault. at_line c.args.number (unless fault (grown c.args.self.now (Command e)))) (sym (c.fault_of_command.ensures e) ∙ c.in-Some.is)

pub returns-in-Ok : goal.returns-in-Ok
returns-in-Ok c =
    let e = event_by (named c.args.name.now) c.args.act.now in
    ap (λ read. at_line c.args.number (placed c.args.self.now (read >>= λ d. Ok (Command d)))) c.requires.read
    ∙ ap (λ fault. at_line c.args.number (unless fault (grown c.args.self.now (Command e)))) (sym (c.fault_of_command.ensures e) ∙ c.in-None.is)
    ∙ ap Ok (sym c.in-Ok.ensures.ok)

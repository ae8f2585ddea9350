use Rattle.std.proofs.Common.{Ok, sym, ap, ap₂, ◌∙◌}
use Rattle.event_lists.specs.Views.{event_by}
use Rattle.session_text.proofs.sessions.Sessions.add_access.Goals as goal

pub add_read-requires-clause-read : goal.add_read-requires-clause-read
add_read-requires-clause-read c = c.requires.read ∙ ap Ok (sym (ap₂ event_by c.name.ensures.value c.act.ensures))

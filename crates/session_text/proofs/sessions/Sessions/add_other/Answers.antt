use Rattle.std.proofs.Common.{◌≡◌, Ok, List, ℕ, sym, ap, ◌∙◌}
use Rattle.event_lists.specs.Views.{event_by}
use Rattle.event_lists.specs.Words.{named}
use Rattle.session_text.proofs.sessions.Sessions.add_other.Goals as goal

pub add_read-requires-clause-read : goal.add_read-requires-clause-read
add_read-requires-clause-read c =
    let is : event_by (named c.of.result) c.act_in.result ≡ c.in-Ok.event =
    ap (λ (t : List (List ℕ)). event_by t c.act_in.result) (c.of.ensures.value ∙ c.name_in.ensures) ∙ c.act_in.ensures.event in
    sym c.parse_event.ensures.read ∙ c.in-Ok.is ∙ ap Ok (sym is)

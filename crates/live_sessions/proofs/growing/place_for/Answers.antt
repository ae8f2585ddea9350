use Rattle.std.proofs.Common.{sym, ◌∙◌}
use Rattle.session_text.proofs.Exports.{places_found}
use Rattle.live_sessions.proofs.Grown.{new_room}
use Rattle.live_sessions.proofs.growing.place_for.Goals as goal

pub returns-in-Some-clause-there : goal.returns-in-Some-clause-there
returns-in-Some-clause-there g c =
    (places_found.1 c.args.label c.args.sessions.now c.in-Some.session (sym c.place.ensures ∙ c.in-Some.is)).0

pub returns-in-None-clause-room : goal.returns-in-None-clause-room
returns-in-None-clause-room g c =
    new_room c.args.sessions.now c.add_session.new.sessions c.args.label c.add_session.result c.add_session.ensures.place c.add_session.ensures.sessions

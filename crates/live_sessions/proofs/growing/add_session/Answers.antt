use Rattle.session_text.proofs.Exports.{places_found}
use Rattle.live_sessions.proofs.Grown.{header_way_of}
use Rattle.live_sessions.proofs.growing.add_session.Goals as goal

pub add_session-requires-2-clause-free : goal.add_session-requires-2-clause-free
add_session-requires-2-clause-free g c = places_found.0 c.args.label c.args.sessions.now c.requires.none

pub returns-clause-way : goal.returns-clause-way
returns-clause-way g c =
    header_way_of c.args.sessions.now c.args.progress.now c.requires.way c.requires.open_ended c.add_session-2.new.self c.add_session.new.self c.args.label
    c.in_ok-add_session-2.ensures.ok c.add_session.ensures.core c.in_ok-add_session.ensures.ok c.add_session.ensures.ready

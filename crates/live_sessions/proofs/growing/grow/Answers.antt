use Rattle.std.proofs.Common.{ap, sym, ◌∙◌, arith}
use Rattle.growing_sessions.specs.Growing.{labels_in}
use Rattle.live_sessions.proofs.Grown.{labels_still, line_way_of, open_still}
use Rattle.live_sessions.proofs.growing.grow.Goals as goal

pub returns-clause-way : goal.returns-clause-way
returns-clause-way g c =
    line_way_of c.place_for.new.sessions c.place_for.new.progress c.in_ok-session.ensures.way
    (open_still c.args.progress.now c.place_for.new.progress c.place_for.ensures.core c.requires.open_ended) c.add_line.new.self c.wake.new.self c.in_ok-session.session c.args.line
    c.in_ok-add_line.ensures.ok c.wake.ensures.core c.wake.ensures.next c.wake.ensures.ready

pub returns-clause-labels : goal.returns-clause-labels
returns-clause-labels g c =
    c.in_ok-session.ensures.labels
    ∙ labels_still c.place_for.new.sessions c.in_ok-session.session c.args.line
    ∙ ap labels_in (sym c.in_ok-add_line.ensures.ok)

pub wake-requires : goal.wake-requires
wake-requires g c = omega (arith, c.in_ok-session.ensures.there, c.len-count.ensures.text.few)

use Rattle.live_runs.specs.Hearing.{holds_nothing, moment}
use Rattle.live_runs.proofs.Lines.{HearsSoFar}
use Rattle.live_runs.proofs.hearing.hear_all.Given as goal

abbrev pub invariant-loop-line : goal.invariant-loop-line
invariant-loop-line g l =
    HearsSoFar (record { remaining = g.R.Read.remaining; gives = g.R.Source.gives }) g.S.TopStore
    (record {
      contents = g.W.Write.contents;
      takes = g.W.Sink.takes;
      flushes = g.W.Sink.flushes;
    })
    (record {
      contents = g.E.Write.contents;
      takes = g.E.Sink.takes;
      flushes = g.E.Sink.flushes;
    })
    (moment l.initial.input holds_nothing l.initial.live l.initial.out l.initial.err) l.line (moment l.input l.lines l.live l.out l.err)

use Rattle.request_lines.proofs.Lining.{IsUnderWay}
use Rattle.request_lines.proofs.lines.take_line.Given as goal

abbrev pub invariant-loop-call : goal.invariant-loop-call
invariant-loop-call g l =
    IsUnderWay (record { remaining = g.R.Read.remaining; gives = g.R.Source.gives })
    l.initial.input l.initial.piece l._call l.input l.piece l.line

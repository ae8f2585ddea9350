use Rattle.std.proofs.Common.{◌≡◌, ◌≤◌, length}
use Rattle.std.specs.Io.KnownBytes.{Consumes}
use Rattle.txn_bytes.specs.Sources.{HasGiven}
use Rattle.tx_machine.specs.Texts.{IsShort}
use Rattle.tx_machine.proofs.reading.read_within.Given as goal

abbrev pub invariant-loop-call : goal.invariant-loop-call
invariant-loop-call g l =
    (length l.piece ≡ 4096) × (length l.text.items ≤ 134217728)
    × (Consumes (g.R.Read.remaining l.initial.from) (g.R.Read.remaining l.from) l.text.items
    × HasGiven (record { remaining = g.R.Read.remaining; gives = g.R.Source.gives }) IsShort l._call l.initial.from l.from l.text.items)

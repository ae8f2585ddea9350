use Rattle.std.proofs.Common.{◌≡◌, ℕ, List, ◌+◌, ◌*◌, ◌≤◌, IsTrue, length}
use Rattle.std.specs.Io.KnownBytes.{Consumes}
use Rattle.txn_bytes.specs.Sources.{HasGiven}
use Rattle.report_judge.specs.Judging.{Stands, WantsMore}
use Rattle.report_judge.proofs.reading.judge_all.Given as goal

abbrev pub invariant-loop-call : goal.invariant-loop-call
invariant-loop-call g l =
    (length l.bytes ≡ 4096) × (l.judge.standing.line ≤ 1 + 4096 * l._call)
    × ((bs : List ℕ)
    × Consumes (g.R.Read.remaining l.initial.report) (g.R.Read.remaining l.report) bs
    × Stands bs l.judge
    × HasGiven (record { remaining = g.R.Read.remaining; gives = g.R.Source.gives }) WantsMore l._call l.initial.report l.report bs
    × WantsMore bs × (IsTrue l.wanted → l.kept.items ≡ bs))

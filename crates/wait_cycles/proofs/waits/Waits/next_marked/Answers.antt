use Rattle.std.proofs.Common.{sym}
use Rattle.std.proofs.lemmas.Option.{IfSome_then}
use Rattle.wait_cycles.proofs.Marked.{none_told}
use Rattle.wait_cycles.proofs.waits.Waits.next_marked.Goals as goal

pub returns-in-Key-clause-some : goal.returns-in-Key-clause-some
returns-in-Key-clause-some c =
    rw (sym c.self.view_is, c.in-Key.is)
    (IfSome_then c.next_met.result c.next_met.ensures.some (λ next is. (is.0, λ place w past less there. is.1 place past less w.asked (c.self.invariant place w there))))

pub returns-in-Key-clause-none : goal.returns-in-Key-clause-none
returns-in-Key-clause-none c =
    rw (sym c.self.view_is, c.in-Key.is)
    (none_told c.next_met.result c.next_met.ensures.none (λ is to place w past less there. is place past w.asked (c.self.invariant place w there)))

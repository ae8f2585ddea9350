use Rattle.wait_cycles.proofs.Marked.{unmet}
use Rattle.wait_cycles.proofs.sieve.Sieve.places_met.Goals as goal

pub returns : goal.returns
returns c p lacks = unmet c.args.self.now c.args.key.now p (rw c.mark_of.ensures.mark at lacks)

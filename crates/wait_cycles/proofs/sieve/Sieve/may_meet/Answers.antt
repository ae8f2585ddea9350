use Rattle.std.proofs.Common.{◌≡◌, sym, subst}
use Rattle.std.proofs.lemmas.Bool.{eqb-true, not-false}
use Rattle.wait_cycles.specs.Sieve.{LacksPlace}
use Rattle.wait_cycles.proofs.Bits.{lacks_all}
use Rattle.wait_cycles.proofs.sieve.Sieve.may_meet.Goals as goal

pub returns : goal.returns
returns c unmarked p =
    let none : c.places_met.result ≡ 0 = eqb-true c.places_met.result 0 (not-false _ unmarked) in
    c.places_met.ensures p (subst (λ n. LacksPlace n p) (sym none) (lacks_all p))

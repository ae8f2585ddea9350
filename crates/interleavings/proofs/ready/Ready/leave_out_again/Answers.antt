use Rattle.std.proofs.Common.{rules, ◌≡◌, ◌<◌, ◌^◌, inl, inr, ⊎_elim}
use Rattle.std.specs.Int.{bit_at}
use Rattle.interleavings.proofs.Bits.{left_or, of_neither}
use Rattle.interleavings.proofs.ready.Ready.leave_out_again.Goals as goal

pub returns-clause-out : goal.returns-clause-out
returns-clause-out c u out =
    let may : c.args.self.now.may < 2 ^ 64 = search rules in
    let was_may : c.args.was.now.may < 2 ^ 64 = search rules in
    let was_afters : c.args.was.now.afters < 2 ^ 64 = search rules in
    let parked : c.args.parked < 2 ^ 64 = search rules in
    let again : c.without-again.result < 2 ^ 64 = search rules in
    ⊎_elim
    (λ was. inl was)
    (λ (left : bit_at c.without-again.result u ≡ 1).
    let of_set = c.without-again.ensures.has u left in
    let none = of_neither c.args.was.now.may c.args.was.now.afters c.args.parked u was_may was_afters parked of_set.0 in
    inr (record { out = (none.0, none.1); of_set = none.2; other = of_set.1 }))
    (left_or c.args.self.now.may c.without-again.result u may again out)

pub returns-clause-begins : goal.returns-clause-begins
returns-clause-begins c u out =
    ⊎_elim
    (λ was. inl (was, out.1))
    (λ again. inr again)
    (returns-clause-out c u out.0)

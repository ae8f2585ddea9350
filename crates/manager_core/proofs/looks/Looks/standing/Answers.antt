use Rattle.std.proofs.Common.{rules, ◌<◌, ◌≤◌, ◌^◌, length, ⊎_elim, ap, arith}
use Rattle.std.proofs.lemmas.Nat.Bits.{bit_at_above, bit_at-zero}
use Rattle.std.proofs.lemmas.Option.{slice_get_cases}
use Rattle.manager_core.proofs.looks.Looks.standing.Goals as goal

pub returns-then-as_slice-lt-MOST_SESSIONS : goal.returns-then-as_slice-lt-MOST_SESSIONS
returns-then-as_slice-lt-MOST_SESSIONS c s is = absurd (omega (arith, bit_at-zero s, is))

pub returns : goal.returns
returns c s is =
    let fits : c.args.self.now.stands < 2 ^ 64 = search rules in
    let many : 64 ≤ length c.args.self.now.last = omega (arith, c.if-as_slice-lt-MOST_SESSIONS.false, ap length c.as_slice.ensures) in
    ⊎_elim
    (λ there. record { line = there.0.line; txn = there.0.txn; keeper = there.0.keeper; seen = (is, there.2) })
    (λ past. absurd (omega (arith, bit_at_above c.args.self.now.stands 64 s fits (omega (arith, past.0, many)), is)))
    (slice_get_cases c.args.self.now.last s).1

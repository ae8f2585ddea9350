use Rattle.std.proofs.Common.{◌≡◌, ℤ, FitsSigned, rules, to_z, of_z, true, arith, sym, subst}
use Rattle.std.specs.Int.{w128}
use Rattle.std.proofs.lemmas.Int.{ints, to_z-of_z}
use Rattle.txn_names.specs.Groups.{has}
use Rattle.serial_spec.specs.Operations.{amount}
use Rattle.report_tables.specs.inner.Tallied.{HaveRoom}
use Rattle.report_tables.proofs.tallies.count_at.Goals as goal

pub raise_all-requires-clause-room : goal.raise_all-requires-clause-room
raise_all-requires-clause-room c =
    let k = c.in-Some.key.now in
    let v = c.in-Some.value.now in
    let fits : FitsSigned w128 c.difference.result = search rules in
    let own = to_z-of_z w128 c.difference.result fits in
    let adds = c.difference.ensures.difference in
    let same : to_z w128 (of_z w128 c.difference.result) ≡ amount v = omega (arith, ints, own, adds) in
    subst (λ (d : ℤ). HaveRoom (λ g. has g k ≡ true) d c.args.groups.now.entries) (sym same) (c.requires.room k v (sym c.in-Some.ensures.entry) c.difference.ensures.after)

use Rattle.std.proofs.Common.{Some, sym}
use Rattle.serial_spec.specs.declared.target.Target.TheVariants.{Key, Group}
use Rattle.lock_table.proofs.Marked.{sums_up, writers_up}
use Rattle.lock_table.proofs.targets.TargetLocks.hand_up.Goals as goal

pub hand_up-requires : goal.hand_up-requires
hand_up-requires c =
    let may = rw (sym c.self.view_is, c.in-Some.is) at c.requires.places in
    record { places = λ q. may.places (Key q) }

pub hand_up-requires-in-Some : goal.hand_up-requires-in-Some
hand_up-requires-in-Some c =
    let may = rw (sym c.self.view_is, c.in-Some.is) at c.requires.places in
    record { places = λ g. may.places (Group g) }

pub invariant_of-self : goal.invariant_of-self
invariant_of-self c = (
  writers_up c.self.inside.keys c.self.inside.writers c.hand_up.new.self c.hand_up-in-Some-2.new.self c.args.child (Some c.in-Some.parent) c.self.invariant.0 c.hand_up.ensures.modes c.hand_up-in-Some-2.ensures.modes,
  sums_up c.self.inside.sums c.hand_up-in-Some.new.self c.args.child (Some c.in-Some.parent) c.self.invariant.1 c.hand_up-in-Some.ensures.modes,
)

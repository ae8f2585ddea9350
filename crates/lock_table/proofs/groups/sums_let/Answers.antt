use Rattle.std.proofs.Common.{◌≤◌, length, refl, arith, rules}
use Rattle.txn_names.proofs.Exports.{dot_behind}
use Rattle.serial_spec.specs.declared.operation.Kind.TheVariants.{Write}
use Rattle.lock_table.proofs.Reaching.{none_blocks}
use Rattle.lock_table.proofs.groups.sums_let.Goals as goal

pub returns : goal.returns
returns c = (
  λ _ g there some.
      let dot = dot_behind g c.args.key.now 0 there in
      let far : length c.args.key.now ≤ c.loop-place.place = search rules in
      c.loop-place.invariant g there some (omega (arith, dot.0, far)),
  λ _. refl,
)

pub returns-then-is_empty : goal.returns-then-is_empty
returns-then-is_empty c = (
  λ _ g there some. none_blocks c.args.tree.now c.args.sums.now c.args.txn g Write (c.is_empty.ensures.0 c.if-is_empty.true),
  λ _. refl,
)

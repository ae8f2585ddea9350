use Rattle.std.proofs.Common.{◌≡◌, ◌+◌, ◌&&◌, List, ℕ, None, length, nat_eq, cond, refl, ap, ◌∙◌, arith}
use Rattle.txn_names.specs.Path.{label_eq}
use Rattle.serial_spec.specs.declared.mode.Mode.TheVariants as mode
use Rattle.lock_table.specs.declared.modes.Modes.{Modes}
use Rattle.lock_table.specs.Inherited.{with_held}
use Rattle.lock_table.proofs.InTurn.{marked_first, marked_next, nearer, next_behind, next_is_group, none_left}
use Rattle.lock_table.proofs.Reaching.{all_marked}
use Rattle.lock_table.proofs.groups.mark_from.Goals as goal

pub loop-next-init : goal.loop-next-init
loop-next-init c = record {
  next = c.requires.marked.group;
  modes = marked_first c.args.writers.now c.args.txn c.args.key.now c.args.first c.requires.marked;
  places = λ u g. refl;
}

pub loop-next-smaller : goal.loop-next-smaller
loop-next-smaller c =
    let after = c.group_from-next in
    let next = next_behind c.args.key.now c.in-Some.group c.as_bytes.result.now c.as_bytes.ensures.value after.result after.ensures.some after.ensures.first after.ensures.none in
    rw c.in-Some.is (nearer c.args.key.now c.in-Some.group after.result next.some)

pub loop-next-preserved : goal.loop-next-preserved
loop-next-preserved c =
    let k : List ℕ = c.args.key.now in
    let f : List ℕ = c.in-Some.group in
    let i = rw c.in-Some.is at c.loop-next.invariant in
    let after = c.group_from-next in
    let next = next_behind k f c.as_bytes.result.now c.as_bytes.ensures.value after.result after.ensures.some after.ensures.first after.ensures.none in
    record {
      next = next_is_group k (length f + 1) after.result next.some;
      modes = λ u g.
          c.hold.ensures.modes u g
          ∙ ap (λ (m : Modes). cond (nat_eq c.args.txn u && label_eq f g) (with_held m mode.Write) m) (i.modes u g)
          ∙ marked_next c.args.writers.now c.args.txn k f after.result next i.next u g;
      places = λ u g. c.hold.ensures.places u g ∙ i.places u g;
    }

pub returns-clause-modes : goal.returns-clause-modes
returns-clause-modes c =
    let k : List ℕ = c.args.key.now in
    let i = rw (none_left c.loop-next.next c.in_default.not-Some) at c.loop-next.invariant in
    λ u g. i.modes u g ∙ all_marked c.args.writers.now c.args.txn k (length k) u (omega arith) g

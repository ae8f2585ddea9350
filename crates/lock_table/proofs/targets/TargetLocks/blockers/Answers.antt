use Rattle.std.proofs.Common.{IsOk, List, ℕ, subst, sym, rules}
use Rattle.std.specs.List.Sorted.{IsStrictlyIncreasing}
use Rattle.std.proofs.lemmas.Bool.{not-true}
use Rattle.std.proofs.lemmas.Result.{IfOk-weaker}
use Rattle.serial_spec.specs.declared.operation.Kind.TheVariants.{Read, Write}
use Rattle.serial_spec.specs.declared.target.Target.TheVariants.{Key}
use Rattle.lock_table.specs.Targeted.{AreBlockers, BlocksBySum, IsJoined, Targeted}
use Rattle.lock_table.proofs.Blockers.{rising_blockers}
use Rattle.lock_table.proofs.Found.{found_for_read, found_for_write}
use Rattle.lock_table.proofs.Reaching.{may_read, may_write_back}
use Rattle.lock_table.proofs.targets.TargetLocks.blockers.Goals as goal

pub returns-in-Read-clause-found : goal.returns-in-Read-clause-found
returns-in-Read-clause-found c =
    let l : Targeted = record { keys = c.self.inside.keys; sums = c.self.inside.sums; writers = c.self.inside.writers } in
    let found = found_for_read c.args.tree.now l c.self.invariant.0 c.self.invariant.1 c.args.txn c.args.key.now in
    rw (sym c.self.view_is, c.in-Read.is)
    (IfOk-weaker c.blockers.result _ _ (λ v e. subst (λ (xs : List ℕ). AreBlockers c.args.tree.now l c.args.txn (Key c.args.key.now) Read xs) (sym e) found) c.blockers.ensures.found)

pub returns-in-Read-clause-succeeds : goal.returns-in-Read-clause-succeeds
returns-in-Read-clause-succeeds c =
    let l : Targeted = record { keys = c.self.inside.keys; sums = c.self.inside.sums; writers = c.self.inside.writers } in
    let both = may_read c.args.tree.now l c.self.invariant.0 c.self.invariant.1 c.args.txn c.args.key.now in
    rw (sym c.self.view_is, c.in-Read.is) (λ may. c.blockers.ensures.succeeds (not-true _ (both.1 may)))

pub returns-in_err-found-in-Write-clause-succeeds : goal.returns-in_err-found-in-Write-clause-succeeds
returns-in_err-found-in-Write-clause-succeeds c =
    let l : Targeted = record { keys = c.self.inside.keys; sums = c.self.inside.sums; writers = c.self.inside.writers } in
    rw (sym c.self.view_is, c.in-Write.is) (λ may.
    let back = may_write_back c.args.tree.now l c.self.invariant.0 c.self.invariant.1 c.args.txn c.args.key.now may in
    let ok : IsOk c.blockers-in-Write.result = c.blockers-in-Write.ensures.succeeds back.0 in
    search rules)

pub add_summers-requires : goal.add_summers-requires
add_summers-requires c =
    subst (λ (xs : List ℕ). IsStrictlyIncreasing xs) (sym c.in_ok-found-in-Write.ensures.found)
    (rising_blockers c.args.tree.now c.self.inside.keys c.args.txn c.args.key.now Write)

pub returns-in_err-add_summers-in-Write-clause-succeeds : goal.returns-in_err-add_summers-in-Write-clause-succeeds
returns-in_err-add_summers-in-Write-clause-succeeds c =
    let l : Targeted = record { keys = c.self.inside.keys; sums = c.self.inside.sums; writers = c.self.inside.writers } in
    rw (sym c.self.view_is, c.in-Write.is) (λ may.
    let back = may_write_back c.args.tree.now l c.self.invariant.0 c.self.invariant.1 c.args.txn c.args.key.now may in
    let ok : IsOk c.add_summers.result = c.add_summers.ensures.succeeds back.1 in
    search rules)

pub returns-in_ok-add_summers-in-Write-clause-found : goal.returns-in_ok-add_summers-in-Write-clause-found
returns-in_ok-add_summers-in-Write-clause-found c =
    let l : Targeted = record { keys = c.self.inside.keys; sums = c.self.inside.sums; writers = c.self.inside.writers } in
    let found = c.add_summers.new.found.items in
    let joined = subst (λ (xs : List ℕ). IsJoined xs (BlocksBySum c.args.tree.now l.sums c.args.txn c.args.key.now) found) c.in_ok-found-in-Write.ensures.found c.in_ok-add_summers-in-Write.ensures.ok in
    rw (sym c.self.view_is, c.in-Write.is) (found_for_write c.args.tree.now l c.self.invariant.0 c.self.invariant.1 c.args.txn c.args.key.now found c.add_summers.ensures.rising joined)

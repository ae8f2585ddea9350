use Rattle.std.proofs.Common.{IsOk, rules, sym}
use Rattle.std.proofs.lemmas.Result.{on_ok_weaker}
use Rattle.serial_spec.specs.declared.target.Target.TheVariants.{Key, Group}
use Rattle.lock_table.proofs.Places.{may_go_up}
use Rattle.lock_table.proofs.targets.TargetLocks.reserve_for_parent.Goals as goal

pub returns-in_err-reserve_for_parent-clause-succeeds : goal.returns-in_err-reserve_for_parent-clause-succeeds
returns-in_err-reserve_for_parent-clause-succeeds c = rw (sym c.self.view_is) (λ may.
    let ok : IsOk c.reserve_for_parent.result = c.reserve_for_parent.ensures.succeeds (λ q. may.places (Key q)) in
    search rules)

pub returns-in_err-reserve_for_parent-2-clause-succeeds : goal.returns-in_err-reserve_for_parent-2-clause-succeeds
returns-in_err-reserve_for_parent-2-clause-succeeds c = rw (sym c.self.view_is) (λ may.
    let ok : IsOk c.reserve_for_parent-2.result = c.reserve_for_parent-2.ensures.succeeds (λ g. may.places (Group g)) in
    search rules)

pub returns-clause-ok : goal.returns-clause-ok
returns-clause-ok c =
    on_ok_weaker c.reserve_for_parent-3.result
    (may_go_up
    c.self.inside.keys c.reserve_for_parent.new.self c.self.inside.sums c.reserve_for_parent-2.new.self c.self.inside.writers c.reserve_for_parent-3.new.self
    c.args.child c.args.parent
    c.in_ok-reserve_for_parent.ensures.ok c.in_ok-reserve_for_parent-2.ensures.ok)
    c.reserve_for_parent-3.ensures.ok

pub returns-clause-succeeds : goal.returns-clause-succeeds
returns-clause-succeeds c = rw (sym c.self.view_is) (λ may. c.reserve_for_parent-3.ensures.succeeds may.marks)

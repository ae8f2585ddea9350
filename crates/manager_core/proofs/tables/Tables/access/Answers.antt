use Rattle.std.proofs.Common.{refl, ◌∙◌}
use Rattle.serial_spec.specs.Locks.{mode_of}
use Rattle.serial_spec.specs.Targets.{kind_of, target}
use Rattle.inherit.specs.LocksAndVersions.{IsSame, LocksAndVersions}
use Rattle.manager_core.proofs.Reaching.{comes_done, kept_by_lock, left_by_name, modes_by_name}
use Rattle.manager_core.specs.Tables.{Tabled, HasOtherRoom}
use Rattle.manager_core.proofs.Looked.{seen_raised, seen_same}
use Rattle.manager_core.proofs.tables.Tables.access.Goals as goal

same_estate : (e : LocksAndVersions) → IsSame e e
same_estate e = record { modes = λ u s. refl; left = λ u q. refl; rows = refl }

unchanged : (m : Tabled) → HasOtherRoom m m
unchanged m = record { tree = refl; marks = refl; estate = same_estate m.estate; waits = λ n. refl }

pub take-requires : goal.take-requires
take-requires c =
    let locks = rw (← (c.self.view_is ∙ c.may_remembering.ensures.same)) at c.may_remembering.ensures.locks in
    record { may = locks.0 c.if-not-may_remembering.false }

pub returns-clause-comes : goal.returns-clause-comes
returns-clause-comes c =
    let log = c.args.log.now in
    let asked = c.args.request.now in
    let m : Tabled = record { tree = c.self.inside.tree; marks = c.self.inside.marks; estate = c.self.inside.estate; waits = c.self.inside.waits } in
    let are = rw (← (c.self.view_is ∙ c.may_remembering.ensures.same)) at c.requires.are in
    let number = rw (← (c.self.view_is ∙ c.may_remembering.ensures.same)) at c.in-Some.ensures.number in
    let locks = rw (← (c.self.view_is ∙ c.may_remembering.ensures.same)) at c.may_remembering.ensures.locks in
    comes_done log.rows log.entries m m c.requires.allowed are (unchanged m) asked.name.now c.in-Some.txn number asked.asked.now asked.by c.in-Some.ensures.some c.in_ok-reply.reply
    (locks.0 c.if-not-may_remembering.false) c.in_ok-reply.ensures.reply

pub returns-then-not-may_remembering-clause-comes : goal.returns-then-not-may_remembering-clause-comes
returns-then-not-may_remembering-clause-comes c =
    let log = c.args.log.now in (
      c.in-Some.ensures.some,
      kept_by_lock _ c.may_remembering.result (c.may_remembering.ensures.blocked c.args.request.now.name.now c.in-Some.ensures.number log.rows log.entries c.requires.are) c.if-not-may_remembering.true,
    )

pub returns-clause-reaches : goal.returns-clause-reaches
returns-clause-reaches c =
    let log = c.args.log.now in
    let asked = c.args.request.now in
    let m : Tabled = record { tree = c.self.inside.tree; marks = c.self.inside.marks; estate = c.self.inside.estate; waits = c.self.inside.waits } in
    let are = rw (← (c.self.view_is ∙ c.may_remembering.ensures.same)) at c.requires.are in
    let number = rw (← (c.self.view_is ∙ c.may_remembering.ensures.same)) at c.in-Some.ensures.number in
    let has = c.in_ok-reply.ensures.accessed in
    let new = c.take.new.self in
    rw (← (c.self.view_is ∙ c.may_remembering.ensures.same)) (record {
      tree = refl;
      marks = refl;
      modes = modes_by_name log.rows log.entries m m c.requires.allowed are (unchanged m) asked.name.now c.in-Some.txn number asked.asked.now new c.in_ok-reply.reply has;
      left = left_by_name log.rows log.entries m m c.requires.allowed are (unchanged m) asked.name.now c.in-Some.txn number asked.asked.now new c.in_ok-reply.reply has;
      rows = has.rows;
    })

pub invariant_of-self : goal.invariant_of-self
invariant_of-self c =
    let m = c.self.inside in
    seen_same m.tree m.waits.waits m.looks m.estate.locks c.take.new.self.locks c.in_err-reply.ensures.same.modes c.self.invariant

pub invariant_of-self-2 : goal.invariant_of-self-2
invariant_of-self-2 c =
    let m = c.self.inside in
    let asked = c.args.request.now.asked.now in
    seen_raised m.tree m.waits.waits m.looks m.estate.locks c.take.new.self.locks c.in-Some.txn (target asked) (mode_of (kind_of asked)) c.in_ok-reply.ensures.accessed.modes c.self.invariant

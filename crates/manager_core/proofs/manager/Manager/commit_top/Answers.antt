use Rattle.std.proofs.Common.{refl, sym, subst}
use Rattle.txn_tree.specs.States.{States}
use Rattle.txn_tree.specs.Asked.{IsNumberOf}
use Rattle.manager_core.proofs.Commits.{commits_at}
use Rattle.manager_core.proofs.TopCommits.{due, kept_taken, committed_taken, kept_refused, committed_refused}
use Rattle.manager_core.proofs.Settled.{settled_next, settled_roomy}
use Rattle.manager_core.proofs.Locks.{name_at}
use Rattle.manager_core.proofs.Facts.{sound}
use Rattle.manager_core.proofs.manager.Manager.commit_top.Goals as goal

pub invariant_of-self-in_err-reserve_changes : goal.invariant_of-self-in_err-reserve_changes
invariant_of-self-in_err-reserve_changes g c =
    let m = c.self.inside in
    rw (c.reserve.ensures.rows, c.reserve.ensures.entries)
    (settled_roomy g.S.TopStore m.log.rows m.log.entries m.tables m.opened m.store c.self.invariant _ c.reserve_changes.ensures.same)

pub commit_top-requires-clause-active : goal.commit_top-requires-clause-active
commit_top-requires-clause-active g c =
    let m = c.self.inside in
    let t = c.args.name.now in
    let none = c.in-Some.ensures.cause in
    let roomy = settled_roomy g.S.TopStore m.log.rows m.log.entries m.tables m.opened m.store c.self.invariant c.reserve_changes.new.self c.reserve_changes.ensures.same in
    let number = subst (λ (s : States). IsNumberOf s t c.in-Some.txn) (sym c.reserve_changes.ensures.same.tree) c.in-Some.ensures.number in
    (commits_at m.log.rows m.log.entries c.reserve_changes.new.self.tree c.args.by t _ roomy.kept.allowed roomy.kept.are.in_tree number none).0

pub commit_top-requires-clause-children : goal.commit_top-requires-clause-children
commit_top-requires-clause-children g c =
    let m = c.self.inside in
    let t = c.args.name.now in
    let none = c.in-Some.ensures.cause in
    let roomy = settled_roomy g.S.TopStore m.log.rows m.log.entries m.tables m.opened m.store c.self.invariant c.reserve_changes.new.self c.reserve_changes.ensures.same in
    let number = subst (λ (s : States). IsNumberOf s t c.in-Some.txn) (sym c.reserve_changes.ensures.same.tree) c.in-Some.ensures.number in
    (commits_at m.log.rows m.log.entries c.reserve_changes.new.self.tree c.args.by t _ roomy.kept.allowed roomy.kept.are.in_tree number none).1

pub commit_top-requires-clause-due : goal.commit_top-requires-clause-due
commit_top-requires-clause-due g c =
    let m = c.self.inside in
    let free = rw (← c.self.view_is) at c.requires.free in
    let none = c.in-Some.ensures.cause in
    due g.S.TopStore m.log.rows m.log.entries m.tables c.reserve_changes.new.self m.opened m.store c.self.invariant.kept c.reserve_changes.ensures.same c.args.by c.args.name.now free none c.requires.top
    c.in-Some.txn c.in-Some.ensures.number c.number_to_commit.ensures.rootless c.deref-then-are_taken.result.now (rw c.deref-then-are_taken.ensures.value c.in_ok-changes.ensures)

pub invariant_of-self-then-are_taken : goal.invariant_of-self-then-are_taken
invariant_of-self-then-are_taken g c =
    let m = c.self.inside in
    let number = subst (λ (s : States). IsNumberOf s c.args.name.now c.in-Some.txn) (sym c.reserve_changes.ensures.same.tree) c.in-Some.ensures.number in
    let free = rw (← c.self.view_is) at c.requires.free in
    let none = c.in-Some.ensures.cause in
    rw (c.add.ensures.rows, c.add.ensures.entries, c.reserve.ensures.rows, c.reserve.ensures.entries)
    (settled_next g.S.TopStore m.log.rows m.log.entries m.tables m.opened m.store c.self.invariant _ _ _ refl
    (kept_taken g.S.TopStore m.log.rows m.log.entries m.tables c.reserve_changes.new.self m.opened m.store c.self.invariant.kept c.reserve_changes.ensures.same c.args.by c.args.name.now free none c.requires.top
    c.in-Some.txn c.in-Some.ensures.number c.number_to_commit.ensures.rootless c.deref.result.now (rw c.deref.ensures.value c.in_ok-changes.ensures)
    _ _ (c.commit_top.ensures c.args.name.now (name_at _ c.args.name.now _ number)) c.are_taken.ensures.later (c.are_taken.ensures.took c.if-are_taken.true)))

pub invariant_of-self-else-are_taken : goal.invariant_of-self-else-are_taken
invariant_of-self-else-are_taken g c =
    let m = c.self.inside in
    let free = rw (← c.self.view_is) at c.requires.free in
    let none = c.in-Some.ensures.cause in
    let refused = c.are_taken.ensures.refused c.if-are_taken.false in
    let once = rw c.if-are_taken.false at (c.are_taken.ensures.asked refused.1) in
    rw (c.add-else-are_taken.ensures.rows, c.add-else-are_taken.ensures.entries, c.reserve.ensures.rows, c.reserve.ensures.entries)
    (settled_next g.S.TopStore m.log.rows m.log.entries m.tables m.opened m.store c.self.invariant _ _ _ refl
    (kept_refused g.S.TopStore m.log.rows m.log.entries m.tables c.reserve_changes.new.self m.opened m.store c.self.invariant.kept c.reserve_changes.ensures.same c.args.by c.args.name.now free none c.requires.top
    c.in-Some.txn c.in-Some.ensures.number c.number_to_commit.ensures.rootless c.deref.result.now (rw c.deref.ensures.value c.in_ok-changes.ensures)
    _ c.are_taken.ensures.later refused.1 once refused.0))

pub returns-then-are_taken-clause-ok : goal.returns-then-are_taken-clause-ok
returns-then-are_taken-clause-ok g c =
    let m = c.self.inside in
    let number = subst (λ (s : States). IsNumberOf s c.args.name.now c.in-Some.txn) (sym c.reserve_changes.ensures.same.tree) c.in-Some.ensures.number in
    let free = rw (← c.self.view_is) at c.requires.free in
    let none = c.in-Some.ensures.cause in
    rw (← c.self.view_is, c.add.ensures.rows, c.add.ensures.entries, c.reserve.ensures.rows, c.reserve.ensures.entries)
    (committed_taken g.S.TopStore m.log.rows m.log.entries m.tables c.reserve_changes.new.self m.opened m.store c.self.invariant.kept c.reserve_changes.ensures.same c.args.by c.args.name.now free none c.requires.top
    c.in-Some.txn c.in-Some.ensures.number c.number_to_commit.ensures.rootless c.deref.result.now (rw c.deref.ensures.value c.in_ok-changes.ensures)
    _ _ (c.commit_top.ensures c.args.name.now (name_at _ c.args.name.now _ number)) c.are_taken.ensures.later c.are_taken.ensures.unasked (λ some. rw c.if-are_taken.true at (c.are_taken.ensures.asked some)))

pub returns-then-are_taken-clause-sound : goal.returns-then-are_taken-clause-sound
returns-then-are_taken-clause-sound g c = sound g.S.TopStore _ _ (invariant_of-self-then-are_taken g c) refl

pub returns-clause-ok : goal.returns-clause-ok
returns-clause-ok g c =
    let m = c.self.inside in
    let free = rw (← c.self.view_is) at c.requires.free in
    let none = c.in-Some.ensures.cause in
    let refused = c.are_taken.ensures.refused c.if-are_taken.false in
    let once = rw c.if-are_taken.false at (c.are_taken.ensures.asked refused.1) in
    rw (← c.self.view_is, c.add-else-are_taken.ensures.rows, c.add-else-are_taken.ensures.entries, c.reserve.ensures.rows, c.reserve.ensures.entries, c.reserve_changes.ensures.same.estate.rows)
    (committed_refused g.S.TopStore m.log.rows m.log.entries m.tables c.reserve_changes.new.self m.opened m.store c.self.invariant.kept c.reserve_changes.ensures.same c.args.by c.args.name.now free none c.requires.top
    c.in-Some.txn c.in-Some.ensures.number c.number_to_commit.ensures.rootless c.deref.result.now (rw c.deref.ensures.value c.in_ok-changes.ensures)
    _ c.are_taken.ensures.later refused.1 once)

pub returns-clause-sound : goal.returns-clause-sound
returns-clause-sound g c =
    let m = c.self.inside in
    let free = rw (← c.self.view_is) at c.requires.free in
    let none = c.in-Some.ensures.cause in
    let refused = c.are_taken.ensures.refused c.if-are_taken.false in
    let once = rw c.if-are_taken.false at (c.are_taken.ensures.asked refused.1) in
    sound g.S.TopStore _ c.reserve_changes.new.self
    (rw (c.add-else-are_taken.ensures.rows, c.add-else-are_taken.ensures.entries, c.reserve.ensures.rows, c.reserve.ensures.entries)
    (settled_next g.S.TopStore m.log.rows m.log.entries m.tables m.opened m.store c.self.invariant _ _ _ refl
    (kept_refused g.S.TopStore m.log.rows m.log.entries m.tables c.reserve_changes.new.self m.opened m.store c.self.invariant.kept c.reserve_changes.ensures.same c.args.by c.args.name.now free none c.requires.top
    c.in-Some.txn c.in-Some.ensures.number c.number_to_commit.ensures.rootless c.deref.result.now (rw c.deref.ensures.value c.in_ok-changes.ensures)
    _ c.are_taken.ensures.later refused.1 once refused.0)))
    refl

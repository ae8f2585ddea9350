use Rattle.std.proofs.Common.{None, Some, ◌∙◌, refl, sym, subst, arith}
use Rattle.txn_names.specs.Path.{parent}
use Rattle.txn_tree.specs.States.{States}
use Rattle.txn_tree.specs.Asked.{IsNumberOf}
use Rattle.manager_core.proofs.Answers.{commit_allowed}
use Rattle.manager_core.proofs.Commits.{commits_at, goes_below, kept_child, not_first, unasked_below}
use Rattle.manager_core.proofs.Settled.{settled_next, settled_roomy}
use Rattle.manager_core.proofs.Locks.{name_at}
use Rattle.manager_core.proofs.Facts.{sound}
use Rattle.manager_core.proofs.manager.Manager.commit_child.Goals as goal

pub invariant_of-self-in_err-reserve_commit : goal.invariant_of-self-in_err-reserve_commit
invariant_of-self-in_err-reserve_commit g c =
    let m = c.self.inside in
    rw (c.reserve.ensures.rows, c.reserve.ensures.entries)
    (settled_roomy g.S.TopStore m.log.rows m.log.entries m.tables m.opened m.store c.self.invariant _ c.reserve_commit.ensures.same)

pub commit_child-requires-clause-active : goal.commit_child-requires-clause-active
commit_child-requires-clause-active g c =
    let m = c.self.inside in
    let t = c.args.name.now in
    let none = c.in-Some.ensures.cause in
    let roomy = settled_roomy g.S.TopStore m.log.rows m.log.entries m.tables m.opened m.store c.self.invariant c.reserve_commit.new.self c.reserve_commit.ensures.same in
    let number = subst (λ (s : States). IsNumberOf s t c.in-Some.txn) (sym c.reserve_commit.ensures.same.tree) c.in-Some.ensures.number in
    (commits_at m.log.rows m.log.entries c.reserve_commit.new.self.tree c.args.by t _ roomy.kept.allowed roomy.kept.are.in_tree number none).0

pub commit_child-requires-clause-children : goal.commit_child-requires-clause-children
commit_child-requires-clause-children g c =
    let m = c.self.inside in
    let t = c.args.name.now in
    let none = c.in-Some.ensures.cause in
    let roomy = settled_roomy g.S.TopStore m.log.rows m.log.entries m.tables m.opened m.store c.self.invariant c.reserve_commit.new.self c.reserve_commit.ensures.same in
    let number = subst (λ (s : States). IsNumberOf s t c.in-Some.txn) (sym c.reserve_commit.ensures.same.tree) c.in-Some.ensures.number in
    (commits_at m.log.rows m.log.entries c.reserve_commit.new.self.tree c.args.by t _ roomy.kept.allowed roomy.kept.are.in_tree number none).1

pub invariant_of-self-2 : goal.invariant_of-self-2
invariant_of-self-2 g c =
    let m = c.self.inside in
    let t = c.args.name.now in
    let none = c.in-Some.ensures.cause in
    let same = c.reserve_commit.ensures.same in
    let roomy = settled_roomy g.S.TopStore m.log.rows m.log.entries m.tables m.opened m.store c.self.invariant c.reserve_commit.new.self same in
    let free = rw (← c.self.view_is) at c.requires.free in
    let number = subst (λ (s : States). IsNumberOf s t c.in-Some.txn) (sym same.tree) c.in-Some.ensures.number in
    let above = subst (λ (s : States). IsNumberOf s (parent t) c.parent_number-parent.result) (sym same.tree) c.parent_number-parent.ensures in
    rw (c.add.ensures.rows, c.add.ensures.entries, c.reserve.ensures.rows, c.reserve.ensures.entries)
    (settled_next g.S.TopStore m.log.rows m.log.entries c.reserve_commit.new.self m.opened m.store roomy _ _ _ refl
    (kept_child g.S.TopStore m.log.rows m.log.entries c.reserve_commit.new.self _ m.opened m.store roomy.kept c.args.by t free none
    c.in-Some.txn (Some c.parent_number-parent.result) c.requires.below number above (c.requires.below, above) (c.commit_child.ensures t (name_at _ t _ number))))

pub returns-clause-sound : goal.returns-clause-sound
returns-clause-sound g c = sound g.S.TopStore _ _ (invariant_of-self-2 g c) refl

pub returns-clause-ok : goal.returns-clause-ok
returns-clause-ok g c =
    let m = c.self.inside in
    let t = c.args.name.now in
    let none = c.in-Some.ensures.cause in
    let same = c.reserve_commit.ensures.same in
    let number = subst (λ (s : States). IsNumberOf s t c.in-Some.txn) (sym same.tree) c.in-Some.ensures.number in
    let above = subst (λ (s : States). IsNumberOf s (parent t) c.parent_number-parent.result) (sym same.tree) c.parent_number-parent.ensures in
    let table = goes_below c.reserve_commit.new.self _ t c.in-Some.txn (Some c.parent_number-parent.result) (c.requires.below, above) c.requires.below (c.commit_child.ensures t (name_at _ t _ number)) ∙ same.estate.rows in
    rw (← c.self.view_is, c.add.ensures.rows, c.add.ensures.entries, c.reserve.ensures.rows, c.reserve.ensures.entries, table) record {
      allowed = commit_allowed m.log.rows m.log.entries c.args.by t None none;
      added = refl;
      undone = λ n. refl;
      unasked = λ n. (refl, refl);
      asked = λ e. absurd (not_first _ _ (unasked_below m.log.entries t c.requires.below) e);
      later = record { doubt = omega arith; failures = omega arith };
    }

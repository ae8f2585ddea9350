use Rattle.std.proofs.Common.{◌≡◌, ◌<◌, ◌≤◌, ℕ, true, false, refl, sym, ap, ◌∙◌, arith, rules}
use Rattle.std.specs.Prelude.{nat_lt}
use Rattle.std.proofs.lemmas.Bool.{lt-ltb, le-ltb}
use Rattle.txn_tree.specs.Numbered.{live_children_at}
use Rattle.manager_core.proofs.Causes.{any_live, commit_by_end, commit_cause}
use Rattle.manager_core.proofs.tables.Tables.number_at_commit.Goals as goal

pub returns-in_err-txn-clause-cause : goal.returns-in_err-txn-clause-cause
returns-in_err-txn-clause-cause c =
    let log = c.args.log.now in
    let cause = commit_by_end log.rows log.entries c.args.self.now c.requires.allowed c.requires.are c.args.name.now c.active_number.ensures.some c.args.by _ c.in_err-txn.ensures.cause in
    search rules

pub returns-then-live_children_at-gt0-clause-cause : goal.returns-then-live_children_at-gt0-clause-cause
returns-then-live_children_at-gt0-clause-cause c =
    let log = c.args.log.now in
    let tree = c.args.self.now.tree in
    let name = c.args.name.now in
    let n = c.in_ok-txn.txn in
    let some : 0 < live_children_at tree n = omega (arith, c.live_children_at.ensures, ap (λ v. live_children_at v.tree n) c.self.view_is, c.if-live_children_at-gt0.true) in
    commit_cause log.rows log.entries c.args.self.now c.requires.allowed c.requires.are name c.active_number.ensures.some c.args.by c.in_ok-txn.ensures.cause
    true _ (sym (lt-ltb 0 (live_children_at tree n) some) ∙ any_live tree name n c.in_ok-txn.ensures.number) refl

pub returns-then-waits_elsewhere-clause-cause : goal.returns-then-waits_elsewhere-clause-cause
returns-then-waits_elsewhere-clause-cause c =
    let log = c.args.log.now in
    let tree = c.args.self.now.tree in
    let name = c.args.name.now in
    let n = c.in_ok-txn.txn in
    let none : live_children_at tree n ≤ 0 = omega (arith, c.live_children_at.ensures, ap (λ v. live_children_at v.tree n) c.self.view_is, c.if-live_children_at-gt0.false) in
    commit_cause log.rows log.entries c.args.self.now c.requires.allowed c.requires.are name c.active_number.ensures.some c.args.by c.in_ok-txn.ensures.cause
    false true (sym (le-ltb 0 (live_children_at tree n) none) ∙ any_live tree name n c.in_ok-txn.ensures.number)
    (sym c.if-waits_elsewhere.true ∙ c.waits_elsewhere.ensures name c.in_ok-txn.ensures.number log.rows log.entries c.requires.are)

pub returns-else-waits_elsewhere-clause-cause : goal.returns-else-waits_elsewhere-clause-cause
returns-else-waits_elsewhere-clause-cause c =
    let log = c.args.log.now in
    let tree = c.args.self.now.tree in
    let name = c.args.name.now in
    let n = c.in_ok-txn.txn in
    let none : live_children_at tree n ≤ 0 = omega (arith, c.live_children_at.ensures, ap (λ v. live_children_at v.tree n) c.self.view_is, c.if-live_children_at-gt0.false) in
    commit_cause log.rows log.entries c.args.self.now c.requires.allowed c.requires.are name c.active_number.ensures.some c.args.by c.in_ok-txn.ensures.cause
    false false (sym (le-ltb 0 (live_children_at tree n) none) ∙ any_live tree name n c.in_ok-txn.ensures.number)
    (sym c.if-waits_elsewhere.false ∙ c.waits_elsewhere.ensures name c.in_ok-txn.ensures.number log.rows log.entries c.requires.are)

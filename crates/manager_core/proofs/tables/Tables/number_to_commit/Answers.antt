use Rattle.std.proofs.Common.{◌≡◌, ◌<◌, ◌≤◌, Bool, true, false, is_some, refl, sym, ap, ◌∙◌, arith}
use Rattle.std.specs.Prelude.{nat_lt}
use Rattle.std.proofs.lemmas.Bool.{lt-ltb, le-ltb, not-false}
use Rattle.txn_tree.specs.Asked.{IsNumberOf}
use Rattle.txn_tree.specs.Numbered.{is_active_at, live_children_at}
use Rattle.serial_spec.specs.declared.entry.Refusal.TheVariants.{Children, Waiting}
use Rattle.serial_spec.specs.Allowed.{cause_at_commit, waits_elsewhere}
use Rattle.serial_spec.specs.Causes.{when}
use Rattle.serial_spec.specs.History.{or_else}
use Rattle.manager_core.specs.Tables.{Tabled}
use Rattle.manager_core.proofs.Causes.{any_live, commit_cause, none_by_activity, uncommitted_by_absence, uncommitted_by_inactivity}
use Rattle.manager_core.proofs.tables.Tables.number_to_commit.Goals as goal
use Rattle.manager_core.proofs.tables.Tables.number_to_commit.Goals.{After-live_children_at}

-- of one that acts, the cause hangs on its children, and on its waits
cause : (c : After-live_children_at) (children waits : Bool)
    → children ≡ nat_lt 0 (live_children_at c.args.self.now.tree c.in_ok-txn.txn)
    → waits ≡ waits_elsewhere c.args.log.now.entries c.args.by c.args.name.now
    → or_else (when children Children) (when waits Waiting)
    ≡ cause_at_commit c.args.log.now.entries c.args.by c.args.name.now
cause c children waits some waiting =
    let log = c.args.log.now in
    let tables = c.args.self.now in
    let t = c.args.name.now in
    let number : IsNumberOf tables.tree t c.in_ok-txn.txn = rw (sym c.self.view_is)
    c.in_ok-txn.ensures.number in
    let active = sym c.if-not-is_active_at.false ∙ c.is_active_at.ensures ∙ ap
    (λ (v : Tabled). is_active_at v.tree c.in_ok-txn.txn) c.self.view_is in
    commit_cause log.rows log.entries tables c.requires.allowed c.requires.are t
    c.has_labels.ensures.some c.args.by
    (none_by_activity log.rows log.entries tables c.requires.allowed c.requires.are t c.in_ok-txn.txn
    c.has_labels.ensures.some number active)
    children waits (some ∙ any_live tables.tree t c.in_ok-txn.txn number) waiting

pub returns-in_err-txn-clause-none : goal.returns-in_err-txn-clause-none
returns-in_err-txn-clause-none c =
    let log = c.args.log.now in
    let are = rw (← c.self.view_is) at c.requires.are in
    rw c.from_residual.ensures
    (uncommitted_by_absence log.rows log.entries _ c.requires.allowed are c.args.name.now
    c.has_labels.ensures.some c.args.by (not-false _ (sym c.in_err-txn.ensures.begun)))

pub returns-then-not-is_active_at-clause-none : goal.returns-then-not-is_active_at-clause-none
returns-then-not-is_active_at-clause-none c =
    let log = c.args.log.now in
    let are = rw (← c.self.view_is) at c.requires.are in
    uncommitted_by_inactivity log.rows log.entries _ c.requires.allowed are c.args.name.now
    c.in_ok-txn.txn c.in_ok-txn.ensures.number
    (sym c.if-not-is_active_at.true ∙ c.is_active_at.ensures) c.args.by

pub returns-then-live_children_at-gt0-clause-none : goal.returns-then-live_children_at-gt0-clause-none
returns-then-live_children_at-gt0-clause-none c =
    let at = (goal.at.returns-then-live_children_at-gt0-clause-none c).After-live_children_at in
    let n = c.in_ok-txn.txn in
    let some : 0 < live_children_at c.args.self.now.tree n = omega (arith, c.live_children_at.ensures, ap (λ (v : Tabled). live_children_at v.tree n) c.self.view_is, c.if-live_children_at-gt0.true) in
    sym (ap is_some (cause at true _ (sym (lt-ltb 0 (live_children_at c.args.self.now.tree n) some)) refl))

pub returns-then-waits_elsewhere-clause-none : goal.returns-then-waits_elsewhere-clause-none
returns-then-waits_elsewhere-clause-none c =
    let log = c.args.log.now in
    let at = (goal.at.returns-then-waits_elsewhere-clause-none c).After-live_children_at in
    let n = c.in_ok-txn.txn in
    let number : IsNumberOf c.args.self.now.tree c.args.name.now n = rw (sym c.self.view_is) c.in_ok-txn.ensures.number in
    let none : live_children_at c.args.self.now.tree n ≤ 0 = omega (arith, c.live_children_at.ensures, ap (λ (v : Tabled). live_children_at v.tree n) c.self.view_is, c.if-live_children_at-gt0.false) in
    sym (ap is_some (cause at false true (sym (le-ltb 0 (live_children_at c.args.self.now.tree n) none))
    (sym c.if-waits_elsewhere.true ∙ c.waits_elsewhere.ensures c.args.name.now number log.rows log.entries c.requires.are)))

pub returns-clause-cause : goal.returns-clause-cause
returns-clause-cause c =
    let log = c.args.log.now in
    let at = (goal.at.returns-clause-cause c).After-live_children_at in
    let n = c.in_ok-txn.txn in
    let number : IsNumberOf c.args.self.now.tree c.args.name.now n = rw (sym c.self.view_is) c.in_ok-txn.ensures.number in
    let none : live_children_at c.args.self.now.tree n ≤ 0 = omega (arith, c.live_children_at.ensures, ap (λ (v : Tabled). live_children_at v.tree n) c.self.view_is, c.if-live_children_at-gt0.false) in
    cause at false false (sym (le-ltb 0 (live_children_at c.args.self.now.tree n) none))
    (sym c.if-waits_elsewhere.false ∙ c.waits_elsewhere.ensures c.args.name.now number log.rows log.entries c.requires.are)

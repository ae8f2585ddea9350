use Rattle.std.proofs.Common.{◌≡◌, not, true, None, refl, sym, ◌∙◌}
use Rattle.txn_tree.specs.Asked.{IsNumberOf, is_absent_in}
use Rattle.manager_core.specs.Tables.{cause_in}
use Rattle.manager_core.proofs.Causes.{access_by_end, access_cause, done_by_state, full_at_last, none_by_state, orphan_cause}
use Rattle.manager_core.proofs.tables.Tables.cause_at_access.Goals as goal
use Rattle.manager_core.proofs.tables.Tables.cause_at_access.Goals.{In-Some, In_default-status_at}

-- the transaction has begun, and this is its number
begun : (c : In-Some) → true ≡ not (is_absent_in c.args.self.now.tree c.args.name.now)
begun c = rw (sym c.self.view_is) c.in-Some.ensures.begun

number : (c : In-Some) → IsNumberOf c.args.self.now.tree c.args.name.now c.in-Some.txn
number c = rw (sym c.self.view_is) c.in-Some.ensures.number

-- nothing that would refuse an abort refuses the access
none : (c : In_default-status_at) → None ≡ cause_in c.args.self.now c.args.name.now
none c =
    none_by_state c.args.self.now c.args.name.now c.in-Some.txn (rw (sym c.self.view_is) c.in-Some.ensures.number) (rw (sym c.self.view_is) c.in-Some.ensures.begun)
    c.in_default-orphan_top.ensures (rw (sym c.self.view_is) (λ e. c.in_default-status_at.not-Committed (c.status_at.ensures ∙ e)))

pub returns-in-Some-orphan_top : goal.returns-in-Some-orphan_top
returns-in-Some-orphan_top c =
    let log = c.args.log.now in
    let at = (goal.at.returns-in-Some-orphan_top c).In-Some in
    access_by_end log.rows log.entries c.args.self.now c.requires.allowed c.requires.are c.args.name.now c.has_labels.ensures.some c.args.by c.args._asked.now _
    (orphan_cause c.args.self.now c.args.name.now c.in-Some-orphan_top.top.now (begun at) (sym c.in-Some-orphan_top.ensures))

pub returns-in-Committed : goal.returns-in-Committed
returns-in-Committed c =
    let log = c.args.log.now in
    let at = (goal.at.returns-in-Committed c).In-Some in
    access_by_end log.rows log.entries c.args.self.now c.requires.allowed c.requires.are c.args.name.now c.has_labels.ensures.some c.args.by c.args._asked.now _
    (done_by_state c.args.self.now c.args.name.now c.in-Some.txn (number at) (begun at) c.in_default-orphan_top.ensures
    (rw (sym c.self.view_is) (sym c.status_at.ensures ∙ c.in-Committed.is)))

pub returns-then-waits_elsewhere : goal.returns-then-waits_elsewhere
returns-then-waits_elsewhere c =
    let log = c.args.log.now in
    let at = goal.at.returns-then-waits_elsewhere c in
    let waits = c.waits_elsewhere.ensures c.args.name.now (number at.In-Some) log.rows log.entries c.requires.are in
    access_cause log.rows log.entries c.args.self.now c.requires.allowed c.requires.are c.args.name.now c.has_labels.ensures.some c.args.by c.args._asked.now
    (none at.In_default-status_at) true _ (sym c.if-waits_elsewhere.true ∙ waits) refl

pub returns-else-waits_elsewhere : goal.returns-else-waits_elsewhere
returns-else-waits_elsewhere c =
    let log = c.args.log.now in
    let at = goal.at.returns-else-waits_elsewhere c in
    let waits = c.waits_elsewhere.ensures c.args.name.now (number at.In-Some) log.rows log.entries c.requires.are in
    full_at_last log.rows log.entries c.args.self.now c.requires.allowed c.requires.are c.args.name.now c.has_labels.ensures.some c.args.by c.args._asked.now
    (none at.In_default-status_at) (sym c.if-waits_elsewhere.false ∙ waits) c.requires.refused

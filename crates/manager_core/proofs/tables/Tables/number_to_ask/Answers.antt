use Rattle.std.proofs.Common.{◌≡◌, Bool, true, false, is_some, refl, sym, ap, ◌∙◌}
use Rattle.std.proofs.lemmas.Bool.{not-false}
use Rattle.txn_tree.specs.Asked.{IsNumberOf}
use Rattle.txn_tree.specs.Numbered.{is_active_at}
use Rattle.serial_spec.specs.declared.entry.Refusal.TheVariants.{Full, Waiting}
use Rattle.serial_spec.specs.Allowed.{cause_at_access, is_full_for}
use Rattle.serial_spec.specs.Causes.{when}
use Rattle.serial_spec.specs.History.{or_else}
use Rattle.manager_core.specs.Tables.{Tabled}
use Rattle.manager_core.proofs.Causes.{active_cause, refused_by_absence, refused_by_inactivity}
use Rattle.manager_core.proofs.tables.Tables.number_to_ask.Goals as goal
use Rattle.manager_core.proofs.tables.Tables.number_to_ask.Goals.{After-waits_elsewhere}

-- of one that acts, the cause hangs on its waits, and on whether the key is one too many
cause : (c : After-waits_elsewhere) (waits full : Bool) → c.waits_elsewhere.result ≡ waits
    → full ≡ is_full_for c.args.log.now.rows c.args.log.now.entries c.args.asked.now
    → or_else (when waits Waiting) (when full Full)
    ≡ cause_at_access c.args.log.now.rows c.args.log.now.entries c.args.by c.args.name.now
    c.args.asked.now
cause c waits full is is_full =
    let log = c.args.log.now in
    let t = c.args.name.now in
    let number : IsNumberOf c.args.self.now.tree t c.in_ok-txn.txn = rw (sym c.self.view_is)
    c.in_ok-txn.ensures.number in
    let active = sym c.if-not-is_active_at.false ∙ c.is_active_at.ensures ∙ ap
    (λ (v : Tabled). is_active_at v.tree c.in_ok-txn.txn) c.self.view_is in
    active_cause log.rows log.entries c.args.self.now c.requires.allowed c.requires.are t
    c.has_labels.ensures.some c.args.by c.in_ok-txn.txn number active c.args.asked.now waits full
    (sym is ∙ c.waits_elsewhere.ensures t number log.rows log.entries c.requires.are) is_full

pub returns-in_err-txn-clause-none : goal.returns-in_err-txn-clause-none
returns-in_err-txn-clause-none c =
    let log = c.args.log.now in
    let are = rw (← c.self.view_is) at c.requires.are in
    rw c.from_residual.ensures
    (refused_by_absence log.rows log.entries _ c.requires.allowed are c.args.name.now
    c.has_labels.ensures.some c.args.by c.args.asked.now
    (not-false _ (sym c.in_err-txn.ensures.begun)))

pub returns-then-not-is_active_at-clause-none : goal.returns-then-not-is_active_at-clause-none
returns-then-not-is_active_at-clause-none c =
    let log = c.args.log.now in
    let are = rw (← c.self.view_is) at c.requires.are in
    refused_by_inactivity log.rows log.entries _ c.requires.allowed are c.args.name.now
    c.in_ok-txn.txn c.in_ok-txn.ensures.number
    (sym c.if-not-is_active_at.true ∙ c.is_active_at.ensures) c.args.by c.args.asked.now

pub returns-then-waits_elsewhere-clause-none : goal.returns-then-waits_elsewhere-clause-none
returns-then-waits_elsewhere-clause-none c =
    let at = (goal.at.returns-then-waits_elsewhere-clause-none c).After-waits_elsewhere in
    sym (ap is_some (cause at true _ c.if-waits_elsewhere.true refl))

pub returns-then-is_full_for-clause-none : goal.returns-then-is_full_for-clause-none
returns-then-is_full_for-clause-none c =
    let at = (goal.at.returns-then-is_full_for-clause-none c).After-waits_elsewhere in
    sym (ap is_some (cause at false true c.if-waits_elsewhere.false
    (sym c.if-is_full_for.true ∙ c.is_full_for.ensures)))

pub returns-clause-some : goal.returns-clause-some
returns-clause-some c =
    cause (goal.at.returns-clause-some c).After-waits_elsewhere false false
    c.if-waits_elsewhere.false (sym c.if-is_full_for.false ∙ c.is_full_for.ensures)

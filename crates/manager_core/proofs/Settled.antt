-- How each call keeps what the type says after each call: no cycle of waits stands.
use Rattle.std.proofs.Common.{◌≡◌, Bool, true, false, cond, [], ◌∷◌, Option, Some, None, is_some, refl, sym, subst, ◌∙◌}
use Rattle.std.proofs.lemmas.Bool.{false≢true}
use Rattle.serial_spec.specs.declared.entry.Answer.TheVariants.{Stuck}
use Rattle.serial_spec.specs.declared.entry.Refusal.{Refusal}
use Rattle.serial_spec.specs.declared.event.Event.{Event}
use Rattle.serial_spec.specs.declared.event.Event.TheVariants.{Begin, Access, Sum, Commit, Abort, After}
use Rattle.serial_spec.specs.declared.entry.Entry.{Entry}
use Rattle.serial_spec.specs.History.{Name, History, is_active}
use Rattle.serial_spec.specs.Waits.{Quiet}
use Rattle.serial_spec.specs.Rows.{Rows}
use Rattle.serial_spec.specs.Legal.{AreAllowed}
use Rattle.txn_history.specs.Laws.{may_add_pair}
use Rattle.txn_history.proofs.Exports.{legal_next, lone_quiet, quiet_stays}
use Rattle.durable_top.specs.declared.store.TopStore.{Ghosts}
use Rattle.manager_core.specs.declared.manager.AtOpening.{AtOpening}
use Rattle.manager_core.specs.Kept.{IsKept, IsSettled}
use Rattle.manager_core.specs.Outcomes.{answer_of, outcome_of}
use Rattle.manager_core.specs.Tables.{Tabled, HasOtherRoom, rows_in}
use Rattle.manager_core.specs.inner.Victims.{Breaks}
use Rattle.manager_core.proofs.Kept.{backed_over, kept_roomy}
use Rattle.manager_core.proofs.Victims.{allowed_after, backed_after, legal_after, quiet_after}

-- ---- entries by which nobody comes to wait for another

pub begins_no_wait : (t : Name) (o : Option Refusal) → may_add_pair (Begin t) (answer_of (outcome_of o)) ≡ false
begins_no_wait t None = refl
begins_no_wait t (Some r) = refl

pub aborts_no_wait : (t : Name) (o : Option Refusal) → may_add_pair (Abort t) (answer_of (outcome_of o)) ≡ false
aborts_no_wait t None = refl
aborts_no_wait t (Some r) = refl

pub stuck_no_wait : (e : Event) → may_add_pair e Stuck ≡ false
stuck_no_wait (Begin t) = refl
stuck_no_wait (Access t k o) = refl
stuck_no_wait (Sum t g) = refl
stuck_no_wait (Commit t) = refl
stuck_no_wait (Abort t) = refl
stuck_no_wait (After t w) = refl

none_waits : (b : Bool) → is_some (cond {A = Option Entry} b None None) ≡ false
none_waits true = refl
none_waits false = refl

pub quiet_at_first : Quiet []
quiet_at_first = lone_quiet [] [] (λ u e. absurd (false≢true (sym (none_waits (is_active [] u)) ∙ e)))

-- ---- what the type says

-- of the same rows and entries
pub allowed_of : (rows rows2 : Rows) (h h2 : History) → AreAllowed rows h → rows2 ≡ rows → h2 ≡ h → AreAllowed rows2 h2
allowed_of rows rows2 h h2 allowed same_rows same_history = subst (λ (r : Rows). AreAllowed r h2) (sym same_rows) (subst (AreAllowed rows) (sym same_history) allowed)

module _ {S : Type 0} (g : Ghosts S) (rows : Rows) (h : History) (old : Tabled) (opened : AtOpening) (store : S) (settled : IsSettled g rows h old opened store) where
  -- with other room
  pub settled_roomy : (new : Tabled) → HasOtherRoom old new → IsSettled g rows h new opened store
  settled_roomy new same = record {
    kept = kept_roomy g rows h old new opened store settled.kept same;
    legal = settled.legal;
    quiet = settled.quiet;
  }

  -- an entry by which nobody comes to wait for another
  pub settled_next : (e : Entry) (new : Tabled) (after : S) → may_add_pair e.event e.answer ≡ false → IsKept g rows (e ∷ h) new opened after
      → IsSettled g rows (e ∷ h) new opened after
  settled_next e new after none kept = record {
    kept = kept;
    legal = legal_next rows e h kept.allowed settled.legal settled.quiet;
    quiet = quiet_stays rows e h kept.allowed none settled.quiet;
  }

  -- an entry, and the victims behind it
  pub settled_broken : (e : Entry) (mid new : Tabled) (h2 : History) → IsKept g rows (e ∷ h) mid opened store → Breaks rows (e ∷ h) h2 new → rows_in new ≡ rows_in mid
      → IsSettled g rows h2 new opened store
  settled_broken e mid new h2 kept breaks same = record {
    kept = record {
      given = kept.given;
      rising = kept.rising;
      allowed = allowed_after rows (e ∷ h) h2 breaks.victims breaks.after kept.allowed;
      are = breaks.are;
      backed = backed_over g same (backed_after g (e ∷ h) h2 breaks.victims (rows_in mid) opened store breaks.after kept.backed);
    };
    legal = legal_after rows (e ∷ h) h2 breaks.victims breaks.after (legal_next rows e h kept.allowed settled.legal settled.quiet);
    quiet = quiet_after (e ∷ h) h2 breaks.victims breaks.after;
  }

-- The commit of a top-level transaction: what the type keeps, and what the caller is told.
use Rattle.std.proofs.Common.{◌≡◌, ℕ, Bool, true, false, ◌&&◌, List, [], ◌∷◌, length, None, refl, sym, subst, ◌∙◌}
use Rattle.std.proofs.lemmas.Bool.{true≢false}
use Rattle.txn_names.specs.declared.change.Change.{Change}
use Rattle.txn_tree.specs.States.{States}
use Rattle.txn_tree.specs.Asked.{IsNumberOf, IsRootless}
use Rattle.version_stack.specs.Versioned.{base_after}
use Rattle.inherit.specs.LocksAndVersions.{base_of}
use Rattle.inherit.specs.Changes.{AreChangesOf}
use Rattle.serial_spec.specs.declared.entry.By.{By}
use Rattle.serial_spec.specs.declared.operation.Reply.TheVariants.{Ok}
use Rattle.serial_spec.specs.declared.entry.Refusal.TheVariants.{Store}
use Rattle.serial_spec.specs.declared.event.Event.TheVariants.{Commit}
use Rattle.serial_spec.specs.declared.entry.Answer.TheVariants.{Done, Refused}
use Rattle.serial_spec.specs.History.{Name, History}
use Rattle.serial_spec.specs.Rows.{Rows, value_in}
use Rattle.serial_spec.specs.Changes.{IsChanges, overlay}
use Rattle.serial_spec.specs.Allowed.{cause_at_commit}
use Rattle.durable_top.specs.declared.store.TopStore.{Ghosts}
use Rattle.manager_core.specs.declared.manager.AtOpening.{AtOpening}
use Rattle.manager_core.specs.declared.outcome.Outcome.TheVariants as made
use Rattle.manager_core.specs.State.{entry}
use Rattle.manager_core.specs.Lines.{IsFree}
use Rattle.manager_core.specs.Kept.{IsKept}
use Rattle.manager_core.specs.Tables.{Tabled, CommitsIn, HasOtherRoom, rows_in}
use Rattle.manager_core.specs.Asked.{IsLater, IsAsked, Takes, Refuses}
use Rattle.manager_core.specs.Calls.{Committed}
use Rattle.manager_core.proofs.Answers.{commit_allowed}
use Rattle.manager_core.proofs.Commits.{asked, unasked, some_due, kept_top, kept_unstored}
use Rattle.manager_core.proofs.Kept.{kept_roomy}
use Rattle.manager_core.proofs.Stored.{are_changes, due_overlays, table_overlays, table_unchanged}

first_true : (b : Bool) → b && true ≡ true → b ≡ true
first_true true e = refl
first_true false e = e

first_false : (b : Bool) → b && true ≡ false → b ≡ false
first_false true e = e
first_false false e = refl

module _ {S : Type 0} (g : Ghosts S) (rows : Rows) (h : History) (old mid : Tabled) (opened : AtOpening) (before : S) (kept : IsKept g rows h old opened before)
    (same : HasOtherRoom old mid) (by : By) (t : Name) (free : IsFree h by (Commit t)) (none : None ≡ cause_at_commit h by t) (top : length t ≡ 1)
    (n : ℕ) (number : IsNumberOf old.tree t n) (rootless : IsRootless old.tree) (changes : List Change) (told : AreChangesOf old.tree old.estate n changes) where
  roomy : IsKept g rows h mid opened before
  roomy = kept_roomy g rows h old mid opened before kept same

  number_mid : IsNumberOf mid.tree t n
  number_mid = subst (λ (s : States). IsNumberOf s t n) (sym same.tree) number

  are : IsChanges (value_in rows) h t changes
  are = are_changes rows h old kept.allowed kept.are t n number by none changes told

  -- they come to what the transaction left
  pub due : (k : List ℕ) → base_after mid.estate.versions n None k ≡ overlay changes (base_of mid.estate) k
  due = due_overlays rows h mid roomy.allowed roomy.are t n number_mid by none free.line top changes are

  module _ (new : Tabled) (after : S) (commits : CommitsIn mid new t n None) (later : IsLater g before after) where
    overlays : value_in (rows_in new) ≡ overlay changes (value_in (rows_in mid))
    overlays = table_overlays rows h mid roomy.allowed roomy.are t n number_mid by none new commits free.line top changes are

    -- the store took the changes
    pub kept_taken : Takes g before after changes → IsKept g rows (entry by (Commit t) (Done Ok) ∷ h) new opened after
    kept_taken takes =
        kept_top g rows h mid new opened before roomy by t free none n after changes top number_mid (subst (λ (s : States). IsRootless s) (sym same.tree) rootless) commits are overlays takes later

    pub committed_taken : (changes ≡ [] → after ≡ before) → ((changes ≡ [] → ⊥) → IsAsked g before after changes true) → Committed g
        (record { rows = rows; opened = opened; history = h; table = rows_in old; store = before })
        (record { rows = rows; opened = opened; history = entry by (Commit t) (Done Ok) ∷ h; table = rows_in new; store = after })
        by t (made.Done Ok)
    committed_taken idle once = record {
      allowed = commit_allowed rows h by t None none;
      added = refl;
      undone = λ e. absurd (true≢false e);
      unasked = λ e.
          let nothing = unasked (value_in rows) h t changes top are (first_false _ e) in
          (table_unchanged rows h mid roomy.allowed roomy.are t n number_mid by none new commits changes overlays nothing ∙ same.estate.rows, idle nothing);
      asked = λ e. record { changes = changes; due = are; asked = once (some_due (value_in rows) h t changes top are (first_true _ e)) };
      later = later;
    }

  module _ (after : S) (later : IsLater g before after) (some : changes ≡ [] → ⊥) (once : IsAsked g before after changes false) where
    -- the store refused them
    pub kept_refused : Refuses g before after → IsKept g rows (entry by (Commit t) (Refused Store) ∷ h) mid opened after
    kept_refused refuses = kept_unstored g rows h mid mid opened before roomy by t free none after changes top are some refuses later

    pub committed_refused : Committed g
        (record { rows = rows; opened = opened; history = h; table = rows_in old; store = before })
        (record { rows = rows; opened = opened; history = entry by (Commit t) (Refused Store) ∷ h; table = rows_in old; store = after })
        by t (made.Refused Store)
    committed_refused = record {
      allowed = (commit_allowed rows h by t None none, asked (value_in rows) h t changes top are some);
      added = refl;
      undone = λ e. refl;
      unasked = λ e. absurd (some (unasked (value_in rows) h t changes top are (first_false _ e)));
      asked = λ e. record { changes = changes; due = are; asked = once };
      later = later;
    }

-- What a commit does to the table, by the tables and by the history.
use Rattle.std.proofs.Common.{◌≡◌, ℕ, true, cond, List, [], ◌∷◌, length, Some, None, refl, sym, ap, ◌∙◌, arith}
use Rattle.txn_names.specs.declared.change.Change.{Change}
use Rattle.txn_tree.specs.Asked.{IsNumberOf}
use Rattle.lock_table.specs.Inherited.{free, whole}
use mathlib.Core.Path.{fun_ext}
use Rattle.version_stack.specs.Seen.{seen_in}
use Rattle.version_stack.specs.Versioned.{base_after}
use Rattle.inherit.specs.LocksAndVersions.{base_of, left_of, modes_of}
use Rattle.inherit.specs.Changes.{AreChangesOf}
use Rattle.serial_spec.specs.declared.entry.By.{By}
use Rattle.serial_spec.specs.declared.entry.Entry.{Entry}
use Rattle.serial_spec.specs.declared.operation.Reply.TheVariants.{Ok}
use Rattle.serial_spec.specs.declared.event.Event.TheVariants.{Commit}
use Rattle.serial_spec.specs.declared.entry.Answer.TheVariants.{Done}
use Rattle.serial_spec.specs.History.{Name, History, is_active}
use Rattle.serial_spec.specs.declared.target.Target.TheVariants.{Key}
use Rattle.serial_spec.specs.Locks.{is_exclusive}
use Rattle.serial_spec.specs.Serial.{Map, stored}
use Rattle.serial_spec.specs.Values.{seen, value_or}
use Rattle.serial_spec.specs.Rows.{Rows, value_in}
use Rattle.serial_spec.specs.Changes.{IsChanges, overlay}
use Rattle.serial_spec.specs.Legal.{AreAllowed}
use Rattle.serial_spec.specs.Allowed.{cause_at_commit}
use Rattle.txn_history.proofs.Exports.{changes_made, foot_is_greater, seen_after_commit, seen_by_parent, value_stored}
use Rattle.manager_core.specs.State.{entry}
use Rattle.manager_core.specs.Lines.{IsLine}
use Rattle.manager_core.specs.Kept.{AreTablesOf, content_of, lock_at, left_at}
use Rattle.manager_core.specs.Tables.{Tabled, CommitsIn, rows_in}
use Rattle.manager_core.proofs.Answers.{active_at_commit, allowed_next, commit_allowed}
use Rattle.manager_core.proofs.Locks.{name_at}
use Rattle.manager_core.proofs.Seen.{seen_as}

module _ (rows : Rows) (h : History) (old : Tabled) (allowed : AreAllowed rows h) (are : AreTablesOf rows h old)
    (t : Name) (n : ℕ) (number : IsNumberOf old.tree t n) (by : By) (none : None ≡ cause_at_commit h by t) where
  acts : is_active h t ≡ true
  acts = active_at_commit h by t none

  modes_as : (k : List ℕ) → modes_of old.estate n (Key k) ≡ lock_at (Key k) h t
  modes_as k = are.estate.modes n (Key k) ∙ ap (content_of free (lock_at (Key k)) h) (name_at old.tree t n number) ∙ ap (λ b. cond b (lock_at (Key k) h t) free) acts

  left_is : (k : List ℕ) → left_of old.estate n k ≡ left_at k h t
  left_is k = are.estate.left n k ∙ ap (content_of None (left_at k) h) (name_at old.tree t n number) ∙ ap (λ b. cond b (left_at k h t) None) acts

  -- the changes that the tables tell are those of the history
  pub are_changes : (cs : List Change) → AreChangesOf old.tree old.estate n cs → IsChanges (value_in rows) h t cs
  are_changes cs told = record {
    rising = told.rising;
    each = λ k.
        told.each k
        ∙ (λ i. cond (is_exclusive (whole (modes_as k i))) (Some (sees k i)) None)
        ∙ ap (λ m. cond (is_exclusive m) (Some (seen (value_in rows) h t k)) None) (sym (foot_is_greater h t (Key k)));
  }
    where
      sees : (k : List ℕ) → seen_in old.tree old.estate.versions n k ≡ seen (value_in rows) h t k
      sees k = seen_as rows h old allowed are k t n acts number

  -- a value that the transaction left comes in place of the table's
  due_is : (k : List ℕ) → base_after old.estate.versions n None k ≡ value_or (left_at k h t) (stored (value_in rows) h k)
  due_is k =
      ap (λ o. value_or o (base_of old.estate k)) (left_is k)
      ∙ ap (value_or (left_at k h t)) (are.current k)

  -- which is the table with the changes made
  pub due_overlays : IsLine by → length t ≡ 1 → (cs : List Change) → IsChanges (value_in rows) h t cs
      → (k : List ℕ) → base_after old.estate.versions n None k ≡ overlay cs (base_of old.estate) k
  due_overlays line top cs told k = each t top refl
    where
      was : value_in (rows_in old) ≡ stored (value_in rows) h
      was = λ i q. are.current q i

      each : (u : Name) → length u ≡ 1 → u ≡ t → base_after old.estate.versions n None k ≡ overlay cs (value_in (rows_in old)) k
      each [] one is = absurd (omega (arith, one))
      each (l ∷ m ∷ ls) one is = absurd (omega (arith, one))
      each (l ∷ []) one is =
          let e : Entry = entry by (Commit (l ∷ [])) (Done Ok) in
          let cause = rw (sym is) at none in
          let next = allowed_next rows h by (Commit (l ∷ [])) (Done Ok) allowed line (commit_allowed rows h by (l ∷ []) None cause) in
          due_is k
          ∙ ap (λ (v : Name). value_or (left_at k h v) (stored (value_in rows) h k)) (sym is)
          ∙ ap (value_or (left_at k h (l ∷ []))) (value_stored rows h allowed k)
          ∙ sym (seen_by_parent (value_in rows) h l [] k)
          ∙ sym (seen_after_commit (value_in rows) e h l [] k refl)
          ∙ sym (value_stored rows (e ∷ h) next k)
          ∙ changes_made rows e h next l refl cs (rw (sym is) at told) k
          ∙ ap (λ (m : Map). overlay cs m k) (sym was)

  module _ (new : Tabled) (commits : CommitsIn old new t n None) where
    -- so the changes have been made in it
    pub table_overlays : IsLine by → length t ≡ 1 → (cs : List Change) → IsChanges (value_in rows) h t cs
        → value_in (rows_in new) ≡ overlay cs (value_in (rows_in old))
    table_overlays line top cs told = fun_ext (λ k. commits.up.base k ∙ due_overlays line top cs told k)

    -- where no change was made the table is the same
    pub table_unchanged : (cs : List Change) → value_in (rows_in new) ≡ overlay cs (value_in (rows_in old)) → cs ≡ [] → rows_in new ≡ rows_in old
    table_unchanged cs overlays nothing =
        commits.up.same (λ q.
        sym (commits.up.base q)
        ∙ ap (λ (m : Map). m q) overlays
        ∙ ap (λ (ds : List Change). overlay ds (value_in (rows_in old)) q) nothing)

-- How each kind of entry keeps the tables what the history says.
use Rattle.std.proofs.Common.{◌≡◌, ℕ, List, ◌∷◌, Option, refl, sym, ap, subst, ◌∙◌}
use Rattle.std.specs.List.{list_any}
use Rattle.txn_names.specs.Path.{path_eq}
use Rattle.txn_tree.specs.Asked.{IsNumberOf}
use Rattle.inherit.specs.LocksAndVersions.{LocksAndVersions, rows_of}
use Rattle.txn_tree.specs.States.{States}
use Rattle.serial_spec.specs.declared.target.Asked.{Asked}
use Rattle.serial_spec.specs.declared.operation.Reply.{Reply}
use Rattle.serial_spec.specs.declared.entry.Entry.{Entry}
use Rattle.serial_spec.specs.History.{Name, History, Effect, Begins, Accesses, Commits, Aborts, Nothing, effect, is_abort}
use Rattle.serial_spec.specs.Serial.{stored}
use Rattle.serial_spec.specs.Rows.{Rows, value_in}
use Rattle.serial_spec.specs.Legal.{AreAllowed}
use Rattle.txn_history.specs.Laws.{table_next}
use Rattle.manager_core.specs.Kept.{AreMarksOf, AreTablesOf, AreWaitsOf, IsEstateOf, IsTreeOf}
use Rattle.manager_core.specs.Tables.{Tabled, HasOtherRoom, IsBeside, KeepsWaits, BeginsIn, AccessesIn, CommitsIn, AbortsIn, IsParentNumber, rows_in}
use Rattle.manager_core.proofs.Steps.{tree_plain, tree_begins, tree_commits, tree_aborts, marks_same, marks_aborts, table_same}
use Rattle.manager_core.proofs.Estates.{estate_roomy, estate_nothing, estate_accessed, estate_gone_up, estate_dropped, estate_begun}

-- beside the waits and in the waits with other room
pub roomy_beside : (old new : Tabled) → IsBeside old new → KeepsWaits old new → HasOtherRoom old new
roomy_beside old new same keeps = record {
  tree = same.tree;
  marks = same.marks;
  estate = same.estate;
  waits = keeps;
}

-- with other room
pub tables_roomy : (rows : Rows) (h : History) (old new : Tabled) → AreTablesOf rows h old → HasOtherRoom old new → AreTablesOf rows h new
tables_roomy rows h old new are same = record {
  in_tree = subst (IsTreeOf h) (sym same.tree) are.in_tree;
  marked = λ t. ap (list_any (path_eq t)) same.marks ∙ are.marked t;
  estate = subst (λ (s : States). IsEstateOf h s new.estate) (sym same.tree) (estate_roomy h old.tree old.estate new.estate are.estate same.estate);
  waiting = subst (λ (s : States). AreWaitsOf h s new.waits) (sym same.tree) (λ n. same.waits n ∙ are.waiting n);
  current = λ k. ap (λ (rs : Rows). value_in rs k) same.estate.rows ∙ are.current k;
}

module _ (rows : Rows) (e : Entry) (h : History) (allowed : AreAllowed rows (e ∷ h)) (old new : Tabled) (are : AreTablesOf rows h old)
    (waiting : AreWaitsOf (e ∷ h) new.tree new.waits) where
  -- an entry that commits nobody leaves the table
  same_stored : (x : Effect) → effect e ≡ x → (k : List ℕ) → table_next (value_in rows) h x k ≡ stored (value_in rows) h k
      → stored (value_in rows) (e ∷ h) k ≡ stored (value_in rows) h k
  same_stored x does k same = table_same rows e h allowed k (ap (λ y. table_next (value_in rows) h y k) does ∙ same)

  same_current : (x : Effect) → effect e ≡ x → rows_in new ≡ rows_in old → (k : List ℕ) → table_next (value_in rows) h x k ≡ stored (value_in rows) h k
      → value_in (rows_in new) k ≡ stored (value_in rows) (e ∷ h) k
  same_current x does same_rows k same = ap (λ (rs : Rows). value_in rs k) same_rows ∙ are.current k ∙ sym (same_stored x does k same)

  -- an entry without an effect, which may begin or end a wait
  pub tables_nothing : effect e ≡ Nothing → IsBeside old new → AreTablesOf rows (e ∷ h) new
  tables_nothing does same = record {
    in_tree = subst (IsTreeOf (e ∷ h)) (sym same.tree) (tree_plain rows e h allowed old.tree Nothing are.in_tree does refl);
    marked = λ t. ap (list_any (path_eq t)) same.marks ∙ marks_same rows e h allowed old.marks are.marked (λ u. ap (is_abort u) does) t;
    estate = subst (λ (s : States). IsEstateOf (e ∷ h) s new.estate) (sym same.tree)
        (estate_roomy (e ∷ h) old.tree old.estate new.estate (estate_nothing rows e h allowed old.tree old.estate are.estate does) same.estate);
    waiting = waiting;
    current = λ k. same_current Nothing does same.estate.rows k refl;
  }

  -- a begin
  pub tables_begun : (t : Name) → effect e ≡ Begins t → BeginsIn old new t → AreTablesOf rows (e ∷ h) new
  tables_begun t does has = record {
    in_tree = tree_begins rows e h allowed old.tree new.tree t are.in_tree does has.begun has.status;
    marked = subst (AreMarksOf (e ∷ h)) (sym has.marks) (marks_same rows e h allowed old.marks are.marked (λ u. ap (is_abort u) does));
    estate = subst (IsEstateOf (e ∷ h) new.tree) (sym has.estate) (estate_begun rows e h allowed old.tree new.tree old.estate t are.estate does has.begun);
    waiting = waiting;
    current = λ k. same_current (Begins t) does (ap (λ (a : LocksAndVersions). rows_of a) has.estate) k refl;
  }

  -- an access that was answered
  pub tables_accessed : (t : Name) (a : Asked) (r : Reply) → effect e ≡ Accesses t a r → AccessesIn old new t a r → AreTablesOf rows (e ∷ h) new
  tables_accessed t a r does has = record {
    in_tree = subst (IsTreeOf (e ∷ h)) (sym has.tree) (tree_plain rows e h allowed old.tree (Accesses t a r) are.in_tree does refl);
    marked = subst (AreMarksOf (e ∷ h)) (sym has.marks) (marks_same rows e h allowed old.marks are.marked (λ u. ap (is_abort u) does));
    estate = subst (λ (s : States). IsEstateOf (e ∷ h) s new.estate) (sym has.tree) (estate_accessed rows e h allowed old new t a r are.estate does has);
    waiting = waiting;
    current = λ k. same_current (Accesses t a r) does has.rows k refl;
  }

  -- a commit, with the table that is due
  pub tables_committed : (t : Name) (child : ℕ) (above : Option ℕ) → effect e ≡ Commits t → IsNumberOf old.tree t child → IsParentNumber old.tree t above
      → CommitsIn old new t child above → ((k : List ℕ) → value_in (rows_in new) k ≡ stored (value_in rows) (e ∷ h) k) → AreTablesOf rows (e ∷ h) new
  tables_committed t child above does number above_is has current = record {
    in_tree = tree_commits rows e h allowed old.tree new.tree t are.in_tree does has.same_names has.status;
    marked = subst (AreMarksOf (e ∷ h)) (sym has.marks) (marks_same rows e h allowed old.marks are.marked (λ u. ap (is_abort u) does));
    estate = estate_gone_up rows e h allowed old.tree new.tree old.estate new.estate t child above are.estate does has.same_names number above_is has.up;
    waiting = waiting;
    current = current;
  }

  -- an abort
  pub tables_aborted : (t : Name) → effect e ≡ Aborts t → AbortsIn old new t → AreTablesOf rows (e ∷ h) new
  tables_aborted t does has = record {
    in_tree = tree_aborts rows e h allowed old.tree new.tree t are.in_tree does has.same_names has.status;
    marked = marks_aborts rows e h allowed old.marks new.marks t are.marked does has.marks;
    estate = estate_dropped rows e h allowed old new t are.estate does has;
    waiting = waiting;
    current = λ k. same_current (Aborts t) does has.rows k refl;
  }

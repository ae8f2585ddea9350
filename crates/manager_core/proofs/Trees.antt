-- The tree and the marks give what the definitions read off the history.
use Rattle.std.proofs.Common.{◌≡◌, ◌<◌, not, ◌&&◌, [], ◌∷◌, length, is_some, refl, sym, ap, ◌∙◌, arith}
use Rattle.std.proofs.lemmas.List.{length-reverse}
use Rattle.std.proofs.lemmas.Map.Entries.{length-keys_of}
use Rattle.std.specs.List.{list_any}
use Rattle.txn_names.specs.Path.{path_eq, parent, top_of}
use Rattle.txn_tree.specs.States.{States, names, status_in}
use Rattle.txn_tree.proofs.Exports.{absent_as, live_as, committed_as, is_aborted_status, aborted_as, aborted_by, absent_by}
use Rattle.txn_names.proofs.Exports.{top_as}
use Rattle.txn_tree.specs.Asked.{is_absent_in, is_active_in, is_live_in, has_committed_in, has_aborted_in, top_aborted_in, is_live_child_in}
use Rattle.txn_tree.specs.Causes as tree
use Rattle.orphans.specs.Marked.{Marked, is_marked}
use Rattle.serial_spec.specs.History.{Name, History, status, is_absent, is_committed, is_live, is_live_status, top_aborted, begun, has_begun, has_aborted, has_committed, is_active}
use Rattle.serial_spec.specs.Rows.{Rows}
use Rattle.serial_spec.specs.Legal.{AreAllowed}
use Rattle.serial_spec.specs.Allowed.{has_live_child, cause_at_begin, cause_at_end}
use Rattle.txn_history.proofs.Exports.{ended_begun, any_reversed}
use Rattle.manager_core.specs.Kept.{IsTreeOf, AreMarksOf, AreTablesOf}
use Rattle.manager_core.specs.Tables.{Tabled, cause_in}

-- ---- topmost fronts

-- the marks find the topmost aborted one
pub top_by_marks : (h : History) (marks : Marked) → AreMarksOf h marks → (t : Name) → top_of (is_marked marks) t ≡ top_aborted h t
top_by_marks h marks are t = top_as (is_marked marks) (has_aborted h) (λ l ls. are (l ∷ ls)) t

module _ (rows : Rows) (h : History) (states : States) (allowed : AreAllowed rows h) (is : IsTreeOf h states) where
  -- so do the states
  pub top_by_states : (t : Name) → top_aborted_in states t ≡ top_aborted h t
  top_by_states t = top_as (has_aborted_in states) (has_aborted h)
      (λ l ls.
      aborted_as (status_in states (l ∷ ls)) ∙ ap is_aborted_status (is.status (l ∷ ls))
      ∙ aborted_by (has_begun h (l ∷ ls)) (has_aborted h (l ∷ ls)) (has_committed h (l ∷ ls)) (ended_begun rows h allowed (l ∷ ls)).1)
      t

  absent_in : (t : Name) → is_absent_in states t ≡ is_absent (status h t)
  absent_in t = absent_as (status_in states t) ∙ ap is_absent (is.status t)

  committed_in : (t : Name) → has_committed_in states t ≡ is_committed (status h t)
  committed_in t = committed_as (status_in states t) ∙ ap is_committed (is.status t)

  pub live_in : (t : Name) → is_live_in states t ≡ is_live h t
  live_in t = live_as (status_in states t) ∙ ap is_live_status (is.status t)

  pub active_in : (t : Name) → is_active_in states t ≡ is_active h t
  active_in t i = live_in t i && not (is_some (top_by_states t i))

  -- as many have begun as the tree holds
  counted : length states ≡ length (begun h)
  counted = sym (length-keys_of states) ∙ ap length is.begun ∙ length-reverse (begun h)

  -- ---- causes

  -- a begin is refused by the tree as by the definitions
  pub same_at_begin : (t : Name) → tree.cause_at_begin states t ≡ cause_at_begin h t
  same_at_begin t =
      rw (absent_in t, absent_in (parent t), top_by_states (parent t), committed_in (parent t), counted) refl

  unknown_as : (t : Name) → 0 < length t → is_absent_in states t ≡ not (has_begun h t)
  unknown_as [] some = absurd (omega (arith, some))
  unknown_as (l ∷ ls) some = absent_in (l ∷ ls) ∙ absent_by (has_begun h (l ∷ ls)) (has_aborted h (l ∷ ls)) (has_committed h (l ∷ ls))

  -- so is an abort
  pub same_at_abort : (t : Name) → 0 < length t → tree.cause_at_abort states t ≡ cause_at_end h t
  same_at_abort t some = rw (unknown_as t some, top_by_states t, committed_in t) refl

  pub same_children : (t : Name) → list_any (is_live_child_in states t) (names states) ≡ has_live_child h t
  same_children t =
      let each : is_live_child_in states t ≡ (λ u. path_eq (parent u) t && is_live h u) = λ i u. path_eq (parent u) t && live_in u i in
      ap (λ p. list_any p (names states)) each ∙ ap (list_any (λ u. path_eq (parent u) t && is_live h u)) is.begun
      ∙ any_reversed (λ u. path_eq (parent u) t && is_live h u) (begun h)

-- ---- with the marks

module _ (rows : Rows) (h : History) (tables : Tabled) (allowed : AreAllowed rows h) (are : AreTablesOf rows h tables) (t : Name) where
  pub same_at_end : 0 < length t → cause_in tables t ≡ cause_at_end h t
  same_at_end some =
      rw (unknown_as rows h tables.tree allowed are.in_tree t some, top_by_marks h tables.marks are.marked t, committed_in rows h tables.tree allowed are.in_tree t) refl

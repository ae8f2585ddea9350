-- What an entry does to the tree, to the marks and to the table.
use Rattle.std.proofs.Common.{◌≡◌, ℕ, Bool, true, false, cond, ◌||◌, List, [], ◌∷◌, ◌++◌, reverse, refl, sym, ap, ◌∙◌}
use Rattle.std.proofs.lemmas.Bool.{false≢true}
use Rattle.std.proofs.lemmas.List.{reverse-append}
use Rattle.txn_names.specs.Path.{path_eq}
use Rattle.txn_tree.specs.States.{States, names, status_in}
use Rattle.txn_tree.proofs.Exports.{status_set}
use Rattle.txn_tree.specs.declared.status.Status.TheVariants as state
use Rattle.orphans.specs.Marked.{Marked, is_marked}
use Rattle.serial_spec.specs.declared.entry.Entry.{Entry}
use Rattle.serial_spec.specs.History.{Name, History, Status, Effect, Begins, Accesses, Commits, Aborts, Nothing, effect, begun, begun_by, has_aborted, is_abort, status}
use Rattle.serial_spec.specs.Serial.{stored}
use Rattle.serial_spec.specs.Rows.{Rows, value_in}
use Rattle.serial_spec.specs.Legal.{AreAllowed}
use Rattle.txn_history.specs.Steps.{sets_status}
use Rattle.txn_history.specs.Laws.{table_next}
use Rattle.txn_history.proofs.Exports.{status_after, table_after}
use Rattle.manager_core.specs.Kept.{IsTreeOf, AreMarksOf}
use Rattle.txn_tree.specs.Statuses.{status_of}

-- begins nobody and ends nobody
abbrev pub is_plain : Effect → Bool
is_plain (Accesses t a r) = true
is_plain Nothing = true
is_plain x = false

plain_begun : (x : Effect) (ts : List Name) → is_plain x ≡ true → begun_by x ts ≡ ts
plain_begun (Begins t) ts p = absurd (false≢true p)
plain_begun (Accesses t a r) ts p = refl
plain_begun (Commits t) ts p = absurd (false≢true p)
plain_begun (Aborts t) ts p = absurd (false≢true p)
plain_begun Nothing ts p = refl

plain_status : (x : Effect) (u : Name) (s : Status) → is_plain x ≡ true → s ≡ sets_status x u s
plain_status (Begins t) u s p = absurd (false≢true p)
plain_status (Accesses t a r) u s p = refl
plain_status (Commits t) u s p = absurd (false≢true p)
plain_status (Aborts t) u s p = absurd (false≢true p)
plain_status Nothing u s p = refl

module _ (rows : Rows) (e : Entry) (h : History) (allowed : AreAllowed rows (e ∷ h)) where
  -- the tree afterwards, by the effect
  tree_next : (old new : States) (x : Effect) → IsTreeOf h old → effect e ≡ x
      → names new ≡ reverse (begun_by x (begun h))
      → ((u : Name) → status_of (status_in new u) ≡ sets_status x u (status_of (status_in old u)))
      → IsTreeOf (e ∷ h) new
  tree_next old new x is does begins sets = record {
    begun = begins ∙ ap (λ y. reverse (begun_by y (begun h))) (sym does);
    status = λ u.
        sets u ∙ ap (sets_status x u) (is.status u) ∙ ap (λ y. sets_status y u (status h u)) (sym does)
        ∙ sym (status_after rows e h allowed u);
  }

  pub tree_plain : (states : States) (x : Effect) → IsTreeOf h states → effect e ≡ x → is_plain x ≡ true → IsTreeOf (e ∷ h) states
  tree_plain states x is does p = tree_next states states x is does
      (is.begun ∙ ap reverse (sym (plain_begun x (begun h) p)))
      (λ u. plain_status x u (status_of (status_in states u)) p)

  pub tree_begins : (old new : States) (t : Name) → IsTreeOf h old → effect e ≡ Begins t → names new ≡ names old ++ t ∷ []
      → ((u : Name) → status_in new u ≡ cond (path_eq t u) state.Live (status_in old u))
      → IsTreeOf (e ∷ h) new
  tree_begins old new t is does more sets = tree_next old new (Begins t) is does
      (more ∙ ap (λ ts. ts ++ t ∷ []) is.begun ∙ sym (reverse-append (t ∷ []) (begun h)))
      (λ u. ap status_of (sets u) ∙ status_set (path_eq t u) state.Live (status_in old u))

  pub tree_commits : (old new : States) (t : Name) → IsTreeOf h old → effect e ≡ Commits t → names new ≡ names old
      → ((u : Name) → status_in new u ≡ cond (path_eq t u) state.Committed (status_in old u))
      → IsTreeOf (e ∷ h) new
  tree_commits old new t is does same sets = tree_next old new (Commits t) is does
      (same ∙ is.begun)
      (λ u. ap status_of (sets u) ∙ status_set (path_eq t u) state.Committed (status_in old u))

  pub tree_aborts : (old new : States) (t : Name) → IsTreeOf h old → effect e ≡ Aborts t → names new ≡ names old
      → ((u : Name) → status_in new u ≡ cond (path_eq t u) state.Aborted (status_in old u))
      → IsTreeOf (e ∷ h) new
  tree_aborts old new t is does same sets = tree_next old new (Aborts t) is does
      (same ∙ is.begun)
      (λ u. ap status_of (sets u) ∙ status_set (path_eq t u) state.Aborted (status_in old u))

  -- the marks afterwards
  pub marks_same : (marks : Marked) → AreMarksOf h marks → ((u : Name) → is_abort u (effect e) ≡ false) → AreMarksOf (e ∷ h) marks
  marks_same marks are none u = are u ∙ sym (ap (λ b. b || has_aborted h u) (none u))

  pub marks_aborts : (old new : Marked) (t : Name) → AreMarksOf h old → effect e ≡ Aborts t
      → ((u : Name) → is_marked new u ≡ (path_eq t u || is_marked old u)) → AreMarksOf (e ∷ h) new
  marks_aborts old new t are does marks u =
      marks u ∙ ap (λ b. path_eq t u || b) (are u) ∙ ap (λ x. is_abort u x || has_aborted h u) (sym does)

  -- the table afterwards
  pub table_same : (k : List ℕ) → table_next (value_in rows) h (effect e) k ≡ stored (value_in rows) h k
      → stored (value_in rows) (e ∷ h) k ≡ stored (value_in rows) h k
  table_same k same = table_after rows e h allowed k ∙ same

-- A history whose sessions have other numbers: what is read off it is the same.
use Rattle.std.proofs.Common.{◌≡◌, ℕ, suc, ◌⊎◌, inl, inr, List, [], ◌∷◌, false, Bool, cond, eqb, not, Some, None, refl, ap, ap₂, ◌∙◌}
use Rattle.std.specs.Prelude.{◌&&◌, ◌||◌, Option, nat_lt, length, is_some}
use Rattle.std.specs.List.{list_any, AllByRecursion}
use Rattle.std.proofs.lemmas.Bool.{eq-eqb, eqb-true}
use Rattle.txn_names.specs.Path.{path_eq, parent}
use Rattle.txn_names.proofs.Exports.{on_test}
use Rattle.serial_spec.specs.declared.limits.TheConstants.{MOST_TRANSACTIONS}
use Rattle.serial_spec.specs.declared.entry.By.{By}
use Rattle.serial_spec.specs.declared.entry.By.TheVariants as by
use Rattle.serial_spec.specs.declared.entry.Answer.{Answer}
use Rattle.serial_spec.specs.declared.entry.Entry.{Entry}
use Rattle.serial_spec.specs.declared.event.Event.{Event}
use Rattle.serial_spec.specs.History.{History, Name, Effect, Begins, Accesses, Commits, Aborts, Nothing, Absent, Live, Committed, Aborted, begun, begun_by, effect, has_aborted, has_begun, has_committed, is_abort, is_absent, is_active, is_begin, is_commit, is_live, is_live_status, is_orphan, or_else, status, top_of}
use Rattle.serial_spec.specs.Items.{items, with_item}
use Rattle.serial_spec.specs.Waits.{is_waits}
use Rattle.serial_spec.specs.Allowed.{has_live_child}
use Rattle.serial_spec.specs.Legal.{first_live, is_top_level}
use Rattle.serial_spec.specs.Interleaving.{answered, is_answer_in}
use Rattle.txn_history.proofs.Exports.{clash}
use Rattle.report_check.specs.Passing.{is_close, may_do, waiting, waiting_by}

-- the entry of the session with the other number
abbrev pub moved : (ℕ → ℕ) → By → By
moved at (by.Line s n) = by.Line (at s) n
moved at by.Victim = by.Victim
moved at by.Close = by.Close

abbrev pub moved_entry : (ℕ → ℕ) → Entry → Entry
moved_entry at e = record { by = moved at e.by; event = e.event; answer = e.answer }

abbrev pub renamed : (ℕ → ℕ) → History → History
renamed at [] = []
renamed at (e ∷ h) = moved_entry at e ∷ renamed at h

-- this holds of the session, if the entry is a line's
abbrev pub Holds : (ℕ → Type 0) → By → Type 0
Holds P (by.Line u n) = P u
Holds P by.Victim = Unit {0}
Holds P by.Close = Unit {0}

-- ---- what each entry did is the same

module _ (at : ℕ → ℕ) where
  any_same : (f : Effect → Bool) (h : History) → list_any (λ e. f (effect e)) (renamed at h) ≡ list_any (λ e. f (effect e)) h
  any_same f [] = refl
  any_same f (e ∷ h) = ap (λ b. f (effect e) || b) (any_same f h)

  pub begun_same : (h : History) → begun (renamed at h) ≡ begun h
  begun_same [] = refl
  begun_same (e ∷ h) = ap (begun_by (effect e)) (begun_same h)

  begins_same : (h : History) → has_begun (renamed at h) ≡ has_begun h
  begins_same h = λ i t. any_same (is_begin t) h i

  commits_same : (h : History) → has_committed (renamed at h) ≡ has_committed h
  commits_same h = λ i t. any_same (is_commit t) h i

  aborts_same : (h : History) → has_aborted (renamed at h) ≡ has_aborted h
  aborts_same h = λ i t. any_same (is_abort t) h i

  status_same : (h : History) (t : Name) → status (renamed at h) t ≡ status h t
  status_same h [] = refl
  status_same h (l ∷ ls) = λ i. cond (begins_same h i (l ∷ ls)) (cond (aborts_same h i (l ∷ ls)) Aborted (cond (commits_same h i (l ∷ ls)) Committed Live)) Absent

  live_same : (h : History) (t : Name) → is_live (renamed at h) t ≡ is_live h t
  live_same h t = ap is_live_status (status_same h t)

  orphan_same : (h : History) (t : Name) → is_orphan (renamed at h) t ≡ is_orphan h t
  orphan_same h t = ap (λ (f : Name → Bool). is_some (top_of f t)) (aborts_same h)

  active_same : (h : History) (t : Name) → is_active (renamed at h) t ≡ is_active h t
  active_same h t = ap₂ (λ a b. a && not b) (live_same h t) (orphan_same h t)

  child_same : (h : History) (t : Name) → has_live_child (renamed at h) t ≡ has_live_child h t
  child_same h t = λ i. list_any (λ u. path_eq (parent u) t && live_same h u i) (begun_same h i)

  pub may_do_same : (h : History) (x : Effect) → may_do (renamed at h) x ≡ may_do h x
  may_do_same h (Begins t) = λ i. (is_absent (status_same h t i) && active_same h (parent t) i) && nat_lt (length (begun_same h i)) MOST_TRANSACTIONS
  may_do_same h (Accesses t a r) = active_same h t
  may_do_same h (Commits t) = ap₂ (λ a b. a && not b) (active_same h t) (child_same h t)
  may_do_same h (Aborts t) = active_same h t
  may_do_same h Nothing = refl

  first_live_same : (h : History) (ts : List Name) → first_live (renamed at h) ts ≡ first_live h ts
  first_live_same h [] = refl
  first_live_same h (t ∷ ts) = ap₂ (λ (o : Option Name) b. or_else o (cond (is_top_level t && b) (Some t) None)) (first_live_same h ts) (live_same h t)

  pub first_same : (h : History) → first_live (renamed at h) (begun (renamed at h)) ≡ first_live h (begun h)
  first_same h = ap (first_live (renamed at h)) (begun_same h) ∙ first_live_same h (begun h)

  pub items_same : (h : History) → items (renamed at h) ≡ items h
  items_same [] = refl
  items_same (e ∷ h) = λ i t. with_item t (effect e) (items_same h i)

  close_same : (b : By) → is_close (moved at b) ≡ is_close b
  close_same (by.Line s n) = refl
  close_same by.Victim = refl
  close_same by.Close = refl

  pub closes_same : (h : History) → list_any (λ e. is_close e.by) (renamed at h) ≡ list_any (λ e. is_close e.by) h
  closes_same [] = refl
  closes_same (e ∷ h) = ap₂ (λ a b. a || b) (close_same e.by) (closes_same h)

  -- ---- what is read off a session's entries is the same, where no other session has its number

  -- no other session with entries has the number of this one
  abbrev pub AreAlone : ℕ → History → Type 0
  AreAlone s h = AllByRecursion (λ e. Holds (λ u. at s ≡ at u → s ≡ u) e.by) h

  same_number : (s u : ℕ) → (at s ≡ at u → s ≡ u) → eqb (at s) (at u) ≡ eqb s u
  same_number s u alone = on_test (eqb s u) (λ b. eqb (at s) (at u) ≡ b)
      (λ e. eq-eqb (at s) (at u) (ap at (eqb-true s u e)))
      (λ e. on_test (eqb (at s) (at u)) (λ b. b ≡ false) (λ f. clash (eq-eqb s u (alone (eqb-true (at s) (at u) f))) e) (λ _. refl))

  answers_same : (s : ℕ) (b : By) (a : Answer) → Holds (λ u. at s ≡ at u → s ≡ u) b → is_answer_in (at s) (moved at b) a ≡ is_answer_in s b a
  answers_same s (by.Line u n) a alone = ap (λ b. b && not (is_waits a)) (same_number s u alone)
  answers_same s by.Victim a alone = refl
  answers_same s by.Close a alone = refl

  pub answered_same : (s : ℕ) (h : History) → AreAlone s h → answered (renamed at h) (at s) ≡ answered h s
  answered_same s [] alone = refl
  answered_same s (e ∷ h) alone = ap₂ (λ b (n : ℕ). cond b (suc n) n) (answers_same s e.by e.answer alone.0) (answered_same s h alone.1)

  waits_same : (s : ℕ) (b : By) (e : Event) (a : Answer) (o : Option Event) → Holds (λ u. at s ≡ at u → s ≡ u) b → waiting_by (moved at b) e a (at s) o ≡ waiting_by b e a s o
  waits_same s (by.Line u n) e a o alone = ap (λ b. cond b (cond (is_waits a) (Some e) None) o) (same_number s u alone)
  waits_same s by.Victim e a o alone = refl
  waits_same s by.Close e a o alone = refl

  pub waiting_same : (s : ℕ) (h : History) → AreAlone s h → waiting (renamed at h) (at s) ≡ waiting h s
  waiting_same s [] alone = refl
  waiting_same s (e ∷ h) alone =
      ap (waiting_by (moved at e.by) e.event e.answer (at s)) (waiting_same s h alone.1) ∙ waits_same s e.by e.event e.answer (waiting h s) alone.0

  -- ---- and a number that no session with entries has waits for nothing

  abbrev pub IsNumbered : (ℕ → Type 0) → ℕ → Type 0
  IsNumbered P k = (s : ℕ) × (k ≡ at s) × P s

  one_more : (P : ℕ → Type 0) (k : ℕ) (b : By) (e : Event) (a : Answer) (o : Option Event) → Holds P b → (o ≡ None) ⊎ IsNumbered P k
      → (waiting_by (moved at b) e a k o ≡ None) ⊎ IsNumbered P k
  one_more P k (by.Line u n) e a o p before =
      on_test (eqb k (at u)) (λ b. (cond b (cond (is_waits a) (Some e) None) o ≡ None) ⊎ IsNumbered P k) (λ is. inr (u, eqb-true k (at u) is, p)) (λ _. before)
  one_more P k by.Victim e a o p before = before
  one_more P k by.Close e a o p before = before

  pub waits_or_numbered : (P : ℕ → Type 0) (k : ℕ) (h : History) → AllByRecursion (λ e. Holds P e.by) h → (waiting (renamed at h) k ≡ None) ⊎ IsNumbered P k
  waits_or_numbered P k [] all = inl refl
  waits_or_numbered P k (e ∷ h) all = one_more P k e.by e.event e.answer (waiting (renamed at h) k) all.0 (waits_or_numbered P k h all.1)

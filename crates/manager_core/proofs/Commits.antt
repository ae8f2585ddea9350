-- Commits: what is handed to the store, the tables afterwards, and the store.
use Rattle.std.proofs.Common.{◌≡◌, ℕ, zero, suc, nat_lt, ℤ, ◌+◌, ◌<◌, Bool, true, false, ◌&&◌, cond, List, [], ◌∷◌, length, Option, Some, None, refl, sym, ap, subst, ◌∙◌, arith}
use Rattle.std.proofs.lemmas.Bool.{false≢true, lt-ltb}
use Rattle.std.proofs.lemmas.List.Sums.{sum_by-cons}
use Rattle.txn_names.proofs.Exports.{label_eq_self}
use Rattle.txn_names.specs.declared.change.Change.{Change}
use Rattle.txn_tree.specs.States.{States, names}
use Rattle.txn_tree.specs.Asked.{IsNumberOf, IsRootless, is_live_child_in, live_children_of}
use Rattle.txn_tree.specs.Numbered.{is_active_at, is_active_named, live_children_at, live_children_named}
use Rattle.txn_tree.proofs.Exports.{any_counted}
use Rattle.inherit.specs.LocksAndVersions.{IsParent}
use Rattle.serial_spec.specs.declared.entry.By.{By}
use Rattle.serial_spec.specs.declared.operation.Reply.TheVariants.{Ok}
use Rattle.serial_spec.specs.declared.entry.Refusal.{Refusal}
use Rattle.serial_spec.specs.declared.entry.Refusal.TheVariants.{Store}
use Rattle.manager_core.specs.declared.outcome.Outcome.TheVariants as made
use Rattle.manager_core.specs.Outcomes.{is_of_store}
use Rattle.serial_spec.specs.declared.event.Event.TheVariants.{Commit}
use Rattle.serial_spec.specs.declared.entry.Answer.TheVariants.{Done, Refused}
use Rattle.serial_spec.specs.declared.entry.Entry.{Entry}
use Rattle.wait_cycles.specs.Waiting.{Waiting as Waiting_, wait_of as kept_wait}
use Rattle.serial_spec.specs.History.{Name, History, Commits, Nothing, or_else}
use Rattle.serial_spec.specs.Items.{items}
use Rattle.serial_spec.specs.Serial.{Map, stored}
use Rattle.serial_spec.specs.declared.mode.Mode.{Mode}
use Rattle.serial_spec.specs.declared.mode.Mode.TheVariants as mode
use Rattle.serial_spec.specs.declared.target.Target.TheVariants.{Key}
use Rattle.serial_spec.specs.Locks.{foot, is_exclusive}
use Rattle.serial_spec.specs.Values.{seen}
use Rattle.serial_spec.specs.Rows.{Rows, value_in}
use Rattle.serial_spec.specs.Changes.{change_at, overlay, IsChanges}
use Rattle.serial_spec.specs.Allowed.{cause_at_commit, asks_store, has_live_child, waits_elsewhere, writes}
use Rattle.serial_spec.specs.Legal.{AreAllowed}
use Rattle.txn_history.proofs.Exports.{alone_at_commit, changes_made, childless_at_commit, writes_somewhere}
use Rattle.durable_top.specs.declared.store.TopStore.{Ghosts}
use Rattle.manager_core.specs.declared.manager.AtOpening.{AtOpening}
use Rattle.durable_top.specs.Numbered.{entries_in, values_of}
use Rattle.durable_top.specs.Store.{counted, plain}
use Rattle.durable_top.proofs.Exports.{values_in_rows}
use Rattle.manager_core.specs.State.{entry}
use Rattle.manager_core.specs.Lines.{IsFree}
use Rattle.manager_core.specs.Kept.{AreWaitsOf, IsKept, IsTreeOf}
use Rattle.manager_core.specs.Tables.{Tabled, CommitsIn, IsParentNumber, rows_in}
use Rattle.manager_core.specs.Sound.{is_store_refusal, IsBacked, IsTrusted}
use Rattle.manager_core.specs.Asked.{IsLater, Takes, Refuses}
use Rattle.manager_core.proofs.Answers.{active_at_commit, allowed_next, commit_allowed}
use Rattle.manager_core.proofs.Facts.{backed_next}
use Rattle.manager_core.proofs.StoredNumbers.{not_top, numbered_commit}
use Rattle.manager_core.proofs.Kept.{backed_over, beside_same}
use Rattle.manager_core.proofs.Lasting.{none_waiting, unless_free, wait_committed, wait_lasts}
use Rattle.manager_core.proofs.WaitTables.{waits_stay}
use Rattle.manager_core.proofs.Steps.{table_same}
use Rattle.manager_core.proofs.Tabled.{tables_committed, tables_nothing}
use Rattle.manager_core.proofs.Locks.{name_at}
use Rattle.manager_core.proofs.Trees.{active_in, same_children}

-- ---- what is handed to the store

-- where something is changed it was written
is_some_change : (b : Bool) (v w : Option ℤ) (x : Option (Option ℤ)) → or_else x (Some v) ≡ cond b (Some w) None → b ≡ true
is_some_change true v w x e = refl
is_some_change false v w None e = cc
is_some_change false v w (Some y) e = cc

-- whether t has touched k to write
abbrev wrote : History → Name → List ℕ → Bool
wrote h t k = is_exclusive (foot h t (Key k))

exclusive_is : (m : Mode) → is_exclusive m ≡ true → m ≡ mode.Write
exclusive_is mode.None e = absurd (false≢true e)
exclusive_is mode.Read e = absurd (false≢true e)
exclusive_is mode.Write e = refl

-- what is changed was written
changed : (opening : Map) (h : History) (t : Name) (c : Change) (cs : List Change) → IsChanges opening h t (c ∷ cs) → writes (items h t) ≡ true
changed opening h t c cs are =
    let here : or_else (change_at cs c.key) (Some c.value) ≡ cond (wrote h t c.key) (Some (seen opening h t c.key)) None =
    ap (λ b. or_else (change_at cs c.key) (cond b (Some c.value) None)) (sym (label_eq_self c.key)) ∙ are.each c.key in
    (writes_somewhere (items h t)).1 (c.key, exclusive_is _ (is_some_change (wrote h t c.key) c.value (seen opening h t c.key) (change_at cs c.key) here))

-- where there are changes the store is asked
pub asked : (opening : Map) (h : History) (t : Name) (changes : List Change) → length t ≡ 1 → IsChanges opening h t changes → (changes ≡ [] → ⊥) → asks_store h (Commit t) ≡ true
asked opening h [] changes one are some = absurd (omega arith)
asked opening h (l ∷ []) [] one are some = absurd (some refl)
asked opening h (l ∷ []) (c ∷ cs) one are some = changed opening h (l ∷ []) c cs are
asked opening h (l ∷ m ∷ ls) changes one are some = absurd (omega arith)

-- and where it is not there are none
pub unasked : (opening : Map) (h : History) (t : Name) (changes : List Change) → length t ≡ 1 → IsChanges opening h t changes → asks_store h (Commit t) ≡ false → changes ≡ []
unasked opening h t [] one are n = refl
unasked opening h t (c ∷ cs) one are n =
    absurd (false≢true (sym n ∙ asked opening h t (c ∷ cs) one are (λ e. cc)))

-- and where it is there are some
not_none : (b : Bool) (v : Option ℤ) → b ≡ true → ◌≡◌ {A = Option (Option ℤ)} None (cond b (Some v) None) → ⊥
not_none true v e n = cc
not_none false v e n = false≢true e

pub some_due : (opening : Map) (h : History) (t : Name) (changes : List Change) → length t ≡ 1 → IsChanges opening h t changes → asks_store h (Commit t) ≡ true → changes ≡ [] → ⊥
some_due opening h [] changes one are asks none = absurd (omega (arith, one))
some_due opening h (l ∷ []) changes one are asks none =
    let key = (writes_somewhere (items h (l ∷ []))).0 asks in
    not_none (wrote h (l ∷ []) key.0) (seen opening h (l ∷ []) key.0) (ap is_exclusive key.1)
    (sym (ap (λ (cs : List Change). change_at cs key.0) none) ∙ are.each key.0)
some_due opening h (l ∷ m ∷ ls) changes one are asks none = absurd (omega (arith, one))

-- only done and refused by the store are of the store
pub of_store : (r : Refusal) → is_of_store (made.Refused r) ≡ is_store_refusal (Refused r)
of_store Store = refl
of_store r = refl

pub not_first : (a b : Bool) → a ≡ false → a && b ≡ true → ⊥
not_first true b e both = false≢true (sym e)
not_first false b e both = false≢true both

pub not_second : (a b : Bool) → b ≡ false → a && b ≡ true → ⊥
not_second true b e both = false≢true (sym e ∙ both)
not_second false b e both = false≢true both

-- nor is it asked at the commit of a subtransaction
pub unasked_below : (h : History) (t : Name) → 1 < length t → asks_store h (Commit t) ≡ false
unasked_below h [] below = absurd (omega (arith, below))
unasked_below h (l ∷ []) below = absurd (omega (arith, below))
unasked_below h (l ∷ m ∷ ls) below = refl

-- ---- the tree

none_counted : (n : ℕ) → nat_lt 0 n ≡ false → n ≡ 0
none_counted zero e = refl
none_counted (suc n) e = absurd (false≢true (sym e ∙ lt-ltb 0 (suc n) (omega arith)))

-- whose commit no cause refuses acts, and has no live child
pub commits_at : (rows : Rows) (h : History) (states : States) (by : By) (t : Name) (n : ℕ) → AreAllowed rows h → IsTreeOf h states → IsNumberOf states t n → None ≡ cause_at_commit h by t
    → (is_active_at states n ≡ true) × (live_children_at states n ≡ 0)
commits_at rows h states by t n allowed is number none =
    let childless : has_live_child h t ≡ false = childless_at_commit h by t (sym none) in
    let named = name_at states t n number in (
      ap (is_active_named states) named ∙ active_in rows h states allowed is t ∙ active_at_commit h by t none,
      ap (live_children_named states) named
          ∙ none_counted (live_children_of states t) (sym (any_counted (is_live_child_in states t) (names states)) ∙ same_children rows h states allowed is t ∙ childless),
    )

-- ---- the tables

-- no number is the root's, so a top-level transaction's parent has none
pub root_is_nobody : (states : States) (t : Name) → length t ≡ 1 → IsRootless states → IsParentNumber states t None
root_is_nobody states [] top rootless n = absurd (omega (arith, top))
root_is_nobody states (l ∷ []) top rootless n = sym (rootless n)
root_is_nobody states (l ∷ m ∷ ls) top rootless n = absurd (omega (arith, top))

-- what a subtransaction had stays out of the table
pub goes_below : (old new : Tabled) (t : Name) (child : ℕ) (above : Option ℕ) → IsParent old.tree t above → 1 < length t → CommitsIn old new t child above → rows_in new ≡ rows_in old
goes_below old new t child None top below commits = absurd (omega (arith, top, below))
goes_below old new t child (Some p) of below commits = commits.up.same (λ q. refl)

stored_below : (rows : Rows) (h : History) (by : By) (t : Name) → 1 < length t → AreAllowed rows (entry by (Commit t) (Done Ok) ∷ h)
    → (k : List ℕ) → stored (value_in rows) (entry by (Commit t) (Done Ok) ∷ h) k ≡ stored (value_in rows) h k
stored_below rows h by [] below allowed k = absurd (omega (arith, below))
stored_below rows h by (l ∷ []) below allowed k = absurd (omega (arith, below))
stored_below rows h by (l ∷ m ∷ ls) below allowed k = table_same rows (entry by (Commit (l ∷ m ∷ ls)) (Done Ok)) h allowed k refl

stored_top : (rows : Rows) (h : History) (by : By) (t : Name) (changes : List Change) → length t ≡ 1 → AreAllowed rows (entry by (Commit t) (Done Ok) ∷ h)
    → IsChanges (value_in rows) h t changes → (k : List ℕ)
    → overlay changes (stored (value_in rows) h) k ≡ stored (value_in rows) (entry by (Commit t) (Done Ok) ∷ h) k
stored_top rows h by [] changes top allowed are k = absurd (omega (arith, top))
stored_top rows h by (l ∷ []) changes top allowed are k = sym (changes_made rows (entry by (Commit (l ∷ [])) (Done Ok)) h allowed l refl changes are k)
stored_top rows h by (l ∷ m ∷ ls) changes top allowed are k = absurd (omega (arith, top))

-- ---- the store afterwards

-- a store that is trusted now was trusted before
trusted_before : {S : Type 0} (g : Ghosts S) (before after : S) → IsLater g before after → IsTrusted g after → IsTrusted g before
trusted_before g before after later trusted = record {
  doubt = omega (arith, later.doubt, trusted.doubt);
  failures = omega (arith, later.failures, trusted.failures);
}

-- the store that took the changes has the changed table
pub backed_taken : {S : Type 0} (g : Ghosts S) (rows : Rows) (h : History) (old new : Rows) (opened : AtOpening) (before after : S) (by : By) (t : Name) (changes : List Change)
    → length t ≡ 1 → rows ≡ plain opened.given.items → IsChanges (value_in rows) h t changes
    → IsBacked g h old opened before → Takes g before after changes → IsLater g before after → value_in new ≡ overlay changes (value_in old)
    → IsBacked g (entry by (Commit t) (Done Ok) ∷ h) new opened after
backed_taken g rows h old new opened before after by t changes top given are backed takes later overlays = record {
  same = λ n. takes.table n ∙ ap (overlay changes) (backed.same (trusted_before g before after later n)) ∙ sym overlays;
  numbered = λ n.
      numbered_commit (entries_in opened.given.items) h by t changes (g.numbered before) (g.numbered after) top due (takes.numbered n)
      (backed.numbered (trusted_before g before after later n));
  refusals =
      takes.faults ∙ backed.refusals
      ∙ ap (λ n. counted (opened.faults + n)) (sym (rw (sum_by-cons (λ (e : Entry). cond (is_store_refusal e.answer) 1 0) (entry by (Commit t) (Done Ok)) h) (omega arith)));
}
  where
    due : IsChanges (values_of (entries_in opened.given.items)) h t changes
    due = subst (λ (m : Map). IsChanges m h t changes) (ap value_in given ∙ sym (values_in_rows opened.given.items)) are

-- and one that refused has the old one, with a fault more
pub backed_refused : {S : Type 0} (g : Ghosts S) (h : History) (table : Rows) (opened : AtOpening) (before after : S) (by : By) (t : Name)
    → IsBacked g h table opened before → Refuses g before after → IsLater g before after
    → IsBacked g (entry by (Commit t) (Refused Store) ∷ h) table opened after
backed_refused g h table opened before after by t backed refuses later = record {
  same = λ n. refuses.table n ∙ backed.same (trusted_before g before after later n);
  numbered = λ n. (g.numbered before, backed.numbered (trusted_before g before after later n), refuses.numbered n);
  refusals =
      refuses.faults ∙ ap (λ n. counted (n + 1)) backed.refusals
      ∙ rw (sum_by-cons (λ (e : Entry). cond (is_store_refusal e.answer) 1 0) (entry by (Commit t) (Refused Store)) h) (omega arith);
}

-- ---- what the type keeps afterwards

module _ {S : Type 0} (g : Ghosts S) (rows : Rows) (h : History) (old new : Tabled) (opened : AtOpening) (before : S) (kept : IsKept g rows h old opened before)
    (by : By) (t : Name) (free : IsFree h by (Commit t)) (none : None ≡ cause_at_commit h by t) where
  done_next : AreAllowed rows (entry by (Commit t) (Done Ok) ∷ h)
  done_next = allowed_next rows h by (Commit t) (Done Ok) kept.allowed free.line (commit_allowed rows h by t None none)

  -- whoever commits does not wait, and nobody else waits for the commit's line
  waits_committed : (child : ℕ) (above : Option ℕ) → CommitsIn old new t child above → AreWaitsOf (entry by (Commit t) (Done Ok) ∷ h) new.tree new.waits
  waits_committed child above commits =
      let x : Entry = entry by (Commit t) (Done Ok) in
      let alone : waits_elsewhere h by t ≡ false = alone_at_commit h by t (sym none) in
      waits_stay h (x ∷ h) old new kept.are.waiting commits.same_names (λ n. ap (λ (s : Waiting_). kept_wait s n) commits.waits)
      (wait_committed rows x h done_next (Commits t) refl refl (unless_free h by (Commit t) free) t refl (none_waiting h by (Commit t) free t alone))

  -- a subtransaction's commit
  pub kept_child : (child : ℕ) (above : Option ℕ) → 1 < length t → IsNumberOf old.tree t child → IsParentNumber old.tree t above → IsParent old.tree t above
      → CommitsIn old new t child above → IsKept g rows (entry by (Commit t) (Done Ok) ∷ h) new opened before
  kept_child child above below number above_is of commits =
      let same = goes_below old new t child above of below commits in record {
        given = kept.given;
        rising = kept.rising;
        allowed = done_next;
        are = tables_committed rows (entry by (Commit t) (Done Ok)) h done_next old new kept.are (waits_committed child above commits) t child above refl number above_is commits
            (λ k. ap (λ (rs : Rows). value_in rs k) same ∙ kept.are.current k ∙ sym (stored_below rows h by t below done_next k));
        backed = backed_over g same (backed_next g h (rows_in old) opened before by (Commit t) (Done Ok) kept.backed (not_top t below) refl);
      }

  -- a top-level one's that the store took
  pub kept_top : (child : ℕ) (after : S) (changes : List Change) → length t ≡ 1 → IsNumberOf old.tree t child → IsRootless old.tree
      → CommitsIn old new t child None → IsChanges (value_in rows) h t changes → value_in (rows_in new) ≡ overlay changes (value_in (rows_in old))
      → Takes g before after changes → IsLater g before after → IsKept g rows (entry by (Commit t) (Done Ok) ∷ h) new opened after
  kept_top child after changes top number rootless commits are overlays takes later =
      let was : value_in (rows_in old) ≡ stored (value_in rows) h = λ i k. kept.are.current k i in record {
        given = kept.given;
        rising = kept.rising;
        allowed = done_next;
        are = tables_committed rows (entry by (Commit t) (Done Ok)) h done_next old new kept.are (waits_committed child None commits) t child None refl number (root_is_nobody old.tree t top rootless) commits
            (λ k. ap (λ (m : Map). m k) overlays ∙ ap (λ (m : Map). overlay changes m k) was ∙ stored_top rows h by t changes top done_next are k);
        backed = backed_taken g rows h (rows_in old) (rows_in new) opened before after by t changes top kept.given are kept.backed takes later overlays;
      }

  -- and one that the store refused, with the tables as they were
  pub kept_unstored : (after : S) (changes : List Change) → length t ≡ 1 → IsChanges (value_in rows) h t changes → (changes ≡ [] → ⊥)
      → Refuses g before after → IsLater g before after → IsKept g rows (entry by (Commit t) (Refused Store) ∷ h) old opened after
  kept_unstored after changes top are some refuses later =
      let allowed = allowed_next rows h by (Commit t) (Refused Store) kept.allowed free.line (commit_allowed rows h by t None none, asked (value_in rows) h t changes top are some) in record {
        given = kept.given;
        rising = kept.rising;
        allowed = allowed;
        are = tables_nothing rows (entry by (Commit t) (Refused Store)) h allowed old old kept.are
            (waits_stay h (entry by (Commit t) (Refused Store) ∷ h) old old kept.are.waiting refl (λ n. refl)
            (wait_lasts rows (entry by (Commit t) (Refused Store)) h allowed Nothing refl refl (unless_free h by (Commit t) free) refl))
            refl (beside_same old old refl);
        backed = backed_refused g h (rows_in old) opened before after by t kept.backed refuses later;
      }

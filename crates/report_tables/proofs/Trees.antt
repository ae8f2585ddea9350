-- The tree gives what the definitions read off the history.
use Rattle.std.proofs.Common.{◌≡◌, ℕ, ◌<◌, Bool, true, false, not, cond, ◌&&◌, ◌||◌, List, [], ◌∷◌, ◌++◌, length, reverse, Some, is_some, option_map, refl, sym, ap, ap₂, subst, ◌∙◌, ⊎_elim, arith}
use Rattle.std.proofs.lemmas.Bool.{false≢true, true≢false, and_parts, or_right, or_cases, false_from_ne_true}
use Rattle.std.proofs.lemmas.List.{reverse-append, length-reverse}
use Rattle.std.proofs.lemmas.Map.Entries.{length-keys_of}
use Rattle.std.specs.List.{list_any}
use Rattle.txn_names.specs.Path.{path_eq, parent, top_of}
use Rattle.txn_names.proofs.Exports.{on_test, on_path, same_path, is_front_self, top_as}
use Rattle.txn_tree.specs.States.{States, names, status_in}
use Rattle.txn_tree.proofs.Exports.{absent_as, live_as, is_aborted_status, aborted_as, aborted_by, status_set}
use Rattle.txn_tree.specs.Asked.{is_absent_in, is_active_in, is_live_in, has_aborted_in, top_aborted_in, is_live_child_in}
use Rattle.txn_tree.specs.declared.status.Status.{Status as State}
use Rattle.txn_tree.specs.declared.status.Status.TheVariants as state
use Rattle.serial_spec.specs.declared.entry.Entry.{Entry}
use Rattle.serial_spec.specs.declared.target.Asked.{Asked}
use Rattle.serial_spec.specs.History.{Name, History, Effect, Begins, Accesses, Commits, Aborts, Nothing, effect, Status, Absent, Live, Committed, Aborted, status, is_absent, is_active, is_begin, is_commit, is_abort, is_live, is_live_status, top_aborted, begun, begun_by, has_begun, has_aborted, has_committed}
use Rattle.serial_spec.specs.Allowed.{has_live_child}
use Rattle.txn_history.specs.Steps.{sets_status}
use Rattle.txn_history.proofs.Exports.{ActsAs, acting, active_acts, status_by, absent_not_begun, any_reversed}
use Rattle.report_check.specs.Passing.{may_do}
use Rattle.report_tables.specs.Told.{IsEnded, IsTreeOf}
use Rattle.txn_tree.specs.Statuses.{status_of}

-- ---- one entry more

-- whoever begins, commits or aborts has a name
abbrev pub IsNamed : Effect → Type 0
IsNamed (Begins t) = 0 < length t
IsNamed (Commits t) = 0 < length t
IsNamed (Aborts t) = 0 < length t
IsNamed x = Unit {0}

-- one that is active and not the root
pub acts_as : (h : History) (t : Name) → 0 < length t → is_active h t ≡ true → ActsAs (has_begun h) (has_committed h) (has_aborted h) t
acts_as h [] some a = absurd (omega (arith, some))
acts_as h (l ∷ ls) some a = acting h l ls (active_acts h (l ∷ ls) a)

module _ (h : History) (ended : IsEnded h) where
  new_name : (t : Name) → is_absent (status h t) ≡ true → (has_begun h t ≡ false) × (has_committed h t ≡ false) × (has_aborted h t ≡ false)
  new_name t new =
      let none = absent_not_begun h t new in
      (none, false_from_ne_true _ (λ c. true≢false (sym (ended.committed t c) ∙ none)), false_from_ne_true _ (λ a. true≢false (sym (ended.aborted t a) ∙ none)))

  begins_new : (t : Name) → may_do h (Begins t) ≡ true → is_absent (status h t) ≡ true
  begins_new t may = (and_parts (is_absent (status h t)) (is_active h (parent t)) (and_parts (is_absent (status h t) && is_active h (parent t)) _ may).0).0

  commits_active : (t : Name) → may_do h (Commits t) ≡ true → is_active h t ≡ true
  commits_active t may = (and_parts (is_active h t) (not (has_live_child h t)) may).0

  -- the status that the effect sets, or the one before
  status_next_at : (x : Effect) → may_do h x ≡ true → IsNamed x → (l : List ℕ) (ls : Name)
      → status_by (is_begin (l ∷ ls) x || has_begun h (l ∷ ls)) (is_commit (l ∷ ls) x || has_committed h (l ∷ ls)) (is_abort (l ∷ ls) x || has_aborted h (l ∷ ls)) ≡ sets_status x (l ∷ ls) (status h (l ∷ ls))
  status_next_at (Begins t) may named l ls =
      let u = l ∷ ls in
      on_path t u (λ v. status_by (v || has_begun h u) (has_committed h u) (has_aborted h u) ≡ cond v Live (status h u))
      (λ e.
      let new = new_name u (ap (λ w. is_absent (status h w)) (sym e) ∙ begins_new t may) in
      ap (λ a. cond a Aborted (cond (has_committed h u) Committed Live)) new.2 ∙ ap (λ c. cond c Committed Live) new.1)
      (λ _. refl)
  status_next_at (Accesses t a r) may named l ls = refl
  status_next_at (Commits t) may named l ls =
      let u = l ∷ ls in
      on_path t u (λ v. status_by (has_begun h u) (v || has_committed h u) (has_aborted h u) ≡ cond v Committed (status h u))
      (λ e.
      let a = acting h l ls (active_acts h u (ap (is_active h) (sym e) ∙ commits_active t may)) in
      ap (λ b. cond b (cond (has_aborted h u) Aborted Committed) Absent) a.has_begun ∙ ap (λ b. cond b Aborted Committed) (a.unaborted l ls (is_front_self u)))
      (λ _. refl)
  status_next_at (Aborts t) may named l ls =
      let u = l ∷ ls in
      on_path t u (λ v. status_by (has_begun h u) (has_committed h u) (v || has_aborted h u) ≡ cond v Aborted (status h u))
      (λ e. ap (λ b. cond b Aborted Absent) (acting h l ls (active_acts h u (ap (is_active h) (sym e) ∙ may))).has_begun)
      (λ _. refl)
  status_next_at Nothing may named l ls = refl

  root_stays : (x : Effect) → IsNamed x → Live ≡ sets_status x [] Live
  root_stays (Begins t) named = on_test (path_eq t []) (λ v. Live ≡ cond v Live Live) (λ _. refl) (λ _. refl)
  root_stays (Accesses t a r) named = refl
  root_stays (Commits []) named = absurd (omega (arith, named))
  root_stays (Commits (l ∷ ls)) named = refl
  root_stays (Aborts []) named = absurd (omega (arith, named))
  root_stays (Aborts (l ∷ ls)) named = refl
  root_stays Nothing named = refl

  pub status_next : (e : Entry) → may_do h (effect e) ≡ true → IsNamed (effect e) → (u : Name) → status (e ∷ h) u ≡ sets_status (effect e) u (status h u)
  status_next e may named [] = root_stays (effect e) named
  status_next e may named (l ∷ ls) = status_next_at (effect e) may named l ls

  -- ---- who has ended had begun

  root_begin : (x : Effect) → IsNamed x → is_begin [] x ≡ false
  root_begin (Begins []) n = absurd (omega (arith, n))
  root_begin (Begins (l ∷ ls)) n = refl
  root_begin (Accesses t a r) n = refl
  root_begin (Commits t) n = refl
  root_begin (Aborts t) n = refl
  root_begin Nothing n = refl

  commit_begun : (x : Effect) (t : Name) → may_do h x ≡ true → IsNamed x → is_commit t x ≡ true → has_begun h t ≡ true
  commit_begun (Begins u) t may named c = absurd (true≢false (sym c))
  commit_begun (Accesses u a r) t may named c = absurd (true≢false (sym c))
  commit_begun (Commits u) t may named c = ap (has_begun h) (sym (same_path u t c)) ∙ (acts_as h u named (commits_active u may)).has_begun
  commit_begun (Aborts u) t may named c = absurd (true≢false (sym c))
  commit_begun Nothing t may named c = absurd (true≢false (sym c))

  abort_begun : (x : Effect) (t : Name) → may_do h x ≡ true → IsNamed x → is_abort t x ≡ true → has_begun h t ≡ true
  abort_begun (Begins u) t may named c = absurd (true≢false (sym c))
  abort_begun (Accesses u a r) t may named c = absurd (true≢false (sym c))
  abort_begun (Commits u) t may named c = absurd (true≢false (sym c))
  abort_begun (Aborts u) t may named c = ap (has_begun h) (sym (same_path u t c)) ∙ (acts_as h u named may).has_begun
  abort_begun Nothing t may named c = absurd (true≢false (sym c))

  pub ended_next : (e : Entry) → may_do h (effect e) ≡ true → IsNamed (effect e) → IsEnded (e ∷ h)
  ended_next e may named = record {
    rootless = ap₂ (λ a b. a || b) (root_begin (effect e) named) ended.rootless;
    committed = λ t c. or_right _ _ (⊎_elim (commit_begun (effect e) t may named) (ended.committed t) (or_cases _ _ c));
    aborted = λ t c. or_right _ _ (⊎_elim (abort_begun (effect e) t may named) (ended.aborted t) (or_cases _ _ c));
  }

pub ended_none : IsEnded []
ended_none = record { rootless = refl; committed = λ t c. absurd (true≢false (sym c)); aborted = λ t c. absurd (true≢false (sym c)) }

-- ---- the tree, one entry later

module _ (h : History) (e : Entry) (old new : States) (is : IsTreeOf h old) where
  tree_next : (x : Effect) → effect e ≡ x → may_do h x ≡ true → IsNamed x
      → names new ≡ reverse (begun_by x (begun h)) → ((u : Name) → status_of (status_in new u) ≡ sets_status x u (status_of (status_in old u))) → IsTreeOf (e ∷ h) new
  tree_next x does may named begins sets =
      let may2 : may_do h (effect e) ≡ true = ap (may_do h) does ∙ may in
      let named2 : IsNamed (effect e) = subst IsNamed (sym does) named in
      record {
        begun = begins ∙ ap (λ y. reverse (begun_by y (begun h))) (sym does);
        status = λ u. sets u ∙ ap (sets_status x u) (is.status u) ∙ ap (λ y. sets_status y u (status h u)) (sym does) ∙ sym (status_next h is.ended e may2 named2 u);
        ended = ended_next h is.ended e may2 named2;
      }

  pub tree_begins : (t : Name) → effect e ≡ Begins t → may_do h (Begins t) ≡ true → 0 < length t → names new ≡ names old ++ t ∷ []
      → ((u : Name) → status_in new u ≡ cond (path_eq t u) state.Live (status_in old u)) → IsTreeOf (e ∷ h) new
  tree_begins t does may named more sets = tree_next (Begins t) does may named
      (more ∙ ap (λ ts. ts ++ t ∷ []) is.begun ∙ sym (reverse-append (t ∷ []) (begun h)))
      (λ u. ap status_of (sets u) ∙ status_set (path_eq t u) state.Live (status_in old u))

  pub tree_commits : (t : Name) → effect e ≡ Commits t → may_do h (Commits t) ≡ true → 0 < length t → names new ≡ names old
      → ((u : Name) → status_in new u ≡ cond (path_eq t u) state.Committed (status_in old u)) → IsTreeOf (e ∷ h) new
  tree_commits t does may named same sets = tree_next (Commits t) does may named
      (same ∙ is.begun) (λ u. ap status_of (sets u) ∙ status_set (path_eq t u) state.Committed (status_in old u))

  pub tree_aborts : (t : Name) → effect e ≡ Aborts t → may_do h (Aborts t) ≡ true → 0 < length t → names new ≡ names old
      → ((u : Name) → status_in new u ≡ cond (path_eq t u) state.Aborted (status_in old u)) → IsTreeOf (e ∷ h) new
  tree_aborts t does may named same sets = tree_next (Aborts t) does may named
      (same ∙ is.begun) (λ u. ap status_of (sets u) ∙ status_set (path_eq t u) state.Aborted (status_in old u))

module _ (h : History) (e : Entry) (tree : States) (is : IsTreeOf h tree) where
  pub tree_accessed : (t : Name) (a : Asked) (r : _) → effect e ≡ Accesses t a r → may_do h (Accesses t a r) ≡ true → IsTreeOf (e ∷ h) tree
  tree_accessed t a r does may = tree_next h e tree tree is (Accesses t a r) does may tt is.begun (λ u. refl)

  pub tree_idle : effect e ≡ Nothing → IsTreeOf (e ∷ h) tree
  tree_idle does = tree_next h e tree tree is Nothing does refl tt is.begun (λ u. refl)

-- ---- what is asked of the tree

module _ (h : History) (tree : States) (is : IsTreeOf h tree) where
  top_in : (t : Name) → top_aborted_in tree t ≡ top_aborted h t
  top_in t = top_as (has_aborted_in tree) (has_aborted h)
      (λ l ls. aborted_as (status_in tree (l ∷ ls)) ∙ ap is_aborted_status (is.status (l ∷ ls)) ∙ aborted_by (has_begun h (l ∷ ls)) (has_aborted h (l ∷ ls)) (has_committed h (l ∷ ls)) (is.ended.aborted (l ∷ ls)))
      t

  pub absent_in : (t : Name) → is_absent_in tree t ≡ is_absent (status h t)
  absent_in t = absent_as (status_in tree t) ∙ ap is_absent (is.status t)

  pub live_in : (t : Name) → is_live_in tree t ≡ is_live h t
  live_in t = live_as (status_in tree t) ∙ ap is_live_status (is.status t)

  pub active_in : (t : Name) → is_active_in tree t ≡ is_active h t
  active_in t i = live_in t i && not (is_some (top_in t i))

  pub counted : length tree ≡ length (begun h)
  counted = sym (length-keys_of tree) ∙ ap length is.begun ∙ length-reverse (begun h)

  pub same_children : (t : Name) → list_any (is_live_child_in tree t) (names tree) ≡ has_live_child h t
  same_children t =
      let each : is_live_child_in tree t ≡ (λ u. path_eq (parent u) t && is_live h u) = λ i u. path_eq (parent u) t && live_in u i in
      ap (λ p. list_any p (names tree)) each ∙ ap (list_any (λ u. path_eq (parent u) t && is_live h u)) is.begun
      ∙ any_reversed (λ u. path_eq (parent u) t && is_live h u) (begun h)

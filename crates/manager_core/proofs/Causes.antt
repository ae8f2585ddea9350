-- The cause that the tables tell is the definitions' first.
use Rattle.std.proofs.Common.{◌≡◌, ℕ, ◌<◌, Bool, true, false, not, length, Option, Some, None, is_some, refl, sym, ap, ap₂, ◌∙◌}
use Rattle.std.proofs.lemmas.Bool.{false≢true, not-true, true≢false}
use Rattle.std.specs.Prelude.{nat_lt, option_map}
use Rattle.std.specs.List.{list_any}
use Rattle.txn_names.specs.Path.{top_of}
use Rattle.txn_tree.specs.declared.status.Status.{Status}
use Rattle.txn_tree.specs.declared.status.Status.TheVariants as state
use Rattle.txn_tree.specs.States.{States, names, is_committed}
use Rattle.txn_tree.specs.Asked.{IsNumberOf, has_committed_in, is_absent_in, is_live_child_in}
use Rattle.txn_tree.specs.Numbered.{is_active_at, is_active_named, live_children_at, live_children_named, status_at, status_named, top_aborted_at, top_aborted_named}
use Rattle.txn_tree.proofs.Exports.{any_counted}
use Rattle.orphans.specs.Marked.{is_marked}
use Rattle.serial_spec.specs.declared.target.Asked.{Asked}
use Rattle.serial_spec.specs.declared.entry.By.{By}
use Rattle.serial_spec.specs.declared.entry.Refusal.{Refusal}
use Rattle.serial_spec.specs.declared.entry.Refusal.TheVariants.{Children, Done, Full, Orphan, Unknown, Waiting}
use Rattle.serial_spec.specs.History.{Name, History, is_active, or_else}
use Rattle.serial_spec.specs.Rows.{Rows}
use Rattle.serial_spec.specs.Legal.{AreAllowed}
use Rattle.serial_spec.specs.Allowed.{waits_elsewhere, is_full_for, has_live_child, cause_at_end, cause_at_access, cause_at_commit}
use Rattle.serial_spec.specs.Causes.{when, why_ended}
use Rattle.manager_core.specs.Kept.{AreTablesOf}
use Rattle.manager_core.specs.Tables.{Tabled, cause_in}
use Rattle.manager_core.proofs.Answers.{active_at_access, active_at_commit}
use Rattle.manager_core.proofs.Locks.{name_at}
use Rattle.manager_core.proofs.Trees.{active_in, same_at_end, same_children, top_by_marks, top_by_states}
use Rattle.manager_core.proofs.Victims.{may_end}

-- ---- by number

-- whether a child is live, by the count that is kept for the number
pub any_live : (tree : States) (t : Name) (n : ℕ) → IsNumberOf tree t n → nat_lt 0 (live_children_at tree n) ≡ list_any (is_live_child_in tree t) (names tree)
any_live tree t n number =
    ap (λ o. nat_lt 0 (live_children_named tree o)) (name_at tree t n number) ∙ sym (any_counted (is_live_child_in tree t) (names tree))

not_committed : (s : Status) → (s ≡ state.Committed → ⊥) → is_committed s ≡ false
not_committed state.Committed n = absurd (n refl)
not_committed s n = refl

-- of one that has begun and has no aborted ancestor only its own state is left to ask
module _ (tables : Tabled) (t : Name) (n : ℕ) (number : IsNumberOf tables.tree t n) (begun : true ≡ not (is_absent_in tables.tree t))
    (none : None ≡ top_of (is_marked tables.marks) t) where
  by_state : (b : Bool) → is_committed (status_at tables.tree n) ≡ b → when b Done ≡ cause_in tables t
  by_state b e =
      ap (λ c. when c Done) (sym e ∙ ap (λ o. is_committed (status_named tables.tree o)) (name_at tables.tree t n number))
      ∙ ap (λ o. or_else (option_map (λ a. Orphan a) o) (when (has_committed_in tables.tree t) Done)) none
      ∙ ap (λ c. or_else (when c Unknown) (or_else (option_map (λ a. Orphan a) (top_of (is_marked tables.marks) t)) (when (has_committed_in tables.tree t) Done)))
      (sym (not-true (is_absent_in tables.tree t) (sym begun)))

  pub done_by_state : status_at tables.tree n ≡ state.Committed → Some Done ≡ cause_in tables t
  done_by_state e = by_state true (ap is_committed e)

  pub none_by_state : (status_at tables.tree n ≡ state.Committed → ⊥) → None ≡ cause_in tables t
  none_by_state other = by_state false (not_committed (status_at tables.tree n) other)

-- ---- by the history

module _ (rows : Rows) (h : History) (tables : Tabled) (allowed : AreAllowed rows h) (are : AreTablesOf rows h tables) (t : Name) where
  pub none_by_activity : (n : ℕ) → 0 < length t → IsNumberOf tables.tree t n → true ≡ is_active_at tables.tree n → None ≡ cause_in tables t
  none_by_activity n some number active =
      let acts : is_active h t ≡ true =
      sym (active_in rows h tables.tree allowed are.in_tree t) ∙ ap (is_active_named tables.tree) (sym (name_at tables.tree t n number)) ∙ sym active in
      sym (same_at_end rows h tables allowed are t some ∙ may_end h t some acts)

  -- one that does not act is refused
  pub refused_by_inactivity : (n : ℕ) → IsNumberOf tables.tree t n
      → false ≡ is_active_at tables.tree n → (by : By) (asked : Asked)
      → is_some (cause_at_access rows h by t asked) ≡ true
  refused_by_inactivity n number inactive by asked = go (cause_at_access rows h by t asked) refl
    where
      go : (o : Option Refusal) → o ≡ cause_at_access rows h by t asked → is_some o ≡ true
      go None none =
          absurd (true≢false (sym (active_at_access rows h by t asked none)
          ∙ sym (active_in rows h tables.tree allowed are.in_tree t)
          ∙ ap (is_active_named tables.tree) (sym (name_at tables.tree t n number)) ∙ sym inactive))
      go (Some r) same = refl

  -- nor does it commit
  pub uncommitted_by_inactivity : (n : ℕ) → IsNumberOf tables.tree t n
      → false ≡ is_active_at tables.tree n → (by : By) → is_some (cause_at_commit h by t) ≡ true
  uncommitted_by_inactivity n number inactive by = go (cause_at_commit h by t) refl
    where
      go : (o : Option Refusal) → o ≡ cause_at_commit h by t → is_some o ≡ true
      go None none =
          absurd (true≢false (sym (active_at_commit h by t none)
          ∙ sym (active_in rows h tables.tree allowed are.in_tree t)
          ∙ ap (is_active_named tables.tree) (sym (name_at tables.tree t n number)) ∙ sym inactive))
      go (Some r) same = refl

  module _ (some : 0 < length t) (by : By) where
    at_end : (o : Option Refusal) → o ≡ cause_in tables t → o ≡ cause_at_end h t
    at_end o e = e ∙ same_at_end rows h tables allowed are t some

    -- the cause at the end stands first
    pub access_by_end : (asked : Asked) (r : Refusal) → Some r ≡ cause_in tables t → Some r ≡ cause_at_access rows h by t asked
    access_by_end asked r e = ap (λ o. or_else o (or_else (when (waits_elsewhere h by t) Waiting) (when (is_full_for rows h asked) Full))) (at_end (Some r) e)

    -- so is one that never began
    pub refused_by_absence : (asked : Asked) → is_absent_in tables.tree t ≡ true
        → is_some (cause_at_access rows h by t asked) ≡ true
    refused_by_absence asked absent =
        sym (ap is_some (access_by_end asked Unknown (rw absent refl)))

    pub commit_by_end : (r : Refusal) → Some r ≡ cause_in tables t → Some r ≡ cause_at_commit h by t
    commit_by_end r e = ap (λ o. or_else o (or_else (when (has_live_child h t) Children) (when (waits_elsewhere h by t) Waiting))) (at_end (Some r) e)

    -- one that never began, too
    pub uncommitted_by_absence : is_absent_in tables.tree t ≡ true → is_some (cause_at_commit h by t) ≡ true
    uncommitted_by_absence absent = sym (ap is_some (commit_by_end Unknown (rw absent refl)))

    -- else come the others, in their order
    pub access_cause : (asked : Asked) → None ≡ cause_in tables t → (w f : Bool) → w ≡ waits_elsewhere h by t → f ≡ is_full_for rows h asked
        → or_else (when w Waiting) (when f Full) ≡ cause_at_access rows h by t asked
    access_cause asked none w f waits full =
        let ends : None ≡ cause_at_end h t = at_end None none in
        ap (λ b. or_else (when b Waiting) (when f Full)) waits
        ∙ ap (λ b. or_else (when (waits_elsewhere h by t) Waiting) (when b Full)) full
        ∙ ap (λ o. or_else o (or_else (when (waits_elsewhere h by t) Waiting) (when (is_full_for rows h asked) Full))) ends

    -- so too of one that acts
    pub active_cause : (n : ℕ) → IsNumberOf tables.tree t n → true ≡ is_active_at tables.tree n
        → (asked : Asked) → (w f : Bool) → w ≡ waits_elsewhere h by t → f ≡ is_full_for rows h asked
        → or_else (when w Waiting) (when f Full) ≡ cause_at_access rows h by t asked
    active_cause n number active asked = access_cause asked (none_by_activity n some number active)

    -- the last of them, where it is refused
    pub full_at_last : (asked : Asked) → None ≡ cause_in tables t → false ≡ waits_elsewhere h by t
        → is_some (cause_at_access rows h by t asked) ≡ true
        → Some Full ≡ cause_at_access rows h by t asked
    full_at_last asked none waits refused = go (is_full_for rows h asked) refl
      where
        go : (f : Bool) → f ≡ is_full_for rows h asked → Some Full ≡ cause_at_access rows h by t asked
        go true full = access_cause asked none false true waits full
        go false full =
            absurd (false≢true (ap is_some (access_cause asked none false false waits full) ∙ refused))

    pub commit_cause : None ≡ cause_in tables t → (c w : Bool) → c ≡ list_any (is_live_child_in tables.tree t) (names tables.tree) → w ≡ waits_elsewhere h by t
        → or_else (when c Children) (when w Waiting) ≡ cause_at_commit h by t
    commit_cause none c w child waits =
        let ends : None ≡ cause_at_end h t = at_end None none in
        ap (λ b. or_else (when b Children) (when w Waiting)) (child ∙ same_children rows h tables.tree allowed are.in_tree t)
        ∙ ap (λ b. or_else (when (has_live_child h t) Children) (when b Waiting)) waits
        ∙ ap (λ o. or_else o (or_else (when (has_live_child h t) Children) (when (waits_elsewhere h by t) Waiting))) ends

-- an aborted ancestor is told of one that has begun
pub orphan_cause : (m : Tabled) (t top : Name) → true ≡ not (is_absent_in m.tree t) → top_of (is_marked m.marks) t ≡ Some top
    → Some (Orphan top) ≡ cause_in m t
orphan_cause m t top begun marked =
    sym (ap₂ (λ (absent : Bool) (o : Option Name). why_ended absent o (has_committed_in m.tree t)) (not-true (is_absent_in m.tree t) (sym begun)) marked)

-- the topmost aborted one is found by numbers
module _ (rows : Rows) (h : History) (tables : Tabled) (allowed : AreAllowed rows h) (are : AreTablesOf rows h tables) (t : Name) where
  pub numbered_top : (n : ℕ) → IsNumberOf tables.tree t n → top_aborted_at tables.tree n ≡ top_of (is_marked tables.marks) t
  numbered_top n number =
      sym (top_by_marks h tables.marks are.marked t ∙ sym (top_by_states rows h tables.tree allowed are.in_tree t)
      ∙ ap (top_aborted_named tables.tree) (sym (name_at tables.tree t n number)))

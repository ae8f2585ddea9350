-- The close: the live top-level transactions are aborted, a place at a time.
use Rattle.std.proofs.Common.{◌≡◌, ℕ, ◌+◌, ◌<◌, ◌≤◌, zero, suc, Bool, true, false, cond, ◌&&◌, List, [], ◌∷◌, ◌++◌, length, take, drop, reverse, count_by, Option, Some, None, refl, sym, ap, subst, ◌∙◌, arith}
use Rattle.std.specs.Prelude.{slice_get}
use Rattle.std.specs.List.{list_any}
use Rattle.std.proofs.lemmas.Bool.{false≢true, and_parts, or_parts, false_from_ne_true}
use Rattle.std.proofs.lemmas.List.{reverse-append, append_assoc, append-nil}
use Rattle.txn_names.specs.Path.{path_eq}
use Rattle.txn_names.proofs.Exports.{path_eq_self, on_test}
use Rattle.txn_tree.specs.States.{States, names, status_in, is_live as is_live_state}
use Rattle.txn_tree.specs.Asked.{is_live_in}
use Rattle.txn_tree.specs.declared.status.Status.{Status as State}
use Rattle.txn_tree.specs.declared.status.Status.TheVariants as state
use Rattle.serial_spec.specs.History.{Name, History, Aborts, or_else, is_live, begun, has_begun}
use Rattle.serial_spec.specs.Rows.{Rows}
use Rattle.serial_spec.specs.Legal.{AreAllowed, Legal, is_top_level, first_live}
use Rattle.serial_spec.specs.Interleaving.{closing}
use Rattle.serial_spec.specs.Waits.{Quiet}
use Rattle.txn_history.proofs.Exports.{legal_allowed, legal_next, quiet_stays, any_begun}
use Rattle.durable_top.specs.declared.store.TopStore.{Ghosts}
use Rattle.manager_core.specs.declared.manager.AtOpening.{AtOpening}
use Rattle.manager_core.specs.Sound.{IsBacked}
use Rattle.manager_core.specs.Kept.{AreTablesOf, IsSettled, IsTreeOf}
use Rattle.manager_core.specs.Tables.{Tabled, AbortsIn, is_live_top_in, rows_in}
use Rattle.manager_core.specs.Closing.{closings, Closes}
use Rattle.manager_core.proofs.Facts.{backed_next}
use Rattle.manager_core.proofs.Trees.{live_in}
use Rattle.manager_core.proofs.Kept.{backed_over}
use Rattle.manager_core.proofs.Tabled.{tables_aborted}
use Rattle.manager_core.proofs.Lasting.{unless_close, wait_aborted}
use Rattle.manager_core.proofs.WaitTables.{waits_dropped}
use Rattle.wait_graph.proofs.Exports.{any_next}
use Rattle.manager_core.proofs.Named.{counted_at}
use Rattle.manager_core.proofs.Blocking.{any_named, all_named}

-- ---- the first of them

abbrev is_top : History → Name → Bool
is_top h t = is_top_level t && is_live h t

-- the first one, looked for from the first begun on
abbrev first_from : (Name → Bool) → List Name → Option Name
first_from p [] = None
first_from p (t ∷ ts) = cond (p t) (Some t) (first_from p ts)

or_first : (b : Bool) (t : Name) (x y : Option Name) → or_else (or_else x (cond b (Some t) None)) y ≡ or_else x (cond b (Some t) y)
or_first true t None y = refl
or_first false t None y = refl
or_first true t (Some u) y = refl
or_first false t (Some u) y = refl

first_onto : (h : History) (ts us : List Name) → first_from (is_top h) (reverse ts ++ us) ≡ or_else (first_live h ts) (first_from (is_top h) us)
first_onto h [] us = refl
first_onto h (t ∷ ts) us =
    ap (λ xs. first_from (is_top h) (xs ++ us)) (reverse-append (t ∷ []) ts)
    ∙ ap (first_from (is_top h)) (append_assoc (reverse ts) (t ∷ []) us)
    ∙ first_onto h ts (t ∷ us)
    ∙ sym (or_first (is_top h t) t (first_live h ts) (first_from (is_top h) us))

nothing_else : (x : Option Name) → or_else x None ≡ x
nothing_else None = refl
nothing_else (Some t) = refl

first_named : (h : History) (states : States) → IsTreeOf h states → first_live h (begun h) ≡ first_from (is_top h) (names states)
first_named h states is =
    sym (nothing_else (first_live h (begun h))) ∙ sym (first_onto h (begun h) [])
    ∙ ap (first_from (is_top h)) (append-nil (reverse (begun h)) ∙ sym is.begun)

-- where none before a place passes and the one there does, it is the first
first_at : (p : Name → Bool) (xs : List Name) (i : ℕ) (t : Name) → slice_get xs i ≡ Some t → list_any p (take i xs) ≡ false → p t ≡ true → first_from p xs ≡ Some t
first_at p [] i t at none e = cc
first_at p (x ∷ xs) zero t at none e = let same : x ≡ t = cc in rw (same, e) refl
first_at p (x ∷ xs) (suc i) t at none e =
    let parts = or_parts (p x) (list_any p (take i xs)) none in
    ap (λ b. cond b (Some x) (first_from p xs)) parts.0 ∙ first_at p xs i t at parts.1 e

-- and where none passes there is none
no_first : (p : Name → Bool) (xs : List Name) → list_any p xs ≡ false → first_from p xs ≡ None
no_first p [] none = refl
no_first p (x ∷ xs) none =
    let parts = or_parts (p x) (list_any p xs) none in
    ap (λ b. cond b (Some x) (first_from p xs)) parts.0 ∙ no_first p xs parts.1

-- what only fewer pass no more pass
fewer : (p q : Name → Bool) → ((u : Name) → q u ≡ true → p u ≡ true) → (xs : List Name) → list_any p xs ≡ false → list_any q xs ≡ false
fewer p q f [] none = refl
fewer p q f (x ∷ xs) none =
    let parts = or_parts (p x) (list_any p xs) none in
    let here : q x ≡ false = false_from_ne_true _ (λ e. false≢true (sym parts.0 ∙ f x e)) in
    rw (here, fewer p q f xs parts.1) refl

-- ---- at a place of the loop

pub record ClosingAt (rows : Rows) (old new : History) (before tables : Tabled) (room i : ℕ) : Type 0 where
  pub closed : List Name
  pub added : new ≡ closings closed ++ old
  pub allowed : AreAllowed rows new
  pub legal : Legal rows new
  pub quiet : Quiet new
  pub are : AreTablesOf rows new tables
  pub same_rows : rows_in tables ≡ rows_in before
  pub same_names : names tables.tree ≡ names before.tree
  -- those that have been gone through are live no more, and nobody has come to life
  pub gone : list_any (is_live_top_in tables.tree) (take i (names tables.tree)) ≡ false
  pub lasting : (u : Name) → is_live_top_in tables.tree u ≡ true → is_live_top_in before.tree u ≡ true
  -- there is room for those that are left
  pub enough : count_by (is_live_top_in before.tree) (drop i (names before.tree)) ≤ room
  pub enough_marks : count_by (is_live_top_in before.tree) (drop i (names before.tree)) ≤ tables.marks.room

-- at the first place
pub closing_from : (rows : Rows) (h : History) (tables : Tabled) (room : ℕ) → Legal rows h → Quiet h → AreTablesOf rows h tables
    → count_by (is_live_top_in tables.tree) (names tables.tree) ≤ room → count_by (is_live_top_in tables.tree) (names tables.tree) ≤ tables.marks.room
    → ClosingAt rows h h tables tables room 0
closing_from rows h tables room legal quiet are enough enough_marks = record {
  closed = [];
  added = refl;
  allowed = legal_allowed rows h legal;
  legal = legal;
  quiet = quiet;
  are = are;
  same_rows = refl;
  same_names = refl;
  gone = refl;
  lasting = λ u e. e;
  enough = enough;
  enough_marks = enough_marks;
}

-- an abort leaves nobody live who was not
still_live : (b : Bool) (s : State) → is_live_state (cond b state.Aborted s) ≡ true → is_live_state s ≡ true
still_live true s e = absurd (false≢true e)
still_live false s e = e

-- by whether it counts
counts : (b : Bool) → b ≡ true → ◌≡◌ {A = ℕ} (cond b 1 0) 1
counts true e = refl
counts false e = absurd (false≢true e)

module _ (rows : Rows) (old new : History) (before tables : Tabled) (room i : ℕ) (far : ClosingAt rows old new before tables room i)
    (t : Name) (at : slice_get (names tables.tree) i ≡ Some t) where
  at_before : slice_get (names before.tree) i ≡ Some t
  at_before = ap (λ xs. slice_get xs i) (sym far.same_names) ∙ at

  same_top : is_live_top_in tables.tree ≡ is_top new
  same_top = λ j u. is_top_level u && live_in rows new tables.tree far.allowed far.are.in_tree u j

  module _ (live : is_live_top_in tables.tree t ≡ true) where
    left : count_by (is_live_top_in before.tree) (drop i (names before.tree)) ≡ 1 + count_by (is_live_top_in before.tree) (drop (i + 1) (names before.tree))
    left =
        counted_at (is_live_top_in before.tree) (names before.tree) i t at_before
        ∙ ap (λ n. n + count_by (is_live_top_in before.tree) (drop (i + 1) (names before.tree))) (counts (is_live_top_in before.tree t) (far.lasting t live))

    -- there is room to close one
    pub room_for : 0 < room
    room_for = omega (arith, left, far.enough)

    pub marks_room_for : 0 < tables.marks.room
    marks_room_for = omega (arith, left, far.enough_marks)

    -- it is the first that is live
    pub is_first : first_live new (begun new) ≡ Some t
    is_first =
        first_named new tables.tree far.are.in_tree
        ∙ first_at (is_top new) (names tables.tree) i t at
        (ap (λ p. list_any p (take i (names tables.tree))) (sym same_top) ∙ far.gone)
        (ap (λ (p : Name → Bool). p t) (sym same_top) ∙ live)

    next_allowed : AreAllowed rows (closing t ∷ new)
    next_allowed = (far.allowed, is_first)

    module _ (after : Tabled) (room_after : ℕ) (aborts : AbortsIn tables after t)
        (less : room ≤ room_after + 1) (marks_less : tables.marks.room ≤ after.marks.room + 1) where
      lives_on : (u : Name) → is_live_top_in after.tree u ≡ true → is_live_top_in tables.tree u ≡ true
      lives_on u e =
          let parts = and_parts (is_top_level u) (is_live_in after.tree u) e in
          let lived : is_live_in tables.tree u ≡ true = still_live (path_eq t u) (status_in tables.tree u) (sym (ap is_live_state (aborts.status u)) ∙ parts.1) in
          rw (parts.0, lived) refl

      ended_here : is_live_top_in after.tree t ≡ false
      ended_here =
          let dead : is_live_in after.tree t ≡ false = ap is_live_state (aborts.status t ∙ ap (λ b. cond b state.Aborted (status_in tables.tree t)) (path_eq_self t)) in
          ap (λ b. is_top_level t && b) dead ∙ and_false (is_top_level t)
        where
          and_false : (b : Bool) → b && false ≡ false
          and_false true = refl
          and_false false = refl

      pub closed_one : ClosingAt rows old (closing t ∷ new) before after room_after (i + 1)
      closed_one =
          let waiting = waits_dropped new (closing t ∷ new) tables after far.are.waiting t aborts
          (wait_aborted rows (closing t) new next_allowed (Aborts t) refl refl (unless_close new) t refl) in
          let still : list_any (is_live_top_in after.tree) (take i (names after.tree)) ≡ false =
          ap (λ xs. list_any (is_live_top_in after.tree) (take i xs)) aborts.same_names ∙ fewer (is_live_top_in tables.tree) (is_live_top_in after.tree) lives_on (take i (names tables.tree)) far.gone in
          record {
            closed = t ∷ far.closed;
            added = ap (λ h. closing t ∷ h) far.added;
            allowed = next_allowed;
            legal = legal_next rows (closing t) new next_allowed far.legal far.quiet;
            quiet = quiet_stays rows (closing t) new next_allowed refl far.quiet;
            are = tables_aborted rows (closing t) new next_allowed tables after far.are waiting t refl aborts;
            same_rows = aborts.rows ∙ far.same_rows;
            same_names = aborts.same_names ∙ far.same_names;
            gone = any_next (is_live_top_in after.tree) (names after.tree) i t (ap (λ xs. slice_get xs i) aborts.same_names ∙ at) still ended_here;
            lasting = λ u e. far.lasting u (lives_on u e);
            enough = omega (arith, left, far.enough, less);
            enough_marks = omega (arith, left, far.enough_marks, marks_less);
          }

  -- one that is not live is passed over
  pub passed_one : is_live_top_in tables.tree t ≡ false → ClosingAt rows old new before tables room (i + 1)
  passed_one dead =
      let one = counted_at (is_live_top_in before.tree) (names before.tree) i t at_before in
      record {
        closed = far.closed;
        added = far.added;
        allowed = far.allowed;
        legal = far.legal;
        quiet = far.quiet;
        are = far.are;
        same_rows = far.same_rows;
        same_names = far.same_names;
        gone = any_next (is_live_top_in tables.tree) (names tables.tree) i t at far.gone dead;
        lasting = far.lasting;
        enough = omega (arith, one, far.enough);
        enough_marks = omega (arith, one, far.enough_marks);
      }

-- ---- at its end

live_has_begun : (h : History) (l : List ℕ) → is_live h (l ∷ []) ≡ true → has_begun h (l ∷ []) ≡ true
live_has_begun h l e = on_test (has_begun h (l ∷ [])) (λ b. b ≡ true) (λ b. refl) (λ b. absurd (false≢true (sym (rw b refl) ∙ e)))

pub all_closed : (rows : Rows) (old new : History) (before tables : Tabled) (room i : ℕ)
    → ClosingAt rows old new before tables room i → length tables.tree ≤ i → Closes rows old new tables
all_closed rows old new before tables room i far end =
    let same : is_live_top_in tables.tree ≡ is_top new = λ j u. is_top_level u && live_in rows new tables.tree far.allowed far.are.in_tree u j in
    let none : list_any (is_top new) (names tables.tree) ≡ false =
    ap (λ p. list_any p (names tables.tree)) (sym same) ∙ sym (all_named (is_live_top_in tables.tree) tables.tree i end) ∙ far.gone in
    record {
      names = far.closed;
      added = far.added;
      legal = far.legal;
      quiet = far.quiet;
      are = far.are;
      none_left = first_named new tables.tree far.are.in_tree ∙ no_first (is_top new) (names tables.tree) none;
      ended = λ l. false_from_ne_true _
          (λ e. false≢true (sym (sym (any_named (is_top new) new tables.tree far.are.in_tree) ∙ none) ∙ any_begun (is_top new) (l ∷ []) new (live_has_begun new l e) e));
    }

-- ---- the manager

-- closing entries commit nothing, and are no refusals of the store
backed_by : {S : Type 0} (g : Ghosts S) (old : History) (table : Rows) (opened : AtOpening) (store : S) (closed : List Name)
    → IsBacked g old table opened store → IsBacked g (closings closed ++ old) table opened store
backed_by g old table opened store [] backed = backed
backed_by g old table opened store (t ∷ ts) backed = backed_next g _ table opened store _ _ _ (backed_by g old table opened store ts backed) refl refl

-- the close keeps what the type keeps
pub settled_closed : {S : Type 0} (g : Ghosts S) (rows : Rows) (old new : History) (before after : Tabled) (opened : AtOpening) (store : S)
    → IsSettled g rows old before opened store → Closes rows old new after → rows_in after ≡ rows_in before → IsSettled g rows new after opened store
settled_closed g rows old new before after opened store settled closes same = record {
  kept = record {
    given = settled.kept.given;
    rising = settled.kept.rising;
    allowed = legal_allowed rows new closes.legal;
    are = closes.are;
    backed = backed_over g same (subst (λ h. IsBacked g h (rows_in before) opened store) (sym closes.added) (backed_by g old (rows_in before) opened store closes.names settled.kept.backed));
  };
  legal = closes.legal;
  quiet = closes.quiet;
}

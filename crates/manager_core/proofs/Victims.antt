-- Victims are aborted until no cycle of waits is left.
use Rattle.std.proofs.Common.{◌≡◌, ◌≤◌, ◌<◌, ◌*◌, ℕ, Bool, true, false, not, cond, ◌&&◌, List, [], ◌∷◌, length, filter, find, Option, Some, None, is_some, inl, inr, refl, sym, ap, subst, ◌∙◌, arith}
use Rattle.std.specs.Prelude.{slice_get, option_map}
use Rattle.std.proofs.lemmas.Bool.{false≢true, not-true, true_from_ne_false, and_from, and_parts, or_cases}
use Rattle.std.specs.List.{list_any}
use Rattle.txn_names.specs.Path.{path_eq}
use Rattle.txn_names.proofs.Exports.{is_front_self, same_path}
use Rattle.txn_tree.specs.States.{States, names}
use Rattle.txn_tree.specs.Causes as tree
use Rattle.serial_spec.specs.declared.entry.By.{By}
use Rattle.serial_spec.specs.declared.entry.By.TheVariants.{Line, Victim, Close}
use Rattle.serial_spec.specs.declared.entry.Refusal.TheVariants.{Unknown, Orphan, Done as HasCommitted}
use Rattle.serial_spec.specs.declared.entry.Entry.{Entry}
use Rattle.serial_spec.specs.declared.target.Asked.{Asked}
use Rattle.serial_spec.specs.History.{Name, History, event_of, Status, Absent, Live, Committed, Aborted, Aborts, or_else, is_active, is_committed, is_live, is_live_status, is_orphan, has_begun, has_committed, has_aborted, top_aborted}
use Rattle.serial_spec.specs.Waits.{IsVictim, Quiet, WaitInTurn, accesses, open_waits, same_line, waits_by, wait_of}
use Rattle.serial_spec.specs.Rows.{Rows}
use Rattle.serial_spec.specs.Allowed.{cause_at_end}
use Rattle.serial_spec.specs.Causes.{when}
use Rattle.serial_spec.specs.Legal.{AreAllowed, Legal}
use Rattle.serial_spec.specs.Interleaving.{AfterVictims, victim}
use Rattle.durable_top.specs.declared.store.TopStore.{Ghosts}
use Rattle.manager_core.specs.declared.manager.AtOpening.{AtOpening}
use Rattle.manager_core.specs.Calls.{WaitsOrIsUndone}
use Rattle.manager_core.specs.Kept.{AreTablesOf, IsTreeOf}
use Rattle.manager_core.specs.Lines.{IsWaitOf}
use Rattle.manager_core.specs.Sound.{IsBacked}
use Rattle.manager_core.specs.Tables.{Tabled, AbortsIn, is_below, wait_at}
use Rattle.manager_core.specs.inner.Victims.{Breaks, IsReadyFor, Settles}
use Rattle.manager_core.proofs.Events.{is_wait, own_wait}
use Rattle.manager_core.proofs.Trees.{same_at_abort}
use Rattle.manager_core.proofs.Facts.{backed_next}
use Rattle.txn_history.specs.Recorded.{Recorded}
use Rattle.txn_history.specs.Steps.{unless_by}
use Rattle.txn_history.proofs.Exports.{active_acts, acts_active}
use Rattle.manager_core.proofs.Lasting.{wait_aborted}
use Rattle.manager_core.proofs.WaitTables.{waits_dropped}
use Rattle.manager_core.proofs.Tabled.{tables_aborted}
use Rattle.manager_core.proofs.Pairing.{tell_waits}
use Rattle.std.proofs.Math.Nat.{mul-le-mul_left, mul-le-mul_right}
use Rattle.wait_cycles.specs.declared.waits.Wait.{Wait}
use Rattle.wait_cycles.specs.Waiting.{wait_in}
use mathlib.Core.Bool.{Bool-set}
use mathlib.Core.Logic.{∥∥₁_elim}

-- ---- who is a victim

-- whoever waits for somebody waits
waits_himself : (h : History) (t u : Name) (w v : Option Entry) → waits_by h t u w v ≡ true → is_some w ≡ true
waits_himself h t u (Some w) v e = refl
waits_himself h t u None v e = absurd (false≢true e)

on_cycle_waits : (h : History) (t u : Name) (xs : List Name) → WaitInTurn h t xs u → is_some (wait_of h t) ≡ true
on_cycle_waits h t u [] turn = waits_himself h t u (wait_of h t) (wait_of h u) turn
on_cycle_waits h t u (x ∷ xs) turn = waits_himself h t x (wait_of h t) (wait_of h x) turn.0

pub victim_waits : (h : History) (t : Name) → IsVictim h t → is_some (wait_of h t) ≡ true
victim_waits h t v = ∥∥₁_elim v.0 (Bool-set (is_some (wait_of h t)) true) (λ c. on_cycle_waits h t t c.0 c.2)

some_if : (b : Bool) (x : Option Entry) → is_some (cond b x None) ≡ true → b ≡ true
some_if true x e = refl
some_if false x e = absurd (false≢true e)

-- whoever is in a row of waits acts
pub in_turn_acts : (h : History) (t u : Name) (xs : List Name) (v : Name) → WaitInTurn h u xs v → list_any (path_eq t) (u ∷ xs) ≡ true → is_active h t ≡ true
in_turn_acts h t u [] v turn here =
    elim (or_cases (path_eq t u) false here) [
      | inl first ↦ ap (is_active h) (same_path t u first) ∙ some_if (is_active h u) _ (on_cycle_waits h u v [] turn)
      | inr later ↦ absurd (false≢true later)
    ]
in_turn_acts h t u (x ∷ xs) v turn here =
    elim (or_cases (path_eq t u) (list_any (path_eq t) (x ∷ xs)) here) [
      | inl first ↦ ap (is_active h) (same_path t u first) ∙ some_if (is_active h u) _ (on_cycle_waits h u v (x ∷ xs) turn)
      | inr later ↦ in_turn_acts h t x xs v turn.1 later
    ]

victim_acts : (h : History) (t : Name) → IsVictim h t → is_active h t ≡ true
victim_acts h t v = some_if (is_active h t) _ (victim_waits h t v)

-- what became of a transaction, by its three tests
abbrev state : Bool → Bool → Bool → Status
state b a c = cond b (cond a Aborted (cond c Committed Live)) Absent

-- one that acts may end
pub may_end : (h : History) (t : Name) → 0 < length t → is_active h t ≡ true → cause_at_end h t ≡ None
may_end h [] some acts = absurd (omega (arith, some))
may_end h (l ∷ ls) some acts = by (has_begun h (l ∷ ls)) (has_aborted h (l ∷ ls)) (has_committed h (l ∷ ls)) (top_aborted h (l ∷ ls)) acts
  where
    by : (b a c : Bool) (o : Option Name) → (is_live_status (state b a c) && not (is_some o)) ≡ true
        → or_else (when (not b) Unknown) (or_else (option_map (λ u. Orphan u) o) (when (is_committed (state b a c)) HasCommitted)) ≡ None
    by true false false None e = refl
    by true false false (Some u) e = absurd (false≢true e)
    by true false true o e = absurd (false≢true e)
    by true true c o e = absurd (false≢true e)
    by false a c o e = absurd (false≢true e)

-- ---- one is aborted

-- no line of a session is that of a victim
no_line : (by : By) → same_line by Victim ≡ false
no_line (Line s l) = refl
no_line Victim = refl
no_line Close = refl

pub unless_victim : (h : History) (u : Name) → unless_by Victim (wait_of h u) ≡ wait_of h u
unless_victim h u = go (wait_of h u)
  where
    go : (x : Option Entry) → unless_by Victim x ≡ x
    go None = refl
    go (Some w) = ap (λ b. cond b None (Some w)) (no_line w.by)

module _ (rows : Rows) (h : History) (allowed : AreAllowed rows h) (t : Name) (is : IsVictim h t) where
  pub victim_allowed : AreAllowed rows (victim t ∷ h)
  victim_allowed = (allowed, is)

  pub no_cause : (states : States) → IsTreeOf h states → 0 < length t → tree.cause_at_abort states t ≡ None
  no_cause states are some = same_at_abort rows h states allowed are t some ∙ may_end h t some (victim_acts h t is)

  pub victim_tables : (old new : Tabled) → AreTablesOf rows h old → AbortsIn old new t → AreTablesOf rows (victim t ∷ h) new
  victim_tables old new are aborts =
      tables_aborted rows (victim t) h victim_allowed old new are
      (waits_dropped h (victim t ∷ h) old new are.waiting t aborts (wait_aborted rows (victim t) h victim_allowed (Aborts t) refl refl (unless_victim h) t refl))
      t refl aborts

-- its wait is kept under its number
pub record IsKeptFor (t : Name) (tables : Tabled) : Type 0 where
  pub number : ℕ
  pub below : is_below (slice_get (names tables.tree) number) t ≡ true
  pub waits : is_some (wait_at tables number) ≡ true

pub victim_kept : (rows : Rows) (h : History) → AreAllowed rows h → (t : Name) → IsVictim h t → (tables : Tabled) → AreTablesOf rows h tables → IsKeptFor t tables
victim_kept rows h allowed t is tables are = of (wait_of h t) refl (victim_waits h t is)
  where
    of : (x : Option Entry) → wait_of h t ≡ x → is_some x ≡ true → IsKeptFor t tables
    of None e some = absurd (false≢true some)
    of (Some x) e some =
        let kept = (tell_waits rows h tables allowed are).all t x e in
        record {
          number = kept.0;
          below = ap (λ o. is_below o t) kept.2 ∙ is_front_self t;
          waits = ap is_some kept.3;
        }

-- so somebody waits
some_waits : (ws : List Wait) (n : ℕ) → is_some (wait_in ws n) ≡ true → 0 < length ws
some_waits [] n e = absurd (false≢true e)
some_waits (w ∷ ws) n e = omega arith

pub victim_counts : (rows : Rows) (h : History) → AreAllowed rows h → (t : Name) → IsVictim h t → (tables : Tabled) → AreTablesOf rows h tables → 0 < length tables.waits.waits
victim_counts rows h allowed t is tables are =
    let kept = victim_kept rows h allowed t is tables are in
    some_waits tables.waits.waits kept.number kept.waits

-- where fewer wait there are fewer pairs of them
pub fewer_pairs : (n m room : ℕ) → n ≤ m → m * m ≤ room → n * n ≤ room
fewer_pairs n m room less enough = omega (arith, enough, mul-le-mul_left n less, mul-le-mul_right m less)

-- ---- at each turn of the loop

pub record BreakingAt (rows : Rows) (old new : History) (tables : Tabled) : Type 0 where
  pub allowed : AreAllowed rows new
  pub are : AreTablesOf rows new tables
  -- whatever comes by victims from here comes by victims from the start
  pub back : (ts : List Name) (h : History) → AfterVictims new ts h → (vs : List Name) × AfterVictims old vs h

pub breaking_from : (rows : Rows) (h : History) (tables : Tabled) → AreAllowed rows h → AreTablesOf rows h tables → BreakingAt rows h h tables
breaking_from rows h tables allowed are = record {
  allowed = allowed;
  are = are;
  back = λ ts h2 after. (ts, after);
}

pub breaking_one : (rows : Rows) (old new : History) (before after : Tabled) → BreakingAt rows old new before → (t : Name) → IsVictim new t
    → AreTablesOf rows (victim t ∷ new) after → BreakingAt rows old (victim t ∷ new) after
breaking_one rows old new before after far t is are = record {
  allowed = (far.allowed, is);
  are = are;
  back = λ ts h later. far.back (t ∷ ts) h (is, later);
}

pub broken : (rows : Rows) (old new : History) (tables : Tabled) → BreakingAt rows old new tables → Quiet new → Breaks rows old new tables
broken rows old new tables far quiet =
    let all = far.back [] new (quiet, refl) in
    record {
      victims = all.0;
      after = all.1;
      are = far.are;
    }

-- where an entry that is ready closes no cycle, there is none to break
pub settled_quiet : {log last : Recorded} {e : Entry} {tables : Tabled} {pairs : ℕ}
    → IsReadyFor log e tables pairs → last.rows ≡ log.rows → last.entries ≡ e ∷ log.entries
    → Quiet (e ∷ log.entries) → Settles log.rows (e ∷ log.entries) last tables tables
settled_quiet {log = log} {e = e} {tables = tables} ready rows entries quiet =
    let from = breaking_from log.rows (e ∷ log.entries) tables ready.allowed ready.are in
    record {
      rows = rows;
      breaks = rw entries (broken _ _ _ _ from quiet);
      table = refl;
    }

-- ---- after them all

-- the history is legal
pub legal_after : (rows : Rows) (h h2 : History) (vs : List Name) → AfterVictims h vs h2 → Legal rows h → Legal rows h2
legal_after rows h h2 [] after legal = subst (Legal rows) (sym after.1) legal
legal_after rows h h2 (t ∷ ts) after legal = legal_after rows (victim t ∷ h) h2 ts after.1 (legal, after.0)

-- no cycle stands
pub quiet_after : (h h2 : History) (vs : List Name) → AfterVictims h vs h2 → Quiet h2
quiet_after h h2 [] after = subst Quiet (sym after.1) after.0
quiet_after h h2 (t ∷ ts) after = quiet_after (victim t ∷ h) h2 ts after.1

-- the store was asked nothing more
pub backed_after : {S : Type 0} (g : Ghosts S) (h h2 : History) (vs : List Name) (table : Rows) (opened : AtOpening) (store : S) → AfterVictims h vs h2
    → IsBacked g h table opened store → IsBacked g h2 table opened store
backed_after g h h2 [] table opened store after backed = subst (λ (x : History). IsBacked g x table opened store) (sym after.1) backed
backed_after g h h2 (t ∷ ts) table opened store after backed =
    backed_after g (victim t ∷ h) h2 ts table opened store after.1 (backed_next g h table opened store _ _ _ backed refl refl)

-- entries that are allowed stay so
pub allowed_after : (rows : Rows) (h h2 : History) (vs : List Name) → AfterVictims h vs h2 → AreAllowed rows h → AreAllowed rows h2
allowed_after rows h h2 [] after allowed = subst (AreAllowed rows) (sym after.1) allowed
allowed_after rows h h2 (t ∷ ts) after allowed = allowed_after rows (victim t ∷ h) h2 ts after.1 (allowed, after.0)

-- ---- who waits still

kept_all : (ws : List Entry) → filter (λ w. not (same_line w.by Victim)) ws ≡ ws
kept_all [] = refl
kept_all (w ∷ ws) = ap (λ b. cond b (w ∷ filter (λ v. not (same_line v.by Victim)) ws) (filter (λ v. not (same_line v.by Victim)) ws)) (ap not (no_line w.by)) ∙ ap (λ vs. w ∷ vs) (kept_all ws)

same_open : (h h2 : History) (vs : List Name) → AfterVictims h vs h2 → open_waits h2 ≡ open_waits h
same_open h h2 [] after = ap open_waits after.1
same_open h h2 (t ∷ ts) after = same_open (victim t ∷ h) h2 ts after.1 ∙ kept_all (open_waits h)

-- whoever is not done when it begins is not done after the victims
same_begun : (h h2 : History) (vs : List Name) → AfterVictims h vs h2 → (u : Name) → (has_begun h2 u && not (has_committed h2 u)) ≡ (has_begun h u && not (has_committed h u))
same_begun h h2 [] after u = ap (λ x. has_begun x u && not (has_committed x u)) after.1
same_begun h h2 (t ∷ ts) after u = same_begun (victim t ∷ h) h2 ts after.1 u

module _ (h h2 : History) (vs : List Name) (after : AfterVictims h vs h2) where
  acts_still : (t : Name) → is_active h t ≡ true → is_orphan h2 t ≡ false → is_active h2 t ≡ true
  acts_still [] acts alone = refl
  acts_still (l ∷ ls) acts alone =
      acts_active h2 (l ∷ ls)
      (and_from _ _ (same_begun h h2 vs after (l ∷ ls) ∙ (and_parts (has_begun h (l ∷ ls) && not (has_committed h (l ∷ ls))) _ (active_acts h (l ∷ ls) acts)).0) (ap not alone))

  -- one that waits does so still, unless it has been aborted with a victim
  waits_still : (t : Name) (w : Entry) → wait_of h t ≡ Some w → is_orphan h2 t ≡ false → wait_of h2 t ≡ Some w
  waits_still t w waits alone =
      let acts = some_if (is_active h t) _ (ap is_some waits) in
      ap (λ b. cond b (find (λ v. accesses t v.event) (open_waits h2)) None) (acts_still t acts alone)
      ∙ ap (find (λ v. accesses t v.event)) (same_open h h2 vs after)
      ∙ sym (ap (λ b. cond b (find (λ v. accesses t v.event) (open_waits h)) None) acts)
      ∙ waits

  pub waits_or_is_undone : (by : By) (t : Name) (asked : Asked) → IsWaitOf h by (event_of t asked) → WaitsOrIsUndone h2 by t asked
  waits_or_is_undone by t asked is =
      let own = own_wait h by t asked is in
      record {
        waits = λ some. is_wait h2 by t asked (record { wait = own.wait; waits = waits_still t own.wait own.waits (not_orphan some); of_line = own.of_line; event_is = own.event_is });
        undone = λ none. true_from_ne_false (is_orphan h2 t) (λ alone. false≢true (sym none ∙ ap is_some (waits_still t own.wait own.waits alone)));
      }
    where
      not_orphan : is_some (wait_of h2 t) ≡ true → is_orphan h2 t ≡ false
      not_orphan some = not-true (is_orphan h2 t) (and_parts (is_live h2 t) (not (is_orphan h2 t)) (some_if (is_active h2 t) _ some)).1

-- How each call keeps what the manager's type says.
use Rattle.std.proofs.Common.{◌≡◌, ◌<◌, true, false, true≢false, ◌∷◌, Option, Some, None, length, refl, sym, ap, subst, ◌∙◌}
use Rattle.txn_tree.specs.Causes as tree
use Rattle.orphans.specs.Marked.{Marked}
use Rattle.inherit.specs.LocksAndVersions.{LocksAndVersions, left_of, modes_of, rows_of}
use Rattle.serial_spec.specs.declared.entry.By.{By}
use Rattle.serial_spec.specs.declared.entry.Refusal.{Refusal}
use Rattle.serial_spec.specs.declared.event.Event.{Event}
use Rattle.serial_spec.specs.declared.event.Event.TheVariants.{Begin, Abort}
use Rattle.serial_spec.specs.declared.entry.Answer.{Answer}
use Rattle.serial_spec.specs.declared.entry.Answer.TheVariants.{Done as IsDone, Waits as IsWaits, Refused as Refuses, Stuck}
use Rattle.serial_spec.specs.declared.target.Asked.{Asked}
use Rattle.serial_spec.specs.declared.operation.Reply.TheVariants.{Ok}
use Rattle.txn_tree.specs.States.{names}
use Rattle.serial_spec.specs.declared.entry.Entry.{Entry}
use Rattle.serial_spec.specs.History.{Name, History, Begins, Accesses, Aborts, Nothing, effect_of, event_of}
use Rattle.serial_spec.specs.Waits.{is_waits, same_line, wait_of}
use Rattle.serial_spec.specs.Rows.{Rows}
use Rattle.serial_spec.specs.Legal.{AreAllowed}
use Rattle.serial_spec.specs.Allowed.{Allowed, cause_at_begin, cause_at_end}
use Rattle.durable_top.specs.declared.store.TopStore.{Ghosts}
use Rattle.manager_core.specs.declared.manager.AtOpening.{AtOpening}
use Rattle.manager_core.specs.declared.outcome.Outcome.{Outcome}
use Rattle.manager_core.specs.declared.outcome.Outcome.TheVariants.{Done, Waits, Refused}
use Rattle.manager_core.specs.Outcomes.{answer_of, outcome_of}
use Rattle.manager_core.specs.State.{entry}
use Rattle.manager_core.specs.Lines.{IsFree, IsLine, IsWaitOf}
use Rattle.manager_core.specs.Sound.{IsBacked, is_store_refusal}
use Rattle.manager_core.specs.StoredNumbers.{commits_top}
use Rattle.manager_core.specs.Kept.{AreTablesOf, AreWaitsOf, IsKept}
use Rattle.manager_core.specs.Tables.{Tabled, BeginsIn, AbortsIn, HasOtherRoom, IsBeside, MadeUnless, ReachesIn, SetsWait, WaitsFrom, rows_in, wait_at}
use Rattle.manager_core.proofs.Events.{done_at, own_wait, refused_at, stuck_at, waits_at}
use Rattle.manager_core.proofs.Trees.{same_at_begin, same_at_abort}
use Rattle.manager_core.proofs.Answers.{EndsAs, attempt_of, active_at_access, allowed_next, begin_allowed, abort_allowed, begin_other, abort_other, access_other, stuck_allowed, line_of_wait}
use Rattle.manager_core.proofs.Facts.{backed_next}
use Rattle.manager_core.proofs.Lasting.{not_begun, unless_free, unless_own, wait_aborted, wait_answered, wait_begun, wait_lasts, wait_starts}
use Rattle.manager_core.proofs.WaitTables.{waits_begun, waits_dropped, waits_set, waits_stay}
use Rattle.manager_core.proofs.Tabled.{tables_roomy, tables_nothing, tables_begun, tables_accessed, tables_aborted}

-- over the same table the store has it as before
pub backed_over : {S : Type 0} (g : Ghosts S) {h : History} {old new : Rows} {opened : AtOpening} {store : S} → new ≡ old → IsBacked g h old opened store → IsBacked g h new opened store
backed_over g {h} {opened = opened} {store = store} same backed = subst (λ (v : Rows). IsBacked g h v opened store) (sym same) backed

-- where the parts beside the waits are the same
beside_parts : (old new : Tabled) → new.tree ≡ old.tree → new.marks ≡ old.marks → new.estate ≡ old.estate → IsBeside old new
beside_parts old new tree marks estate = record {
  tree = tree;
  marks = ap (λ (v : Marked). v.names) marks;
  estate = record {
    modes = λ n s. ap (λ (v : LocksAndVersions). modes_of v n s) estate;
    left = λ n k. ap (λ (v : LocksAndVersions). left_of v n k) estate;
    rows = ap (λ (v : LocksAndVersions). rows_of v) estate;
  };
}

pub beside_same : (old new : Tabled) → new ≡ old → IsBeside old new
beside_same old new same = beside_parts old new (ap (λ (v : Tabled). v.tree) same) (ap (λ (v : Tabled). v.marks) same) (ap (λ (v : Tabled). v.estate) same)

pub beside_but : (old new : Tabled) → new ≡ record old { waits = new.waits } → IsBeside old new
beside_but old new same = beside_parts old new (ap (λ (v : Tabled). v.tree) same) (ap (λ (v : Tabled). v.marks) same) (ap (λ (v : Tabled). v.estate) same)

-- with other room
pub kept_roomy : {S : Type 0} (g : Ghosts S) (rows : Rows) (h : History) (old new : Tabled) (opened : AtOpening) (store : S)
    → IsKept g rows h old opened store → HasOtherRoom old new → IsKept g rows h new opened store
kept_roomy g rows h old new opened store kept same = record {
  given = kept.given;
  rising = kept.rising;
  allowed = kept.allowed;
  are = tables_roomy rows h old new kept.are same;
  backed = backed_over g same.estate.rows kept.backed;
}

module _ {S : Type 0} (g : Ghosts S) (rows : Rows) (h : History) (old new : Tabled) (opened : AtOpening) (store : S) (kept : IsKept g rows h old opened store) (by : By) where
  -- tables that have the entry, over the same table
  kept_over : (event : Event) (a : Answer) → AreAllowed rows (entry by event a ∷ h) → AreTablesOf rows (entry by event a ∷ h) new → rows_in new ≡ rows_in old
      → commits_top (effect_of event a) ≡ false → is_store_refusal a ≡ false → IsKept g rows (entry by event a ∷ h) new opened store
  kept_over event a allowed are same below other = record {
    given = kept.given;
    rising = kept.rising;
    allowed = allowed;
    are = are;
    backed = backed_over g same (backed_next g h (rows_in old) opened store by event a kept.backed below other);
  }

  -- an entry without an effect, which may begin or end a wait
  kept_beside : (event : Event) (a : Answer) → IsLine by → Allowed rows h by event a → effect_of event a ≡ Nothing → is_store_refusal a ≡ false → IsBeside old new
      → AreWaitsOf (entry by event a ∷ h) new.tree new.waits → IsKept g rows (entry by event a ∷ h) new opened store
  kept_beside event a line due does other same waiting =
      let allowed = allowed_next rows h by event a kept.allowed line due in
      kept_over event a allowed (tables_nothing rows (entry by event a) h allowed old new kept.are waiting does same) same.estate.rows (ap commits_top does) other

  -- a begin, by why it is refused
  pub begin_cause : (t : Name) (o : Option Refusal) → o ≡ tree.cause_at_begin old.tree t → o ≡ cause_at_begin h t
  begin_cause t o e = e ∙ same_at_begin rows h old.tree kept.allowed kept.are.in_tree t

  -- an abort, by why it is refused
  pub abort_cause : (t : Name) (o : Option Refusal) → 0 < length t → o ≡ tree.cause_at_abort old.tree t → o ≡ cause_at_end h t
  abort_cause t o some e = e ∙ same_at_abort rows h old.tree kept.allowed kept.are.in_tree t some

  -- an access however it is answered
  kept_access : (t : Name) (asked : Asked) (outcome : Outcome) → IsLine by → Allowed rows h by (event_of t asked) (answer_of outcome)
      → EndsAs rows h by t asked outcome → ReachesIn old new t asked (attempt_of outcome) → AreWaitsOf (entry by (event_of t asked) (answer_of outcome) ∷ h) new.tree new.waits
      → IsKept g rows (entry by (event_of t asked) (answer_of outcome) ∷ h) new opened store
  kept_access t asked (Done r) line due comes has waiting =
      let allowed = allowed_next rows h by (event_of t asked) (IsDone r) kept.allowed line due in
      kept_over (event_of t asked) (IsDone r) allowed (tables_accessed rows (entry by (event_of t asked) (IsDone r)) h allowed old new kept.are waiting t asked r (done_at t asked r) has) has.rows (ap commits_top (done_at t asked r)) refl
  kept_access t asked Waits line due comes same waiting = kept_beside (event_of t asked) IsWaits line due (waits_at t asked) refl same waiting
  kept_access t asked (Refused r) line due comes same waiting = kept_beside (event_of t asked) (Refuses r) line due (refused_at t asked r) (access_other rows h by t asked r comes) same waiting

  -- ---- by a line that is free

  -- an entry that changes nothing
  pub kept_same : (event : Event) (a : Answer) → IsFree h by event → Allowed rows h by event a → effect_of event a ≡ Nothing → is_waits a ≡ false → is_store_refusal a ≡ false
      → new ≡ old → IsKept g rows (entry by event a ∷ h) new opened store
  kept_same event a free due does silent other same =
      let allowed = allowed_next rows h by event a kept.allowed free.line due in
      kept_beside event a free.line due does other (beside_same old new same)
      (waits_stay h (entry by event a ∷ h) old new kept.are.waiting (ap (λ (v : Tabled). names v.tree) same) (λ n. ap (λ (v : Tabled). wait_at v n) same)
      (wait_lasts rows (entry by event a) h allowed Nothing does silent (unless_free h by event free) refl))

  pub kept_begin : (t : Name) (o : Option Refusal) → IsFree h by (Begin t) → o ≡ tree.cause_at_begin old.tree t → MadeUnless o old new (BeginsIn old new t)
      → IsKept g rows (entry by (Begin t) (answer_of (outcome_of o)) ∷ h) new opened store
  kept_begin t None free e begins =
      let x : Entry = entry by (Begin t) (IsDone Ok) in
      let allowed = allowed_next rows h by (Begin t) (IsDone Ok) kept.allowed free.line (begin_allowed rows h by t None (begin_cause t None e)) in
      let waiting = waits_begun h (x ∷ h) old new kept.are.waiting t begins (not_begun rows x h allowed t refl)
      (wait_begun rows x h allowed (Begins t) refl refl (unless_free h by (Begin t) free) t refl) in
      kept_over (Begin t) (IsDone Ok) allowed (tables_begun rows x h allowed old new kept.are waiting t refl begins) (ap (λ (a : LocksAndVersions). rows_of a) begins.estate) refl refl
  kept_begin t (Some r) free e same =
      let cause = begin_cause t (Some r) e in
      kept_same (Begin t) (Refuses r) free (begin_allowed rows h by t (Some r) cause) refl refl (begin_other h t (Some r) cause) same

  pub kept_abort : (t : Name) (o : Option Refusal) → IsFree h by (Abort t) → 0 < length t → o ≡ tree.cause_at_abort old.tree t → MadeUnless o old new (AbortsIn old new t)
      → IsKept g rows (entry by (Abort t) (answer_of (outcome_of o)) ∷ h) new opened store
  kept_abort t None free some e aborts =
      let x : Entry = entry by (Abort t) (IsDone Ok) in
      let allowed = allowed_next rows h by (Abort t) (IsDone Ok) kept.allowed free.line (abort_allowed rows h by t None (abort_cause t None some e)) in
      let waiting = waits_dropped h (x ∷ h) old new kept.are.waiting t aborts (wait_aborted rows x h allowed (Aborts t) refl refl (unless_free h by (Abort t) free) t refl) in
      kept_over (Abort t) (IsDone Ok) allowed (tables_aborted rows x h allowed old new kept.are waiting t refl aborts) aborts.rows refl refl
  kept_abort t (Some r) free some e same =
      let cause = abort_cause t (Some r) some e in
      kept_same (Abort t) (Refuses r) free (abort_allowed rows h by t (Some r) cause) refl refl (abort_other h t (Some r) cause) same

  -- an access, and who waits after it
  waits_asked : (t : Name) (asked : Asked) (outcome : Outcome) → IsFree h by (event_of t asked) → AreAllowed rows (entry by (event_of t asked) (answer_of outcome) ∷ h)
      → EndsAs rows h by t asked outcome → ReachesIn old new t asked (attempt_of outcome) → WaitsFrom old new by t asked (attempt_of outcome)
      → AreWaitsOf (entry by (event_of t asked) (answer_of outcome) ∷ h) new.tree new.waits
  waits_asked t asked (Done r) free allowed comes has keeps =
      waits_stay h (entry by (event_of t asked) (IsDone r) ∷ h) old new kept.are.waiting (ap names has.tree) keeps
      (wait_lasts rows (entry by (event_of t asked) (IsDone r)) h allowed (Accesses t asked r) (done_at t asked r) refl (unless_free h by (event_of t asked) free) refl)
  waits_asked t asked Waits free allowed comes same sets =
      waits_set h (entry by (event_of t asked) IsWaits ∷ h) old new kept.are.waiting t (Some (entry by (event_of t asked) IsWaits)) (ap names same.tree) sets
      (wait_starts rows h by t asked allowed (active_at_access rows h by t asked comes.0) (unless_free h by (event_of t asked) free))
  waits_asked t asked (Refused r) free allowed comes same keeps =
      waits_stay h (entry by (event_of t asked) (Refuses r) ∷ h) old new kept.are.waiting (ap names same.tree) keeps
      (wait_lasts rows (entry by (event_of t asked) (Refuses r)) h allowed Nothing (refused_at t asked r) refl (unless_free h by (event_of t asked) free) refl)

  pub kept_asked : (t : Name) (asked : Asked) (outcome : Outcome) → IsFree h by (event_of t asked) → Allowed rows h by (event_of t asked) (answer_of outcome)
      → EndsAs rows h by t asked outcome → ReachesIn old new t asked (attempt_of outcome) → WaitsFrom old new by t asked (attempt_of outcome)
      → IsKept g rows (entry by (event_of t asked) (answer_of outcome) ∷ h) new opened store
  kept_asked t asked outcome free due comes has waits =
      let allowed = allowed_next rows h by (event_of t asked) (answer_of outcome) kept.allowed free.line due in
      kept_access t asked outcome free.line due comes has (waits_asked t asked outcome free allowed comes has waits)

  -- ---- by the line of a wait

  module _ (t : Name) (wait : Entry) (waits : wait_of h t ≡ Some wait) (of_line : same_line wait.by by ≡ true) (line : IsLine by) where
    -- the access is answered
    pub kept_answered : (asked : Asked) (outcome : Outcome) → Allowed rows h by (event_of t asked) (answer_of outcome) → is_waits (answer_of outcome) ≡ false
        → EndsAs rows h by t asked outcome → ReachesIn old new t asked (attempt_of outcome) → SetsWait old new t None
        → IsKept g rows (entry by (event_of t asked) (answer_of outcome) ∷ h) new opened store
    kept_answered asked (Done r) due answered comes has sets =
        let x : Entry = entry by (event_of t asked) (IsDone r) in
        let allowed = allowed_next rows h by (event_of t asked) (IsDone r) kept.allowed line due in
        kept_access t asked (Done r) line due comes has
        (waits_set h (x ∷ h) old new kept.are.waiting t None (ap names has.tree) sets
        (wait_answered rows x h allowed (Accesses t asked r) (done_at t asked r) refl refl t (unless_own h by t wait waits of_line)))
    kept_answered asked Waits due answered comes same sets = absurd (true≢false answered)
    kept_answered asked (Refused r) due answered comes same sets =
        let x : Entry = entry by (event_of t asked) (Refuses r) in
        let allowed = allowed_next rows h by (event_of t asked) (Refuses r) kept.allowed line due in
        kept_access t asked (Refused r) line due comes same
        (waits_set h (x ∷ h) old new kept.are.waiting t None (ap names same.tree) sets
        (wait_answered rows x h allowed Nothing (refused_at t asked r) refl refl t (unless_own h by t wait waits of_line)))

    -- it is given up
    pub kept_given_up : (event : Event) → Allowed rows h by event Stuck → effect_of event Stuck ≡ Nothing → IsBeside old new → SetsWait old new t None
        → IsKept g rows (entry by event Stuck ∷ h) new opened store
    kept_given_up event due does same sets =
        let x : Entry = entry by event Stuck in
        let allowed = allowed_next rows h by event Stuck kept.allowed line due in
        kept_beside event Stuck line due does refl same
        (waits_set h (x ∷ h) old new kept.are.waiting t None (ap names same.tree) sets
        (wait_answered rows x h allowed Nothing does refl refl t (unless_own h by t wait waits of_line)))

  pub kept_stuck : (event : Event) → IsWaitOf h by event → (t : Name) (asked : Asked) → event ≡ event_of t asked → new ≡ record old { waits = new.waits } → SetsWait old new t None
      → IsKept g rows (entry by event Stuck ∷ h) new opened store
  kept_stuck event waits t asked is same sets =
      let of_it = subst (IsWaitOf h by) is waits in
      let own = own_wait h by t asked of_it in
      subst (λ (x : Event). IsKept g rows (entry by x Stuck ∷ h) new opened store) (sym is)
      (kept_given_up t own.wait own.waits own.of_line (line_of_wait h by (event_of t asked) of_it) (event_of t asked) (stuck_allowed rows h by (event_of t asked) of_it) (stuck_at t asked) (beside_but old new same) sets)

-- no access changes the table
pub same_rows : (old new : Tabled) (t : Name) (asked : Asked) (outcome : Outcome) → ReachesIn old new t asked (attempt_of outcome) → rows_in new ≡ rows_in old
same_rows old new t asked (Done reply) has = has.rows
same_rows old new t asked Waits same = same.estate.rows
same_rows old new t asked (Refused refusal) same = same.estate.rows

-- nor does a begin
pub begin_rows : (old new : Tabled) (t : Name) (o : Option Refusal) → MadeUnless o old new (BeginsIn old new t) → rows_in new ≡ rows_in old
begin_rows old new t None has = ap (λ (a : LocksAndVersions). rows_of a) has.estate
begin_rows old new t (Some r) same = ap (λ (v : Tabled). rows_in v) same

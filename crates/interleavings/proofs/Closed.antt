-- The close, and what a whole run comes to.
use Rattle.std.proofs.Common.{◌≡◌, ℕ, ◌+◌, ◌≤◌, List, [], ◌∷◌, ◌++◌, length, map, None, Result, Ok, Err, OnOk, IfErr, sym, ap, subst, ◌∙◌, arith}
use Rattle.serial_spec.specs.History.{Name, History, begun}
use Rattle.serial_spec.specs.Legal.{first_live, Legal}
use Rattle.serial_spec.specs.Rows.{Rows, value_in}
use Rattle.serial_spec.specs.Serial.{stored}
use Rattle.serial_spec.specs.Interleaving.{Session, AllAnswered, IsInterleaving, IsFinished}
use Rattle.serial_spec.specs.Follows.{Steps, Rounds, AfterClose}
use Rattle.txn_history.specs.Turns.{IsUnderWay}
use Rattle.txn_history.proofs.Exports.{close_finishes}
use Rattle.durable_top.specs.declared.store.TopStore.{Ghosts}
use Rattle.durable_top.specs.Numbered.{Numbered, entries_in}
use Rattle.durable_top.specs.Store.{counted}
use Rattle.manager_core.specs.declared.manager.AtOpening.{AtOpening}
use Rattle.manager_core.specs.State.{State}
use Rattle.manager_core.specs.Opening.{most_rows, IsOpened}
use Rattle.manager_core.specs.StoredNumbers.{IsNumberedAfter}
use Rattle.manager_core.specs.Sound.{IsSound, store_refusals}
use Rattle.manager_core.specs.Closing.{closings}
use Rattle.manager_core.specs.Calls.{Closed}
use Rattle.run_reports.specs.Told.{Told}
use Rattle.interleavings.specs.Trails.{Trail}
use Rattle.interleavings.proofs.Trails.{trail_closings, trail_more}
use Rattle.interleavings.specs.Turning.{Turning, AreTurns, IsStart, IsClosed}
use Rattle.interleavings.specs.Scheduled.{BreaksOff, Goes, LetsGo, RunsList, RunsAll, RunsWhole}
use Rattle.interleavings.proofs.Schedules.{goes_still}
use Rattle.interleavings.specs.Runs.{AllThere, IsBrokenOff, IsRun, WasAsked}

-- ---- the close

-- closing entries of a legal history close, each, the first begun that is live
after_closings : (rows : Rows) (h : History) (names later : List Name) (h2 : History) → Legal rows (closings names ++ h) → AfterClose (closings names ++ h) later h2
    → (ts : List Name) × AfterClose h ts h2
after_closings rows h [] later h2 legal after = (later, after)
after_closings rows h (t ∷ names) later h2 legal after = after_closings rows h names (t ∷ later) h2 legal.0 (legal.1.0, after)

module _ {S : Type 0} (g : Ghosts S) (old : Turning S) (numbers : List ℕ) (new : State S) (turns : AreTurns old numbers) (all : AllAnswered old.sessions old.core.history)
    (closed : Closed old.core new) (sound : IsSound g new) where
  rows : new.rows ≡ old.core.rows
  rows = ap (λ (m : State S). m.rows) closed.added

  opened : new.opened ≡ old.core.opened
  opened = ap (λ (m : State S). m.opened) closed.added

  history : new.history ≡ closings closed.names ++ old.core.history
  history = ap (λ (m : State S). m.history) closed.added

  after : (ts : List Name) × AfterClose old.core.history ts new.history
  after = after_closings new.rows old.core.history closed.names [] new.history (subst (Legal new.rows) history sound.legal)
      (subst (λ h. first_live h (begun h) ≡ None) history closed.none_left, history)

  finishes : IsUnderWay old.core.rows old.sessions new.history × IsFinished old.sessions new.history
  finishes = close_finishes old.core.rows old.sessions old.core.history after.0 new.history turns.way all after.1

  pub closed_few : length new.rows ≤ most_rows
  closed_few = subst (λ (r : Rows). length r ≤ most_rows) (sym rows) turns.few

  pub closed_in_turn : IsInterleaving new.rows old.sessions new.history
  closed_in_turn = subst (λ r. IsInterleaving r old.sessions new.history) (sym rows) finishes.0.in_turn

  pub closed_finished : IsFinished old.sessions new.history
  closed_finished = finishes.1

  pub is_closed : (labels : List (List ℕ)) → labels ≡ map (λ s. s.label) old.sessions
      → IsClosed g old (record { opening = new.rows; labels = labels; history = new.history; table = new.table }) new.store
  is_closed labels named = record {
    answered = all;
    opening = rows;
    labels = named;
    names = after.0;
    close = after.1;
    interleaving = closed_in_turn;
    finished = finishes.1;
    store = ap (λ (m : State S). m.store) closed.added;
    trail =
        subst (λ s. Trail g old.core.rows old.core.history old.core.store new.history s) (sym (ap (λ (m : State S). m.store) closed.added))
        (subst (λ h. Trail g old.core.rows old.core.history old.core.store h old.core.store) (sym history)
        (trail_closings g old.core.rows closed.names old.core.history old.core.store));
    stored = sound.backed.same;
    numbered = λ trusted. subst (λ (o : AtOpening). IsNumberedAfter (entries_in o.given.items) new.history (g.numbered new.store)) opened (sound.backed.numbered trusted);
    refusals = subst (λ (o : AtOpening). g.faults new.store ≡ counted (o.faults + store_refusals new.history)) opened sound.backed.refusals;
  }

module _ {S : Type 0} (g : Ghosts S) where
  -- the rows of an opening have the numbers that the store had
  pub numbered_from : (store : S) (first : State S) (opened : AtOpening) (h : History) (left : Numbered) → IsOpened g store first → opened ≡ first.opened
      → g.doubt first.store ≡ 0 → IsNumberedAfter (entries_in opened.given.items) h left → IsNumberedAfter (g.numbered store) h left
  numbered_from store first opened h left is same none after =
      subst (λ (m : Numbered). IsNumberedAfter m h left) (ap (λ (o : AtOpening). entries_in o.given.items) same ∙ is.numbered none) after

  -- ---- a run

  pub runs_whole : {T E : Type 0} (schedule : List ℕ) (first mid last : Turning S) (r : Result T E) → RunsList g schedule first mid → OnOk r (RunsAll g mid last)
      → OnOk r (RunsWhole g schedule first last)
  runs_whole schedule first mid last (Ok x) list all = record { between = mid; list = list; all = all }
  runs_whole schedule first mid last (Err x) list all = tt

  -- from a trail behind the opening
  from_start : (ss : List Session) (store : S) (first : Turning S) (h : History) (left : S) → IsStart g ss store first
      → Trail g first.core.rows first.core.history first.core.store h left → WasAsked g store first.core.rows h left
  from_start ss store first h left start trail = record {
    first = first.core.store;
    given = first.core.opened.given.items;
    loaded = start.opened.loaded;
    are = start.opened.are;
    trail = subst (λ h0. Trail g first.core.rows h0 first.core.store h left) start.opened.history trail;
  }

  -- what went on from the opening to its close
  pub was_asked : (ss : List Session) (store : S) (first last : Turning S) (r : Told) (left : S) → IsStart g ss store first → Goes g first last → IsClosed g last r left
      → WasAsked g store r.opening r.history left
  was_asked ss store first last r left start goes closed =
      subst (λ x. WasAsked g store x r.history left) (sym (closed.opening ∙ goes.on.rows))
      (from_start ss store first r.history left start
      (trail_more g first.core.rows first.core.history first.core.store last.core.history last.core.store r.history left goes.on.trail
      (subst (λ x. Trail g x last.core.history last.core.store r.history left) goes.on.rows closed.trail)))

  pub is_run : (ss : List Session) (schedule : List ℕ) (store left : S) (first last : Turning S) (r : Told) → AllThere (length ss) schedule → IsStart g ss store first
      → RunsWhole g schedule first last → IsClosed g last r left → IsRun g ss schedule store r left
  is_run ss schedule store left first last r there start whole closed = record {
    there = there;
    asked = was_asked ss store first last r left start (goes_still g first mid last list.goes all.goes) closed;
    opening = λ none. ap value_in rows_first ∙ start.opened.rows (undoubted none);
    labels = subst (λ x. r.labels ≡ map (λ s. s.label) x) same_sessions closed.labels;
    follows = record {
      scheduled = mid.core.history;
      steps = subst (λ x. Steps x ss schedule [] mid.core.history) (sym rows_first)
          (subst (λ x. Steps first.core.rows x schedule [] mid.core.history) start.sessions
          (subst (λ h. Steps first.core.rows first.sessions schedule h mid.core.history) start.opened.history list.steps));
      count = all.count;
      ran = last.core.history;
      rounds = subst (λ x. Rounds x ss all.count mid.core.history last.core.history) (sym rows_mid)
          (subst (λ x. Rounds mid.core.rows x all.count mid.core.history last.core.history) sessions_mid all.rounds);
      all = subst (λ x. AllAnswered x last.core.history) sessions_mid all.all;
      names = closed.names;
      close = closed.close;
    };
    interleaving = subst (λ x. IsInterleaving r.opening x r.history) same_sessions closed.interleaving;
    finished = subst (λ x. IsFinished x r.history) same_sessions closed.finished;
    stored = closed.stored;
    numbered = λ trusted. numbered_from store first.core last.core.opened r.history (g.numbered left) start.opened same_opening (undoubted trusted.doubt) (closed.numbered trusted);
    refusals = closed.refusals ∙ ap (λ n. counted (n + store_refusals r.history)) (ap (λ (o : AtOpening). o.faults) same_opening ∙ start.opened.faults);
  }
    where
      mid : Turning S
      mid = whole.between

      list : RunsList g schedule first mid
      list = whole.list

      all : RunsAll g mid last
      all = whole.all

      rows_mid : r.opening ≡ mid.core.rows
      rows_mid = closed.opening ∙ all.goes.on.rows

      rows_first : r.opening ≡ first.core.rows
      rows_first = rows_mid ∙ list.goes.on.rows

      sessions_mid : mid.sessions ≡ ss
      sessions_mid = list.goes.sessions ∙ start.sessions

      same_sessions : last.sessions ≡ ss
      same_sessions = all.goes.sessions ∙ sessions_mid

      same_opening : last.core.opened ≡ first.core.opened
      same_opening = all.goes.on.opened ∙ list.goes.on.opened

      undoubted : g.doubt left ≡ 0 → g.doubt first.core.store ≡ 0
      undoubted none =
          let last_none : g.doubt last.core.store ≡ 0 = sym (ap g.doubt closed.store) ∙ none in
          omega (arith, list.goes.on.later.doubt, all.goes.on.later.doubt, last_none)

  -- ---- a run that was broken off

  pub closed_off : {T : Type 0} (schedule : List ℕ) (first last : Turning S) (r : Result T S) → RunsWhole g schedule first last → IfErr r (LetsGo g last) → IfErr r (BreaksOff g first)
  closed_off schedule first last (Ok x) whole go = tt
  closed_off schedule first last (Err x) whole go =
      record { last = last; goes = goes_still g first whole.between last whole.list.goes whole.all.goes; go = go }

  pub broken_off : (ss : List Session) (store : S) (first : Turning S) (left : S) → IsStart g ss store first → BreaksOff g first left → IsBrokenOff g ss store
  broken_off ss store first left start off = record {
    opening = first.core.rows;
    history = last.core.history;
    left = last.core.store;
    asked = from_start ss store first last.core.history last.core.store start off.goes.on.trail;
    few = start.opened.few;
    way = subst (λ x. IsUnderWay x ss last.core.history) off.goes.on.rows
        (subst (λ x. IsUnderWay last.core.rows x last.core.history) (off.goes.sessions ∙ start.sessions) off.go.stands.way);
    table = last.core.table;
    stored = subst (λ x. (k : List ℕ) → value_in last.core.table k ≡ stored (value_in x) last.core.history k) off.goes.on.rows off.go.stands.sound.stored;
    has = off.go.stands.sound.backed.same;
    numbered = λ trusted.
        numbered_from store first.core last.core.opened last.core.history (g.numbered last.core.store) start.opened off.goes.on.opened (undoubted trusted.doubt)
        (off.go.stands.sound.backed.numbered trusted);
    refusals =
        off.go.stands.sound.backed.refusals
        ∙ ap (λ n. counted (n + store_refusals last.core.history)) (ap (λ (o : AtOpening). o.faults) off.goes.on.opened ∙ start.opened.faults);
  }
    where
      last : Turning S
      last = off.last

      undoubted : g.doubt last.core.store ≡ 0 → g.doubt first.core.store ≡ 0
      undoubted none = omega (arith, off.goes.on.later.doubt, none)

-- An access as it is entered: by what it comes to its entry is allowed, and the tables have it.
use Rattle.std.proofs.Common.{◌≡◌, ◌≤◌, ◌+◌, ℕ, false, ◌∷◌, length, Some, None, refl, ap}
use Rattle.std.proofs.Common.{subst, ◌∙◌, arith}
use Rattle.orphans.specs.Marked.{Marked}
use Rattle.serial_spec.specs.declared.entry.By.{By}
use Rattle.serial_spec.specs.declared.entry.Refusal.{Refusal}
use Rattle.serial_spec.specs.declared.event.Event.{Event}
use Rattle.serial_spec.specs.declared.operation.Reply.{Reply}
use Rattle.serial_spec.specs.declared.target.Asked.{Asked}
use Rattle.serial_spec.specs.History.{Name, event_of}
use Rattle.serial_spec.specs.Waits.{is_waits}
use Rattle.serial_spec.specs.Allowed.{Allowed, cause_at_access}
use Rattle.txn_history.specs.Recorded.{Recorded}
use Rattle.durable_top.specs.declared.store.TopStore.{Ghosts}
use Rattle.manager_core.specs.declared.accessing.Attempt.{Attempt}
use Rattle.manager_core.specs.declared.accessing.Attempt.TheVariants.{Answered as Answers, Waits}
use Rattle.manager_core.specs.declared.accessing.Attempt.TheVariants.{Refused as Refuses}
use Rattle.manager_core.specs.declared.manager.AtOpening.{AtOpening}
use Rattle.manager_core.specs.declared.manager.Manager.TheInside.{Inside}
use Rattle.manager_core.specs.declared.outcome.Outcome.{Outcome}
use Rattle.manager_core.specs.declared.outcome.Outcome.TheVariants.{Done, Refused}
use Rattle.manager_core.specs.declared.outcome.Outcome.TheVariants.{Waits as MustWait}
use Rattle.manager_core.specs.Calls.{Answered}
use Rattle.manager_core.specs.Kept.{AreTablesOf, IsKept, IsSettled}
use Rattle.manager_core.specs.Lines.{IsFree}
use Rattle.manager_core.specs.Outcomes.{answer_of}
use Rattle.manager_core.specs.State.{State, entry}
use Rattle.manager_core.specs.Tables.{Tabled, ComesTo, HasOtherRoom, ReachesIn, SetsWait}
use Rattle.manager_core.specs.Tables.{WaitsFrom, WaitsUntil, rows_in}
use Rattle.manager_core.specs.inner.Victims.{HasMadeRoom, HasRoomToStep, IsReadyFor, Settles}
use Rattle.manager_core.proofs.Answers.{EndsAs, access_comes, attempt_of, retry_comes}
use Rattle.manager_core.proofs.Kept.{beside_but, kept_answered, kept_asked, same_rows}
use Rattle.manager_core.proofs.Retrying.{IsWaiting}
use Rattle.manager_core.proofs.Settled.{settled_broken, settled_roomy}
use Rattle.manager_core.proofs.Tabled.{roomy_beside, tables_roomy}
use Rattle.manager_core.proofs.Victims.{fewer_pairs}

-- ---- room for a step

-- what the manager's type says of its parts
abbrev pub IsSettledIn : {S : Type 0} → Ghosts S → Inside S → Type 0
IsSettledIn g m = IsSettled g m.log.rows m.log.entries m.tables m.opened m.store

-- what callers see of them
abbrev pub seen : {S : Type 0} → Inside S → State S
seen m = record {
  rows = m.log.rows;
  opened = m.opened;
  history = m.log.entries;
  table = rows_in m.tables;
  store = m.store;
}

-- room was made for a step, and all else is as before
pub record Reserved {S : Type 0} (g : Ghosts S) (m : Inside S) (log : Recorded) (tables : Tabled)
    (pairs : ℕ) : Type 0 where
  pub settled : IsSettled g log.rows log.entries tables m.opened m.store
  pub rows : log.rows ≡ m.log.rows
  pub entries : log.entries ≡ m.log.entries
  pub table : rows_in tables ≡ rows_in m.tables
  pub room : HasRoomToStep log tables pairs

-- with other room the type says the same
pub settled_ready : {S : Type 0} {g : Ghosts S} {log0 log : Recorded} {old new : Tabled}
    {opened : AtOpening} {store : S} → IsSettled g log0.rows log0.entries old opened store
    → HasMadeRoom log0 log old new → IsSettled g log.rows log.entries new opened store
settled_ready settled made =
    rw (made.rows, made.entries) (settled_roomy _ _ _ _ _ _ settled _ made.same)

module _ {S : Type 0} {g : Ghosts S} {m : Inside S} {log : Recorded} {tables : Tabled}
    {pairs : ℕ} where
  pub reserved : IsSettledIn g m → HasMadeRoom m.log log m.tables tables
      → HasRoomToStep log tables pairs → Reserved g m log tables pairs
  reserved settled made room = record {
    settled = settled_ready settled made;
    rows = made.rows;
    entries = made.entries;
    table = made.same.estate.rows;
    room = room;
  }

  -- it stays, where a step changes nothing but room
  reserved_beside : Reserved g m log tables pairs → (new : Tabled) → HasOtherRoom tables new
      → length new.waits.waits ≤ length tables.waits.waits → new.marks ≡ tables.marks
      → Reserved g m log new pairs
  reserved_beside old new same grown marks =
      let many : length new.waits.waits + 1 ≤ length tables.waits.waits + 1 =
      omega (arith, grown) in
      record {
        settled = settled_roomy _ _ _ _ _ _ old.settled new same;
        rows = old.rows;
        entries = old.entries;
        table = same.estate.rows ∙ old.table;
        room = record {
          room = omega (arith, grown, old.room.room);
          marks_room = omega (arith, grown, old.room.marks_room, ap (λ (v : Marked). v.room) marks);
          work_room = fewer_pairs _ _ _ many old.room.work_room;
        };
      }

-- ---- what is entered

-- the entry is allowed, the tables have it, and all is ready for it
pub record Entered {S : Type 0} {g : Ghosts S} {m : Inside S} {log : Recorded} {old : Tabled}
    {pairs : ℕ} (reserved : Reserved g m log old pairs) (new : Tabled)
    (by : By) (event : Event) (outcome : Outcome) : Type 0 where
  pub allowed : Allowed log.rows log.entries by event (answer_of outcome)
  pub kept : IsKept g log.rows (entry by event (answer_of outcome) ∷ log.entries) new
      m.opened m.store
  pub table : rows_in new ≡ rows_in old
  pub ready : IsReadyFor log (entry by event (answer_of outcome)) new pairs

module _ {S : Type 0} {g : Ghosts S} {m : Inside S} {log : Recorded} {old : Tabled} {pairs : ℕ}
    {reserved : Reserved g m log old pairs} {new : Tabled} {by : By} where
  entered : (t : Name) (asked : Asked) (outcome : Outcome)
      → Allowed log.rows log.entries by (event_of t asked) (answer_of outcome)
      → IsKept g log.rows (entry by (event_of t asked) (answer_of outcome) ∷ log.entries) new
      m.opened m.store → ReachesIn old new t asked (attempt_of outcome)
      → length new.waits.waits ≤ length old.waits.waits + 1 → new.marks ≡ old.marks
      → Entered reserved new by (event_of t asked) outcome
  entered t asked outcome allowed kept has grown marks = record {
    allowed = allowed;
    kept = kept;
    table = same_rows old new t asked outcome has;
    ready = record {
      allowed = kept.allowed;
      are = kept.are;
      quiet = reserved.settled.quiet;
      room = omega (arith, grown, reserved.room.room);
      marks_room =
          omega (arith, grown, reserved.room.marks_room, ap (λ (v : Marked). v.room) marks);
      work_room = fewer_pairs _ _ _ grown reserved.room.work_room;
    };
  }

  -- by the line of a wait
  entered_again : {t : Name} {asked : Asked} (outcome : Outcome)
      → EndsAs log.rows log.entries by t asked outcome
      → IsWaiting log.entries t by asked → is_waits (answer_of outcome) ≡ false
      → ReachesIn old new t asked (attempt_of outcome) → SetsWait old new t None
      → length new.waits.waits ≤ length old.waits.waits → new.marks ≡ old.marks
      → Entered reserved new by (event_of t asked) outcome
  entered_again {t = t} {asked = asked} outcome ends is answered has sets grown marks =
      let allowed = retry_comes log.rows log.entries by t asked outcome ends answered in
      entered t asked outcome allowed (kept_answered g log.rows log.entries old new m.opened m.store
      reserved.settled.kept by t is.wait is.waits is.of_line is.line asked outcome allowed
      answered ends has sets) has (omega (arith, grown)) marks

-- ---- by a line that is free

-- what the tables answered
pub record AskedFirst {S : Type 0} (g : Ghosts S) (m : Inside S) (log : Recorded)
    (old new : Tabled) (pairs : ℕ) (by : By) (t : Name) (asked : Asked) (attempt : Attempt)
    : Type 0 where
  pub reserved : Reserved g m log old pairs
  pub free : IsFree m.log.entries by (event_of t asked)
  pub comes : ComesTo log.rows log.entries by t asked attempt
  pub reaches : ReachesIn old new t asked attempt
  pub waits : WaitsFrom old new by t asked attempt
  pub grown : length new.waits.waits ≤ length old.waits.waits + 1
  pub marks : new.marks ≡ old.marks

module _ {S : Type 0} {g : Ghosts S} {m : Inside S} {log : Recorded} {old new : Tabled} {pairs : ℕ}
    {by : By} {t : Name} {asked : Asked} {attempt : Attempt}
    (first : AskedFirst g m log old new pairs by t asked attempt) where
  pub first_ends : (outcome : Outcome) → attempt ≡ attempt_of outcome
      → EndsAs log.rows log.entries by t asked outcome
      → Entered first.reserved new by (event_of t asked) outcome
  first_ends outcome is ends =
      let free = rw (← first.reserved.entries) at first.free in
      let allowed = access_comes log.rows log.entries by t asked free outcome ends in
      let has = subst (ReachesIn old new t asked) is first.reaches in
      let from = subst (WaitsFrom old new by t asked) is first.waits in
      entered t asked outcome allowed (kept_asked g log.rows log.entries old new m.opened m.store
      first.reserved.settled.kept by t asked outcome free allowed ends has from) has
      first.grown first.marks

  pub first_answered : (reply : Reply) → attempt ≡ Answers reply
      → Entered first.reserved new by (event_of t asked) (Done reply)
  first_answered reply is = first_ends (Done reply) is (rw is at first.comes)

  pub first_waits : attempt ≡ Waits → Entered first.reserved new by (event_of t asked) MustWait
  first_waits is = first_ends MustWait is (rw is at first.comes)

  -- one that is refused leaves the tables as they were
  pub first_refused : attempt ≡ Refuses → AreTablesOf log.rows log.entries new
  first_refused is =
      tables_roomy log.rows log.entries old new first.reserved.settled.kept.are
      (roomy_beside old new (rw is at first.reaches) (rw is at first.waits))

-- ---- by the line of a wait

-- what the tables answered
pub record AskedAgain {S : Type 0} (g : Ghosts S) (m : Inside S) (log : Recorded)
    (old new : Tabled) (pairs : ℕ) (by : By) (t : Name) (asked : Asked) (attempt : Attempt)
    : Type 0 where
  pub reserved : Reserved g m log old pairs
  pub waiting : IsWaiting log.entries t by asked
  pub comes : ComesTo log.rows log.entries by t asked attempt
  pub reaches : ReachesIn old new t asked attempt
  pub waits : WaitsUntil old new t attempt
  pub grown : length new.waits.waits ≤ length old.waits.waits
  pub marks : new.marks ≡ old.marks

module _ {S : Type 0} {g : Ghosts S} {m : Inside S} {log : Recorded} {old new : Tabled} {pairs : ℕ}
    {by : By} {t : Name} {asked : Asked} {attempt : Attempt}
    (again : AskedAgain g m log old new pairs by t asked attempt) where
  pub again_answered : (reply : Reply) → attempt ≡ Answers reply
      → Entered again.reserved new by (event_of t asked) (Done reply)
  again_answered reply is =
      entered_again (Done reply) (rw is at again.comes) again.waiting refl (rw is at again.reaches)
      (rw is at again.waits) again.grown again.marks

  -- one that waits on, or is refused, leaves the tables as they were
  pub again_waits : attempt ≡ Waits → Reserved g m log new pairs
  again_waits is =
      reserved_beside again.reserved new
      (roomy_beside old new (rw is at again.reaches) (rw is at again.waits)) again.grown again.marks

  pub again_refused : attempt ≡ Refuses → Reserved g m log new pairs
  again_refused is =
      reserved_beside again.reserved new
      (roomy_beside old new (rw is at again.reaches) (rw is at again.waits)) again.grown again.marks

  -- and then its wait is gone
  pub again_ended : (is : attempt ≡ Refuses) (refusal : Refusal)
      → Some refusal ≡ cause_at_access log.rows log.entries by t asked
      → (last : Tabled) → last ≡ record new { waits = last.waits } → SetsWait new last t None
      → length last.waits.waits ≤ length new.waits.waits
      → Entered (again_refused is) last by (event_of t asked) (Refused refusal)
  again_ended is refusal cause last but sets grown =
      entered_again (Refused refusal) cause again.waiting refl (beside_but new last but) sets grown
      (ap (λ (v : Tabled). v.marks) but)

-- ---- what the call leaves

pub record Ended {S : Type 0} (g : Ghosts S) (m last : Inside S) (by : By) (event : Event)
    (outcome : Outcome) : Type 0 where
  pub settled : IsSettledIn g last
  pub answered : Answered (seen m) (seen last) by event outcome

-- once the victims behind the entry are aborted
pub ended : {S : Type 0} {g : Ghosts S} {m : Inside S} {log last : Recorded}
    {old new tables : Tabled} {pairs : ℕ} {reserved : Reserved g m log old pairs}
    {by : By} {event : Event} {outcome : Outcome} → Entered reserved new by event outcome
    → Settles log.rows (entry by event (answer_of outcome) ∷ log.entries) last new tables
    → (pairs2 : ℕ)
    → Ended g m (record m { log = last; tables = tables; breaker = pairs2 }) by event outcome
ended {g = g} {m = m} {log = log} {last = last} {old = old} {new = new} {tables = tables}
    {reserved = reserved} {by = by} {event = event} {outcome = outcome} entered end pairs2 =
    record {
      settled = rw (end.rows) (settled_broken g log.rows log.entries old m.opened m.store
          reserved.settled (entry by event (answer_of outcome)) new tables last.entries
          entered.kept end.breaks end.table);
      answered = rw (end.rows, reserved.rows, end.table ∙ entered.table ∙ reserved.table) record {
        allowed = rw (← reserved.rows, ← reserved.entries) entered.allowed;
        victims = end.breaks.victims;
        broken = rw (← reserved.entries) end.breaks.after;
        beside = refl;
      };
    }

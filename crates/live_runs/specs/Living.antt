-- A live run, from its opening to its close.
use Rattle.std.specs.Prelude.{◌≡◌, ◌⊎◌, ◌+◌, ℕ, List, [], ◌++◌, Option, None, Some}
use Rattle.std.specs.Io.KnownBytes.{Appends}
use Rattle.txn_bytes.specs.Written.{Writer}
use Rattle.serial_spec.specs.Interleaving.{IsFinished, IsInterleaving}
use Rattle.serial_spec.specs.Rows.{value_in}
use Rattle.durable_top.specs.declared.store.TopStore.{Ghosts}
use Rattle.durable_top.specs.Store.{counted}
use Rattle.growing_sessions.specs.Growing.{labels_in}
use Rattle.manager_core.specs.Opening.{HasCause}
use Rattle.manager_core.specs.Sound.{IsTrusted, store_refusals}
use Rattle.manager_core.specs.StoredNumbers.{IsNumberedAfter}
use Rattle.run_reports.specs.Reports.{IsReport}
use Rattle.interleavings.specs.Runs.{WasAsked}
use Rattle.interleavings.specs.Scheduled.{BreaksOff, LetsGo, RunsOut}
use Rattle.run_reports.specs.Told.{Told}
use Rattle.interleavings.specs.Turning.{IsStart, Turning}
use Rattle.report_check.specs.Verdicts.{HasVerdict}
use Rattle.report_check.specs.declared.verdict.Verdict.TheVariants.{Yes}
use Rattle.report_text.specs.Lines.{opening_text}
use Rattle.txn_bytes.specs.Sources.{Reader}
use Rattle.program_words.specs.Faults.{IsSaid}
use Rattle.report_text.specs.Lines.{spelled_report}
use Rattle.live_runs.specs.declared.fault.LiveFault.{LiveFault}
use Rattle.live_runs.specs.declared.fault.LiveFault.TheVariants.{Open, Read, NoMemory, Write}
use Rattle.live_runs.specs.Faults.{spelled_end}
use Rattle.live_runs.specs.Hearing.{BreaksHearing, Heard, HearsAll, begun_of, holds_nothing, moment, sessions_heard}
use Rattle.live_runs.specs.Showing.{IsShown, IsUnshown}

-- ---- the opening

module _ {S W : Type 0} (g : Ghosts S) (w : Writer W) where
  -- there are no sessions yet, over this store, and the opening was shown
  pub record Begins (store : S) (first : Turning S) (old new : W) : Type 0 where
    pub start : IsStart g [] store first
    pub shown : IsShown w old new (begun_of first)

  -- it was not shown, and the store comes back as it was opened
  pub record IsUnshownOpening (store : S) (old new : W) (left : Option S) : Type 0 where
    pub first : Turning S
    pub start : IsStart g [] store first
    pub given : S
    pub is : left ≡ Some given
    pub go : LetsGo g first given
    pub unshown : IsUnshown w old new (opening_text first.core.rows)

  -- why a run was not begun, and the store that comes back, unless it was not opened
  abbrev pub HasBeginFault : S → W → W → Option S → LiveFault → Type 0
  HasBeginFault store old new left (Open cause) = HasCause g store cause × (new ≡ old)
      × (left ≡ None)
  HasBeginFault store old new left Read = ⊥
  HasBeginFault store old new left NoMemory = ⊥
  HasBeginFault store old new left Write = IsUnshownOpening store old new left

  -- ---- the end

  -- The sessions, which take no line any more, ran to this report, and what of it was not shown
  -- before was shown
  pub record Finishes (last : Turning S) (left : S) (old new : W) : Type 0 where
    pub told : Told
    pub run : RunsOut g [] last told left
    pub report : IsReport told
    pub more : List ℕ
    pub grown : spelled_report told ≡ begun_of last ++ more
    pub shown : IsShown w old new more

  -- it was not shown, and the store comes back as they left it
  pub record IsUnshownEnd (last : Turning S) (old new : W) (left : S) : Type 0 where
    pub told : Told
    pub run : RunsOut g [] last told left
    pub report : IsReport told
    pub more : List ℕ
    pub grown : spelled_report told ≡ begun_of last ++ more
    pub unshown : IsUnshown w old new more

  -- why a run was not ended, and the store that comes back
  abbrev pub HasEndFault : Turning S → W → W → S → LiveFault → Type 0
  HasEndFault last old new left (Open cause) = ⊥
  HasEndFault last old new left Read = ⊥
  HasEndFault last old new left NoMemory = BreaksOff g last left × (new ≡ old)
  HasEndFault last old new left Write = IsUnshownEnd last old new left

  -- ---- the whole

  -- What a live run comes to that heard these lines, the newest first. Its report is one of the
  -- sessions that these lines make
  pub record ComesTo (store : S) (list : List Heard) (told : Told) (left : S)
      (old new : W) : Type 0 where
    -- legal, serially correct, finished, with the table that is due
    pub report : IsReport told
    pub labels : told.labels ≡ labels_in (sessions_heard list)
    pub in_turn : IsInterleaving told.opening (sessions_heard list) told.history
    pub finished : IsFinished (sessions_heard list) told.history
    -- over the rows that the store answered; it was asked for each commit before that was replied
    pub asked : WasAsked g store told.opening told.history left
    pub opening : g.doubt left ≡ 0 → value_in told.opening ≡ g.table store
    -- the store has the final table until its device fails, with the numbers that the history
    -- gives
    pub stored : IsTrusted g left → g.table left ≡ value_in told.table
    pub numbered : IsTrusted g left
        → IsNumberedAfter (g.numbered store) told.history (g.numbered left)
    pub refusals : g.faults left ≡ counted (g.faults store + store_refusals told.history)
    -- the writer got the whole report, and whoever checks it accepts it
    pub written : Appends (w.contents old) (w.contents new) (spelled_report told)
    pub accepted : HasVerdict (spelled_report told) Yes

module _ {R S W E : Type 0} (r : Reader R) (g : Ghosts S) (w : Writer W) (e : Writer E)
    (store : S) (in_old in_new : R) (out_old out_new : W) (err_old err_new : E) where
  -- The opening, the lines of the input up to its end, and the end of the run, one behind another
  pub record IsLived (left : S) : Type 0 where
    pub first : Turning S
    pub opened : W
    pub begins : Begins g w store first out_old opened
    pub last : Turning S
    pub between : W
    pub heard : HearsAll r g w e (moment in_old holds_nothing first opened err_old)
        in_new last between err_new
    pub finishes : Finishes g w last left between out_new
    pub comes : ComesTo g w store heard.list finishes.told left out_old out_new

  -- it failed at the opening, and nothing was read
  pub record FailsAtOpening (left : Option S) (fault : LiveFault) : Type 0 where
    pub cause : HasBeginFault g w store out_old out_new left fault
    pub unread : in_new ≡ in_old
    pub untold : err_new ≡ err_old

  -- while lines were heard
  pub record FailsAtLine (left : Option S) (fault : LiveFault) : Type 0 where
    pub given : S
    pub is : left ≡ Some given
    pub first : Turning S
    pub opened : W
    pub begins : Begins g w store first out_old opened
    pub breaks : BreaksHearing r g w e (moment in_old holds_nothing first opened err_old)
        in_new out_new err_new given fault

  -- behind them
  pub record FailsAtEnd (left : Option S) (fault : LiveFault) : Type 0 where
    pub given : S
    pub is : left ≡ Some given
    pub first : Turning S
    pub opened : W
    pub begins : Begins g w store first out_old opened
    pub last : Turning S
    pub between : W
    pub heard : HearsAll r g w e (moment in_old holds_nothing first opened err_old)
        in_new last between err_new
    pub cause : HasEndFault g w last between out_new given fault

  -- why it failed. The store comes back as the run left it, unless it was not opened
  abbrev pub HasLiveCause : Option S → LiveFault → Type 0
  HasLiveCause left fault = FailsAtOpening left fault
      ⊎ (FailsAtLine left fault ⊎ FailsAtEnd left fault)

-- it failed for a cause, and the error writer got the line of that behind those of the lines that
-- were not taken
pub record IsUnlived {R S W E : Type 0} (r : Reader R) (g : Ghosts S) (w : Writer W)
    (e : Writer E) (store : S) (in_old in_new : R) (out_old out_new : W)
    (err_old err_new : E) (left : Option S) : Type 0 where
  pub fault : LiveFault
  pub err : E
  pub cause : HasLiveCause r g w e store in_old in_new out_old out_new err_old err left fault
  pub said : IsSaid e err err_new (spelled_end fault)

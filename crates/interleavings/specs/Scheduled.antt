-- What the parts of a run come to.
use Rattle.std.specs.Prelude.{◌≡◌, ◌≤◌, ℕ, zero, suc, List, length}
use Rattle.serial_spec.specs.History.{History}
use Rattle.serial_spec.specs.Rows.{Rows}
use Rattle.serial_spec.specs.Interleaving.{Session, AllAnswered}
use Rattle.serial_spec.specs.Follows.{Steps, StepOfEach, Round, Rounds}
use Rattle.durable_top.specs.declared.store.TopStore.{Ghosts}
use Rattle.txn_history.specs.Turns.{IsUnderWay}
use Rattle.manager_core.specs.Sound.{IsSound}
use Rattle.run_reports.specs.Told.{Told}
use Rattle.interleavings.specs.Attempts.{GoesOn}
use Rattle.interleavings.specs.Turning.{Turning, IsClosed, NoneGoesOn}

-- ---- the parts of a run

-- the sessions are the same, over a manager that went on
pub record Goes {S : Type 0} (g : Ghosts S) (old new : Turning S) : Type 0 where
  pub sessions : new.sessions ≡ old.sessions
  pub on : GoesOn g old.core new.core

-- the sessions are under way, over a manager that is sound
pub record Stands {S : Type 0} (g : Ghosts S) (t : Turning S) : Type 0 where
  pub way : IsUnderWay t.core.rows t.sessions t.core.history
  pub sound : IsSound g t.core

-- the store comes back from them, and was asked nothing more
pub record LetsGo {S : Type 0} (g : Ghosts S) (t : Turning S) (left : S) : Type 0 where
  pub stands : Stands g t
  pub store : left ≡ t.core.store

-- they went on for a while, and the store comes back as it was left then
pub record BreaksOff {S : Type 0} (g : Ghosts S) (old : Turning S) (left : S) : Type 0 where
  pub last : Turning S
  pub goes : Goes g old last
  pub go : LetsGo g last left

-- the attempts of this list
pub record RunsList {S : Type 0} (g : Ghosts S) (list : List ℕ) (old new : Turning S) : Type 0 where
  pub goes : Goes g old new
  pub steps : Steps old.core.rows old.sessions list old.core.history new.core.history

-- an attempt of each of the first n sessions
pub record RunsEach {S : Type 0} (g : Ghosts S) (n : ℕ) (old new : Turning S) : Type 0 where
  pub goes : Goes g old new
  pub each : StepOfEach old.core.rows old.sessions n old.core.history new.core.history

-- an attempt of each of the first sessions, of as many as it is
pub record RunsSome {S : Type 0} (g : Ghosts S) (old new : Turning S) : Type 0 where
  pub count : ℕ
  pub few : count ≤ length old.sessions
  pub runs : RunsEach g count old new

pub record RunsRound {S : Type 0} (g : Ghosts S) (old new : Turning S) : Type 0 where
  pub goes : Goes g old new
  pub round : Round old.core.rows old.sessions old.core.history new.core.history

-- so many rounds
pub record RunsSoFar {S : Type 0} (g : Ghosts S) (old new : Turning S) : Type 0 where
  pub goes : Goes g old new
  pub count : ℕ
  pub rounds : Rounds old.core.rows old.sessions count old.core.history new.core.history

-- rounds, until no line is left
pub record RunsAll {S : Type 0} (g : Ghosts S) (old new : Turning S) : Type 0 where
  pub goes : Goes g old new
  pub count : ℕ
  pub rounds : Rounds old.core.rows old.sessions count old.core.history new.core.history
  pub all : AllAnswered old.sessions new.core.history

-- each session is attempted, so many times
abbrev pub StepsOfAll : Rows → List Session → ℕ → History → History → Type 0
StepsOfAll rows ss zero h h2 = h2 ≡ h
StepsOfAll rows ss (suc n) h h2 = (mid : History) × StepsOfAll rows ss n h mid
    × StepOfEach rows ss (length ss) mid h2

-- so far
pub record SettlesSoFar {S : Type 0} (g : Ghosts S) (old new : Turning S) : Type 0 where
  pub goes : Goes g old new
  pub count : ℕ
  pub steps : StepsOfAll old.core.rows old.sessions count old.core.history new.core.history

-- so far, and then an attempt of each of the first sessions, of as many as it is
pub record SettlesPartly {S : Type 0} (g : Ghosts S) (old new : Turning S) : Type 0 where
  pub between : Turning S
  pub so_far : SettlesSoFar g old between
  pub some : RunsSome g between new

-- until no session's next line may be answered or begin to wait
pub record Settles {S : Type 0} (g : Ghosts S) (old new : Turning S) : Type 0 where
  pub goes : Goes g old new
  pub count : ℕ
  pub steps : StepsOfAll old.core.rows old.sessions count old.core.history new.core.history
  pub settled : NoneGoesOn old.core.rows old.sessions new.core.history

-- the schedule's attempts, and then the rounds
pub record RunsWhole {S : Type 0} (g : Ghosts S) (schedule : List ℕ)
    (old new : Turning S) : Type 0 where
  pub between : Turning S
  pub list : RunsList g schedule old between
  pub all : RunsAll g between new

-- those, and then the close
pub record RunsOut {S : Type 0} (g : Ghosts S) (schedule : List ℕ) (old : Turning S) (r : Told)
    (left : S) : Type 0 where
  pub last : Turning S
  pub whole : RunsWhole g schedule old last
  pub closed : IsClosed g last r left

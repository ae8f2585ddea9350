-- In which order the lines of sessions are attempted, and what a run in that order comes to.
use Rattle.std.specs.Prelude.{ℕ, List}
use Rattle.serial_spec.specs.Interleaving.{Session}
use Rattle.durable_top.specs.declared.store.TopStore.{Ghosts}
use Rattle.run_reports.specs.Told.{Told}
use Rattle.interleavings.specs.Runs.{IsRun}
use Rattle.interleavings.specs.Served.{IsServed}

-- by the schedule and then in rounds, or by worker threads in an order that nobody says
pub data Way : Type 0 where
  Scheduled : List ℕ → Way
  ByWorkers : Way

-- the report of these sessions' run, and the store that comes back with it
abbrev pub IsRunBy : {S : Type 0} → Ghosts S → List Session → Way → S → Told → S → Type 0
IsRunBy g ss (Scheduled schedule) store r left = IsRun g ss schedule store r left
IsRunBy g ss ByWorkers store r left = IsServed g ss store r left

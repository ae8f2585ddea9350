-- By which fault of the program a fault of a run is told.
use Rattle.session_text.specs.declared.fault.TextFault.TheVariants as read
use Rattle.manager_core.specs.declared.outcome.OpenFault.TheVariants as opening
use Rattle.interleavings.specs.declared.run.RunFault.TheVariants as ran
use Rattle.interleavings.specs.declared.served.ServeFault.TheVariants as served
use Rattle.program_words.specs.declared.fault.Fault.{Fault}
use Rattle.program_words.specs.declared.fault.Fault.TheVariants.{Line, Schedule, CannotOpen, TooManyRows, NoMemory, CannotStart, CannotWrite}
use Rattle.session_runs.specs.declared.replay.ReplayFault.{ReplayFault}
use Rattle.session_runs.specs.declared.replay.ReplayFault.TheVariants.{Text, Run, Serve, Write}

-- the fault of the program by which a fault of a run is told
abbrev pub told : ReplayFault → Fault
told (Text (read.Bad line kind)) = Line line kind
told (Text read.NoMemory) = NoMemory
told (Run ran.NoMemory) = NoMemory
told (Run (ran.Open opening.NoMemory)) = NoMemory
told (Run (ran.Open (opening.Store fault))) = CannotOpen
told (Run (ran.Open opening.TooManyRows)) = TooManyRows
told (Run (ran.Schedule place)) = Schedule place
told (Serve served.NoMemory) = NoMemory
told (Serve (served.Open opening.NoMemory)) = NoMemory
told (Serve (served.Open (opening.Store fault))) = CannotOpen
told (Serve (served.Open opening.TooManyRows)) = TooManyRows
told (Serve served.Thread) = CannotStart
told (Write fault) = CannotWrite

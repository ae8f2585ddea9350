-- What the system says of the program's arguments.
use Rattle.std.specs.Prelude.{ℕ, List, String, Result, IsOkAnd, codes, drop}
use Rattle.std.specs.declared.vec.IntoIter.{IntoIter}
use Rattle.std.specs.Vec.Iter.{into_iter_items}
use Rattle.std.specs.declared.io.ErrorKind.{ErrorKind}
use Rattle.std.specs.declared.io.ErrorKind.TheVariants.{OutOfMemory}
use Rattle.line_language.specs.Report.{line}
use Rattle.program_words.specs.declared.status.TheConstants.{FAILED, MISUSED}
use Rattle.program_words.specs.declared.fault.Fault.TheVariants.{NoMemory}
use Rattle.program_words.specs.Faults.{spelled_fault}
use Rattle.command_line.specs.Tasks.{AskedBy}
use Rattle.command_line.specs.declared.task.Task.{Task}

-- the system says what they are, and those behind the program's name ask for the task
abbrev pub AskedIn : {Y Z F : Type 0} → Result (IntoIter (String Z) Y) F → Task → Type 0
AskedIn args task = IsOkAnd args (λ a. AskedBy (drop 1 (into_iter_items a)) task)

-- what is told where it does not, and the exit status
abbrev pub line_of_no_words : ErrorKind → List ℕ
line_of_no_words OutOfMemory = spelled_fault NoMemory
line_of_no_words kind = line (codes "tx: the command line is not text")

abbrev pub status_of_no_words : ErrorKind → ℕ
status_of_no_words OutOfMemory = FAILED
status_of_no_words kind = MISUSED

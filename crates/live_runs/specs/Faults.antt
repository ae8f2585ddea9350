-- By which line the program tells why a live run gave no whole report.
use Rattle.std.specs.Prelude.{ℕ, List, codes}
use Rattle.line_language.specs.Report.{line}
use Rattle.manager_core.specs.declared.outcome.OpenFault.TheVariants as opening
use Rattle.program_words.specs.Faults.{spelled_fault}
use Rattle.program_words.specs.declared.fault.Fault.TheVariants as fault
use Rattle.live_runs.specs.declared.fault.LiveFault.{LiveFault}
use Rattle.live_runs.specs.declared.fault.LiveFault.TheVariants.{Open, Read, NoMemory, Write}

-- what the line says of each fault, with its line feed
abbrev pub spelled_end : LiveFault → List ℕ
spelled_end (Open opening.NoMemory) = spelled_fault fault.NoMemory
spelled_end (Open (opening.Store cause)) = spelled_fault fault.CannotOpen
spelled_end (Open opening.TooManyRows) = spelled_fault fault.TooManyRows
spelled_end Read = line (codes "tx: cannot read -")
spelled_end NoMemory = spelled_fault fault.NoMemory
spelled_end Write = spelled_fault fault.CannotWrite

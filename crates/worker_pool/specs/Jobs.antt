-- Jobs within the limits.
use Rattle.std.specs.Prelude.{ℕ, ◌<◌, ◌≤◌, List, Option, IfSome}
use Rattle.std.specs.List.{AllByRecursion}
use Rattle.serial_spec.specs.declared.limits.TheConstants.{MOST_LINES, MOST_SESSIONS}
use Rattle.worker_pool.specs.declared.jobs.Job.{Job}
use Rattle.worker_pool.specs.declared.jobs.Job.TheVariants.{Line, Stop}

-- a line that a text may have, or a stop
abbrev pub IsJob : Job → Type 0
IsJob (Line session line parked) = (session < MOST_SESSIONS) × (0 < line) × (line ≤ MOST_LINES)
IsJob Stop = Unit {0}

abbrev pub AreJobs : List Job → Type 0
AreJobs = AllByRecursion IsJob

-- the next line of session s, if it has one, is a job
abbrev pub IsNextJob : ℕ → Option ℕ → Type 0
IsNextJob s next = IfSome next (λ line. (s < MOST_SESSIONS) × (0 < line) × (line ≤ MOST_LINES))

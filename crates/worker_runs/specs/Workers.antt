-- How many workers there may be, and how many a word asks for.
use Rattle.std.specs.Prelude.{ℕ, ◌≤◌, ◌<◌, List, Option, Some, None, ℤ, pos, negsuc, ◌&&◌, nat_lt, nat_le, if◌then◌else◌}
use Rattle.line_language.specs.Numbers.{number_of}
use Rattle.worker_pool.specs.declared.workers.TheConstants.{MOST_WORKERS}

-- at least one worker, and no more than there may be
abbrev pub AreFew : ℕ → Type 0
AreFew count = (0 < count) × (count ≤ MOST_WORKERS)

-- the number of a word, where it is one of few workers
abbrev pub when_few : Option ℤ → Option ℕ
when_few None = None
when_few (Some (pos n)) = if nat_lt 0 n && nat_le n MOST_WORKERS then Some n else None
when_few (Some (negsuc n)) = None

-- how many workers there are by the word, or with none
abbrev pub workers_of : Option (List ℕ) → Option ℕ
workers_of None = Some 4
workers_of (Some word) = when_few (number_of word)

-- The list of a schedule: session numbers, one comma apart.
use Rattle.std.specs.Prelude.{ℕ, ℤ, pos, negsuc, ◌^◌, nat_lt, ◌==◌, if◌then◌else◌, List, [], map, Option, Some, None}
use Rattle.std.specs.List.{slice_split}
use Rattle.line_language.specs.Numbers.{number_of}

-- what stands for an item that is no number of 32 bits: the greatest of them, which is no
-- session's
abbrev pub no_session : ℕ
no_session = 4294967295

-- the number, if it is one of 32 bits
abbrev pub within_32_bits : Option ℤ → ℕ
within_32_bits None = no_session
within_32_bits (Some (pos n)) = if nat_lt n (2 ^ 32) then n else no_session
within_32_bits (Some (negsuc n)) = no_session

-- the session that an item names
abbrev pub session_in : List ℕ → ℕ
session_in item = within_32_bits (number_of item)

-- the empty list is one item, which has no bytes
abbrev pub schedule_of : List ℕ → List ℕ
schedule_of list = map session_in (slice_split (λ b. b == 44) list)

-- without a list nobody is attempted by the schedule
abbrev pub attempts_of : Option (List ℕ) → List ℕ
attempts_of None = []
attempts_of (Some list) = schedule_of list

-- What a search has room for.
use Rattle.std.specs.Prelude.{ℕ, min, vec_capacity}
use Rattle.wait_cycles.specs.declared.finder.Space.{Space}

-- how many pairs
abbrev pub room_of : Space → ℕ
room_of s = min (vec_capacity s.sorted) (min (vec_capacity s.starts) s.trail.capacity)

-- Marks that tell at which places somebody may wait for which keys.
use Rattle.std.specs.Prelude.{◌≡◌, ℕ, ◌+◌, ◌-◌, ◌*◌, ◌%◌, false, min, List, length, get_or, slice_get, Some}
use Rattle.std.specs.Int.{bit_at}
use Rattle.serial_spec.specs.declared.target.Asked.{Asked}
use Rattle.serial_spec.specs.declared.target.Asked.TheVariants.{At, Over}
use Rattle.serial_spec.specs.declared.target.Target.TheVariants.{Key}
use Rattle.serial_spec.specs.Targets.{meets, target}
use Rattle.wait_cycles.specs.declared.sieve.Sieve.{Sieve}
use Rattle.wait_cycles.specs.declared.waits.Wait.{Wait}

-- a set has this place: each below 63 has a bit of its own, and all from 63 on share one
abbrev pub HasPlace : ℕ → ℕ → Type 0
HasPlace places p = bit_at places (min p 63) ≡ 1

abbrev pub LacksPlace : ℕ → ℕ → Type 0
LacksPlace places p = bit_at places (min p 63) ≡ 0

-- the mark of a key, by its last two bytes and its second and third
abbrev pub mark_of : List ℕ → ℕ
mark_of k =
    (get_or k (length k - 1) 0 + 16 * get_or k (length k - 2) 0
    + (5 * get_or k 1 0 + 97 * get_or k 2 0)) % 256

-- the places of the mark of what is asked: that of its key, or that of all sums
abbrev pub places_for : Sieve → Asked → ℕ
places_for s (At k o) = get_or s.marks (mark_of k) 0
places_for s (Over g) = s.sums

-- whatever has a mark with this place has no key in common with it
abbrev pub IsUnmetAt : Sieve → List ℕ → ℕ → Type 0
IsUnmetAt s k p = (a : Asked) → HasPlace (places_for s a) p → meets (Key k) (target a) ≡ false

-- of each of these the mark of what it asks has its place
abbrev pub AreMarked : Sieve → List Wait → Type 0
AreMarked s ws = (i : ℕ) (w : Wait) → slice_get ws i ≡ Some w → HasPlace (places_for s w.asked) i

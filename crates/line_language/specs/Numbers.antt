-- Numbers as they are spelled: `0`, or digits of which the first is not `0`, with a `-` before them
-- or not.
use Rattle.std.specs.Prelude.{ℕ, ℤ, Bool, false, not, ◌&&◌, ◌||◌, ◌==◌, if◌then◌else◌, List, [], ◌∷◌, drop, codes, Option, Some, None}
use Rattle.std.specs.Char.{is_ascii_digit}
use Rattle.std.specs.List.{list_all}
use Rattle.std.specs.Str.{bytes_eq}
use Rattle.std.specs.Str.Parse.{signed_digits_value, starts_with_minus}
use Rattle.serial_spec.specs.Operations.{is_i64}

-- digits of which the first is not 0
abbrev pub is_count : List ℕ → Bool
is_count [] = false
is_count (d ∷ ds) = not (d == 48) && list_all is_ascii_digit (d ∷ ds)

abbrev pub without_minus : List ℕ → List ℕ
without_minus bs = if starts_with_minus bs then drop 1 bs else bs

abbrev pub is_numeral : List ℕ → Bool
is_numeral bs = bytes_eq bs (codes "0") || is_count (without_minus bs)

-- the number that the bytes spell, where it is an i64
abbrev pub number_of : List ℕ → Option ℤ
number_of bs =
    if is_numeral bs && is_i64 (signed_digits_value 10 bs) then Some (signed_digits_value 10 bs)
    else None

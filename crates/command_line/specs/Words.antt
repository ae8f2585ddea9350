-- The words of a command line.
use Rattle.std.specs.Prelude.{ℕ, List, ◌∷◌, String, codes, map, string_bytes}

-- the texts of the words behind the program's name, and that name before them
abbrev pub with_name : {Z : Type 0} → List (String Z) → List (List ℕ)
with_name words = codes "tx" ∷ map string_bytes words

-- The keys that a report names, each with its number, and their values.
use Rattle.std.specs.Prelude.{◌≡◌, ℕ, ℤ, List, [], ◌∷◌, ◌++◌, slice_get, Option, Some, None}
use Rattle.std.specs.Map.{lookup}
use Rattle.txn_names.specs.Path.{label_eq}
use Rattle.serial_spec.specs.Rows.{Rows}
use Rattle.serial_spec.specs.Serial.{Map}

-- the keys, in the order in which they are first named, with their values
abbrev pub Values : Type 0
Values = List (List ℕ × Option ℤ)

abbrev pub joined : Option (Option ℤ) → Option ℤ
joined None = None
joined (Some v) = v

-- what each key has
abbrev pub value_at : Values → Map
value_at es k = joined (lookup (label_eq k) es)

-- this holds of what stands at the place, if something does
abbrev pub AtPlace : {X : Type 0} → List X → ℕ → (X → Type 0) → Type 0
AtPlace {X} xs n P = (x : X) → slice_get xs n ≡ Some x → P x

-- the same of a key and its value
abbrev pub AtEntry : Values → ℕ → (List ℕ → Option ℤ → Type 0) → Type 0
AtEntry es n P = (k : List ℕ) (v : Option ℤ) → slice_get es n ≡ Some (k, v) → P k v

-- the second list is the first with more behind it
abbrev pub Extends : {X : Type 0} → List X → List X → Type 0
Extends {X} xs ys = (more : List X) × (ys ≡ xs ++ more)

abbrev pub with_present : List ℕ → Option ℤ → Rows → Rows
with_present k None rows = rows
with_present k (Some v) rows = (k, v) ∷ rows

-- the keys that have values
abbrev pub present : Values → Rows
present [] = []
present (e ∷ es) = with_present e.0 e.1 (present es)

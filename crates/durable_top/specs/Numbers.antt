-- The numbers of a table, kept in memory beside it, and the greatest of them.
use Rattle.std.specs.Prelude.{◌≡◌, ◌⊎◌, ℕ, ℤ, pos, ◌≤ℤ◌, if◌then◌else◌, List, [], ◌∷◌, map, Option, Some, None, IfSome}
use Rattle.std.specs.List.{AllByRecursion}
use Rattle.std.specs.Option.{option_map}
use Rattle.txn_names.specs.declared.change.Change.{Change}
use Rattle.txn_names.specs.Path.{label_eq}
use Rattle.serial_spec.specs.Changes.{change_at}
use Rattle.serial_spec.specs.History.{or_else}
use Rattle.serial_spec.specs.Rows.{Rows, value_in}
use Rattle.serial_spec.specs.Serial.{Map}
use Rattle.durable_top.specs.declared.store.Row.{Row}

-- the numbers, how many more rows they can take without memory, and the greatest
pub record Numbers : Type 0 where
  pub rows : Rows
  pub room : ℕ
  pub top : ℤ

abbrev pub number_or : ℤ → Option (Option ℤ) → Option ℤ → Option ℤ
number_or n None x = x
number_or n (Some v) x = option_map (λ _. n) v

-- the numbers with the changes made under one
abbrev pub renumbered : ℤ → List Change → Map → Map
renumbered n cs m k = number_or n (change_at cs k) (m k)

-- the keys of rows and their numbers
abbrev pub numbers_in : List Row → Rows
numbers_in rows = map (λ r. (r.key, r.commit)) rows

-- no number is below 0 or above this one, which some key has, or it is 0
pub record IsTopIn (m : Map) (top : ℤ) : Type 0 where
  pub least : pos 0 ≤ℤ top
  pub bounds : (k : List ℕ) → IfSome (m k) (λ n. (pos 0 ≤ℤ n) × (n ≤ℤ top))
  pub met : (top ≡ pos 0) ⊎ ((k : List ℕ) × (m k ≡ Some top))

abbrev pub Has : {X : Type 0} → List X → X → Type 0
Has [] x = ⊥
Has (y ∷ ys) x = (x ≡ y) ⊎ Has ys x

-- no number of these rows is above this one, which is 0 or the number of a key
pub record IsTopOf (rows : Rows) (top : ℤ) : Type 0 where
  pub least : pos 0 ≤ℤ top
  pub bounds : AllByRecursion (λ r. r.1 ≤ℤ top) rows
  pub met : (top ≡ pos 0) ⊎ ((k : List ℕ) × (value_in rows k ≡ Some top))

-- one of the changes gives a value
abbrev pub HasValue : List Change → Type 0
HasValue cs = (c : Change) × (v : ℤ) × Has cs c × (c.value ≡ Some v)

-- no change is at a key that has this number
abbrev pub IsKept : Map → ℤ → List Change → Type 0
IsKept m n cs = AllByRecursion (λ c. m c.key ≡ Some n → ⊥) cs

-- the map in which the key has this value where it had none
abbrev pub with_first : Map → List ℕ → ℤ → Map
with_first m key v k = or_else (m k) (if label_eq key k then Some v else None)

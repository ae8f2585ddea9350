-- A table in which each key has, beside its value, the number of the commit that set it.
use Rattle.std.specs.Prelude.{◌≡◌, ◌⊎◌, ◌-◌, ◌^◌, ℕ, ℤ, pos, ◌+ℤ◌, ◌≤ℤ◌, if◌then◌else◌, List, [], ◌∷◌, Option, Some, None, IfSome}
use Rattle.std.specs.List.{AllByRecursion}
use Rattle.std.specs.Option.{option_map}
use Rattle.txn_names.specs.Path.{label_eq}
use Rattle.txn_names.specs.declared.change.Change.{Change}
use Rattle.serial_spec.specs.Changes.{change_at}
use Rattle.serial_spec.specs.Serial.{Map}
use Rattle.durable_top.specs.declared.store.Row.{Row}

-- what each key has: its value and its number
abbrev pub Numbered : Type 0
Numbered = List ℕ → Option (ℤ × ℤ)

-- the values alone
abbrev pub values_of : Numbered → Map
values_of m k = option_map (λ e. e.0) (m k)

-- the numbers alone
abbrev pub numbers_of : Numbered → Map
numbers_of m k = option_map (λ e. e.1) (m k)

-- the value that a change gives, with the number of its commit
abbrev pub under : ℤ → Option ℤ → Option (ℤ × ℤ)
under n v = option_map (λ w. (w, n)) v

abbrev pub entry_or : ℤ → Option (Option ℤ) → Option (ℤ × ℤ) → Option (ℤ × ℤ)
entry_or n None e = e
entry_or n (Some v) e = under n v

-- the table with the changes made under a number: each key that is given a value has this number,
-- also where it had the value
abbrev pub overlay_numbered : ℤ → List Change → Numbered → Numbered
overlay_numbered n cs m k = entry_or n (change_at cs k) (m k)

-- no number is below 0 or above this one, which some key has, or it is 0
pub record IsGreatest (m : Numbered) (top : ℤ) : Type 0 where
  pub least : pos 0 ≤ℤ top
  pub bounds : (k : List ℕ) → IfSome (m k) (λ e. (pos 0 ≤ℤ e.1) × (e.1 ≤ℤ top))
  pub met : (top ≡ pos 0) ⊎ ((k : List ℕ) × (v : ℤ) × (m k ≡ Some (v, top)))

-- the greatest number that a row can have
abbrev pub last_number : ℤ
last_number = pos (2 ^ 63 - 1)

-- the changes are made under the number above the greatest, which a row can have
pub record Follows (changes : List Change) (old new : Numbered) : Type 0 where
  pub top : ℤ
  pub greatest : IsGreatest old top
  pub fits : (top +ℤ pos 1) ≤ℤ last_number
  pub is : new ≡ overlay_numbered (top +ℤ pos 1) changes old

-- what a commit makes of the table: no changes leave it as it is
abbrev pub Commits : List Change → Numbered → Numbered → Type 0
Commits changes old new = ((changes ≡ []) × (new ≡ old)) ⊎ Follows changes old new

-- there are changes, and no number is left for their commit
pub record IsFull (changes : List Change) (m : Numbered) : Type 0 where
  pub some : changes ≡ [] → ⊥
  pub last : IsGreatest m last_number

-- ---- rows

-- what the rows say of each key
abbrev pub entries_in : List Row → Numbered
entries_in [] k = None
entries_in (r ∷ rs) k = if label_eq r.key k then Some (r.value, r.commit) else entries_in rs k

-- no number is below 0
abbrev pub AreNumbered : List Row → Type 0
AreNumbered rows = AllByRecursion (λ r. pos 0 ≤ℤ r.commit) rows

-- The sums over groups, beside the values of the keys.
use Rattle.std.specs.Prelude.{◌≡◌, ◌<◌, ◌^◌, ℕ, ℤ, pos, neg_ℤ, ◌+ℤ◌, ◌≤ℤ◌, if◌then◌else◌, List, [], ◌∷◌, length, Option}
use Rattle.std.specs.List.{AllByRecursion, IsDistinct}
use Rattle.std.specs.Map.{keys_of}
use Rattle.txn_names.specs.Path.{label_eq}
use Rattle.txn_names.specs.Groups.{has}
use Rattle.txn_names.specs.Text.{IsKey}
use Rattle.serial_spec.specs.Operations.{amount}
use Rattle.serial_spec.specs.Sums.{sum_in}
use Rattle.report_tables.specs.Valued.{Values, value_at}

-- the groups, in the order in which they are first named, with their sums
abbrev pub Sums : Type 0
Sums = List (List ℕ × ℤ)

-- far from the ends of an i128
pub record IsSmall (s : ℤ) : Type 0 where
  pub least : neg_ℤ (pos (2 ^ 126)) ≤ℤ s
  pub most : s ≤ℤ pos (2 ^ 126)

-- to each sum was added what is due to its group
abbrev pub raised : (List ℕ → ℤ) → Sums → Sums
raised f [] = []
raised f (e ∷ ss) = (e.0, e.1 +ℤ f e.0) ∷ raised f ss

-- d for the one group
abbrev pub at_group : List ℕ → ℤ → List ℕ → ℤ
at_group f d g = if label_eq f g then d else pos 0

-- d for each group of the key
abbrev pub by_key : List ℕ → ℤ → List ℕ → ℤ
by_key k d g = if has g k then d else pos 0

-- groups have bytes
abbrev pub AreNamed : Sums → Type 0
AreNamed ss = AllByRecursion (λ e. 0 < length e.0) ss

-- there is room to add d where this holds of the group
abbrev pub HaveRoom : (List ℕ → Type 0) → ℤ → Sums → Type 0
HaveRoom P d ss = AllByRecursion (λ e. P e.0 → IsSmall (e.1 +ℤ d)) ss

-- a value is an i64 or none
pub record IsValue (v : Option ℤ) : Type 0 where
  pub least : neg_ℤ (pos (2 ^ 63)) ≤ℤ amount v
  pub most : amount v ≤ℤ pos (2 ^ 63)

pub record IsFine (e : List ℕ × Option ℤ) : Type 0 where
  pub key : IsKey e.0
  pub value : IsValue e.1

-- each sum is that of the values; keys are keys, each once, and values numbers
pub record AreCounted (es : Values) (ss : Sums) : Type 0 where
  pub few : length es < 2 ^ 63
  pub distinct : IsDistinct label_eq (keys_of es)
  pub fine : AllByRecursion IsFine es
  pub sums : AllByRecursion (λ s. s.1 ≡ sum_in (value_at es) s.0) ss

-- where nothing is summed, nothing is asked
pub record AreTallied (es : Values) (ss : Sums) : Type 0 where
  pub named : AreNamed ss
  pub counted : 0 < length ss → AreCounted es ss

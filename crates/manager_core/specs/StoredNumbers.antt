-- The numbered table that a history leaves: the stored table, with the number of the commit that
-- set each key.
use Rattle.std.specs.Prelude.{◌≡◌, Bool, false, ℕ, List, [], ◌∷◌}
use Rattle.txn_names.specs.declared.change.Change.{Change}
use Rattle.serial_spec.specs.History.{Name, History, Effect, Commits, effect}
use Rattle.serial_spec.specs.Serial.{Map, stored}
use Rattle.serial_spec.specs.Rows.{Rows, value_in}
use Rattle.serial_spec.specs.Changes.{IsChanges}
use Rattle.serial_spec.specs.Legal.{AreAllowed, is_top_level}
use Rattle.durable_top.specs.Numbered.{Numbered, values_of}
use Rattle.durable_top.specs.Numbered.{Commits as MakesNumbered}

-- whether a top-level transaction commits
abbrev pub commits_top : Effect → Bool
commits_top (Commits t) = is_top_level t
commits_top x = false

-- The commit of t behind this history leads from one table to another: its changes are made under 1
-- more than the greatest number, and where there are none the table stays
pub record CommitsNumbered (opening : Map) (h : History) (t : Name)
    (old new : Numbered) : Type 0 where
  pub changes : List Change
  pub due : IsChanges opening h t changes
  pub made : MakesNumbered changes old new

-- what an entry behind this history makes of the table: the commit of a top-level transaction makes
-- its changes, and any other entry none
abbrev pub EntryMakes : Map → History → Effect → Numbered → Numbered → Type 0
EntryMakes opening h (Commits (l ∷ [])) old new = CommitsNumbered opening h (l ∷ []) old new
EntryMakes opening h x old new = new ≡ old

-- from the table of the opening, the commits of top-level transactions in this history, in their
-- order, lead to this one
abbrev pub IsNumberedAfter : Numbered → History → Numbered → Type 0
IsNumberedAfter opening [] left = left ≡ opening
IsNumberedAfter opening (e ∷ h) left = (before : Numbered) × IsNumberedAfter opening h before
    × EntryMakes (values_of opening) h (effect e) before left

-- ---- its laws

-- without its numbers it is the stored table
abbrev pub NumberedValues : Type 0
NumberedValues =
    (rows : Rows) (h : History) → AreAllowed rows h
    → (opening left : Numbered) → values_of opening ≡ value_in rows → IsNumberedAfter opening h left
    → (k : List ℕ) → values_of left k ≡ stored (value_in rows) h k

-- and there is one at most
abbrev pub NumberedOnce : Type 0
NumberedOnce = (opening : Numbered) (h : History) (one other : Numbered)
    → IsNumberedAfter opening h one → IsNumberedAfter opening h other → one ≡ other

-- A line, as far as it is kept.
use Rattle.std.specs.Prelude.{◌≡◌, ◌==◌, ℕ, Bool, IsFalse, List, ◌∷◌, ◌++◌, length, take, nat_lt}
use Rattle.std.specs.List.{AllByRecursion}

-- the bytes that are kept, and whether there were more
pub record Keeps : Type 0 where
  pub kept : List ℕ
  pub more : Bool

-- of the line with these bytes all are kept, or the first 346 of more
pub record KeepsLine (bs : List ℕ) (k : Keeps) : Type 0 where
  pub kept : k.kept ≡ take 346 bs
  pub more : k.more ≡ nat_lt 346 (length bs)

-- whatever line it was, it goes on with these bytes
abbrev pub Adds : List ℕ → Keeps → Keeps → Type 0
Adds more old new = (bs : List ℕ) → KeepsLine bs old → KeepsLine (bs ++ more) new

-- no line feed is among them
abbrev pub IsLine : List ℕ → Type 0
IsLine bs = AllByRecursion (λ b. IsFalse (b == 10)) bs

-- behind what was held and these bytes a line goes on
abbrev pub GoesOn : List ℕ → List ℕ → Type 0
GoesOn held bytes = IsLine (held ++ bytes)

-- of some bytes those before the first line feed went to the line, and those behind it are left
pub record EndsLine (old new : List ℕ) (before after : Keeps) : Type 0 where
  pub front : List ℕ
  pub line : IsLine front
  pub parts : old ≡ front ++ 10 ∷ new
  pub added : Adds front before after

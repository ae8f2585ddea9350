-- A list as contracts see it.
use Rattle.std.specs.Prelude.{ℕ, List}

-- its members in their order, and how many it may have without memory
pub record Slotted (T : Type 0) : Type 0 where
  pub items : List T
  pub capacity : ℕ

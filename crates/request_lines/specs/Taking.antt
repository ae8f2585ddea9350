-- Lines that are taken off a reader one at a time.
use Rattle.std.specs.Prelude.{◌≡◌, ◌≢◌, ◌<◌, ◌-◌, ◌^◌, ◌==◌, ◌⊎◌, ℕ, if◌then◌else◌, List, [], ◌∷◌, ◌++◌, length, take, Ok, Err}
use Rattle.std.specs.Io.KnownBytes.{Consumes, IsAtEnd}
use Rattle.txn_bytes.specs.Sources.{IsGiven, Reader}
use Rattle.request_lines.specs.declared.kept.TheConstants.{MOST_BYTES}
use Rattle.request_lines.specs.declared.lines.Taken.{Taken}
use Rattle.request_lines.specs.declared.lines.Taken.TheVariants.{Whole, Long, Cut, End}
use Rattle.request_lines.specs.Keeping.{GoesOn, IsLine, Keeps}

-- the bytes that the reader has given and no line has taken, and those that are kept of the line
-- that was taken last
pub record Holds : Type 0 where
  pub held : List ℕ
  pub kept : List ℕ

-- what was held and what was given since are the line, its line feed, and what is held now
pub record TakesLine {R : Type 0} (r : Reader R) (old new : R) (before after : Holds)
    (line : List ℕ) : Type 0 where
  pub calls : ℕ
  pub bytes : List ℕ
  pub given : IsGiven r (GoesOn before.held) calls old new bytes
  pub parts : before.held ++ bytes ≡ line ++ 10 ∷ after.held
  pub unbroken : IsLine line
  pub kept : after.kept ≡ take MOST_BYTES line

-- what was held and what was given since has no line feed, and then the reader said that it was at
-- its end
pub record TakesLast {R : Type 0} (r : Reader R) (old new : R) (before after : Holds)
    (line : List ℕ) : Type 0 where
  pub calls : ℕ
  pub bytes : List ℕ
  pub last : R
  pub given : IsGiven r (GoesOn before.held) calls old last bytes
  pub parts : before.held ++ bytes ≡ line
  pub unbroken : IsLine line
  pub ended : r.gives last new (Ok [])
  pub taken : Consumes (r.remaining old) (r.remaining new) bytes
  pub at_end : IsAtEnd (r.remaining new)
  pub left : after.held ≡ []
  pub kept : after.kept ≡ take MOST_BYTES line

-- what was taken
abbrev pub Takes : {R : Type 0} → Reader R → R → R → Holds → Holds → Taken → Type 0
Takes r old new before after Whole = TakesLine r old new before after after.kept
Takes r old new before after Long =
    (line : List ℕ) × TakesLine r old new before after line × (MOST_BYTES < length line)
Takes r old new before after Cut =
    (line : List ℕ) × TakesLast r old new before after line × (line ≢ [])
Takes r old new before after End = TakesLast r old new before after []

-- no line was taken: behind these bytes, which have no line feed, the reader answered an error, or
-- it was called too many times
pub record Stops {R : Type 0} (r : Reader R) (old new : R) (before after : Holds) : Type 0 where
  pub line : List ℕ
  pub calls : ℕ
  pub bytes : List ℕ
  pub last : R
  pub given : IsGiven r (GoesOn before.held) calls old last bytes
  pub taken : Consumes (r.remaining old) (r.remaining new) bytes
  pub parts : before.held ++ bytes ≡ line ++ after.held
  pub unbroken : IsLine line
  pub kept : after.kept ≡ take MOST_BYTES line
  pub cause : ((after.held ≡ []) × r.gives last new (Err (record {})))
      ⊎ ((calls ≡ 2 ^ 64 - 1) × (new ≡ last))

-- which kind it is, by what is kept
abbrev pub at_end : Keeps → Taken
at_end k = if length k.kept == 0 then End else Cut

abbrev pub at_feed : Keeps → Taken
at_feed k = if k.more then Long else Whole

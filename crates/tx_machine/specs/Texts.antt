-- What the file at a path gave.
use Rattle.std.specs.Prelude.{◌<◌, ◌≤◌, ◌⊎◌, ℕ, List, length, Ok, Err}
use Rattle.txn_bytes.specs.Sources.{HasGiven, IsPartRead, IsReadWhole, IsUnread, Reader}
use Rattle.tx_machine.specs.declared.host.Surroundings as surroundings
use Rattle.tx_machine.specs.declared.reading.TheConstants.{LONGEST_TEXT}
use Rattle.tx_machine.specs.declared.reading.TextFault.{TextFault}
use Rattle.tx_machine.specs.declared.reading.TextFault.TheVariants.{NoMemory, Unread}

-- the bytes are no more than a text may have, so that more is wanted
abbrev pub IsShort : List ℕ → Type 0
IsShort bytes = length bytes ≤ LONGEST_TEXT

module _ {R : Type 0} (r : Reader R) (old new : R) where
  -- the reader gave these bytes up to its end, and they are no more than a text may have
  abbrev pub IsWholeText : List ℕ → Type 0
  IsWholeText text = IsReadWhole r IsShort old new text

  -- it gave more bytes than a text may have
  pub record IsTooLong : Type 0 where
    pub calls : ℕ
    pub bytes : List ℕ
    pub given : HasGiven r IsShort calls old new bytes
    pub long : LONGEST_TEXT < length bytes

  -- why a reader gave no text: a growth was refused while it gave bytes; or it did not come to its
  -- end, or gave too many
  abbrev pub HasTextCause : TextFault → Type 0
  HasTextCause NoMemory = IsPartRead r IsShort old new
  HasTextCause Unread = IsUnread r IsShort old new ⊎ IsTooLong

-- the surroundings were asked for the file at this path and gave it, and reading took it from one
-- state to another so
pub record HasFile {H T P N : Type 0} (h : surroundings.Ghosts H T P N) (host_old host_new : H)
    (path : List ℕ) (IsTaken : T → T → Type 0) : Type 0 where
  pub file : T
  pub found : h.finds host_old host_new path (Ok file)
  pub end : T
  pub taken : IsTaken file end

module _ {H T P N : Type 0} (h : surroundings.Ghosts H T P N) (r : Reader T)
    (host_old host_new : H) (path : List ℕ) where
  -- why there is no text from this path
  abbrev pub HasUnfoundCause : TextFault → Type 0
  HasUnfoundCause NoMemory =
      HasFile h host_old host_new path (λ old new. HasTextCause r old new NoMemory)
  HasUnfoundCause Unread =
      h.finds host_old host_new path (Err (record {}))
      ⊎ HasFile h host_old host_new path (λ old new. HasTextCause r old new Unread)

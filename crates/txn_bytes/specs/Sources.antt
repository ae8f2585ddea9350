-- What the calls of a reader gave.
use Rattle.std.specs.Prelude.{◌≡◌, ◌≢◌, ◌<◌, ◌⊎◌, ℕ, zero, suc, List, [], ◌++◌, take, Option, Result, Ok, Err}
use Rattle.std.specs.Io.KnownBytes.{Consumes, IsAtEnd, Keeps}
use Rattle.txn_bytes.specs.declared.source.TheConstants.{MOST_READS}
use Rattle.txn_bytes.specs.declared.source.ReadFault.{ReadFault}

-- what is said of a reader: what it still has to give, where that is known, and which calls were
-- made of it
abbrev pub Reader : Type 0 → Type 1
Reader R = record {
  remaining : R → Option (List ℕ);
  gives : R → R → Result (List ℕ) ReadFault → Type 0;
}

-- what a call gave that filled so much of this buffer
abbrev pub given : List ℕ → Result ℕ ReadFault → Result (List ℕ) ReadFault
given buf (Ok n) = Ok (take n buf)
given buf (Err fault) = Err fault

-- ---- one call

-- it gave these bytes: none only at the end
pub record IsPiece {R : Type 0} (r : Reader R) (old new : R) (bytes : List ℕ) : Type 0 where
  pub asked : r.gives old new (Ok bytes)
  pub taken : Consumes (r.remaining old) (r.remaining new) bytes
  pub ended : bytes ≡ [] → IsAtEnd (r.remaining new)

-- it answered an error, and took nothing
pub record IsFault {R : Type 0} (r : Reader R) (old new : R) : Type 0 where
  pub asked : r.gives old new (Err (record {}))
  pub left : Keeps (r.remaining old) (r.remaining new)

-- ---- calls one behind the other. Each is made only where more is wanted behind the bytes that
-- came before it

-- a last call gave some bytes more, and so the end had not come
pub record HasGivenMore {R : Type 0} (r : Reader R) (WantsMore : List ℕ → Type 0)
    (Before : R → List ℕ → Type 0) (new : R) (bytes : List ℕ) : Type 0 where
  pub before : R
  pub front : List ℕ
  pub piece : List ℕ
  pub earlier : Before before front
  pub wanted : WantsMore front
  pub last : r.gives before new (Ok piece)
  pub some : piece ≢ []
  pub parts : bytes ≡ front ++ piece

-- so many calls gave these bytes
abbrev pub HasGiven : {R : Type 0} → Reader R → (List ℕ → Type 0) → ℕ → R → R → List ℕ → Type 0
HasGiven r WantsMore zero old new bytes = (new ≡ old) × (bytes ≡ [])
HasGiven r WantsMore (suc n) old new bytes =
    HasGivenMore r WantsMore (HasGiven r WantsMore n old) new bytes

-- and they are the reader's next
pub record IsGiven {R : Type 0} (r : Reader R) (WantsMore : List ℕ → Type 0) (calls : ℕ)
    (old new : R) (bytes : List ℕ) : Type 0 where
  pub asked : HasGiven r WantsMore calls old new bytes
  pub taken : Consumes (r.remaining old) (r.remaining new) bytes

module _ {R : Type 0} (r : Reader R) (WantsMore : List ℕ → Type 0) (old new : R) where
  -- the reader gave these bytes, and then said that it was at its end
  pub record IsReadWhole (bytes : List ℕ) : Type 0 where
    pub calls : ℕ
    pub few : calls < MOST_READS
    pub before : R
    pub given : HasGiven r WantsMore calls old before bytes
    pub wanted : WantsMore bytes
    pub ended : r.gives before new (Ok [])

  -- it gave some bytes, and may then have said that it was at its end
  pub record IsPartRead : Type 0 where
    pub before : R
    pub calls : ℕ
    pub bytes : List ℕ
    pub given : HasGiven r WantsMore calls old before bytes
    pub last : (new ≡ before) ⊎ (WantsMore bytes × r.gives before new (Ok []))
    pub taken : Consumes (r.remaining old) (r.remaining new) bytes

  -- it gave some bytes behind which more is wanted, and then it answered an error, or had not come
  -- to its end after so many calls
  pub record IsUnread : Type 0 where
    pub before : R
    pub calls : ℕ
    pub bytes : List ℕ
    pub given : HasGiven r WantsMore calls old before bytes
    pub wanted : WantsMore bytes
    pub taken : Consumes (r.remaining old) (r.remaining new) bytes
    pub cause : r.gives before new (Err (record {})) ⊎ ((calls ≡ MOST_READS) × (new ≡ before))

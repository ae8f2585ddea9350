-- What a writer holds after a write that may have stopped on the way.
use Rattle.std.specs.Prelude.{◌≡◌, ◌≢◌, ℕ, List, [], ◌++◌, Option, Result, Err, OnOk, OnErr}
use Rattle.std.specs.Io.KnownBytes.{Appends}
use Rattle.txn_bytes.specs.declared.sink.WriteFault.{WriteFault}

-- known bytes grew by a beginning of these, and not by all
pub record AppendsFront (old new : Option (List ℕ)) (bs : List ℕ) : Type 0 where
  pub front : List ℕ
  pub rest : List ℕ
  pub parts : bs ≡ front ++ rest
  pub short : rest ≢ []
  pub written : Appends old new front

-- what is said of a writer: what it has got, where that is known, and which calls were made of it
abbrev pub Writer : Type 0 → Type 1
Writer W = record {
  contents : W → Option (List ℕ);
  takes : W → W → List ℕ → Result ℕ WriteFault → Type 0;
  flushes : W → W → Result (Unit {0}) WriteFault → Type 0;
}

-- asked in some state to take some bytes, the writer answered a fault, and was left in this state
pub record IsStopped {W : Type 0} (w : Writer W) (new : W) : Type 0 where
  pub before : W
  pub bytes : List ℕ
  pub fault : WriteFault
  pub refused : w.takes before new bytes (Err fault)

-- where the answer is no fault, the writer took all of the bytes
abbrev pub PutsAll : {W T E : Type 0} → Writer W → W → W → List ℕ → Result T E → Type 0
PutsAll w old new bs answer = OnOk answer (Appends (w.contents old) (w.contents new) bs)

-- where it is one, the writer took a beginning of them and not all
abbrev pub PutsFront : {W T E : Type 0} → Writer W → W → W → List ℕ → Result T E → Type 0
PutsFront w old new bs answer = OnErr answer (AppendsFront (w.contents old) (w.contents new) bs)

-- What a function that prints these bytes does to its writer, by its answer: the writer took all of
-- them; or it took a beginning and not all, since it answered a fault when it was asked for more
pub record Puts {W : Type 0} (w : Writer W) (old new : W) (bs : List ℕ)
    (answer : Result (Unit {0}) WriteFault) : Type 0 where
  pub ok : PutsAll w old new bs answer
  pub err : PutsFront w old new bs answer
  pub asked : OnErr answer (IsStopped w new)

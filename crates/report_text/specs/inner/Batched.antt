-- Lines that are held before a writer is asked to take them.
use Rattle.std.specs.Prelude.{◌≡◌, ℕ, List, ◌++◌, Option, OnOk, Result}
use Rattle.std.specs.Io.KnownBytes.{Appends}
use Rattle.txn_bytes.specs.Written.{Writer}

-- Of what was held and these bytes behind it, a writer took a beginning, and the rest is left
pub record Batches (old new : Option (List ℕ)) (held left bs : List ℕ) : Type 0 where
  pub taken : List ℕ
  pub parts : held ++ bs ≡ taken ++ left
  pub written : Appends old new taken

-- where the answer is no fault, the writer and what is held have got all of the bytes
abbrev pub BatchesAll : {W T E : Type 0} → Writer W → W × List ℕ → W × List ℕ → List ℕ → Result T E → Type 0
BatchesAll w old new bs answer = OnOk answer (Batches (w.contents old.0) (w.contents new.0) old.1 new.1 bs)

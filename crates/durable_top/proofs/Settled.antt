-- What a crash leaves of a store that keeps nothing but its table.
use Rattle.std.proofs.Common.{◌≡◌, ◌∙◌, Ok, Err}
use Rattle.std.specs.Prelude.{Result, OnOk}

-- whoever is left is the table that the call makes
pub settled_so : {T E M : Type 0} (kept made : M) (r : Result T E) → OnOk r (kept ≡ made) → OnOk r ((left : M) → left ≡ kept → left ≡ made)
settled_so kept made (Ok x) h = λ left is. is ∙ h
settled_so kept made (Err e) h = tt

-- How many bytes spell a name.
use Rattle.std.proofs.Common.{ℕ, ◌*◌, ◌≤◌, List, [], ◌∷◌, length, subst, length-append, arith}
use Rattle.std.specs.List.{AllByRecursion}
use Rattle.txn_names.specs.Path.{Path}
use Rattle.txn_names.specs.Text.{IsLabel, IsName, slashed, spelled_name}
use Rattle.txn_names.specs.Reading.{pieces}
use Rattle.txn_names.specs.Fields.{spelled_pieces}

length-slashed : (p : Path) → AllByRecursion IsLabel p → length (slashed p) ≤ 17 * length p
length-slashed [] h = omega arith
length-slashed (l ∷ ls) h = omega (arith, h.0.short, length-slashed ls h.1, length-append {A = ℕ} l (slashed ls))

pub length-name : (n : Path) → IsName n → length (spelled_name n) ≤ 271
length-name [] h = absurd (omega (arith, h.some))
length-name (l ∷ ls) h = omega (arith, h.short, h.labels.0.short, length-slashed ls h.labels.1, length-append {A = ℕ} l (slashed ls))

-- bytes that are read as a name fit
pub fits : (bs : List ℕ) → IsName (pieces bs) → length bs ≤ 271
fits bs h = subst (λ (xs : List ℕ). length xs ≤ 271) (spelled_pieces bs) (length-name (pieces bs) h)

-- Bytes in a field of fixed length, the rest of which is zeros; and how they hash.
use Rattle.std.specs.Prelude.{◌≡◌, ℕ, ◌-◌, ◌≤◌, ◌&&◌, true, List, [], ◌∷◌, ◌++◌, length, nat_eq, nat_lt, replicate, take, drop, if◌then◌else◌}
use Rattle.std.specs.Cmp.Lexicographic.{pointwise}
use Rattle.std.specs.Hash as fed
use Rattle.std.proofs.lemmas.Slice.Eq.{bytes_eq-Decides}
use Rattle.std.proofs.Common.{ap, sym, ◌∙◌, arith, take-append-drop, length-take-le}

-- the bytes, with zeros up to n
abbrev pub filled : ℕ → List ℕ → List ℕ
filled n bs = bs ++ replicate (n - length bs) 0

pub length-take : (n k : ℕ) (xs : List ℕ) → k ≤ n → length xs ≡ n → length (take k xs) ≡ k
length-take n k xs h e = length-take-le k xs (omega (arith, h, e))

-- the rest being zeros, the bytes give the whole field back
pub filled-take : (n k : ℕ) (xs : List ℕ) → k ≤ n → length xs ≡ n
    → drop k xs ≡ replicate (n - k) 0 → filled n (take k xs) ≡ xs
filled-take n k xs h e z =
    ap (λ m. take k xs ++ replicate (n - m) 0) (length-take n k xs h e)
    ∙ ap (λ ys. take k xs ++ ys) (sym z)
    ∙ take-append-drop k xs

-- Bytes that fit into a word are fed as the word that holds them, where fields of n bytes have
-- one; others in one write, and then how many they are
abbrev pub fed_held : ℕ → List ℕ → List (List ℕ)
fed_held n bs =
    if nat_lt 7 n && nat_lt (length bs) 9 then filled 8 bs ∷ [] else bs ∷ fed.u8 (length bs)

-- equal bytes hash alike
pub alike : (n : ℕ) (x y : List ℕ) → pointwise nat_eq x y ≡ true → fed_held n x ≡ fed_held n y
alike n x y h = ap (fed_held n) ((bytes_eq-Decides x y).0 h)

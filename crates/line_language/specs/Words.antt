-- Bytes that are cut at each of one byte: a text at its line feeds, a line at its spaces.
use Rattle.std.specs.Prelude.{ℕ, ◌==◌, if◌then◌else◌, List, [], ◌∷◌, Option, Some, None}
use Rattle.std.specs.List.{slice_split}

-- the parts around the bytes c: one more than there are such bytes, so two of them in a row have an
-- empty part between them
abbrev pub cut_at : ℕ → List ℕ → List (List ℕ)
cut_at c bs = slice_split (λ b. b == c) bs

-- what stands before the first byte c
abbrev pub before : ℕ → List ℕ → List ℕ
before c [] = []
before c (b ∷ bs) = if b == c then [] else b ∷ before c bs

-- what stands behind it, if there is one
abbrev pub behind : ℕ → List ℕ → Option (List ℕ)
behind c [] = None
behind c (b ∷ bs) = if b == c then Some bs else behind c bs

-- the parts of what is left, if anything is
abbrev pub parts_left : ℕ → Option (List ℕ) → List (List ℕ)
parts_left c None = []
parts_left c (Some bs) = cut_at c bs

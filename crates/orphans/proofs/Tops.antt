-- The topmost front of a path that passes is the first one, from the front of one label on.
use Rattle.std.proofs.Common.{◌≡◌, ◌<◌, ◌≤◌, ◌+◌, ℕ, zero, suc, List, [], ◌∷◌, length, take, refl, Bool, true, false, Some, None, inl, inr, subst, arith}
use Rattle.std.proofs.lemmas.Bool.{cases_lt}
use Rattle.std.specs.List.{list_any}
use Rattle.txn_names.specs.Path.{Path, path_eq, top_of}
use Rattle.txn_names.proofs.Exports.{first_passes, none_passes}

-- no front of fewer than n labels passes, the empty one left aside
abbrev pub NoneBelow : (Path → Bool) → Path → ℕ → Type 0
NoneBelow passes t n = (k : ℕ) → 0 < k → k < n → passes (take k t) ≡ false

none_below-more : (passes : Path → Bool) (t : Path) (n : ℕ) → NoneBelow passes t n → passes (take n t) ≡ false → NoneBelow passes t (n + 1)
none_below-more passes t n none e k above within =
    elim (cases_lt k n) [
      | inl h ↦ none k above h
      | inr h ↦ let same : n ≡ k = omega arith in subst (λ (i : ℕ). passes (take i t) ≡ false) same e
    ]

pub top_of-first : (passes : Path → Bool) (t : Path) (n : ℕ) → 0 < n → n ≤ length t → NoneBelow passes t n → passes (take n t) ≡ true → top_of passes t ≡ Some (take n t)
top_of-first passes t zero some within none found = absurd (omega arith)
top_of-first passes t (suc n) some within none found = first_passes passes t n (omega arith) (λ k c. none (suc k) (omega arith) (omega arith)) found

pub top_of-none : (passes : Path → Bool) (t : Path) (n : ℕ) → length t < n → NoneBelow passes t n → top_of passes t ≡ None
top_of-none passes t n past none = none_passes passes t (λ k c. none (suc k) (omega arith) (omega arith))

pub top_of-last : (passes : Path → Bool) (t : Path) (n : ℕ) → length t ≤ n → NoneBelow passes t n → passes (take n t) ≡ false → top_of passes t ≡ None
top_of-last passes t n past none e = top_of-none passes t (n + 1) (omega arith) (none_below-more passes t n none e)

-- where there is nothing that could pass none does
pub top_of-nowhere : (marked : List Path) → length marked ≡ 0 → (t : Path) → top_of (λ u. list_any (path_eq u) marked) t ≡ None
top_of-nowhere [] e t = top_of-none (λ u. list_any (path_eq u) []) t (length t + 1) (omega arith) (λ k above within. refl)
top_of-nowhere (x ∷ marked) e t = absurd (omega (arith, e))

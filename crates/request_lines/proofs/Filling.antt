-- More bytes of a line, as far as they are kept.
use Rattle.std.proofs.Common.{◌≡◌, ℕ, zero, suc, ◌+◌, ◌<◌, ◌≤◌, ◌⊎◌, inl, inr, true, false, List, [], ◌∷◌, ◌++◌, length, take, refl, sym, ap, subst, ◌∙◌, arith, length-append, append-nil}
use Rattle.std.proofs.lemmas.Bool.{cases_lt, lt-ltb, le-ltb}
use Rattle.std.proofs.lemmas.List.{length-take-le, take_all, take-append-le}
use Rattle.request_lines.specs.Keeping.{Keeps, KeepsLine, Adds}

none : (xs : List ℕ) → length xs ≤ 0 → xs ≡ []
none [] h = refl
none (x ∷ xs) h = absurd (omega (arith, h))

take-append-add : (n : ℕ) (bs xs : List ℕ) (room : ℕ) → length bs + room ≡ n → take n (bs ++ xs) ≡ bs ++ take room xs
take-append-add n [] xs room e = let same : n ≡ room = omega (arith, e) in ap (λ m. take m xs) same
take-append-add zero (b ∷ bs) xs room e = absurd (omega (arith, e))
take-append-add (suc n) (b ∷ bs) xs room e = ap (λ (ys : List ℕ). b ∷ ys) (take-append-add n bs xs room (omega (arith, e)))

-- a line that is kept whole, or whose first bytes are
cases_kept : (bs : List ℕ) (k : Keeps) → KeepsLine bs k
    → ((length bs ≤ 346) × (k.kept ≡ bs) × (k.more ≡ false)) ⊎ ((346 < length bs) × (length k.kept ≡ 346) × (k.more ≡ true))
cases_kept bs k keeps = by (cases_lt 346 (length bs))
  where
    by : (346 < length bs) ⊎ (length bs ≤ 346) → ((length bs ≤ 346) × (k.kept ≡ bs) × (k.more ≡ false)) ⊎ ((346 < length bs) × (length k.kept ≡ 346) × (k.more ≡ true))
    by (inl many) = inr (many, ap (λ (ys : List ℕ). length ys) keeps.kept ∙ length-take-le 346 bs (omega (arith, many)), keeps.more ∙ lt-ltb 346 (length bs) many)
    by (inr few) = inl (few, keeps.kept ∙ take_all 346 bs few, keeps.more ∙ le-ltb 346 (length bs) few)

-- the bytes fit
pub adds_all : (xs : List ℕ) (old new : Keeps) → length old.kept + length xs ≤ 346 → new.kept ≡ old.kept ++ xs → new.more ≡ old.more → Adds xs old new
adds_all xs old new fits kept more bs keeps = by (cases_kept bs old keeps)
  where
    by : ((length bs ≤ 346) × (old.kept ≡ bs) × (old.more ≡ false)) ⊎ ((346 < length bs) × (length old.kept ≡ 346) × (old.more ≡ true)) → KeepsLine (bs ++ xs) new
    by (inl w) = record {
      kept = kept ∙ ap (λ (ys : List ℕ). ys ++ xs) w.1 ∙ sym (take_all 346 (bs ++ xs) short);
      more = more ∙ w.2 ∙ sym (le-ltb 346 (length (bs ++ xs)) short);
    }
      where
        short : length (bs ++ xs) ≤ 346
        short = omega (arith, fits, ap (λ (ys : List ℕ). length ys) w.1, length-append {A = ℕ} bs xs)
    by (inr w) = subst (λ (ys : List ℕ). KeepsLine ys new) (sym same) (record {
      kept = kept ∙ ap (λ (ys : List ℕ). old.kept ++ ys) nothing ∙ append-nil old.kept ∙ keeps.kept;
      more = more ∙ keeps.more;
    })
      where
        nothing : xs ≡ []
        nothing = none xs (omega (arith, fits, w.1))

        same : bs ++ xs ≡ bs
        same = ap (λ (ys : List ℕ). bs ++ ys) nothing ∙ append-nil bs

-- they do not: as many as there is room for are kept
pub adds_front : (xs : List ℕ) (old new : Keeps) (room : ℕ) → length old.kept + room ≡ 346 → room < length xs → new.kept ≡ old.kept ++ take room xs → new.more ≡ true
    → Adds xs old new
adds_front xs old new room is less kept more bs keeps = by (cases_kept bs old keeps)
  where
    by : ((length bs ≤ 346) × (old.kept ≡ bs) × (old.more ≡ false)) ⊎ ((346 < length bs) × (length old.kept ≡ 346) × (old.more ≡ true)) → KeepsLine (bs ++ xs) new
    by (inl w) = record {
      kept = kept ∙ ap (λ (ys : List ℕ). ys ++ take room xs) w.1 ∙ sym (take-append-add 346 bs xs room left);
      more = more ∙ sym (lt-ltb 346 (length (bs ++ xs)) (omega (arith, left, less, length-append {A = ℕ} bs xs)));
    }
      where
        left : length bs + room ≡ 346
        left = omega (arith, is, ap (λ (ys : List ℕ). length ys) w.1)
    by (inr w) = record {
      kept = kept ∙ ap (λ n. old.kept ++ take n xs) no_room ∙ append-nil old.kept ∙ keeps.kept ∙ sym (take-append-le 346 bs xs (omega (arith, w.0)));
      more = more ∙ sym (lt-ltb 346 (length (bs ++ xs)) (omega (arith, w.0, length-append {A = ℕ} bs xs)));
    }
      where
        no_room : room ≡ 0
        no_room = omega (arith, is, w.1)

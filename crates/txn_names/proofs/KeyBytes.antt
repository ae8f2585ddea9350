-- A test of each byte, eight at a time.
use Rattle.std.proofs.Common.{◌≡◌, ◌∙◌, ◌+◌, ◌-◌, ◌≤◌, ◌&&◌, ℕ, Bool, true, false, List, [], ◌∷◌, length, get_or, take, drop, refl, sym, ap, ap₂, arith, take-append-drop}
use Rattle.std.specs.List.{list_all}
use Rattle.std.proofs.lemmas.List.{drop-drop}
use Rattle.std.proofs.lemmas.List.Folds.{list_all-append}
use Rattle.std.proofs.Math.Seq.{take-add}

regroup : (a b c d e f g h : Bool) → (((((((a && b) && c) && d) && e) && f) && g) && h) ≡ (a && (b && (c && (d && (e && (f && (g && (h && true))))))))
regroup false b c d e f g h = refl
regroup true false c d e f g h = refl
regroup true true false d e f g h = refl
regroup true true true false e f g h = refl
regroup true true true true false f g h = refl
regroup true true true true true false g h = refl
regroup true true true true true true false h = refl
regroup true true true true true true true false = refl
regroup true true true true true true true true = refl

regroup_half : (a b c d : Bool) → (((a && b) && c) && d) ≡ (a && (b && (c && (d && true))))
regroup_half false b c d = refl
regroup_half true false c d = refl
regroup_half true true false d = refl
regroup_half true true true false = refl
regroup_half true true true true = refl

-- what lies in both parts decides once
lapped : (a m b : Bool) → ((a && m) && (m && b)) ≡ ((a && m) && b)
lapped false m b = refl
lapped true false b = refl
lapped true true b = refl

module _ (p : ℕ → Bool) where
  -- of eight bytes each by itself
  pub each_of_eight : (ws : List ℕ) → length ws ≡ 8
      → (((((((p (get_or ws 0 0) && p (get_or ws 1 0)) && p (get_or ws 2 0)) && p (get_or ws 3 0)) && p (get_or ws 4 0)) && p (get_or ws 5 0)) && p (get_or ws 6 0)) && p (get_or ws 7 0))
      ≡ list_all p ws
  each_of_eight (a ∷ b ∷ c ∷ d ∷ e ∷ f ∷ g ∷ h ∷ []) l = regroup (p a) (p b) (p c) (p d) (p e) (p f) (p g) (p h)
  each_of_eight ws l = absurd (omega (arith, l))

  parted : (xs : List ℕ) → list_all p xs ≡ (list_all p (take 8 xs) && list_all p (drop 8 xs))
  parted xs = ap (list_all p) (sym (take-append-drop 8 xs)) ∙ list_all-append p (take 8 xs) (drop 8 xs)

  -- where the first eight pass, what is left decides
  pub rest_decides : (xs : List ℕ) → true ≡ list_all p (take 8 xs) → list_all p (drop 8 xs) ≡ list_all p xs
  rest_decides xs h = sym (parted xs ∙ ap (λ b. b && list_all p (drop 8 xs)) (sym h))

  -- and where one of them fails, all do not pass
  pub word_decides : (xs : List ℕ) → false ≡ list_all p (take 8 xs) → false ≡ list_all p xs
  word_decides xs h = sym (parted xs ∙ ap (λ b. b && list_all p (drop 8 xs)) (sym h))

  -- of four bytes each by itself
  pub each_of_four : (ws : List ℕ) → length ws ≡ 4
      → (((p (get_or ws 0 0) && p (get_or ws 1 0)) && p (get_or ws 2 0)) && p (get_or ws 3 0)) ≡ list_all p ws
  each_of_four (a ∷ b ∷ c ∷ d ∷ []) l = regroup_half (p a) (p b) (p c) (p d)
  each_of_four ws l = absurd (omega (arith, l))

  split_at : (n : ℕ) (xs : List ℕ) → list_all p xs ≡ (list_all p (take n xs) && list_all p (drop n xs))
  split_at n xs = ap (list_all p) (sym (take-append-drop n xs)) ∙ list_all-append p (take n xs) (drop n xs)

  -- the first bytes and the last decide, where they meet or lap
  ends_lap : (k j : ℕ) (xs : List ℕ) → (list_all p (take (k + j) xs) && list_all p (drop k xs)) ≡ list_all p xs
  ends_lap k j xs =
      let ys : List ℕ = drop k xs in
      let front : list_all p (take (k + j) xs) ≡ (list_all p (take k xs) && list_all p (take j ys)) =
      ap (list_all p) (take-add k j xs) ∙ list_all-append p (take k xs) (take j ys) in
      ap₂ (λ a b. a && b) front (split_at j ys)
      ∙ lapped (list_all p (take k xs)) (list_all p (take j ys)) (list_all p (drop j ys))
      ∙ ap₂ (λ a b. a && b) (sym front) (ap (list_all p) (drop-drop j k xs))
      ∙ sym (split_at (k + j) xs)

  -- the first four and the last four of four to eight bytes
  pub halves_decide : (xs : List ℕ) → 4 ≤ length xs → length xs ≤ 8
      → (list_all p (take 4 xs) && list_all p (drop (length xs - 4) xs)) ≡ list_all p xs
  halves_decide xs some few =
      let k : ℕ = length xs - 4 in
      let whole : k + (4 - k) ≡ 4 = omega (arith, some, few) in
      ap (λ n. list_all p (take n xs) && list_all p (drop k xs)) (sym whole) ∙ ends_lap k (4 - k) xs

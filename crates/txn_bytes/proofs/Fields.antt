-- Fields of fixed length whose unused rests are equal.
use Rattle.std.proofs.Common.{◌≡◌, ◌≤◌, ◌-◌, ℕ, zero, suc, ◌&&◌, List, [], ◌∷◌, length, take, drop, nat_eq, replicate, true, refl, sym, ap, ◌∙◌, arith}
use Rattle.std.specs.Prelude.{nat_lt, if◌then◌else◌}
use Rattle.std.specs.Cmp.Lexicographic.{pointwise}
use Rattle.std.specs.Hash as fed
use Rattle.txn_bytes.specs.Held.{fed_held, filled, filled-take, length-take}
use Rattle.std.proofs.lemmas.Bool.{lt-ltb}
use Rattle.std.proofs.lemmas.List.{drop-take, take-replicate, take-take}
use Rattle.std.proofs.lemmas.Slice.Eq.{bytes_eq-Decides}

-- where the rests are equal, the fields are exactly where the fronts are
pub fronts_decide : (k : ℕ) (xs ys : List ℕ) → drop k xs ≡ drop k ys → pointwise nat_eq xs ys ≡ pointwise nat_eq (take k xs) (take k ys)
fronts_decide zero xs ys e = (bytes_eq-Decides xs ys).1 e
fronts_decide (suc k) [] [] e = refl
fronts_decide (suc k) [] (y ∷ ys) e = refl
fronts_decide (suc k) (x ∷ xs) [] e = refl
fronts_decide (suc k) (x ∷ xs) (y ∷ ys) e = ap (λ b. nat_eq x y && b) (fronts_decide k xs ys e)

-- what stands behind the first k among the first w
rest_within : (w k : ℕ) (xs : List ℕ) → k ≤ w → drop k (take w xs) ≡ take (w - k) (drop k xs)
rest_within w k xs within = ap (λ m. drop k (take m xs)) (omega (arith, within)) ∙ drop-take k (w - k) xs

-- so are their first bytes, where the fronts are among these
pub starts_decide : (w k : ℕ) (xs ys : List ℕ) → k ≤ w → drop k xs ≡ drop k ys → pointwise nat_eq (take w xs) (take w ys) ≡ pointwise nat_eq (take k xs) (take k ys)
starts_decide w k xs ys within e =
    fronts_decide k (take w xs) (take w ys) (rest_within w k xs within ∙ ap (take (w - k)) e ∙ sym (rest_within w k ys within))
    ∙ ap (λ v. pointwise nat_eq v (take k (take w ys))) (take-take k w xs within)
    ∙ ap (λ v. pointwise nat_eq (take k xs) v) (take-take k w ys within)

-- two fields of n bytes, of which the first k and m are held
module _ (n k m : ℕ) (xs ys us vs : List ℕ) (same : k ≡ m) (blank : drop k xs ≡ replicate (n - k) 0) (blank2 : drop m ys ≡ replicate (n - m) 0)
    (view : take k xs ≡ us) (view2 : take m ys ≡ vs) where
  rests : drop k xs ≡ drop k ys
  rests = blank ∙ ap (λ i. replicate (n - i) 0) same ∙ sym blank2 ∙ ap (λ i. drop i ys) (sym same)

  seen : pointwise nat_eq (take k xs) (take k ys) ≡ pointwise nat_eq us vs
  seen = ap (λ v. pointwise nat_eq v (take k ys)) view ∙ ap (λ v. pointwise nat_eq us v) (ap (λ i. take i ys) same ∙ view2)

  pub fields_tell : pointwise nat_eq xs ys ≡ pointwise nat_eq us vs
  fields_tell = fronts_decide k xs ys rests ∙ seen

  pub starts_tell : (w : ℕ) → k ≤ w → pointwise nat_eq (take w xs) (take w ys) ≡ pointwise nat_eq us vs
  starts_tell w within = starts_decide w k xs ys within rests ∙ seen

-- bytes that fit into a word are fed as the first word of their field
pub word_fed : (n k : ℕ) (xs us : List ℕ) → length xs ≡ n → drop k xs ≡ replicate (n - k) 0 → take k xs ≡ us → 8 ≤ length xs → k ≤ 8
    → fed_held n us ≡ take 8 xs ∷ []
word_fed n k xs us long blank view enough short =
    let wide : nat_lt 7 n ≡ true = lt-ltb 7 n (omega (arith, long, enough)) in
    let few : nat_lt (length us) 9 ≡ true = lt-ltb (length us) 9 (omega (arith, many, short)) in
    ap (λ b. if b && nat_lt (length us) 9 then filled 8 us ∷ [] else us ∷ fed.u8 (length us)) wide
    ∙ ap (λ b. if b then filled 8 us ∷ [] else us ∷ fed.u8 (length us)) few
    ∙ ap (λ (w : List ℕ). w ∷ []) (sym word)
  where
    many : length us ≡ k
    many = ap length (sym view) ∙ length-take n k xs (omega (arith, long, enough, short)) long

    rest : drop k (take 8 xs) ≡ replicate (8 - k) 0
    rest = rest_within 8 k xs short ∙ ap (take (8 - k)) blank ∙ take-replicate (8 - k) (n - k) 0 (omega (arith, long, enough))

    word : take 8 xs ≡ filled 8 us
    word =
        sym (filled-take 8 k (take 8 xs) short (length-take n 8 xs (omega (arith, long, enough)) long) rest)
        ∙ ap (filled 8) (take-take k 8 xs short ∙ view)

-- How two texts compare, told by their parts on both sides of one place.
use Rattle.std.proofs.Common.{◌≡◌, ℕ, zero, suc, ◌≤◌, List, [], ◌∷◌, length, take, drop, Ordering, Less, Equal, Greater, refl, sym, ap, ◌∙◌, arith}
use Rattle.std.specs.Ordering.{nat_cmp, ordering_then}
use Rattle.std.specs.Cmp.Lexicographic.{slice_cmp}

through : (c r q : Ordering) → ordering_then c (ordering_then r q) ≡ ordering_then (ordering_then c r) q
through Less r q = refl
through Equal r q = refl
through Greater r q = refl

-- the fronts decide, and where they are the same the rests do
cut_compare : (k : ℕ) (xs ys : List ℕ) → k ≤ length xs → k ≤ length ys
    → slice_cmp nat_cmp xs ys ≡ ordering_then (slice_cmp nat_cmp (take k xs) (take k ys)) (slice_cmp nat_cmp (drop k xs) (drop k ys))
cut_compare zero xs ys p q = refl
cut_compare (suc k) [] ys p q = absurd (omega (arith, p))
cut_compare (suc k) (x ∷ xs) [] p q = absurd (omega (arith, q))
cut_compare (suc k) (x ∷ xs) (y ∷ ys) p q =
    ap (ordering_then (nat_cmp x y)) (cut_compare k xs ys (omega (arith, p)) (omega (arith, q)))
    ∙ through (nat_cmp x y) (slice_cmp nat_cmp (take k xs) (take k ys)) (slice_cmp nat_cmp (drop k xs) (drop k ys))

firm : (o r : Ordering) → (o ≡ Equal → ⊥) → ordering_then o r ≡ o
firm Less r differ = refl
firm Equal r differ = absurd (differ refl)
firm Greater r differ = refl

-- two texts and their parts
module _ (k : ℕ) (xs ys us vs ws zs : List ℕ) (long : k ≤ length xs) (long2 : k ≤ length ys)
    (front : us ≡ take k xs) (front2 : vs ≡ take k ys) (rest : ws ≡ drop k xs) (rest2 : zs ≡ drop k ys) where
  parts : slice_cmp nat_cmp xs ys ≡ ordering_then (slice_cmp nat_cmp us vs) (slice_cmp nat_cmp ws zs)
  parts = cut_compare k xs ys long long2 ∙ sym (rw (front, front2, rest, rest2) refl)

  pub fronts_tell : (o : Ordering) → o ≡ slice_cmp nat_cmp us vs → (o ≡ Equal → ⊥) → o ≡ slice_cmp nat_cmp xs ys
  fronts_tell o is differ = sym (parts ∙ ap (λ c. ordering_then c (slice_cmp nat_cmp ws zs)) (sym is) ∙ firm o (slice_cmp nat_cmp ws zs) differ)

  pub rests_tell : slice_cmp nat_cmp us vs ≡ Equal → slice_cmp nat_cmp ws zs ≡ slice_cmp nat_cmp xs ys
  rests_tell same = sym (parts ∙ ap (λ c. ordering_then c (slice_cmp nat_cmp ws zs)) same)

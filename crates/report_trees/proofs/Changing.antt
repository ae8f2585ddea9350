-- Lists with one item changed.
use Rattle.std.proofs.Common.{◌≡◌, ℕ, zero, suc, ◌<◌, ◌≤◌, Bool, true, false, cond, List, [], ◌∷◌, length, get_or, Option, Some, None, inl, inr, refl, sym, ap, ◌∙◌, arith}
use Rattle.std.proofs.lemmas.Bool.{cases_eq, eq-eqb, ne_eqb}
use Rattle.std.specs.Prelude.{nat_eq, option_map, slice_get, slice_set}
use Rattle.report_trees.specs.Telling.{changed}

pub changed_set : {X : Type 0} (xs : List X) (i : ℕ) (f : X → X) (x : X) → i < length xs → x ≡ get_or xs i x → slice_set xs i (f x) ≡ changed i f xs
changed_set [] i f x less is = absurd (omega (arith, less))
changed_set (y ∷ ys) zero f x less is = ap (λ z. f z ∷ ys) is
changed_set (y ∷ ys) (suc i) f x less is = ap (λ zs. y ∷ zs) (changed_set ys i f x (omega (arith, less)) is)

pub changed_past : {X : Type 0} (xs : List X) (i : ℕ) (f : X → X) → length xs ≤ i → xs ≡ changed i f xs
changed_past [] i f past = refl
changed_past (y ∷ ys) zero f past = absurd (omega (arith, past))
changed_past (y ∷ ys) (suc i) f past = ap (λ zs. y ∷ zs) (changed_past ys i f (omega (arith, past)))

pub length_changed : {X : Type 0} (xs : List X) (i : ℕ) (f : X → X) → length (changed i f xs) ≡ length xs
length_changed [] i f = refl
length_changed (y ∷ ys) zero f = refl
length_changed (y ∷ ys) (suc i) f = ap suc (length_changed ys i f)

pub suc_eqb : (i j : ℕ) → nat_eq (suc i) (suc j) ≡ nat_eq i j
suc_eqb i j = elim (cases_eq i j) [
  | inl same ↦ eq-eqb (suc i) (suc j) (ap suc same) ∙ sym (eq-eqb i j same)
  | inr apart ↦ ne_eqb (suc i) (suc j) (λ e. apart (omega (arith, e))) ∙ sym (ne_eqb i j apart)
]

abbrev pub at_number : {X : Type 0} → ℕ → ℕ → (X → X) → X → X
at_number i j f x = cond (nat_eq i j) (f x) x

same : {X : Type 0} (o : Option X) (b : Bool) (f : X → X) → b ≡ false → o ≡ option_map (λ x. cond b (f x) x) o
same None b f e = refl
same (Some x) b f e = ap (λ c. Some (cond c (f x) x)) (sym e)

pub get_changed : {X : Type 0} (xs : List X) (i j : ℕ) (f : X → X) → slice_get (changed j f xs) i ≡ option_map (at_number i j f) (slice_get xs i)
get_changed [] i j f = refl
get_changed (y ∷ ys) zero zero f = refl
get_changed (y ∷ ys) (suc i) zero f = same (slice_get ys i) (nat_eq (suc i) 0) f (ne_eqb (suc i) 0 (λ e. omega (arith, e)))
get_changed (y ∷ ys) zero (suc j) f = same (Some y) (nat_eq 0 (suc j)) f (ne_eqb 0 (suc j) (λ e. omega (arith, e)))
get_changed (y ∷ ys) (suc i) (suc j) f = get_changed ys i j f ∙ ap (λ b. option_map (λ x. cond b (f x) x) (slice_get ys i)) (sym (suc_eqb i j))

-- Which of a list pass a test, a place at a time.
use Rattle.std.proofs.Common.{◌≡◌, ℕ, ◌+◌, ◌<◌, ◌≤◌, zero, suc, Bool, true, false, ◌||◌, List, [], ◌∷◌, take, get_or, Option, Some, None, inl, inr, refl, sym, ap, ◌∙◌, arith}
use Rattle.std.specs.Prelude.{slice_get}
use Rattle.std.specs.List.{list_any}
use Rattle.std.proofs.lemmas.Bool.{cases_lt, false≢true, or_left, or_parts, or_right}
use Rattle.std.proofs.lemmas.List.Folds.{list_any_more}
use Rattle.std.proofs.lemmas.Option.{get_or_from_slice_get, none-some, same_Some, slice_get_within}
use Rattle.serial_spec.proofs.Exports.{take_past}
use Rattle.wait_cycles.specs.declared.waits.Wait.{Wait}
use Rattle.wait_graph.specs.Edges.{passes}

-- where the one at a place passes some do
pub any_got : {X : Type 0} (p : X → Bool) (xs : List X) (i : ℕ) (x : X) → slice_get xs i ≡ Some x → p x ≡ true → list_any p xs ≡ true
any_got p [] i x at e = cc
any_got p (y ∷ ys) zero x at e = let same : y ≡ x = cc in or_left (p y) (list_any p ys) (ap p same ∙ e)
any_got p (y ∷ ys) (suc i) x at e = or_right (p y) (list_any p ys) (any_got p ys i x at e)

-- a place further
pub any_next : {X : Type 0} (p : X → Bool) (xs : List X) (i : ℕ) (x : X) → slice_get xs i ≡ Some x → list_any p (take i xs) ≡ false → p x ≡ false
    → list_any p (take (i + 1) xs) ≡ false
any_next p xs i x at none e =
    list_any_more p xs i x (slice_get_within xs i x at)
    ∙ ap (λ b. b || p (get_or xs i x)) none ∙ ap p (get_or_from_slice_get xs i x x at) ∙ e

-- tests that agree find the same
pub any_as : (p q : Wait → Bool) → ((w : Wait) → p w ≡ q w) → (ws : List Wait) → list_any p ws ≡ list_any q ws
any_as p q same [] = refl
any_as p q same (w ∷ ws) = rw (same w, any_as p q same ws) refl

pub none_passes : (p : Wait → Bool) → ((w : Wait) → p w ≡ false) → (ws : List Wait) → list_any p ws ≡ false
none_passes p none [] = refl
none_passes p none (w ∷ ws) = rw (none w) (none_passes p none ws)

-- where none at a place before this one passes, none of those before it does
all_fail : (p : Wait → Bool) (ws : List Wait) (n : ℕ) → ((i : ℕ) (w : Wait) → i < n → slice_get ws i ≡ Some w → p w ≡ false) → list_any p (take n ws) ≡ false
all_fail p ws zero fails = refl
all_fail p [] (suc n) fails = refl
all_fail p (w ∷ ws) (suc n) fails = rw (fails 0 w (omega arith) refl) (all_fail p ws n (λ i v less at. fails (suc i) v (omega (arith, less)) at))

each_fails : (p : Wait → Bool) (ws : List Wait) (n : ℕ) → list_any p (take n ws) ≡ false → (i : ℕ) (w : Wait) → i < n → slice_get ws i ≡ Some w → p w ≡ false
each_fails p [] n none i w less at = absurd (none-some w at)
each_fails p (v ∷ ws) zero none i w less at = absurd (omega (arith, less))
each_fails p (v ∷ ws) (suc n) none zero w less at = ap p (sym (same_Some v w at)) ∙ (or_parts (p v) (list_any p (take n ws)) none).0
each_fails p (v ∷ ws) (suc n) none (suc i) w less at = each_fails p ws n (or_parts (p v) (list_any p (take n ws)) none).1 i w (omega (arith, less)) at

-- and none before a further place, if none between both does
pub further_fails : (p : Wait → Bool) (ws : List Wait) (from to : ℕ) → list_any p (take from ws) ≡ false
    → ((i : ℕ) (w : Wait) → from ≤ i → i < to → slice_get ws i ≡ Some w → p w ≡ false) → list_any p (take to ws) ≡ false
further_fails p ws from to none fails = all_fail p ws to (λ i w less at.
    elim (cases_lt i from) [
      | inl before ↦ each_fails p ws from none i w before at
      | inr past ↦ fails i w past less at
    ])

-- ---- the waits, a place at a time

pub here_passes : (p : Wait → Bool) (ws : List Wait) (i : ℕ) → passes p (slice_get ws i) ≡ true → list_any p ws ≡ true
here_passes p [] i e = absurd (false≢true e)
here_passes p (w ∷ ws) zero e = or_left (p w) (list_any p ws) e
here_passes p (w ∷ ws) (suc i) e = or_right (p w) (list_any p ws) (here_passes p ws i e)

pub next_fails : (p : Wait → Bool) (ws : List Wait) (i : ℕ) → list_any p (take i ws) ≡ false → passes p (slice_get ws i) ≡ false → list_any p (take (i + 1) ws) ≡ false
next_fails p ws i none e = by (slice_get ws i) refl e
  where
    by : (o : Option Wait) → slice_get ws i ≡ o → passes p o ≡ false → list_any p (take (i + 1) ws) ≡ false
    by None at f = ap (list_any p) (take_past ws i at) ∙ none
    by (Some w) at f = any_next p ws i w at none f

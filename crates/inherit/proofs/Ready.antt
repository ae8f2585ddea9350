-- Whoever is to go up may, whatever its number and its parent's are called.
use Rattle.std.proofs.Common.{◌≡◌, ℕ, Bool, true, false, ◌&&◌, ◌||◌, nat_eq, List, Option, Some, None, refl, sym, ap, subst, ◌∙◌, arith}
use Rattle.std.specs.Prelude.{length}
use Rattle.std.specs.List.{position}
use Rattle.std.proofs.lemmas.Bool.{eq-eqb, false≢true}
use Rattle.txn_names.proofs.Exports.{label_eq_self}
use Rattle.lock_table.specs.Locked.{with_place, with_childs}
use Rattle.txn_names.specs.Path.{Path, label_eq, path_eq, parent}
use Rattle.txn_tree.specs.States.{States, names}
use Rattle.txn_tree.specs.Asked.{IsNumberOf}
use Rattle.inherit.specs.LocksAndVersions.{LocksAndVersions, IsParent, MayGoUp}
use Rattle.inherit.proofs.Numbers.{one_number, no_number}

module _ (tree : States) (a : LocksAndVersions) (t : Path) (child : ℕ) (number : IsNumberOf tree t child) where
  -- to a parent that has begun
  pub ready_below : (p : ℕ) → IsNumberOf tree (parent t) p → (length t ≡ 1 → ⊥) → MayGoUp a child (Some p)
      → (n : ℕ) → IsNumberOf tree t n → (o : Option ℕ) → IsParent tree t o → MayGoUp a n o
  ready_below p is below may n too None top = absurd (below top)
  ready_below p is below may n too (Some m) of =
      subst (λ (v : ℕ). MayGoUp a v (Some m)) (sym (one_number tree t child number n too))
      (subst (λ (v : ℕ). MayGoUp a child (Some v)) (sym (one_number tree (parent t) p is m of.1)) may)

  -- no parent has begun
  pub ready_nowhere : None ≡ position (path_eq (parent t)) (names tree) → (length t ≡ 1 → ⊥)
      → (n : ℕ) → IsNumberOf tree t n → (o : Option ℕ) → IsParent tree t o → MayGoUp a n o
  ready_nowhere none below n too None top = absurd (below top)
  ready_nowhere none below n too (Some m) of = absurd (no_number tree (parent t) m of.1 none)

  -- into the base
  pub ready_top : length t ≡ 1 → MayGoUp a child None
      → (n : ℕ) → IsNumberOf tree t n → (o : Option ℕ) → IsParent tree t o → MayGoUp a n o
  ready_top top may n too None of = subst (λ (v : ℕ). MayGoUp a v None) (sym (one_number tree t child number n too)) may
  ready_top top may n too (Some m) of = absurd (omega (arith, top, of.0))

-- a place that has been made is there
pub place_made : (old new : ℕ → List ℕ → Bool) (t : ℕ) (k : List ℕ) → ((u : ℕ) (q : List ℕ) → new u q ≡ with_place old t k u q) → new t k ≡ true
place_made old new t k is =
    is t k
    ∙ ap (λ b. (b && label_eq k k) || old t k) (eq-eqb t t refl)
    ∙ ap (λ b. b || old t k) (label_eq_self k)

-- so are the parent's at the keys of the child
pub childs_made : (old new : ℕ → List ℕ → Bool) (child parent : ℕ) → ((u : ℕ) (q : List ℕ) → new u q ≡ with_childs old child parent u q)
    → (q : List ℕ) → new child q ≡ true → new parent q ≡ true
childs_made old new child parent is q there =
    is parent q
    ∙ ap (λ b. (b && old child q) || old parent q) (eq-eqb parent parent refl)
    ∙ by (old child q) (old parent q) (nat_eq parent child) refl (sym (is child q) ∙ there)
  where
    by : (c p same : Bool) → nat_eq parent child ≡ same → ((same && c) || c) ≡ true → (c || p) ≡ true
    by true p same e h = refl
    by false p true e h = absurd (false≢true h)
    by false p false e h = absurd (false≢true h)

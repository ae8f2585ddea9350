-- What is seen where versions have been given room alone.
use Rattle.std.proofs.Common.{◌≡◌, ℕ, ℤ, List, [], ◌∷◌, Option, Some, None, refl, ap, ◌∙◌}
use Rattle.std.specs.Prelude.{slice_get}
use Rattle.std.specs.List.{position}
use mathlib.Core.Path.{fun_ext}
use Rattle.txn_names.specs.Path.{Path, path_eq}
use Rattle.txn_tree.specs.States.{States, names}
use Rattle.serial_spec.specs.Rows as rows
use Rattle.serial_spec.specs.Values.{seen_of}
use Rattle.version_stack.specs.Seen.{left_at, left_by, seen_by, seen_in}
use Rattle.version_stack.specs.Versioned.{Versioned, base_in, left_in}

-- what is left and the base are the same, so each sees the same
pub seen_same : (tree : States) (old new : Versioned) → ((u : ℕ) (q : List ℕ) → left_in new u q ≡ left_in old u q) → new.base ≡ old.base
    → (t : ℕ) → seen_in tree new t ≡ seen_in tree old t
seen_same tree old new left base t = fun_ext (λ k. by k (slice_get (names tree) t))
  where
    by_number : (k : List ℕ) (o : Option ℕ) → left_at new k o ≡ left_at old k o
    by_number k None = refl
    by_number k (Some n) = left n k

    by_path : (k : List ℕ) (p : Path) → left_by tree new k p ≡ left_by tree old k p
    by_path k [] = refl
    by_path k (l ∷ ls) = by_number k (position (path_eq (l ∷ ls)) (names tree))

    base_same : (k : List ℕ) → base_in new k ≡ base_in old k
    base_same k = ap (λ (b : rows.Table). rows.value_in b.rows k) base

    by : (k : List ℕ) (o : Option Path) → seen_by tree new k o ≡ seen_by tree old k o
    by k None = base_same k
    by k (Some p) =
        ap (λ (f : Path → Option (Option ℤ)). seen_of f p (base_in new k)) (fun_ext (by_path k))
        ∙ ap (seen_of (left_by tree old k) p) (base_same k)

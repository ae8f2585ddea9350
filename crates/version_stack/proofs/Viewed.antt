-- What transactions left at one key, by what all of them have there.
use Rattle.std.proofs.Common.{◌≡◌, ℕ, ℤ, List, [], ◌∷◌, Option, Some, None, refl, sym, ap, ◌∙◌}
use Rattle.std.specs.Prelude.{option_map, slice_get}
use Rattle.std.specs.List.{position}
use Rattle.txn_names.specs.Path.{Path, path_eq}
use Rattle.txn_tree.specs.States.{States, names}
use Rattle.txn_cells.specs.Cells as cells
use Rattle.serial_spec.specs.Values.{seen_of, value_or}
use Rattle.version_stack.specs.declared.version.Version.{Version}
use Rattle.version_stack.specs.Versioned.{Versioned, base_in, left_in}
use Rattle.version_stack.specs.Seen.{left_at, left_by, seen_by, seen_in}

pub left_here : (v : Versioned) (k : List ℕ) (held : cells.Held Version) → cells.IsAt v.written k held → (n : ℕ) (o : Option Version) → o ≡ cells.content_of held n
    → left_in v n k ≡ option_map (λ w. w.value) o
left_here v k held at n o is = ap (λ (x : Option Version). option_map (λ w. w.value) x) (sym (at.contents n) ∙ sym is)

seen_of-none : (left : Path → Option (Option ℤ)) (t : Path) (x : Option ℤ) → ((u : Path) → left u ≡ None) → seen_of left t x ≡ x
seen_of-none left [] x none = ap (λ o. value_or o x) (none [])
seen_of-none left (l ∷ ls) x none =
    seen_of-none (λ u. left (l ∷ u)) ls (value_or (left []) x) (λ u. none (l ∷ u)) ∙ ap (λ o. value_or o x) (none [])

-- where nobody left anything the base's value is seen
pub seen_bare : (tree : States) (v : Versioned) (k : List ℕ) → cells.IsBareAt v.written k → (n : ℕ) → base_in v k ≡ seen_in tree v n k
seen_bare tree v k bare n = by (slice_get (names tree) n)
  where
    left_none : (o : Option ℕ) → left_at v k o ≡ None
    left_none None = refl
    left_none (Some t) = ap (λ (x : Option Version). option_map (λ w. w.value) x) (bare.contents t)

    none : (u : Path) → left_by tree v k u ≡ None
    none [] = refl
    none (l ∷ ls) = left_none (position (path_eq (l ∷ ls)) (names tree))

    by : (o : Option Path) → base_in v k ≡ seen_by tree v k o
    by None = refl
    by (Some u) = sym (seen_of-none (left_by tree v k) u (base_in v k) none)

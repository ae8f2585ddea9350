-- What the path of a store tells of its trees.
use Rattle.std.proofs.Common.{◌≡◌, ◌≢◌, ◌^◌, ◌<◌, ℕ, zero, suc, List, [], ◌∷◌, length, refl, ◌∙◌, sym, arith}
use Rattle.std.proofs.lemmas.List.{length-map}
use Rattle.std.proofs.Math.Logic.{∥∥₁_elim}
use denote.Struct.Props.{props}
use Rattle.sqlite_trees.specs.View.{IsShaped}
use Rattle.sqlite_trees.specs.declared.store.Shape.TheVariants.{Absent}
use Rattle.sqlite_trees.specs.Listing.{Heading, shape_in}
use Rattle.sqlite_trees.proofs.StoreLemmas.{named, unnumbered}
use Rattle.row_store.specs.Heading.{heading}
use Rattle.sqlite_trees.specs.Props.{IsShaped-prop}
use Rattle.row_store.specs.declared.store.RowStore.{RowStore}
use Rattle.row_store.specs.RowView.{now, rows_in, row_view}
use Rattle.row_store.specs.Shown.{path_now}

pub counted : (s : RowStore) → (length s.headings.items ≡ 16) × (length s.rows.items ≡ 16)
counted s =
    let prop : IsProp ((length s.headings.items ≡ 16) × (length s.rows.items ≡ 16)) = hlevel props in
    ∥∥₁_elim s.path prop (λ h. let n = (path_now _ s.log.items (now s) h).count in (sym (length-map s.headings.items heading) ∙ n.0, sym (length-map s.rows.items (λ v. v.items)) ∙ n.1))

pub shaped_in : (s : RowStore) (t : ℕ) → IsShaped (shape_in (now s).headings t) (rows_in (now s).rows t)
shaped_in s t = ∥∥₁_elim s.path (IsShaped-prop _ _) (λ h. (path_now _ s.log.items (now s) h).shaped t)

pub present_in : (hs : List Heading) (t : ℕ) → shape_in hs t ≢ Absent → t < length hs
present_in [] t h = absurd (h refl)
present_in (x ∷ hs) zero h = omega arith
present_in (x ∷ hs) (suc t) h = omega (arith, present_in hs t h)

-- what a number that a call can name shows
pub named_shape : (s : RowStore) (t : ℕ) → t < 2 ^ 32 → (row_view s).shape t ≡ shape_in (now s).headings t
named_shape s t low = rw (unnumbered t low, named t low) refl

pub named_rows : (s : RowStore) (t : ℕ) → t < 2 ^ 32 → (row_view s).trees t ≡ rows_in (now s).rows t
named_rows s t low = rw (unnumbered t low, named t low) refl

pub low_tree : (s : RowStore) (t : ℕ) → t < 2 ^ 32 → (row_view s).shape t ≢ Absent → t < 16
low_tree s t low there =
    let within : t < length (now s).headings = present_in (now s).headings t (λ none. there (named_shape s t low ∙ none)) in
    let count : length (now s).headings ≡ 16 = length-map s.headings.items heading ∙ (counted s).0 in
    omega (arith, within, count)

pub low_rows : (s : RowStore) (t : ℕ) → t < 16 → t < length (now s).rows
low_rows s t low =
    let count : length (now s).rows ≡ 16 = length-map s.rows.items (λ v. v.items) ∙ (counted s).1 in
    omega (arith, low, count)

pub low_heads : (s : RowStore) (t : ℕ) → t < 16 → t < length (now s).headings
low_heads s t low =
    let count : length (now s).headings ≡ 16 = length-map s.headings.items heading ∙ (counted s).0 in
    omega (arith, low, count)

-- The children of a place, along first children and next siblings, each with those below it.
use Rattle.std.proofs.Common.{◌≡◌, ℕ, zero, suc, ◌+◌, ◌-◌, ◌^◌, ◌<◌, ◌≤◌, min, Bool, true, false, cond, List, [], ◌∷◌, ◌++◌, length, drop, Option, Some, None, is_some, unwrap_or, refl, sym, ap, subst, ◌∙◌, arith, true≢false, append_assoc, append-nil}
use Rattle.std.specs.List.{flat_map}
use Rattle.std.specs.Prelude.{nat_eq, slice_get, IfSome}
use Rattle.indexmap.specs.IndexMap.{get}
use Rattle.std.proofs.lemmas.Bool.{eqb-true}
use Rattle.report_trees.specs.inner.Linked.{AreTold, IsLinked, first_at}
use Rattle.report_trees.specs.Trees.{children_from, shown_of, tree_below, undone_at}
use Rattle.report_trees.specs.declared.links.Links.{Links}
use Rattle.report_trees.specs.declared.outcomes.Shown.{Shown}
use Rattle.report_trees.specs.declared.telling.Told.{Told}
use Rattle.report_trees.proofs.Chains.{same_some}

head_at : (xs : List ℕ) (k q : ℕ) (qs : List ℕ) → q ∷ qs ≡ drop k xs → (slice_get xs k ≡ Some q) × (qs ≡ drop (suc k) xs)
head_at [] zero q qs e = cc
head_at [] (suc k) q qs e = cc
head_at (x ∷ xs) zero q qs e = let one : q ≡ x = cc in let rest : qs ≡ xs = cc in (ap Some (sym one), rest)
head_at (x ∷ xs) (suc k) q qs e = head_at xs k q qs e

-- the first of the children, and the others behind it
pub record IsNextChild (places : List ℕ) (p k i : ℕ) (qs : List ℕ) : Type 0 where
  pub place : slice_get places i ≡ Some p
  pub rest : children_from k p qs ≡ i ∷ children_from (suc i) p (drop (suc i) places)

pub next_child : (places : List ℕ) (p k i : ℕ) (qs : List ℕ) → qs ≡ drop k places → first_at k p qs ≡ Some i → IsNextChild places p k i qs
next_child places p k i [] is e = absurd (true≢false (sym (ap is_some e)))
next_child places p k i (q ∷ qs) is e = by (nat_eq q p) refl e (λ f. next_child places p (suc k) i qs (head_at places k q qs is).1 f)
  where
    by : (b : Bool) → nat_eq q p ≡ b → cond b (Some k) (first_at (suc k) p qs) ≡ Some i → (first_at (suc k) p qs ≡ Some i → IsNextChild places p (suc k) i qs) → IsNextChild places p k i (q ∷ qs)
    by true t f more =
        let here : k ≡ i = same_some k i f in
        let w = head_at places k q qs is in
        record {
          place = ap (slice_get places) (sym here) ∙ w.0 ∙ ap Some (eqb-true q p t);
          rest = ap (λ b. cond b (k ∷ children_from (suc k) p qs) (children_from (suc k) p qs)) t ∙ (λ j. here j ∷ children_from (suc (here j)) p (w.1 j)) ∙ ap (λ n. i ∷ children_from (suc i) p (drop (suc n) places)) here;
        }
    by false t f more =
        let later = more f in
        record { place = later.place; rest = ap (λ b. cond b (k ∷ children_from (suc k) p qs) (children_from (suc k) p qs)) t ∙ later.rest }

pub no_child : (p k : ℕ) (qs : List ℕ) → first_at k p qs ≡ None → children_from k p qs ≡ []
no_child p k [] e = refl
no_child p k (q ∷ qs) e = by (nat_eq q p) refl e (no_child p (suc k) qs)
  where
    by : (b : Bool) → nat_eq q p ≡ b → cond b (Some k) (first_at (suc k) p qs) ≡ None → (first_at (suc k) p qs ≡ None → children_from (suc k) p qs ≡ []) → children_from k p (q ∷ qs) ≡ []
    by true t f more = absurd (true≢false (ap is_some f))
    by false t f more = ap (λ b. cond b (k ∷ children_from (suc k) p qs) (children_from (suc k) p qs)) t ∙ more f

first_later : (p k : ℕ) (qs : List ℕ) → IfSome (first_at k p qs) (λ j. k ≤ j)
first_later p k [] = tt
first_later p k (q ∷ qs) = by (nat_eq q p) (first_at (suc k) p qs) (first_later p (suc k) qs)
  where
    less : (o : Option ℕ) → IfSome o (λ j. suc k ≤ j) → IfSome o (λ j. k ≤ j)
    less None h = tt
    less (Some j) h = omega (arith, h)

    by : (b : Bool) (o : Option ℕ) → IfSome o (λ j. suc k ≤ j) → IfSome (cond b (Some k) o) (λ j. k ≤ j)
    by true o h = omega arith
    by false o h = less o h

get_within : (xs : List ℕ) (k y : ℕ) → slice_get xs k ≡ Some y → k < length xs
get_within [] k y at = absurd (true≢false (sym (ap is_some at)))
get_within (x ∷ xs) zero y at = omega arith
get_within (x ∷ xs) (suc k) y at = omega (arith, get_within xs k y at)

abbrev pub one_below : (ℕ → Told) → List ℕ → ℕ → ℕ → Option ℕ → ℕ → List Shown
one_below tells places more level above i = shown_of i level (tells i) above ∷ tree_below tells places more (suc level) (suc i) (undone_at (tells i).aborted above)

-- what is out, and what comes by the children from this one on, is all
pub record IsUnderWay (places : List ℕ) (tells : ℕ → Told) (more level place : ℕ) (above : Option ℕ) (before : List Shown) (child : Option ℕ) (out : List Shown) : Type 0 where
  pub from : ℕ
  pub next : child ≡ first_at from place (drop from places)
  pub all : out ++ flat_map (one_below tells places (more - 1) level above) (children_from from place (drop from places))
      ≡ before ++ flat_map (one_below tells places (more - 1) level above) (children_from 0 place places)

module _ (places : List ℕ) (tells : ℕ → Told) (more level place : ℕ) (above : Option ℕ) (before : List Shown) (links : Links) (told : List Told) (linked : IsLinked places links) (are : AreTold tells (length places) told) where
  pub under_way_first : (child : Option ℕ) → child ≡ get nat_eq links.first place → IsUnderWay places tells more level place above before child before
  under_way_first child is = record { from = 0; next = is ∙ linked.first place; all = refl }

  pub own_told : (i : ℕ) (none : Told) → slice_get places i ≡ Some place → unwrap_or (slice_get told i) none ≡ tells i
  own_told i none at = ap (λ o. unwrap_or o none) (are.each i (get_within places i place at))

  pub place_below : (i : ℕ) → slice_get places i ≡ Some place → min (i + 1) (2 ^ 64 - 1) ≡ suc i
  place_below i at = omega (arith, get_within places i place at, are.few)

  pub child_place : (i : ℕ) (out : List Shown) → IsUnderWay places tells more level place above before (Some i) out → slice_get places i ≡ Some place
  child_place i out way = (next_child places place way.from i (drop way.from places) refl (sym way.next)).place

  pub under_way_next : (i : ℕ) (out new : List Shown) (next : Option ℕ) → IsUnderWay places tells more level place above before (Some i) out
      → ((o : Option ℕ) → get nat_eq links.next i ≡ Some o → IfSome o (λ j. i < j) → next ≡ o)
      → new ≡ out ++ one_below tells places (more - 1) level above i
      → IsUnderWay places tells more level place above before next new
  under_way_next i out new next way follows is =
      let child = next_child places place way.from i (drop way.from places) refl (sym way.next) in
      let F = one_below tells places (more - 1) level above in
      let rest = children_from (suc i) place (drop (suc i) places) in
      record {
        from = suc i;
        next = follows (first_at (suc i) place (drop (suc i) places)) (linked.next i place (omega arith) child.place) (later (first_at (suc i) place (drop (suc i) places)) (first_later place (suc i) (drop (suc i) places)));
        all = ap (λ xs. xs ++ flat_map F rest) is ∙ append_assoc out (F i) (flat_map F rest) ∙ ap (λ is. out ++ flat_map F is) (sym child.rest) ∙ way.all;
      }
    where
      later : (o : Option ℕ) → IfSome o (λ j. suc i ≤ j) → IfSome o (λ j. i < j)
      later None h = tt
      later (Some j) h = omega (arith, h)

  pub under_way_last : (out : List Shown) → 0 < more → IsUnderWay places tells more level place above before None out → out ≡ before ++ tree_below tells places more level place above
  under_way_last out some way =
      let F = one_below tells places (more - 1) level above in
      let again : suc (more - 1) ≡ more = omega (arith, some) in
      sym (append-nil out) ∙ ap (λ is. out ++ flat_map F is) (sym (no_child place way.from (drop way.from places) (sym way.next))) ∙ way.all ∙ ap (λ m. before ++ tree_below tells places m level place above) again

abbrev pub left : Option ℕ → ℕ
left None = 0
left (Some i) = 2 ^ 64 - i

pub less_left : (i : ℕ) (o : Option ℕ) → i < 2 ^ 64 → IfSome o (λ j. i < j) → left o < left (Some i)
less_left i None fits later = omega (arith, fits)
less_left i (Some j) fits later = omega (arith, fits, later)

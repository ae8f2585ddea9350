-- Items of lists by their places, and names that stand at one place each.
use Rattle.std.proofs.Common.{◌≡◌, ℕ, zero, suc, ◌<◌, nat_eq, nat_lt, true, false, cond, List, [], ◌∷◌, ◌++◌, length, get_or, set, Option, Some, None, is_some, unwrap_or, ◌⊎◌, inl, inr, refl, sym, ap, subst, ◌∙◌, true≢false, arith}
use Rattle.std.specs.Cmp.{both_ways}
use Rattle.std.specs.Prelude.{slice_get, IfSome}
use Rattle.std.specs.List.{IsDistinct, position, position_or_len}
use Rattle.std.proofs.lemmas.Bool.{false≢true, false_from_ne_true, eqb-true, eq-eqb, ne_eqb, lt-ltb, cases_lt}
use Rattle.std.proofs.lemmas.Option.{slice_get_within, slice_get-get_or, get_or_from_slice_get}
use Rattle.std.proofs.lemmas.List.Sums.{position_or_len_is}
use Rattle.std.proofs.lemmas.Map.Keys.{apart_from_distinct}
use Rattle.txn_names.specs.Path.{Path, path_eq}
use Rattle.txn_names.proofs.Exports.{same_path, path_eq-from}
use Rattle.txn_tree.specs.declared.node.Node.{Node}
use Rattle.txn_tree.specs.declared.node.Children.{Children}
use Rattle.txn_tree.specs.Linked.{below, children_in, followed, update_at, with_below, with_children, with_next}

pub get_front : {X : Type 0} (xs ys : List X) (i : ℕ) (x : X) → slice_get xs i ≡ Some x → slice_get (xs ++ ys) i ≡ Some x
get_front [] ys i x e = absurd (false≢true (ap is_some e))
get_front (y ∷ xs) ys zero x e = e
get_front (y ∷ xs) ys (suc i) x e = get_front xs ys i x e

pub get_before : {X : Type 0} (xs : List X) (y : X) (i : ℕ) → i < length xs → slice_get (xs ++ y ∷ []) i ≡ slice_get xs i
get_before [] y i within = absurd (omega (arith, within))
get_before (x ∷ xs) y zero within = refl
get_before (x ∷ xs) y (suc i) within = get_before xs y i (omega (arith, within))

-- what stands in a longer list stands in the front or is the last
pub get_pushed : {X : Type 0} (xs : List X) (y : X) (i : ℕ) (x : X) → slice_get (xs ++ y ∷ []) i ≡ Some x → (slice_get xs i ≡ Some x) ⊎ ((i ≡ length xs) × (x ≡ y))
get_pushed [] y zero x e = inr (refl, sym (ap (λ o. unwrap_or o y) e))
get_pushed [] y (suc i) x e = absurd (false≢true (ap is_some e))
get_pushed (z ∷ xs) y zero x e = inl e
get_pushed (z ∷ xs) y (suc i) x e =
    elim (get_pushed xs y i x e) [
      | inl front ↦ inl front
      | inr last ↦ inr (ap suc last.0, last.1)
    ]

pub get_last : {X : Type 0} (xs : List X) (y : X) → slice_get (xs ++ y ∷ []) (length xs) ≡ Some y
get_last [] y = refl
get_last (x ∷ xs) y = get_last xs y

-- an item of a list with one changed is that of the list, changed at the one place
pub get_updated : {X : Type 0} (xs : List X) (p : ℕ) (f : X → X) (n : ℕ) (y : X) → slice_get (update_at xs p f) n ≡ Some y → (x : X) × (slice_get xs n ≡ Some x) × (y ≡ cond (nat_eq p n) (f x) x)
get_updated [] p f n y e = absurd (false≢true (ap is_some e))
get_updated (x ∷ xs) zero f zero y e = (x, refl, sym (ap (λ o. unwrap_or o y) e))
get_updated (x ∷ xs) zero f (suc n) y e = (y, e, ap (λ b. cond b (f y) y) (sym (ne_eqb 0 (suc n) (λ q. omega (arith, q)))))
get_updated (x ∷ xs) (suc p) f zero y e = (x, refl, sym (ap (λ o. unwrap_or o y) e) ∙ ap (λ b. cond b (f x) x) (sym (ne_eqb (suc p) 0 (λ q. omega (arith, q)))))
get_updated (x ∷ xs) (suc p) f (suc n) y e =
    let w = get_updated xs p f n y e in (
      w.0,
      w.1,
      w.2 ∙ ap (λ b. cond b (f w.0) w.0) (both_ways (nat_eq p n) (nat_eq (suc p) (suc n))
          (λ q. eq-eqb (suc p) (suc n) (ap suc (eqb-true p n q))) (λ q. let r = eqb-true (suc p) (suc n) q in eq-eqb p n (omega (arith, r)))),
    )

pub length_updated : {X : Type 0} (xs : List X) (p : ℕ) (f : X → X) → length (update_at xs p f) ≡ length xs
length_updated [] p f = refl
length_updated (x ∷ xs) zero f = refl
length_updated (x ∷ xs) (suc p) f = ap suc (length_updated xs p f)

module _ (ns : List Path) (distinct : IsDistinct path_eq ns) (t : Path) where
  clash : (i j : ℕ) → slice_get ns i ≡ Some t → slice_get ns j ≡ Some t → i < j → ⊥
  clash i j at also below =
      let alike : path_eq (get_or ns i t) (get_or ns j t) ≡ true = path_eq-from _ _ (get_or_from_slice_get ns i t t at ∙ sym (get_or_from_slice_get ns j t t also)) in
      true≢false (sym alike ∙ apart_from_distinct path_eq ns i j t distinct below (slice_get_within ns j t also))

  -- distinct ones stand at one place each
  pub one_place : (i j : ℕ) → slice_get ns i ≡ Some t → slice_get ns j ≡ Some t → i ≡ j
  one_place i j at also =
      elim (cases_lt i j) [
        | inl below ↦ absurd (clash i j at also below)
        | inr past ↦ elim (cases_lt j i) [
          | inl above ↦ absurd (clash j i also at above)
          | inr level ↦ omega (arith, past, level)
        ]
      ]

  -- nobody before has the name
  pub not_before : (n : ℕ) → slice_get ns n ≡ Some t → (k : ℕ) → k < n → path_eq t (get_or ns k t) ≡ false
  not_before n at k less =
      false_from_ne_true (path_eq t (get_or ns k t)) (λ e.
      clash k n (slice_get-get_or ns k t (omega (arith, less, slice_get_within ns n t at)) ∙ ap Some (sym (same_path t (get_or ns k t) e))) at less)

  -- and are found there
  pub found_at : (n : ℕ) → slice_get ns n ≡ Some t → position (path_eq t) ns ≡ Some n
  found_at n at =
      ap (λ i. cond (nat_lt i (length ns)) (Some i) None) first ∙ ap (λ b. cond b (Some n) None) (lt-ltb n (length ns) within)
    where
      within : n < length ns
      within = slice_get_within ns n t at

      first : position_or_len (path_eq t) ns ≡ n
      first = position_or_len_is (path_eq t) ns n t (omega (arith, within)) (not_before n at) (λ _. path_eq-from t (get_or ns n t) (sym (get_or_from_slice_get ns n t t at)))

-- ---- a node written to, as the code does it

update_is : (f : Node → Node) (nodes : List Node) (p : ℕ) (d : Node) → p < length nodes → set nodes p (f (get_or nodes p d)) ≡ update_at nodes p f
update_is f [] p d within = absurd (omega (arith, within))
update_is f (x ∷ xs) zero d within = refl
update_is f (x ∷ xs) (suc p) d within = ap (λ ys. x ∷ ys) (update_is f xs p d (omega (arith, within)))

read_is : (nodes : List Node) (p : ℕ) (d : Node) → p < length nodes → (get_or nodes p d).children ≡ children_in (slice_get nodes p)
read_is [] p d within = absurd (omega (arith, within))
read_is (x ∷ xs) zero d within = refl
read_is (x ∷ xs) (suc p) d within = read_is xs p d (omega (arith, within))

-- what is kept of the parent's children, changed
pub counted : (f : Children → Children) (nodes : List Node) (tops c : Children) (o : Option ℕ) (p i : ℕ) (d e : Node) → o ≡ Some p → i ≡ p
    → IfSome o (λ q. q < length nodes) → c ≡ f (get_or nodes i e).children
    → set nodes i (with_children c (get_or nodes i d)) ≡ with_below nodes o (f (below nodes tops o))
counted f nodes tops c o p i d e is at within changed =
    let here : p < length nodes = subst (λ (q : Option ℕ). IfSome q (λ r. r < length nodes)) is within in
    let same : c ≡ f (children_in (slice_get nodes p)) = changed ∙ ap (λ k. f (get_or nodes k e).children) at ∙ ap f (read_is nodes p e here) in
    rw (is, at) (update_is (with_children c) nodes p d here ∙ ap (λ x. update_at nodes p (with_children x)) same)

pub linked_to : (nodes : List Node) (o : Option ℕ) (l i n : ℕ) (d : Node) → o ≡ Some l → i ≡ l → IfSome o (λ q. q < length nodes)
    → set nodes i (with_next n (get_or nodes i d)) ≡ followed nodes o n
linked_to nodes o l i n d is at within = rw (is, at) (update_is (with_next n) nodes l d (subst (λ (q : Option ℕ). IfSome q (λ r. r < length nodes)) is within))

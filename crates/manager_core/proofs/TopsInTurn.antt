-- The top-level transactions, from each to the next: those between two of them are not top-level.
use Rattle.std.proofs.Common.{◌≡◌, ℕ, ◌+◌, ◌-◌, ◌<◌, ◌≤◌, zero, suc, true, false, cond, ◌&&◌, All, List, [], ◌∷◌, length, count_by, Option, Some, None, refl, sym, ap, subst, ◌∙◌, arith}
use Rattle.std.specs.Prelude.{slice_get, IfSome}
use Rattle.std.proofs.lemmas.Bool.{false≢true, and_parts, false_from_ne_true}
use Rattle.std.proofs.lemmas.List.Elements.{All-head, All-tail}
use Rattle.std.proofs.lemmas.List.Sums.{sum_by-cons}
use Rattle.std.proofs.lemmas.Option.{slice_get_within}
use Rattle.txn_names.specs.Path.{Path, path_eq, parent}
use Rattle.txn_names.specs.Text.{IsName}
use Rattle.txn_names.proofs.Exports.{length-parent, same_path}
use Rattle.txn_tree.specs.States.{States, IsTree, names}
use Rattle.txn_tree.specs.Asked.{is_live_child_in, is_live_in, live_children_of}
use Rattle.txn_tree.specs.Numbered.{is_parent_of}
use Rattle.txn_tree.specs.Siblings.{IsFirst, IsNext, is_sibling_at, is_top_at}
use Rattle.txn_tree.proofs.Exports.{siblings_are_tops}
use Rattle.serial_spec.specs.History.{History}
use Rattle.serial_spec.specs.Rows.{Rows}
use Rattle.serial_spec.specs.Legal.{is_top_level}
use Rattle.manager_core.specs.Tables.{Tabled, is_live_top_in}
use Rattle.manager_core.proofs.Named.{got}
use Rattle.manager_core.proofs.Tops.{ClosingAt, passed_one}

-- ---- how many are live

below_top : (l m : List ℕ) (ms : Path) → path_eq (parent (l ∷ m ∷ ms)) [] ≡ false
below_top l m ms = false_from_ne_true _ (λ e.
    let none = ap length (same_path (parent (l ∷ m ∷ ms)) [] e) in
    absurd (omega (arith, none, length-parent (l ∷ m ∷ ms))))

same_top : (tree : States) (t : Path) → IsName t → is_live_child_in tree [] t ≡ is_live_top_in tree t
same_top tree [] name = absurd (omega (arith, name.some))
same_top tree (l ∷ []) name = refl
same_top tree (l ∷ m ∷ ms) name = ap (λ b. b && is_live_in tree (l ∷ m ∷ ms)) (below_top l m ms)

all_counted : (tree : States) (ts : List Path) → All IsName ts → count_by (is_live_child_in tree []) ts ≡ count_by (is_live_top_in tree) ts
all_counted tree [] named = refl
all_counted tree (t ∷ ts) named =
    let here = same_top tree t (All-head IsName t ts named) in
    sum_by-cons (λ u. cond (is_live_child_in tree [] u) 1 0) t ts
    ∙ ap (λ b. cond b 1 0 + count_by (is_live_child_in tree []) ts) here
    ∙ ap (λ n. cond (is_live_top_in tree t) 1 0 + n) (all_counted tree ts (All-tail IsName t ts named))
    ∙ sym (sum_by-cons (λ u. cond (is_live_top_in tree u) 1 0) t ts)

-- the live children of the root are the live top-level ones
pub tops_counted : (tree : States) → IsTree tree → live_children_of tree [] ≡ count_by (is_live_top_in tree) (names tree)
tops_counted tree is = all_counted tree (names tree) is.named

-- ---- from one to the next

-- the place that is looked at: past all where there is no further one
abbrev pub place_of : Option ℕ → ℕ → ℕ
place_of None end = end
place_of (Some n) end = n

root_above : (t : Path) → is_top_level t ≡ true → path_eq (parent t) [] ≡ true
root_above [] e = absurd (false≢true e)
root_above (l ∷ []) e = refl
root_above (l ∷ m ∷ ms) e = absurd (false≢true e)

no_top : (tree : States) (n : ℕ) (t : Path) → slice_get (names tree) n ≡ Some t → is_top_at tree n ≡ false → is_live_top_in tree t ≡ false
no_top tree n t at none = false_from_ne_true _ (λ e.
    let top = (and_parts (is_top_level t) (is_live_in tree t) e).0 in
    false≢true (sym none ∙ ap (is_parent_of (Some [])) at ∙ root_above t top))

pub top_within : (tree : States) (c : ℕ) → is_top_at tree c ≡ true → c < length (names tree)
top_within tree c e = by (slice_get (names tree) c) refl e
  where
    by : (o : Option Path) → slice_get (names tree) c ≡ o → is_parent_of (Some []) o ≡ true → c < length (names tree)
    by (Some t) at f = slice_get_within (names tree) c t at
    by None at f = absurd (false≢true f)

module _ (rows : Rows) (old new : History) (before tables : Tabled) (room : ℕ) where
  abbrev Here : ℕ → Type 0
  Here = ClosingAt rows old new before tables room

  passed : (k i : ℕ) → Here i → i + k ≤ length (names tables.tree) → ((m : ℕ) → i ≤ m → m < i + k → is_top_at tables.tree m ≡ false) → Here (i + k)
  passed zero i far within none = let same : i ≡ i + zero = omega arith in subst Here same far
  passed (suc k) i far within none =
      let here = got (names tables.tree) i (omega (arith, within)) in
      let next = passed_one rows old new before tables room i far here.0 here.1 (no_top tables.tree i here.0 here.1 (none i (omega arith) (omega arith))) in
      let same : i + 1 + k ≡ i + suc k = omega arith in
      subst Here same (passed k (i + 1) next (omega (arith, within)) (λ m from to. none m (omega (arith, from)) (omega (arith, to))))

  passed_to : (i j : ℕ) → Here i → i ≤ j → j ≤ length (names tables.tree) → ((m : ℕ) → i ≤ m → m < j → is_top_at tables.tree m ≡ false) → Here j
  passed_to i j far ahead within none =
      let same : i + (j - i) ≡ j = omega (arith, ahead) in
      subst Here same (passed (j - i) i far (omega (arith, ahead, within)) (λ m from to. none m from (omega (arith, ahead, to))))

  -- the place of the one that is looked at, and the end
  pub here_at : (o : Option ℕ) (c : ℕ) → o ≡ Some c → Here (place_of o (length (names tables.tree))) → Here c
  here_at o c is far = subst (λ (q : Option ℕ). Here (place_of q (length (names tables.tree)))) is far

  pub end_at : (o : Option ℕ) → o ≡ None → Here (place_of o (length (names tables.tree))) → Here (length (names tables.tree))
  end_at o is far = subst (λ (q : Option ℕ). Here (place_of q (length (names tables.tree)))) is far

  -- up to the first one
  pub at_first : (o : Option ℕ) → IsFirst (is_top_at tables.tree) o → Here 0 → Here (place_of o (length (names tables.tree)))
  at_first None first far = passed_to 0 (length (names tables.tree)) far (omega arith) (omega arith) (λ m from to. first m)
  at_first (Some c) first far =
      let within = top_within tables.tree c first.0 in
      passed_to 0 c far (omega arith) (omega (arith, within)) (λ m from to. first.1 m to)

  -- and from each to the next
  pub at_next : (c : ℕ) (o : Option ℕ) → is_top_at tables.tree c ≡ true → IsNext (is_sibling_at tables.tree c) c o → Here (c + 1) → Here (place_of o (length (names tables.tree)))
  at_next c None top next far =
      let within = top_within tables.tree c top in
      passed_to (c + 1) (length (names tables.tree)) far (omega (arith, within)) (omega arith)
      (λ m from to. sym (siblings_are_tops tables.tree c top m) ∙ next m (omega (arith, from)))
  at_next c (Some d) top next far =
      let later = next.0 in
      let within = top_within tables.tree d (sym (siblings_are_tops tables.tree c top d) ∙ next.1) in
      passed_to (c + 1) d far (omega (arith, later)) (omega (arith, within))
      (λ m from to. sym (siblings_are_tops tables.tree c top m) ∙ next.2 m (omega (arith, from)) to)

-- the first one and each next one are top-level
pub first_is_top : (tree : States) (o : Option ℕ) → IsFirst (is_top_at tree) o → IfSome o (λ c. is_top_at tree c ≡ true)
first_is_top tree None first = tt
first_is_top tree (Some c) first = first.0

pub next_is_top : (tree : States) (c : ℕ) (o : Option ℕ) → is_top_at tree c ≡ true → IsNext (is_sibling_at tree c) c o → IfSome o (λ d. is_top_at tree d ≡ true)
next_is_top tree c None top next = tt
next_is_top tree c (Some d) top next = sym (siblings_are_tops tree c top d) ∙ next.1

-- fewer places are left
pub fewer_left : (tree : States) (c : ℕ) (o : Option ℕ) → is_top_at tree c ≡ true → IsNext (is_sibling_at tree c) c o
    → length (names tree) - place_of o (length (names tree)) < length (names tree) - c
fewer_left tree c None top next = let within = top_within tree c top in omega (arith, within)
fewer_left tree c (Some d) top next = let within = top_within tree c top in let later = next.0 in omega (arith, within, later)

pub top_here : (tree : States) (o : Option ℕ) (c : ℕ) → o ≡ Some c → IfSome o (λ d. is_top_at tree d ≡ true) → is_top_at tree c ≡ true
top_here tree o c is top = subst (λ (q : Option ℕ). IfSome q (λ d. is_top_at tree d ≡ true)) is top

-- of the same names the same are top-level
pub top_still : (old new : States) (c : ℕ) → names new ≡ names old → is_top_at old c ≡ true → is_top_at new c ≡ true
top_still old new c same top = ap (λ xs. is_parent_of (Some []) (slice_get xs c)) same ∙ top

pub fewer_at : (tree : States) (c : ℕ) (o q : Option ℕ) → q ≡ Some c → is_top_at tree c ≡ true → IsNext (is_sibling_at tree c) c o
    → length (names tree) - place_of o (length (names tree)) < length (names tree) - place_of q (length (names tree))
fewer_at tree c o q is top next =
    subst (λ (r : Option ℕ). length (names tree) - place_of o (length (names tree)) < length (names tree) - place_of r (length (names tree))) (sym is)
    (fewer_left tree c o top next)

-- also where the tree is another one by then, of the same names
pub fewer_after : (old new : States) (c : ℕ) (o q : Option ℕ) → names new ≡ names old → q ≡ Some c → is_top_at old c ≡ true → IsNext (is_sibling_at new c) c o
    → length (names new) - place_of o (length (names new)) < length (names old) - place_of q (length (names old))
fewer_after old new c o q same is top next =
    subst (λ (n : ℕ). length (names new) - place_of o (length (names new)) < n - place_of q n) (ap length same)
    (fewer_at new c o q is (top_still old new c same top) next)

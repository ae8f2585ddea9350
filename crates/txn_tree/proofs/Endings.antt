-- How many an abort ends: the transaction itself, and what an abort of each of its children would end.
use Rattle.std.proofs.Common.{◌≡◌, ℕ, zero, suc, ◌+◌, ◌-◌, ◌<◌, ◌≤◌, Bool, true, false, not, ◌&&◌, cond, count_by, List, [], ◌∷◌, length, take, Option, Some, None, is_some, unwrap_or, ◌⊎◌, inl, inr, refl, sym, ap, subst, ◌∙◌, true≢false, arith}
use Rattle.std.specs.Prelude.{slice_get}
use Rattle.std.specs.List.{sum_by}
use Rattle.std.proofs.lemmas.Bool.{false≢true, leb-true}
use Rattle.std.proofs.lemmas.List.Sums.{count_by-le-length, sum_by-cons, sum_by-take-le}
use Rattle.std.proofs.Math.Seq.{take-length}
use Rattle.std.proofs.lemmas.Map.Entries.{length-keys_of}
use Rattle.std.proofs.lemmas.Option.{slice_get_within}
use Rattle.txn_names.specs.Path.{Path, path_eq, is_front, parent}
use Rattle.txn_names.proofs.Exports.{same_path, path_eq-from, is_front_self, is_front-trans, is_front-parent, not_front-parent, child_towards}
use Rattle.serial_spec.specs.Allowed.{most_transactions}
use Rattle.txn_tree.specs.declared.node.Children.{Children}
use Rattle.txn_tree.specs.declared.node.Node.{Node}
use Rattle.txn_tree.specs.States.{States, IsTree, is_live, names}
use Rattle.txn_tree.specs.Asked.{ended_by_abort, is_active_in, is_orphan_in}
use Rattle.txn_tree.specs.Numbered.{IsUpward, ended_at, ended_named, is_active_at, is_active_named, is_below_orphan, is_below_orphan_named, is_parent_of, status_at, status_named}
use Rattle.txn_tree.specs.Siblings.{IsFirst, IsNext, is_child_at, is_sibling_at}
use Rattle.txn_tree.specs.Linked.{IsLinked}
use Rattle.txn_tree.proofs.Counts.{count_none, count_one, count_same}
use Rattle.txn_tree.proofs.Links.{some_label}
use Rattle.txn_tree.proofs.Orphans.{active_parts, child_active, none_to_end}
use Rattle.txn_tree.proofs.Places.{one_place}
use Rattle.txn_tree.proofs.Siblings.{child_parts, front_begun, one_branch}
use Rattle.txn_tree.proofs.Subtrees.{siblings_are_children}

-- ---- sums

sum_same : {X : Type 0} (f g : X → ℕ) (xs : List X) → ((n : ℕ) (x : X) → slice_get xs n ≡ Some x → f x ≡ g x) → sum_by f xs ≡ sum_by g xs
sum_same f g [] e = refl
sum_same f g (x ∷ xs) e =
    sum_by-cons f x xs ∙ ap (λ k. k + sum_by f xs) (e 0 x refl) ∙ ap (λ k. g x + k) (sum_same f g xs (λ n. e (suc n))) ∙ sym (sum_by-cons g x xs)

sum_zero : {X : Type 0} (xs : List X) → sum_by (λ (x : X). 0) xs ≡ 0
sum_zero [] = refl
sum_zero (x ∷ xs) = let all = sum_by-cons (λ y. 0) x xs in let rest = sum_zero xs in omega (arith, all, rest)

sum_both : {X : Type 0} (f g : X → ℕ) (xs : List X) → sum_by (λ x. f x + g x) xs ≡ sum_by f xs + sum_by g xs
sum_both f g [] = refl
sum_both f g (x ∷ xs) =
    let all = sum_by-cons (λ y. f y + g y) x xs in
    let one = sum_by-cons f x xs in
    let other = sum_by-cons g x xs in
    let rest = sum_both f g xs in
    omega (arith, all, one, other, rest)

-- the order of two sums
sum_swap : {X Y : Type 0} (h : X → Y → ℕ) (xs : List X) (ys : List Y) → sum_by (λ x. sum_by (h x) ys) xs ≡ sum_by (λ y. sum_by (λ x. h x y) xs) ys
sum_swap h [] ys = sym (sum_zero ys)
sum_swap h (x ∷ xs) ys =
    sum_by-cons (λ z. sum_by (h z) ys) x xs
    ∙ ap (λ k. sum_by (h x) ys + k) (sum_swap h xs ys)
    ∙ sym (sum_both (h x) (λ y. sum_by (λ z. h z y) xs) ys)
    ∙ sum_same (λ y. h x y + sum_by (λ z. h z y) xs) (λ y. sum_by (λ z. h z y) (x ∷ xs)) ys (λ n y at. sym (sum_by-cons (λ z. h z y) x xs))

sum_step : {X : Type 0} (f : X → ℕ) (xs : List X) (n : ℕ) (x : X) → slice_get xs n ≡ Some x → sum_by f (take (suc n) xs) ≡ sum_by f (take n xs) + f x
sum_step f [] n x at = absurd (false≢true (ap is_some at))
sum_step f (y ∷ xs) zero x at = sum_by-cons f y [] ∙ (let same : f y ≡ f x = ap (λ o. f (unwrap_or o x)) at in omega (arith, same))
sum_step f (y ∷ xs) (suc n) x at =
    let longer = sum_by-cons f y (take (suc n) xs) in
    let shorter = sum_by-cons f y (take n xs) in
    let rest = sum_step f xs n x at in
    omega (arith, longer, shorter, rest)

-- what adds nothing may be left aside
sum_skip : {X : Type 0} (f : X → ℕ) (xs : List X) (a b : ℕ) → a ≤ b → ((m : ℕ) (x : X) → a ≤ m → m < b → slice_get xs m ≡ Some x → f x ≡ 0) → sum_by f (take b xs) ≡ sum_by f (take a xs)
sum_skip f [] zero zero le none = refl
sum_skip f [] zero (suc b) le none = refl
sum_skip f [] (suc a) zero le none = refl
sum_skip f [] (suc a) (suc b) le none = refl
sum_skip f (x ∷ xs) zero zero le none = refl
sum_skip f (x ∷ xs) (suc a) zero le none = absurd (omega (arith, le))
sum_skip f (x ∷ xs) zero (suc b) le none =
    let all = sum_by-cons f x (take b xs) in
    let own = none 0 x (omega arith) (omega arith) refl in
    let rest : sum_by f (take b xs) ≡ sum_by f (take 0 xs) = sum_skip f xs 0 b (omega arith) (λ m y from less at. none (suc m) y (omega arith) (omega (arith, less)) at) in
    let nothing : sum_by f (take 0 xs) ≡ 0 = refl in
    omega (arith, all, own, rest, nothing)
sum_skip f (x ∷ xs) (suc a) (suc b) le none =
    sum_by-cons f x (take b xs)
    ∙ ap (λ k. f x + k) (sum_skip f xs a b (omega (arith, le)) (λ m y from less at. none (suc m) y (omega (arith, from)) (omega (arith, less)) at))
    ∙ sym (sum_by-cons f x (take a xs))

-- ---- child by child

-- what an abort of d would end, if d is a child of t
abbrev pub by_child : States → Path → Path → ℕ
by_child tree t d = cond (path_eq (parent d) t) (ended_by_abort tree d) 0

module _ (tree : States) (nodes : List Node) (tops : Children) (is : IsTree tree) (linked : IsLinked tree nodes tops) (n : ℕ) (t : Path) (at : slice_get (names tree) n ≡ Some t) where
  -- u is below the child d of t
  abbrev ends_below : Path → Path → Bool
  ends_below u d = path_eq (parent d) t && (is_front d u && is_active_in tree u)

  -- an active one is t or below one child of t, or not below t
  each : (m : ℕ) (u : Path) → slice_get (names tree) m ≡ Some u
      → cond (is_front t u && is_active_in tree u) 1 0 ≡ cond (is_active_in tree u && path_eq t u) 1 0 + count_by (ends_below u) (names tree)
  each m u there = by_name (path_eq t u) refl
    where
      only : (a b c : Bool) → (a ≡ true → b ≡ true → ⊥) → (a && (b && c)) ≡ false
      only true true c f = absurd (f refl refl)
      only true false c f = refl
      only false b c f = refl

      -- no child of t is above t
      not_above : (k : ℕ) (d : Path) → slice_get (names tree) k ≡ Some d → path_eq (parent d) t ≡ true → is_front d t ≡ true → ⊥
      not_above k [] found e f = true≢false (some_label (names tree) k [] is.named found)
      not_above k (l ∷ ls) found e f = true≢false (sym (subst (λ (p : Path). is_front (l ∷ ls) p ≡ true) (sym (same_path (parent (l ∷ ls)) t e)) f) ∙ not_front-parent l ls)

      own : (b : Bool) → is_active_in tree u ≡ b → path_eq t u ≡ true → cond (is_front t u && b) 1 0 ≡ cond (b && path_eq t u) 1 0 + count_by (ends_below u) (names tree)
      own b e same =
          let name : t ≡ u = same_path t u same in
          let none : count_by (ends_below u) (names tree) ≡ 0 = count_none (ends_below u) (names tree)
          (λ k d found. only (path_eq (parent d) t) (is_front d u) (is_active_in tree u) (λ f g. not_above k d found f (subst (λ (p : Path). is_front d p ≡ true) (sym name) g))) in
          let above : is_front t u ≡ true = subst (λ (p : Path). is_front t p ≡ true) name (is_front_self t) in
          rw (none, above, same) (by b)
        where
          by : (b : Bool) → cond b 1 0 ≡ cond (b && true) 1 0 + 0
          by true = refl
          by false = refl

      off : (b : Bool) → (b && false) ≡ false
      off true = refl
      off false = refl

      -- below t, and not t
      lower : path_eq t u ≡ false → (t ≡ u) ⊎ ((l : List ℕ) × (ls : Path) × (parent (l ∷ ls) ≡ t) × (is_front (l ∷ ls) u ≡ true))
          → cond (is_active_in tree u) 1 0 ≡ 0 + count_by (ends_below u) (names tree)
      lower other (inl same) = absurd (true≢false (sym (path_eq-from t u same) ∙ other))
      lower other (inr w) =
          let d : Path = w.0 ∷ w.1 in
          let c = front_begun tree nodes tops is linked m u there w.0 w.1 w.3 in
          let once = count_one (λ v. is_active_in tree u) (names tree) (w.0 ∷ w.1) c.0 c.1 (λ k found. one_place (names tree) is.distinct (w.0 ∷ w.1) k c.0 found c.1) in
          let same = count_same (ends_below u) (λ v. is_active_in tree u && path_eq (w.0 ∷ w.1) v) (names tree) (λ k v found. agree k v found (path_eq (w.0 ∷ w.1) v) refl) in
          omega (arith, once, same)
        where
          agree : (k : ℕ) (v : Path) → slice_get (names tree) k ≡ Some v → (b : Bool) → path_eq (w.0 ∷ w.1) v ≡ b → ends_below u v ≡ (is_active_in tree u && b)
          agree k v found true e =
              let name = same_path (w.0 ∷ w.1) v e in
              let up : path_eq (parent v) t ≡ true = path_eq-from (parent v) t (ap parent (sym name) ∙ w.2) in
              let front : is_front v u ≡ true = subst (λ (p : Path). is_front p u ≡ true) name w.3 in
              rw (up, front) (by (is_active_in tree u))
            where
              by : (b : Bool) → b ≡ (b && true)
              by true = refl
              by false = refl
          agree k v found false e =
              only (path_eq (parent v) t) (is_front v u) (is_active_in tree u)
              (λ up front. true≢false (sym (path_eq-from (w.0 ∷ w.1) v (sym (one_branch tree nodes tops is linked t u v w.0 w.1 w.2 (same_path (parent v) t up) (some_label (names tree) k v is.named found) w.3 front))) ∙ e))
              ∙ sym (off (is_active_in tree u))

      by_front : (b : Bool) → is_front t u ≡ b → path_eq t u ≡ false → cond (b && is_active_in tree u) 1 0 ≡ cond (is_active_in tree u && false) 1 0 + count_by (ends_below u) (names tree)
      by_front true f other = lower other (child_towards t u f) ∙ ap (λ b. cond b 1 0 + count_by (ends_below u) (names tree)) (sym (off (is_active_in tree u)))
      by_front false f other =
          let none : count_by (ends_below u) (names tree) ≡ 0 = count_none (ends_below u) (names tree)
          (λ k d found. only (path_eq (parent d) t) (is_front d u) (is_active_in tree u)
          (λ e g. true≢false (sym (is_front-trans t d u (subst (λ (p : Path). is_front p d ≡ true) (same_path (parent d) t e) (is_front-parent d)) g) ∙ f))) in
          rw (none, off (is_active_in tree u)) refl

      by_name : (b : Bool) → path_eq t u ≡ b → cond (is_front t u && is_active_in tree u) 1 0 ≡ cond (is_active_in tree u && path_eq t u) 1 0 + count_by (ends_below u) (names tree)
      by_name true e = own (is_active_in tree u) refl e
      by_name false e = by_front (is_front t u) refl e ∙ ap (λ b. cond (is_active_in tree u && b) 1 0 + count_by (ends_below u) (names tree)) (sym e)

  pub ended_is : ended_by_abort tree t ≡ cond (is_active_in tree t) 1 0 + sum_by (by_child tree t) (names tree)
  ended_is =
      sum_same (λ u. cond (is_front t u && is_active_in tree u) 1 0) (λ u. cond (is_active_in tree u && path_eq t u) 1 0 + count_by (ends_below u) (names tree)) (names tree) each
      ∙ sum_both (λ u. cond (is_active_in tree u && path_eq t u) 1 0) (λ u. count_by (ends_below u) (names tree)) (names tree)
      ∙ ap (λ k. k + sum_by (λ u. count_by (ends_below u) (names tree)) (names tree))
      (count_one (is_active_in tree) (names tree) t n at (λ m found. one_place (names tree) is.distinct t m n found at))
      ∙ ap (λ k. cond (is_active_in tree t) 1 0 + k)
      (sum_swap (λ u d. cond (ends_below u d) 1 0) (names tree) (names tree)
      ∙ sum_same (λ d. sum_by (λ u. cond (ends_below u d) 1 0) (names tree)) (by_child tree t) (names tree) (λ m d found. by d (path_eq (parent d) t)))
    where
      by : (d : Path) (b : Bool) → sum_by (λ u. cond (b && (is_front d u && is_active_in tree u)) 1 0) (names tree) ≡ cond b (ended_by_abort tree d) 0
      by d true = refl
      by d false = sum_zero (names tree)

-- ---- as far as the children have been gone over

abbrev by_child_of : States → Option Path → Path → ℕ
by_child_of tree o d = cond (is_parent_of o (Some d)) (ended_by_abort tree d) 0

-- all children have been gone over once there is no next one
abbrev upto : States → Option ℕ → ℕ
upto tree None = length (names tree)
upto tree (Some c) = c

-- what aborts of the children before that one would end
abbrev pub so_far : States → ℕ → Option ℕ → ℕ
so_far tree n o = sum_by (by_child_of tree (slice_get (names tree) n)) (take (upto tree o) (names tree))

-- how far the end is, from a child
abbrev pub remaining : States → Option ℕ → ℕ
remaining tree None = 0
remaining tree (Some c) = length (names tree) - c

abbrev pub IsChild : States → ℕ → Option ℕ → Type 0
IsChild tree n None = Unit {0}
IsChild tree n (Some c) = is_child_at tree n c ≡ true

module _ (tree : States) (n : ℕ) where
  abbrev part : Path → ℕ
  part = by_child_of tree (slice_get (names tree) n)

  pub within : (c : ℕ) → is_child_at tree n c ≡ true → c < length (names tree)
  within c e = let w = child_parts (slice_get (names tree) n) (slice_get (names tree) c) e in slice_get_within (names tree) c w.1 w.3

  no_part : (m : ℕ) (d : Path) → slice_get (names tree) m ≡ Some d → is_child_at tree n m ≡ false → part d ≡ 0
  no_part m d found e = ap (λ b. cond b (ended_by_abort tree d) 0) (ap (is_parent_of (slice_get (names tree) n)) (sym found) ∙ e)

  pub first_is_child : (o : Option ℕ) → IsFirst (is_child_at tree n) o → IsChild tree n o
  first_is_child None f = tt
  first_is_child (Some c) f = f.0

  pub next_is_child : (c : ℕ) → is_child_at tree n c ≡ true → (o : Option ℕ) → IsNext (is_sibling_at tree c) c o → IsChild tree n o
  next_is_child c e None f = tt
  next_is_child c e (Some d) f = sym (siblings_are_children tree n c e d) ∙ f.1

  pub nearer : (c : ℕ) → is_child_at tree n c ≡ true → (o : Option ℕ) → IsNext (is_sibling_at tree c) c o → IsChild tree n o → remaining tree o < remaining tree (Some c)
  nearer c e None f child = let less = within c e in omega (arith, less)
  nearer c e (Some d) f child = let less = within c e in let past = within d child in omega (arith, less, past, f.0)

  pub none_yet : (o : Option ℕ) → IsFirst (is_child_at tree n) o → so_far tree n o ≡ 0
  none_yet None f = sum_skip part (names tree) 0 (length (names tree)) (omega arith) (λ m d from less found. no_part m d found (f m))
  none_yet (Some c) f = sum_skip part (names tree) 0 c (omega arith) (λ m d from less found. no_part m d found (f.1 m less))

  one_child : (c : ℕ) → is_child_at tree n c ≡ true → sum_by part (take (suc c) (names tree)) ≡ so_far tree n (Some c) + ended_at tree c
  one_child c e =
      let w = child_parts (slice_get (names tree) n) (slice_get (names tree) c) e in
      sum_step part (names tree) c w.1 w.3
      ∙ ap (λ k. so_far tree n (Some c) + k)
      (ap (λ b. cond b (ended_by_abort tree w.1) 0) (ap (is_parent_of (slice_get (names tree) n)) (sym w.3) ∙ e) ∙ sym (ap (ended_named tree) w.3))

  pub one_more : (c : ℕ) → is_child_at tree n c ≡ true → (o : Option ℕ) → IsNext (is_sibling_at tree c) c o → so_far tree n o ≡ so_far tree n (Some c) + ended_at tree c
  one_more c e o f = by o f ∙ one_child c e
    where
      others : (m : ℕ) → is_sibling_at tree c m ≡ false → is_child_at tree n m ≡ false
      others m g = sym (siblings_are_children tree n c e m) ∙ g

      by : (q : Option ℕ) → IsNext (is_sibling_at tree c) c q → so_far tree n q ≡ sum_by part (take (suc c) (names tree))
      by None f = let less = within c e in
          sum_skip part (names tree) (suc c) (length (names tree)) (omega (arith, less)) (λ m d from less found. no_part m d found (others m (f m (omega (arith, from)))))
      by (Some d) f = sum_skip part (names tree) (suc c) d (omega (arith, f.0)) (λ m x from less found. no_part m x found (others m (f.2 m (omega (arith, from)) less)))

  -- one that is active, and its children
  pub all_ended : (nodes : List Node) (tops : Children) → IsTree tree → IsLinked tree nodes tops → is_active_at tree n ≡ true → ended_at tree n ≡ 1 + so_far tree n None
  all_ended nodes tops is linked active = by (slice_get (names tree) n) refl active
    where
      by : (o : Option Path) → slice_get (names tree) n ≡ o → is_active_named tree o ≡ true → ended_named tree o ≡ 1 + sum_by (by_child_of tree o) (take (length (names tree)) (names tree))
      by None none e = absurd (false≢true e)
      by (Some t) at e =
          ended_is tree nodes tops is linked n t at ∙ ap (λ b. cond b 1 0 + sum_by (by_child tree t) (names tree)) e
          ∙ ap (λ (ns : List Path). 1 + sum_by (by_child tree t) ns) (sym (take-length (names tree)))

  pub fits : (nodes : List Node) (tops : Children) → IsTree tree → IsLinked tree nodes tops → is_active_at tree n ≡ true → (c : ℕ) → is_child_at tree n c ≡ true
      → (1 + so_far tree n (Some c)) + ended_at tree c < 4294967296
  fits nodes tops is linked active c e =
      let all = all_ended nodes tops is linked active in
      let some = one_child c e in
      let some_le : sum_by part (take (suc c) (names tree)) ≤ sum_by part (names tree) = sum_by-take-le part (names tree) (suc c) in
      let whole : so_far tree n None ≡ sum_by part (names tree) = ap (sum_by part) (take-length (names tree)) in
      let few : length tree ≤ most_transactions = is.few in
      let fit : most_transactions ≤ 4294967294 = leb-true most_transactions 4294967294 refl in
      let most = at_most (slice_get (names tree) n) in
      omega (arith, all, some, some_le, whole, few, fit, most, length-keys_of tree)
    where
      at_most : (o : Option Path) → ended_named tree o ≤ length (names tree)
      at_most None = omega arith
      at_most (Some t) = count_by-le-length (λ u. is_front t u && is_active_in tree u) (names tree)

-- whoever is live, below one that is no orphan, is active
pub is_active : (tree : States) (n : ℕ) → is_live (status_at tree n) ≡ true → is_below_orphan tree n ≡ false → is_active_at tree n ≡ true
is_active tree n = by (slice_get (names tree) n)
  where
    by : (o : Option Path) → is_live (status_named tree o) ≡ true → is_below_orphan_named tree o ≡ false → is_active_named tree o ≡ true
    by None e f = absurd (false≢true e)
    by (Some t) e f = child_active tree t e f

pub no_end : (tree : States) (n : ℕ) → IsUpward tree → is_live (status_at tree n) ≡ false → ended_at tree n ≡ 0
no_end tree n upward = by (slice_get (names tree) n)
  where
    by : (o : Option Path) → is_live (status_named tree o) ≡ false → ended_named tree o ≡ 0
    by None e = refl
    by (Some t) e = none_to_end tree upward t (ap (λ b. b && not (is_orphan_in tree t)) e)

-- a child of one that is active is below no orphan
pub child_upright : (tree : States) (n c : ℕ) → is_active_at tree n ≡ true → is_child_at tree n c ≡ true → is_below_orphan tree c ≡ false
child_upright tree n c = by (slice_get (names tree) n) (slice_get (names tree) c)
  where
    by : (a b : Option Path) → is_active_named tree a ≡ true → is_parent_of a b ≡ true → is_below_orphan_named tree b ≡ false
    by None b e f = absurd (false≢true e)
    by (Some t) None e f = refl
    by (Some t) (Some u) e f = ap (is_orphan_in tree) (same_path (parent u) t f) ∙ (active_parts tree t e).1

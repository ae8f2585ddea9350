-- Children, and how many of them are live.
use Rattle.std.proofs.Common.{◌≡◌, ◌+◌, ◌-◌, ◌<◌, ◌≤◌, ◌||◌, Bool, true, false, cond, nat_lt, count_by, List, [], ◌∷◌, length, take, Some, None, refl, sym, ap, subst, ◌∙◌, arith}
use Rattle.std.specs.Cmp.{both_ways}
use Rattle.std.specs.List.{list_any}
use Rattle.std.proofs.lemmas.Bool.{lt-ltb, le-ltb}
use Rattle.std.proofs.lemmas.Bool.Decides.{nat_tests}
use Rattle.std.proofs.lemmas.List.Sums.{sum_by-cons}
use Rattle.txn_names.specs.Path.{Path, path_eq, is_front, parent}
use Rattle.txn_names.proofs.Exports.{same_path, path_eq-from, is_front-parent, take-front}
use Rattle.serial_spec.specs.History.{or_else}
use Rattle.serial_spec.specs.Causes.{when}
use Rattle.serial_spec.specs.declared.entry.Refusal.TheVariants.{Children}
use Rattle.txn_tree.specs.States.{States, names}
use Rattle.txn_tree.specs.Asked.{is_live_child_in, live_children_of}
use Rattle.txn_tree.specs.Causes.{cause_at_abort, cause_at_commit}

-- of a path with one label more, t is the parent exactly where it is a front
pub front-parent : (t u : Path) → length u ≡ length t + 1 → is_front t u ≡ path_eq (parent u) t
front-parent t u deeper = both_ways (is_front t u) (path_eq (parent u) t)
    (λ f.
    let n : length u - 1 ≡ length t = omega arith in
    path_eq-from (parent u) t (ap (λ n. take n u) n ∙ take-front t u f))
    (λ e. subst (λ (p : Path). is_front p u ≡ true) (same_path (parent u) t e) (is_front-parent u))

-- some pass exactly where more than none do
pub any_counted : {X : Type 0} (p : X → Bool) (xs : List X) → list_any p xs ≡ nat_lt 0 (count_by p xs)
any_counted p [] = refl
any_counted p (x ∷ xs) = by (p x) (any_counted p xs) ∙ ap (nat_lt 0) (sym (sum_by-cons (λ y. cond (p y) 1 0) x xs))
  where
    by : (b : Bool) → list_any p xs ≡ nat_lt 0 (count_by p xs) → (b || list_any p xs) ≡ nat_lt 0 (cond b 1 0 + count_by p xs)
    by true e = grind (arith, nat_tests)
    by false e = e ∙ grind (arith, nat_tests)

module _ (tree : States) (t : Path) (ends : None ≡ cause_at_abort tree t) where
  by_children : (b : Bool) → list_any (is_live_child_in tree t) (names tree) ≡ b → when b Children ≡ cause_at_commit tree t
  by_children b e = ap (λ v. when v Children) (sym e) ∙ ap (λ o. or_else o (when (list_any (is_live_child_in tree t) (names tree)) Children)) ends

  -- a live child is a cause of its own
  pub cause_by_children : 0 < live_children_of tree t → Some Children ≡ cause_at_commit tree t
  cause_by_children some = by_children true (any_counted (is_live_child_in tree t) (names tree) ∙ lt-ltb 0 (live_children_of tree t) some)

  pub no_cause_by_children : live_children_of tree t ≤ 0 → None ≡ cause_at_commit tree t
  no_cause_by_children none = by_children false (any_counted (is_live_child_in tree t) (names tree) ∙ le-ltb 0 (live_children_of tree t) none)

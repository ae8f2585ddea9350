-- Nodes after what is kept of some children, or who comes next, has changed, and what children there are then.
use Rattle.std.proofs.Common.{◌≡◌, ℕ, ◌<◌, ◌≤◌, Bool, true, false, cond, List, length, Option, Some, None, inl, inr, refl, sym, ap, ◌∙◌, true≢false}
use Rattle.std.specs.Prelude.{slice_get}
use Rattle.std.proofs.lemmas.Bool.{false≢true, eqb-true}
use Rattle.std.proofs.lemmas.Option.{slice_get_past}
use Rattle.std.proofs.lemmas.Bool.{cases_lt}
use Rattle.txn_names.specs.Path.{Path}
use Rattle.txn_tree.specs.declared.node.Children.{Children}
use Rattle.txn_tree.specs.declared.node.Node.{Node}
use Rattle.txn_tree.specs.Numbered.{is_parent_of}
use Rattle.txn_tree.specs.Linked.{below, children_in, followed, is_at, is_child_in, with_below, with_children, with_next}
use Rattle.txn_tree.proofs.Places.{get_updated, length_updated}

get_followed : (nodes : List Node) (o : Option ℕ) (k n : ℕ) (y : Node) → slice_get (followed nodes o k) n ≡ Some y
    → (x : Node) × (slice_get nodes n ≡ Some x) × (y ≡ cond (is_at o n) (with_next k x) x)
get_followed nodes None k n y at = (y, at, refl)
get_followed nodes (Some l) k n y at = get_updated nodes l (with_next k) n y at

get_below : (nodes : List Node) (o : Option ℕ) (c : Children) (n : ℕ) (y : Node) → slice_get (with_below nodes o c) n ≡ Some y
    → (x : Node) × (slice_get nodes n ≡ Some x) × (y ≡ cond (is_at o n) (with_children c x) x)
get_below nodes None c n y at = (y, at, refl)
get_below nodes (Some p) c n y at = get_updated nodes p (with_children c) n y at

-- a node after both changes
pub changed : (nodes : List Node) (o last : Option ℕ) (c : Children) (k n : ℕ) (y : Node) → slice_get (followed (with_below nodes o c) last k) n ≡ Some y
    → (x : Node) × (slice_get nodes n ≡ Some x) × (y ≡ record { parent = x.parent; next = cond (is_at last n) (Some k) x.next; children = cond (is_at o n) c x.children })
changed nodes o last c k n y at =
    let v = get_followed (with_below nodes o c) last k n y at in
    let w = get_below nodes o c n v.0 v.1 in
    (w.0, w.1, v.2 ∙ ap (λ (z : Node). cond (is_at last n) (with_next k z) z) w.2 ∙ by w.0 (is_at last n) (is_at o n))
  where
    by : (x : Node) (a b : Bool) → cond a (with_next k (cond b (with_children c x) x)) (cond b (with_children c x) x)
        ≡ record { parent = x.parent; next = cond a (Some k) x.next; children = cond b c x.children }
    by x true true = refl
    by x true false = refl
    by x false true = refl
    by x false false = refl

pub length_below : (nodes : List Node) (o : Option ℕ) (c : Children) → length (with_below nodes o c) ≡ length nodes
length_below nodes None c = refl
length_below nodes (Some p) c = length_updated nodes p (with_children c)

pub length_changed : (nodes : List Node) (o last : Option ℕ) (c : Children) (k : ℕ) → length (followed (with_below nodes o c) last k) ≡ length nodes
length_changed nodes o None c k = length_below nodes o c
length_changed nodes o (Some l) c k = length_updated (with_below nodes o c) l (with_next k) ∙ length_below nodes o c

-- what is kept of the parent's children is read off its node
pub below_at : (nodes : List Node) (tops : Children) (o : Option ℕ) (n : ℕ) (x : Node) → slice_get nodes n ≡ Some x → is_at o n ≡ true → below nodes tops o ≡ x.children
below_at nodes tops None n x at e = absurd (false≢true e)
below_at nodes tops (Some p) n x at e = ap children_in (ap (λ m. slice_get nodes m) (eqb-true p n e) ∙ at)

-- nobody stands past the end
pub no_child_past : (ns : List Path) (p : Path) (m : ℕ) → length ns ≤ m → is_child_in ns p m ≡ false
no_child_past ns p m past = ap (is_parent_of (Some p)) (slice_get_past ns m past)

pub child_within : (ns : List Path) (p : Path) (m : ℕ) → is_child_in ns p m ≡ true → m < length ns
child_within ns p m e =
    elim (cases_lt m (length ns)) [
      | inl less ↦ less
      | inr from ↦ absurd (true≢false (sym e ∙ no_child_past ns p m from))
    ]

pub length_kept : (all nodes : List Node) (o : Option ℕ) (c : Children) (len : ℕ) → all ≡ with_below nodes o c → length nodes ≡ len → length all ≡ len
length_kept all nodes o c len e l = ap length e ∙ length_below nodes o c ∙ l

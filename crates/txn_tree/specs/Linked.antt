-- What a tree keeps beside the names and the states is right.
use Rattle.std.specs.Prelude.{◌≡◌, ◌<◌, ◌+◌, ◌-◌, ℕ, nat_eq, Bool, false, zero, suc, List, [], ◌∷◌, length, slice_get, Option, Some, None}
use Rattle.std.specs.Option.{option_or}
use Rattle.txn_names.specs.Path.{Path, parent}
use Rattle.txn_tree.specs.declared.node.Children.{Children}
use Rattle.txn_tree.specs.declared.node.Node.{Node}
use Rattle.txn_tree.specs.States.{States, names}
use Rattle.txn_tree.specs.Asked.{live_children_of}
use Rattle.txn_tree.specs.Numbered.{is_parent_of}
use Rattle.txn_tree.specs.Siblings.{IsFirst, IsLast, IsNext}

-- p is the number of the parent of t, whose number is n or will be, and none if that is the root
abbrev pub IsParentAt : List Path → ℕ → Path → Option ℕ → Type 0
IsParentAt ns n t None = parent t ≡ []
IsParentAt ns n t (Some p) = (p < n) × (slice_get ns p ≡ Some (parent t))

-- a child of p, which may be the root, stands at n
abbrev pub is_child_in : List Path → Path → ℕ → Bool
is_child_in ns p n = is_parent_of (Some p) (slice_get ns n)

-- what is kept of the children of p
pub record IsChildrenOf (tree : States) (p : Path) (c : Children) : Type 0 where
  pub live : c.live ≡ live_children_of tree p
  pub first : IsFirst (is_child_in (names tree) p) c.first
  pub last : IsLast (is_child_in (names tree) p) c.last

pub record IsLinked (tree : States) (nodes : List Node) (tops : Children) : Type 0 where
  pub level : length nodes ≡ length tree
  pub parents : (n : ℕ) (t : Path) (x : Node) → slice_get (names tree) n ≡ Some t
      → slice_get nodes n ≡ Some x → IsParentAt (names tree) n t x.parent
  pub next : (n : ℕ) (t : Path) (x : Node) → slice_get (names tree) n ≡ Some t
      → slice_get nodes n ≡ Some x → IsNext (is_child_in (names tree) (parent t)) n x.next
  pub children : (n : ℕ) (t : Path) (x : Node) → slice_get (names tree) n ≡ Some t
      → slice_get nodes n ≡ Some x → IsChildrenOf tree t x.children
  pub top_level : IsChildrenOf tree [] tops

-- whether m is this number, if there is one
abbrev pub is_at : Option ℕ → ℕ → Bool
is_at None m = false
is_at (Some p) m = nat_eq p m

abbrev pub no_children : Children
no_children = record { live = 0; first = None; last = None }

abbrev pub with_child : ℕ → Children → Children
with_child n c = record { live = c.live + 1; first = option_or c.first (Some n); last = Some n }

abbrev pub with_one_ended : Children → Children
with_one_ended c = record { live = c.live - 1; first = c.first; last = c.last }

-- what is kept of a transaction that has just begun
abbrev pub begun_node : Option ℕ → Node
begun_node o = record { parent = o; next = None; children = no_children }

abbrev pub kept_parent : Option Node → Option ℕ
kept_parent None = None
kept_parent (Some x) = x.parent

abbrev pub kept_next : Option Node → Option ℕ
kept_next None = None
kept_next (Some x) = x.next

abbrev pub children_in : Option Node → Children
children_in None = no_children
children_in (Some x) = x.children

-- what is kept of the children of a transaction, or of the root
abbrev pub below : List Node → Children → Option ℕ → Children
below nodes tops None = tops
below nodes tops (Some p) = children_in (slice_get nodes p)

abbrev pub with_children : Children → Node → Node
with_children c x = record { parent = x.parent; next = x.next; children = c }

abbrev pub with_next : ℕ → Node → Node
with_next n x = record { parent = x.parent; next = Some n; children = x.children }

-- a list with the item at a place changed
abbrev pub update_at : {X : Type 0} → List X → ℕ → (X → X) → List X
update_at [] n f = []
update_at (x ∷ xs) zero f = f x ∷ xs
update_at (x ∷ xs) (suc n) f = x ∷ update_at xs n f

-- what is kept of the parent's children changed
abbrev pub with_below : List Node → Option ℕ → Children → List Node
with_below nodes None c = nodes
with_below nodes (Some p) c = update_at nodes p (with_children c)

abbrev pub top_with : Children → Option ℕ → Children → Children
top_with tops None c = c
top_with tops (Some p) c = tops

-- the one that began last has a next sibling
abbrev pub followed : List Node → Option ℕ → ℕ → List Node
followed nodes None n = nodes
followed nodes (Some l) n = update_at nodes l (with_next n)

-- the child stands behind the others of the parent or of the root
abbrev pub appended : List Node → Children → Option ℕ → ℕ → List Node
appended nodes tops p n =
    followed (with_below nodes p (with_child n (below nodes tops p))) (below nodes tops p).last n

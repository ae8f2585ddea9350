-- Cells as contracts see them, by two functions of a table: `content`, what each transaction, by
-- its number, has at each key, and `has_place`, where it has a place. A place may be empty: then
-- the transaction has nothing at the key, as where there is no place. The cells at one key are seen
-- by two functions of the number alone, `content_of` and `holds`. How a table is kept is told
-- apart, in Kept, and no contract but of this crate's own parts rests on it.
use Rattle.std.specs.Prelude.{◌≡◌, ℕ, Bool, true, false, not, nat_eq, ◌&&◌, ◌||◌, if◌then◌else◌, List, Option, Some, None}
use Rattle.std.specs.List.{list_any}
pub use Rattle.txn_cells.specs.Kept.{Held, Table, content, content_of, has_place, holds, nothing, stands}
use Rattle.txn_names.specs.Path.{label_eq}
pub use Rattle.txn_tree.specs.Numbered.{is_front_of, is_under}

-- whether u is this one, if there is one
abbrev pub is_it : Option ℕ → ℕ → Bool
is_it None u = false
is_it (Some p) u = nat_eq p u

-- where there are places, once t has one at k
abbrev pub with_place : (ℕ → List ℕ → Bool) → ℕ → List ℕ → ℕ → List ℕ → Bool
with_place place t k u q = (nat_eq t u && label_eq k q) || place u q

-- what u has at q, once t has this at k
abbrev pub with_content : {V : Type 0} → (ℕ → List ℕ → Option V) → ℕ → List ℕ → V
    → ℕ → List ℕ → Option V
with_content content t k v u q =
    if nat_eq t u && label_eq k q then Some v else content u q

-- the same once t has there what this makes of what it had
abbrev pub with_joined : {V : Type 0} → (ℕ → List ℕ → Option V) → ℕ → List ℕ → (Option V → V)
    → ℕ → List ℕ → Option V
with_joined content t k join u q =
    if nat_eq t u && label_eq k q then Some (join (content u q)) else content u q

-- t has at k what this makes of what it had there, and all else is as it was
abbrev pub HasJoined : {V : Type 0} → (Option V → V) → ℕ → List ℕ
    → (ℕ → List ℕ → Option V) → (ℕ → List ℕ → Option V) → Type 0
HasJoined join t k old new = (u : ℕ) → (q : List ℕ) → new u q ≡ with_joined old t k join u q

-- where there are places, once the parent has one at each key of the child
abbrev pub with_childs : (ℕ → List ℕ → Bool) → ℕ → ℕ → ℕ → List ℕ → Bool
with_childs place child parent u q = (nat_eq parent u && place child q) || place u q

-- no place has gone, and each new one is a place of the parent at a key of the child
pub record IsTowards (old new : ℕ → List ℕ → Bool) (child parent : ℕ) : Type 0 where
  pub kept : (u : ℕ) (q : List ℕ) → old u q ≡ true → new u q ≡ true
  pub added : (u : ℕ) (q : List ℕ) → new u q ≡ true → with_childs old child parent u q ≡ true

-- what the parent has at a key of what the child had there, if it had something, and of what it had
-- itself
abbrev pub merged : {V : Type 0} → (V → Option V → V) → Option V → Option V → Option V
merged inherited None own = own
merged inherited (Some v) own = Some (inherited v own)

-- what u has at a key, where the child has committed into its parent: it has nothing, and the
-- parent inherits
abbrev pub handed_up_here : {V : Type 0} → (V → Option V → V) → (ℕ → Option V) → ℕ → Option ℕ
    → ℕ → Option V
handed_up_here inherited content child parent u =
    if nat_eq child u then None
    else if is_it parent u then merged inherited (content child) (content u)
    else content u

-- the same at the key q of all
abbrev pub handed_up : {V : Type 0} → (V → Option V → V) → (ℕ → List ℕ → Option V) → ℕ → Option ℕ
    → ℕ → List ℕ → Option V
handed_up inherited content child parent u q =
    handed_up_here inherited (λ v. content v q) child parent u

-- whether it is one of these keys
abbrev pub is_among : List (List ℕ) → List ℕ → Bool
is_among keys q = list_any (label_eq q) keys

-- at these keys the child has committed into its parent, and at the others all is as it was
abbrev pub AreHandedUp : {V : Type 0} → (List ℕ → Bool) → (V → Option V → V) → ℕ → Option ℕ
    → (ℕ → List ℕ → Option V) → (ℕ → List ℕ → Option V) → Type 0
AreHandedUp is_one inherited child parent old new = (u : ℕ) → (q : List ℕ)
    → new u q ≡ (if is_one q then handed_up inherited old child parent u q else old u q)

-- the child has no place at these keys any more, and each other place is as it was
abbrev pub AreGivenUp : (List ℕ → Bool) → ℕ
    → (ℕ → List ℕ → Bool) → (ℕ → List ℕ → Bool) → Type 0
AreGivenUp is_one child old new = (u : ℕ) → (q : List ℕ)
    → new u q ≡ (not (nat_eq child u && is_one q) && old u q)

-- ---- at one key

-- what u has there, once t has what this makes of what it had
abbrev pub joined_here : {V : Type 0} → (ℕ → Option V) → ℕ → (Option V → V) → ℕ → Option V
joined_here content t join u = if nat_eq t u then Some (join (content u)) else content u

-- these are what all transactions have at k
pub record IsAt {V : Type 0} (table : Table V) (k : List ℕ) (held : Held V) : Type 0 where
  pub places : (u : ℕ) → holds held u ≡ has_place table u k
  pub contents : (u : ℕ) → content_of held u ≡ content table u k

-- nobody has a place at k, or anything there
pub record IsBareAt {V : Type 0} (table : Table V) (k : List ℕ) : Type 0 where
  pub places : (u : ℕ) → has_place table u k ≡ false
  pub contents : (u : ℕ) → content table u k ≡ None

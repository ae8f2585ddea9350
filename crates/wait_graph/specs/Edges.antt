-- The edges of the graph of waits: which of those that wait wait for which, by the numbers of
-- transactions.
use Rattle.std.specs.Prelude.{◌≡◌, ◌↔◌, ℕ, Bool, false, IsFalse, IsTrue, nat_eq, nat_lt, ◌&&◌, List, [], ◌∷◌, ◌++◌, map, filter, slice_get, Option, Some, is_some}
use Rattle.std.specs.List.{list_any}
use Rattle.txn_names.specs.Path.{Path, meet}
use Rattle.txn_tree.specs.States.{States, names}
use Rattle.lock_table.specs.Blocking.{is_under, numbers}
use Rattle.lock_table.specs.ByAsked.{BlocksAsked}
use Rattle.lock_table.specs.Targeted.{Targeted}
use Rattle.serial_spec.specs.declared.target.Asked.{Asked}
use Rattle.serial_spec.specs.declared.target.Target.{Target}
use Rattle.serial_spec.specs.Targets.{meets, target}
use Rattle.wait_cycles.specs.Cycles.{Pairs, waits_in}
use Rattle.wait_cycles.specs.Waiting.{Waiting, wait_of}
use Rattle.wait_cycles.specs.declared.waits.Wait.{Wait}

-- Whether by its locks the third keeps the first from what it asks, by their numbers: a test that
-- stands for locks
abbrev pub Keeps : Type 0
Keeps = ℕ → Asked → ℕ → Bool

-- it tells who does by these locks
abbrev pub Tells : States → Targeted → Keeps → Type 0
Tells tree locks keeps = (t : ℕ) (a : Asked) (u : ℕ)
    → IsTrue (keeps t a u) ↔ BlocksAsked tree locks t a u

-- it is so by each test that tells by these locks
abbrev pub ByLocks : States → Targeted → (Keeps → Type 0) → Type 0
ByLocks tree locks P = (keeps : Keeps) → Tells tree locks keeps → P keeps

-- whoever keeps the access from being answered is among these
abbrev pub AreLockers : States → Targeted → Wait → List ℕ → Type 0
AreLockers tree locks w us = (u : ℕ) → IsFalse (list_any (nat_eq u) us)
    → BlocksAsked tree locks w.txn w.asked u → ⊥

-- Whether u is in the branch by which b parts from t: u shares more labels with b than t does.
abbrev pub is_beside : Option Path → Option Path → Option Path → Bool
is_beside (Some t) (Some b) (Some u) = nat_lt (meet t b) (meet u b)
is_beside t b u = false

abbrev pub is_in_branch : States → ℕ → ℕ → ℕ → Bool
is_in_branch tree t b u =
    is_beside (slice_get (names tree) t) (slice_get (names tree) b) (slice_get (names tree) u)

-- whoever is top or below it is in the branch by which b parts from t, and nobody else is
abbrev pub IsBranch : States → ℕ → ℕ → ℕ → Type 0
IsBranch tree t b top = (u : ℕ) → is_in_branch tree t b u ≡ is_under tree top u

-- nobody is in the branch by which b parts from t
abbrev pub IsNoBranch : States → ℕ → ℕ → Type 0
IsNoBranch tree t b = (u : ℕ) → IsFalse (is_in_branch tree t b u)

-- whether b keeps this access from being answered, and u is in its branch
abbrev pub is_held_up : States → Keeps → Wait → ℕ → ℕ → Bool
is_held_up tree keeps w u b = keeps w.txn w.asked b && is_in_branch tree w.txn b u

-- u is top-level, and nobody else is below it
pub record IsAlone (tree : States) (u : ℕ) : Type 0 where
  pub label : List ℕ
  pub named : slice_get (names tree) u ≡ Some (label ∷ [])
  pub alone : (v : ℕ) → IsTrue (is_under tree u v) → u ≡ v

-- nobody but b itself is in the branch by which b parts from t
abbrev pub IsOwnBranch : States → ℕ → ℕ → Type 0
IsOwnBranch tree t b = (u : ℕ) → IsTrue (is_in_branch tree t b u) → b ≡ u

-- so it is with each of these
abbrev pub AreOwnBranches : States → ℕ → List ℕ → Type 0
AreOwnBranches tree t bs = (b : ℕ) → IsTrue (list_any (nat_eq b) bs) → IsOwnBranch tree t b

-- whether somebody keeps this access from being answered, and u is in its branch
abbrev pub waits_for_in : States → Keeps → Wait → ℕ → Bool
waits_for_in tree keeps w u = list_any (is_held_up tree keeps w u) (numbers tree)

-- one that waits, with each of these for which it waits
abbrev pub edges_from : States → Keeps → List Wait → Wait → Pairs
edges_from tree keeps others w =
    map (λ v. (w.txn, v.txn)) (filter (λ v. waits_for_in tree keeps w v.txn) others)

-- each of those that wait, with each of the others for which it waits
abbrev pub edges_of : States → Keeps → List Wait → List Wait → Pairs
edges_of tree keeps [] others = []
edges_of tree keeps (w ∷ ws) others = edges_from tree keeps others w
    ++ edges_of tree keeps ws others

-- this holds of the edges of this one, by each test that tells by these locks
abbrev pub OfEdgesFrom : States → Targeted → List Wait → Wait → (Pairs → Type 0) → Type 0
OfEdgesFrom tree locks others w P = ByLocks tree locks (λ keeps. P (edges_from tree keeps others w))

-- all edges: the pairs of those that wait of which the first waits for the second
abbrev pub edges_among : States → Keeps → List Wait → Pairs
edges_among tree keeps ws = edges_of tree keeps ws ws

-- this holds of all edges, by each test that tells by these locks
abbrev pub OfEdges : States → Targeted → List Wait → (Pairs → Type 0) → Type 0
OfEdges tree locks waits P = ByLocks tree locks (λ keeps. P (edges_among tree keeps waits))

-- whether b waits and keeps this access from being answered: an edge to b, where b is alone in its
-- branch
abbrev pub is_edge_to : States → Keeps → Waiting → Wait → ℕ → Bool
is_edge_to tree keeps s w b = is_some (wait_of s b) && is_held_up tree keeps w b b

-- whether it is in the branch by which b parts from t
abbrev pub is_beside_it : States → ℕ → ℕ → Wait → Bool
is_beside_it tree t b v = is_in_branch tree t b v.txn

-- whether it is of this transaction or of one below it
abbrev pub is_below_it : States → ℕ → Wait → Bool
is_below_it tree top v = is_under tree top v.txn

-- whether t keeps it from being answered, and one that waits is in the branch of t
abbrev pub is_held_by_way_of : States → Keeps → List Wait → ℕ → Wait → Bool
is_held_by_way_of tree keeps others t w =
    keeps w.txn w.asked t && list_any (is_beside_it tree w.txn t) others

-- the same of one that waits for what has a key in common with this
abbrev pub waits_by_way_of : States → Keeps → List Wait → ℕ → Target → Wait → Bool
waits_by_way_of tree keeps others t s w =
    meets s (target w.asked) && is_held_by_way_of tree keeps others t w

-- this holds of the test who waits by way of t, by each test that tells by these locks
abbrev pub OfWays : States → Targeted → List Wait → ℕ → Target → ((Wait → Bool) → Type 0) → Type 0
OfWays tree locks waits t s P = ByLocks tree locks (λ keeps. P (waits_by_way_of tree keeps waits t s))

-- nobody waits, for whatever and by whichever locks, for another by way of t
abbrev pub IsNobodysWay : States → List Wait → ℕ → Type 0
IsNobodysWay tree waits t = (keeps : Keeps) (s : Target)
    → list_any (waits_by_way_of tree keeps waits t s) waits ≡ false

-- whether there is a wait, and it passes
abbrev pub passes : (Wait → Bool) → Option Wait → Bool
passes p (Some w) = p w
passes p o = false

-- by both lists the same wait for the same, in whatever order they stand
abbrev pub AreAlike : Pairs → Pairs → Type 0
AreAlike ps qs = (a b : ℕ) → waits_in ps a b ≡ waits_in qs a b

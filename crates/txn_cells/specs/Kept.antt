-- Cells as callers see them: for each transaction that has any, a list of its keys, each with what
-- stands there. And as they are kept: at each key the transactions with a place there, each with
-- what it has, and beside that the keys of each transaction, at its number, each with its place
-- among all keys.
use Rattle.std.specs.Prelude.{◌≡◌, ◌+◌, ◌<◌, ◌≤◌, ◌&&◌, ◌++◌, ℕ, suc, Bool, true, false, cond, if◌then◌else◌, nat_eq, List, [], ◌∷◌, Option, Some, None, is_some, unwrap_or, slice_get, length, map}
use Rattle.std.specs.List.{AllByRecursion, list_any}
use Rattle.std.specs.List.Sorted.{IsStrictlyIncreasing}
use Rattle.std.specs.Map.{lookup, keys_of}
use Rattle.txn_names.specs.Path.{label_eq}

-- ---- as callers see them

-- the cells of one transaction
abbrev pub Cells : Type 0 → Type 0
Cells V = List (List ℕ × Option V)

abbrev pub Table : Type 0 → Type 0
Table V = List (ℕ × Cells V)

-- a table where nobody has been given cells
abbrev pub nothing : {V : Type 0} → Table V
nothing = []

abbrev pub has_cell_at : {V : Type 0} → Cells V → List ℕ → Bool
has_cell_at cells k = is_some (lookup (label_eq k) cells)

abbrev pub content_at : {V : Type 0} → Cells V → List ℕ → Option V
content_at cells k = unwrap_or (lookup (label_eq k) cells) None

abbrev pub cells_in : {V : Type 0} → Table V → ℕ → Cells V
cells_in table t = unwrap_or (lookup (nat_eq t) table) []

abbrev pub has_place : {V : Type 0} → Table V → ℕ → List ℕ → Bool
has_place table t k = has_cell_at (cells_in table t) k

-- what t has at k
abbrev pub content : {V : Type 0} → Table V → ℕ → List ℕ → Option V
content table t k = content_at (cells_in table t) k

-- whether what is there stands out
abbrev pub stands : {V : Type 0} → (V → Bool) → Option V → Bool
stands outstanding None = false
stands outstanding (Some v) = outstanding v

-- ---- at one key

-- the transactions with a place at the key, each with what it has there
abbrev pub Held : Type 0 → Type 0
Held V = List (ℕ × Option V)

abbrev pub holds : {V : Type 0} → Held V → ℕ → Bool
holds held t = is_some (lookup (nat_eq t) held)

abbrev pub content_of : {V : Type 0} → Held V → ℕ → Option V
content_of held t = unwrap_or (lookup (nat_eq t) held) None

-- of all transactions t alone has something else: this content, or no place where there is none
abbrev pub IsChangedAt : {V : Type 0} → Held V → Held V → ℕ → Option (Option V) → Type 0
IsChangedAt old new t now = (u : ℕ)
    → lookup (nat_eq u) new ≡ cond (nat_eq t u) now (lookup (nat_eq u) old)

-- whether t has a place, and what it has there stands out
abbrev pub is_outstanding : {V : Type 0} → (V → Bool) → Held V → ℕ → Bool
is_outstanding outstanding held t = stands outstanding (content_of held t) && holds held t

-- these are the numbers of those that have a place, each once, rising
pub record AreHolders {V : Type 0} (numbers : List ℕ) (held : Held V) : Type 0 where
  pub rising : IsStrictlyIncreasing numbers
  pub each : (u : ℕ) → list_any (nat_eq u) numbers ≡ holds held u
  pub count : length numbers ≡ length held

-- whoever has what stands out is marked
abbrev pub AreMarked : {V : Type 0} → (V → Bool) → Held V → List ℕ → Type 0
AreMarked outstanding held marked = (u : ℕ) → stands outstanding (content_of held u) ≡ true
    → list_any (nat_eq u) marked ≡ true

-- of those that have a place some are marked, rising: at least those that have what stands out.
-- There is room to mark all
pub record HasMarks {V : Type 0} (outstanding : V → Bool) (held : Held V) (marked : List ℕ)
    (room : ℕ) : Type 0 where
  pub rising : IsStrictlyIncreasing marked
  pub within : (u : ℕ) → list_any (nat_eq u) marked ≡ true → holds held u ≡ true
  pub fits : length held ≤ room
  pub all : AreMarked outstanding held marked

-- so few are gone through one by one, and no marks are kept of them
abbrev pub few : ℕ
few = 4

-- where more than a few have a place, marks are kept
abbrev pub HasMarksPastFew : {V : Type 0} → (V → Bool) → Held V → List ℕ → ℕ → Type 0
HasMarksPastFew outstanding held marked room = few < length held
    → HasMarks outstanding held marked room

-- so many transactions and what they have lie in the value itself
abbrev pub in_value : ℕ
in_value = 4

-- ---- at all keys

abbrev pub AtKeys : Type 0 → Type 0
AtKeys V = List (List ℕ × Held V)

abbrev pub held_at : {V : Type 0} → AtKeys V → List ℕ → Held V
held_at kept k = unwrap_or (lookup (label_eq k) kept) []

abbrev pub place_kept : {V : Type 0} → AtKeys V → ℕ → List ℕ → Bool
place_kept kept t k = holds (held_at kept k) t

abbrev pub content_kept : {V : Type 0} → AtKeys V → ℕ → List ℕ → Option V
content_kept kept t k = content_of (held_at kept k) t

-- what stands at a place among the keys stands there still
abbrev pub StayAt : List (List ℕ) → List (List ℕ) → Type 0
StayAt old new = (p : ℕ) (k : List ℕ) → slice_get old p ≡ Some k → slice_get new p ≡ Some k

-- ---- by transaction

-- the keys of one transaction, each with its place among all keys
abbrev pub Listed : Type 0
Listed = List (List ℕ × ℕ)

-- of each transaction, at its number
abbrev pub Lists : Type 0
Lists = List Listed

abbrev pub listed_at : Lists → ℕ → Listed
listed_at lists t = unwrap_or (slice_get lists t) []

-- the keys of u, once t has this one more
abbrev pub listed_with : Lists → ℕ → List ℕ × ℕ → ℕ → Listed
listed_with lists t e u = if nat_eq t u then listed_at lists u ++ e ∷ [] else listed_at lists u

abbrev pub keys_at : Lists → ℕ → List (List ℕ)
keys_at lists t = keys_of (listed_at lists t)

-- 1 for a list with keys
abbrev pub one_busy : Listed → ℕ
one_busy [] = 0
one_busy (e ∷ es) = 1

-- how many transactions have keys
abbrev pub busy_in : Lists → ℕ
busy_in [] = 0
busy_in (listed ∷ lists) = one_busy listed + busy_in lists

-- at each key those have a place that list it
abbrev pub AreListed : {V : Type 0} → AtKeys V → Lists → Type 0
AreListed kept lists = (u : ℕ) (q : List ℕ)
    → place_kept kept u q ≡ list_any (label_eq q) (keys_at lists u)

-- each stands among the keys at its place
abbrev pub AreAt : List (List ℕ) → Listed → Type 0
AreAt keys listed = AllByRecursion (λ e. slice_get keys e.1 ≡ Some e.0) listed

abbrev pub ArePlaced : {V : Type 0} → AtKeys V → Lists → Type 0
ArePlaced kept lists = (u : ℕ) → AreAt (keys_of kept) (listed_at lists u)

-- ---- what is seen of what is kept

-- the cells of t at these keys
abbrev pub cells_of : {V : Type 0} → AtKeys V → ℕ → List (List ℕ) → Cells V
cells_of kept t keys = map (λ k. (k, content_kept kept t k)) keys

-- the cells of those with keys, where the first of the lists is that of t
abbrev pub seen_from : {V : Type 0} → ℕ → Lists → AtKeys V → Table V
seen_from t [] kept = []
seen_from t ([] ∷ lists) kept = seen_from (suc t) lists kept
seen_from t ((e ∷ es) ∷ lists) kept =
    (t, cells_of kept t (keys_of (e ∷ es))) ∷ seen_from (suc t) lists kept

abbrev pub seen : {V : Type 0} → Lists → AtKeys V → Table V
seen lists kept = seen_from 0 lists kept

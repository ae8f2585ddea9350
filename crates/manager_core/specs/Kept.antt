-- What the manager's type keeps: the tables are what the history says, the store has the table, and
-- no cycle of waits stands.
use Rattle.std.specs.Prelude.{◌≡◌, ℕ, ℤ, if◌then◌else◌, List, reverse, slice_get, Option, Some, None}
use Rattle.txn_tree.specs.Asked.{IsNumberOf}
use Rattle.txn_tree.specs.States.{States, names, status_in}
use Rattle.txn_tree.specs.Statuses.{status_of}
use Rattle.orphans.specs.Marked.{Marked, is_marked}
use Rattle.lock_table.specs.declared.modes.Modes.{Modes}
use Rattle.lock_table.specs.Inherited.{free}
use Rattle.inherit.specs.LocksAndVersions.{LocksAndVersions, modes_of, left_of}
use Rattle.serial_spec.specs.History.{Name, History, status, is_active, begun, has_aborted}
use Rattle.serial_spec.specs.declared.target.Target.{Target}
use Rattle.serial_spec.specs.Locks.{held, retained}
use Rattle.serial_spec.specs.Items.{items}
use Rattle.serial_spec.specs.Values.{last_left}
use Rattle.serial_spec.specs.Serial.{stored}
use Rattle.serial_spec.specs.Waits.{Quiet, wait_of}
use Rattle.serial_spec.specs.declared.entry.Entry.{Entry}
use Rattle.wait_cycles.specs.Waiting.{Waiting, wait_of as kept_wait}
use Rattle.serial_spec.specs.Rows.{Rows, value_in, IsRising}
use Rattle.serial_spec.specs.Legal.{AreAllowed, Legal}
use Rattle.durable_top.specs.declared.store.TopStore.{Ghosts}
use Rattle.durable_top.specs.Store.{plain}
use Rattle.manager_core.specs.declared.manager.AtOpening.{AtOpening}
use Rattle.manager_core.specs.Tables.{Tabled, rows_in, wait_for}
use Rattle.manager_core.specs.Sound.{IsBacked}

-- the tree is what the history says
pub record IsTreeOf (h : History) (tree : States) : Type 0 where
  pub begun : names tree ≡ reverse (begun h)
  pub status : (t : Name) → status_of (status_in tree t) ≡ status h t

-- so are the marks
abbrev pub AreMarksOf : History → Marked → Type 0
AreMarksOf h marks = (t : Name) → is_marked marks t ≡ has_aborted h t

-- what a transaction has at a target or a key, read off the history: one that does not act has
-- nothing, nor has a number that is nobody's
abbrev pub content_of : {X : Type 0} → X → (History → Name → X) → History → Option Name → X
content_of nothing value h None = nothing
content_of nothing value h (Some t) = if is_active h t then value h t else nothing

abbrev pub lock_at : Target → History → Name → Modes
lock_at s h t = record { held = held h t s; retained = retained h t s }

abbrev pub left_at : List ℕ → History → Name → Option (Option ℤ)
left_at k h t = last_left (items h t) k

-- so is what live transactions lock, and what they left
pub record IsEstateOf (h : History) (tree : States) (estate : LocksAndVersions) : Type 0 where
  pub modes : (n : ℕ) (s : Target)
      → modes_of estate n s ≡ content_of free (lock_at s) h (slice_get (names tree) n)
  pub left : (n : ℕ) (k : List ℕ)
      → left_of estate n k ≡ content_of None (left_at k) h (slice_get (names tree) n)

-- the entry by which it waits, where there is a name
abbrev pub wait_of_any : History → Option Name → Option Entry
wait_of_any h None = None
wait_of_any h (Some t) = wait_of h t

-- so is who waits: for each number stands the wait of whoever has it
abbrev pub AreWaitsOf : History → States → Waiting → Type 0
AreWaitsOf h tree waits = (n : ℕ)
    → kept_wait waits n ≡ wait_for n (wait_of_any h (slice_get (names tree) n))

-- all tables are what the history over these rows says
pub record AreTablesOf (rows : Rows) (h : History) (tables : Tabled) : Type 0 where
  pub in_tree : IsTreeOf h tables.tree
  pub marked : AreMarksOf h tables.marks
  pub estate : IsEstateOf h tables.tree tables.estate
  pub waiting : AreWaitsOf h tables.tree tables.waits
  -- the table is what the committed top-level transactions left
  pub current : (k : List ℕ) → value_in (rows_in tables) k ≡ stored (value_in rows) h k

-- this holds of each history that these are the tables of
abbrev pub OfTables : Tabled → (History → Type 0) → Type 0
OfTables tables P = (rows : Rows) (h : History) → AreTablesOf rows h tables → P h

-- the same of one whose entries are allowed
abbrev pub OfAllowed : Tabled → (History → Type 0) → Type 0
OfAllowed tables P =
    (rows : Rows) (h : History) → AreAllowed rows h → AreTablesOf rows h tables → P h

-- this holds of the name of the transaction with this number
abbrev pub OfNumber : Tabled → ℕ → (Name → Type 0) → Type 0
OfNumber tables txn P = (t : Name) → IsNumberOf tables.tree t txn → P t

-- after each entry, whether or not it made a cycle of waits
pub record IsKept {S : Type 0} (g : Ghosts S) (rows : Rows) (h : History) (tables : Tabled)
    (opened : AtOpening) (store : S) : Type 0 where
  -- the opening rows are those that the store gave
  pub given : rows ≡ plain opened.given.items
  pub rising : IsRising rows
  pub allowed : AreAllowed rows h
  pub are : AreTablesOf rows h tables
  pub backed : IsBacked g h (rows_in tables) opened store

-- and after each call
pub record IsSettled {S : Type 0} (g : Ghosts S) (rows : Rows) (h : History) (tables : Tabled)
    (opened : AtOpening) (store : S) : Type 0 where
  pub kept : IsKept g rows h tables opened store
  pub legal : Legal rows h
  pub quiet : Quiet h

-- The rows of the opening.
use Rattle.std.proofs.Common.{◌≡◌, ℕ, ◌<◌, ◌^◌, List, [], ◌∷◌, length, None, refl, ap, sym, ◌∙◌, arith}
use Rattle.std.specs.List.{list_any}
use Rattle.txn_names.specs.Path.{path_eq}
use Rattle.txn_tree.specs.States.{States}
use Rattle.serial_spec.specs.declared.target.Target.{Target}
use Rattle.inherit.specs.LocksAndVersions.{LocksAndVersions, free, modes_of, left_of}
use Rattle.serial_spec.specs.History.{Name, status}
use Rattle.serial_spec.specs.Serial.{Map}
use Rattle.serial_spec.specs.Rows.{Rows, value_in}
use Rattle.std.specs.Prelude.{slice_get}
use Rattle.wait_cycles.specs.declared.waits.Wait.{Wait}
use Rattle.wait_cycles.specs.Waiting.{wait_in}
use Rattle.txn_tree.specs.States.{names, status_in}
use Rattle.durable_top.specs.declared.store.Row.{Row}
use Rattle.durable_top.specs.Store.{plain}
use Rattle.durable_top.specs.Numbered.{entries_in}
use Rattle.durable_top.specs.declared.store.TopStore.{Ghosts}
use Rattle.manager_core.specs.declared.manager.AtOpening.{AtOpening}
use Rattle.manager_core.specs.Kept.{AreTablesOf, IsEstateOf, IsTreeOf, wait_of_any}
use Rattle.txn_tree.specs.Statuses.{status_of}
use Rattle.manager_core.specs.Tables.{Tabled, rows_in, wait_for}
use Rattle.manager_core.specs.Sound.{IsBacked}

-- rows are as many from either form
pub as_many : (rows : List Row) → length (plain rows) ≡ length rows
as_many [] = refl
as_many (r ∷ rows) = omega (arith, as_many rows)

-- nobody has begun
empty_tree : (states : States) → states ≡ [] → IsTreeOf [] states
empty_tree states e = record {
  begun = rw e refl;
  status = λ t. rw e (absent t);
}
  where
    absent : (t : Name) → status_of (status_in [] t) ≡ status [] t
    absent [] = refl
    absent (l ∷ ls) = refl

-- nor has anybody locked or left anything
empty_estate : (states : States) (estate : LocksAndVersions) → states ≡ [] → ((n : ℕ) (s : Target) → modes_of estate n s ≡ free) → ((n : ℕ) (k : List ℕ) → left_of estate n k ≡ None)
    → IsEstateOf [] states estate
empty_estate states estate e unlocked unleft = record {
  modes = λ n k. rw e (unlocked n k);
  left = λ n k. rw e (unleft n k);
}

-- so the tables are what an empty history says, over any rows in order
pub tables_open : (rows : Rows) (tables : Tabled) → value_in (rows_in tables) ≡ value_in rows → tables.tree ≡ [] → tables.marks.names ≡ []
    → ((n : ℕ) (s : Target) → modes_of tables.estate n s ≡ free) → ((n : ℕ) (k : List ℕ) → left_of tables.estate n k ≡ None) → tables.waits.waits ≡ [] → AreTablesOf rows [] tables
tables_open rows tables e empty unmarked unlocked unleft unwaited = record {
  in_tree = empty_tree tables.tree empty;
  marked = λ t. ap (list_any (path_eq t)) unmarked;
  estate = empty_estate tables.tree tables.estate empty unlocked unleft;
  waiting = λ n. ap (λ (ws : List Wait). wait_in ws n) unwaited ∙ sym (ap (λ (s : States). wait_for n (wait_of_any [] (slice_get (names s) n))) empty);
  current = λ k. ap (λ (m : Map). m k) e;
}

-- the store that gave the rows has them
pub backed_open : {S : Type 0} (g : Ghosts S) (rows table : Rows) (opened : AtOpening) (store : S)
    → value_in table ≡ value_in rows → (g.doubt store ≡ 0 → value_in rows ≡ g.table store) → (g.doubt store ≡ 0 → entries_in opened.given.items ≡ g.numbered store)
    → opened.faults ≡ g.faults store → opened.faults < 2 ^ 64
    → IsBacked g [] table opened store
backed_open g rows table opened store e stored numbered count fits = record {
  same = λ trusted. sym (e ∙ stored trusted.doubt);
  numbered = λ trusted. sym (numbered trusted.doubt);
  refusals = omega (arith, count);
}

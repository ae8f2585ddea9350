-- What the functions that make a commit say alike.
use Rattle.std.specs.Prelude.{◌≡◌, ◌+ℤ◌, ℤ, pos, List, Result, true, IfErr, OnOk, OnErr}
use Rattle.sqlite.specs.Held.{Held}
use Rattle.sqlite.specs.Store.{Ghosts}
use Rattle.txn_names.specs.declared.change.Change.{Change}
use Rattle.serial_spec.specs.Rows.{value_in}
use Rattle.durable_top.specs.declared.store.StoreFault.{StoreFault}
use Rattle.durable_top.specs.Numbered.{Commits, Numbered}
use Rattle.durable_top.specs.Numbers.{Numbers, renumbered}
use Rattle.sql_store.specs.Asked.{Committed}
use Rattle.sql_store.specs.Calls.{CommitsNothing, IfClean, KeepsDoubt, KeepsLimit, KeepsOpen, SparesAtFault}
use Rattle.sql_store.specs.Stored.{numbered, IfCounted, IfKept, IsCounted, IsKept, KeepsTableAt, LeavesItself, LeavesOnly}

module _ {S : Type 0} (g : Ghosts S) where
  -- The changes were to be committed under this number, over the numbers in memory that stood
  -- before. `Makes` says what they make of the table of a known database.
  pub record TriesCommit (Makes : Numbered → Numbered → Type 0) (number : ℤ) (changes : List Change)
      (before after : Numbers) (old new : Held S) (result : Result (Unit {0}) StoreFault)
      : Type 0 where
    -- of a known database: the table, its numbers, and what a crash leaves
    pub ok : IfCounted g (value_in before.rows) old new
        (OnOk result (Makes (numbered g old) (numbered g new)))
    pub counted : IfCounted g (value_in before.rows) old new
        (IsCounted g true (value_in after.rows) new)
    pub still : IsKept g true old → IsKept g true new
    pub crash : IfCounted g (value_in before.rows) old new
        (LeavesOnly g (Makes (numbered g old)) old new)
    pub settled : IfKept g old new (OnOk result (LeavesItself g new))
    -- of any database: what was asked, and what is as it was at a fault
    pub asked : IfClean g new (OnOk result (Committed g number changes old new))
    pub refused : IfClean g new (IfErr result (KeepsTableAt g old new))
    pub kept : IfClean g new (OnErr result (CommitsNothing g old new))
    pub spared : SparesAtFault g old new result
    pub stays_open : KeepsOpen g old new result
    pub clean : KeepsDoubt g old new
    pub limit : KeepsLimit g old new
    -- the numbers in memory are what the changes make of them, and at a fault as they were
    pub numbers : OnOk result
        (value_in after.rows ≡ renumbered number changes (value_in before.rows))
    pub stays : OnErr result ((after.rows ≡ before.rows) × (after.top ≡ before.top))

  -- the same under the number above the greatest
  abbrev pub TriesCommitNext : List Change → Numbers → Numbers → Held S → Held S
      → Result (Unit {0}) StoreFault → Type 0
  TriesCommitNext changes before after old new result =
      TriesCommit (Commits changes) (before.top +ℤ pos 1) changes before after old new result

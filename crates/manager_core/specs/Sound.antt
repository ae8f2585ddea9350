-- What holds after every call.
use Rattle.std.specs.Prelude.{◌≡◌, ℕ, ◌+◌, Bool, true, false, IsTrue, IsFalse, List, [], count_by}
use Rattle.serial_spec.specs.declared.entry.Answer.{Answer}
use Rattle.serial_spec.specs.declared.entry.Answer.TheVariants.{Refused}
use Rattle.serial_spec.specs.declared.entry.Refusal.TheVariants.{Store}
use Rattle.serial_spec.specs.History.{Name, History, has_begun, is_orphan}
use Rattle.serial_spec.specs.Serial.{Right, stored}
use Rattle.serial_spec.specs.Rows.{Rows, value_in, IsRising}
use Rattle.serial_spec.specs.Legal.{Legal}
use Rattle.serial_spec.specs.Waits.{Quiet}
use Rattle.durable_top.specs.declared.store.TopStore.{Ghosts}
use Rattle.durable_top.specs.Store.{counted}
use Rattle.durable_top.specs.Numbered.{entries_in}
use Rattle.manager_core.specs.declared.manager.AtOpening.{AtOpening}
use Rattle.manager_core.specs.State.{State}
use Rattle.manager_core.specs.StoredNumbers.{IsNumberedAfter}

-- what is read is what was written, and the device has not failed
pub record IsTrusted {S : Type 0} (g : Ghosts S) (store : S) : Type 0 where
  pub doubt : g.doubt store ≡ 0
  pub failures : g.failures store ≡ 0

abbrev pub is_store_refusal : Answer → Bool
is_store_refusal (Refused Store) = true
is_store_refusal a = false

-- how many entries say that the store refused
abbrev pub store_refusals : History → ℕ
store_refusals h = count_by (λ e. is_store_refusal e.answer) h

pub record IsBacked {S : Type 0} (g : Ghosts S) (h : History) (table : Rows) (opened : AtOpening)
    (store : S) : Type 0 where
  -- the store has the table until its device fails
  pub same : IsTrusted g store → g.table store ≡ value_in table
  -- and it has the numbers that the history gives from the opening rows on
  pub numbered : IsTrusted g store
      → IsNumberedAfter (entries_in opened.given.items) h (g.numbered store)
  -- its faults since the opening are the entries that say that it refused
  pub refusals : g.faults store ≡ counted (opened.faults + store_refusals h)

pub record IsSound {S : Type 0} (g : Ghosts S) (m : State S) : Type 0 where
  -- the opening rows stand in byte order
  pub rising : IsRising m.rows
  -- each entry is one that is allowed where it stands, and no line of a session was attempted while
  -- a cycle of waits stood
  pub legal : Legal m.rows m.history
  -- no cycle of waits stands
  pub quiet : Quiet m.history
  -- each transaction without an aborted ancestor was replied what a serial run replies
  pub right : (t : Name) → IsTrue (has_begun m.history t) → IsFalse (is_orphan m.history t)
      → Right (value_in m.rows) m.history t
  -- and so was the root: the committed top-level transactions, one after another
  pub root : Right (value_in m.rows) m.history []
  -- the table is what they leave
  pub stored : (k : List ℕ) → value_in m.table k ≡ stored (value_in m.rows) m.history k
  pub backed : IsBacked g m.history m.table m.opened m.store

-- What every report says.
use Rattle.std.specs.Prelude.{◌≡◌, ℕ, ℤ, IsTrue, IsFalse, List, [], map, reverse, ◌≤◌, length}
use Rattle.std.specs.List.{AllByRecursion}
use Rattle.txn_names.specs.Text.{IsKey}
use Rattle.serial_spec.specs.Operations.{is_i64}
use Rattle.serial_spec.specs.History.{Name, has_begun, is_orphan, is_committed, status}
use Rattle.serial_spec.specs.Items.{items}
use Rattle.serial_spec.specs.Serial.{Right, Runs}
use Rattle.serial_spec.specs.Rows.{IsRising, Rows, value_in}
use Rattle.serial_spec.specs.declared.entry.Entry.{Entry}
use Rattle.durable_top.specs.declared.store.Row.{Row}
use Rattle.durable_top.specs.Store.{plain}
use Rattle.serial_spec.specs.Waits.{Quiet}
use Rattle.serial_spec.specs.Legal.{Legal}
use Rattle.serial_spec.specs.Interleaving.{Session, IsInterleaving, IsFinished}
use Rattle.txn_history.specs.Laws.{Stands}
use Rattle.serial_spec.specs.Allowed.{most_keys}
use Rattle.serial_spec.specs.declared.limits.TheConstants.{MOST_ROWS}
use Rattle.session_text.specs.Grammar.{IsText}
use Rattle.run_reports.specs.Told.{Told}

-- the history takes the lines of a text's sessions in turn, and all of them; the labels are theirs
pub record IsOfSessions (r : Told) : Type 0 where
  pub sessions : List Session
  -- few of them, with labels that are apart
  pub text : IsText sessions
  pub labels : r.labels ≡ map (λ s. s.label) sessions
  pub in_turn : IsInterleaving r.opening sessions r.history
  pub finished : IsFinished sessions r.history

-- the key is one of the grammar, and the value an i64
pub record IsRow (r : List ℕ × ℤ) : Type 0 where
  pub key : IsKey r.0
  pub value : IsTrue (is_i64 r.1)

pub record IsReport (r : Told) : Type 0 where
  pub of_sessions : IsOfSessions r
  -- both tables are small, and stand in byte order
  pub few : length r.opening ≤ MOST_ROWS
  pub few_left : length r.table ≤ most_keys
  pub rising : IsRising r.opening
  pub in_order : IsRising r.table
  -- the opening rows can be spelled
  pub rows : AllByRecursion IsRow r.opening
  -- each entry was allowed where it stands, and no cycle of waits is left
  pub legal : Legal r.opening r.history
  pub quiet : Quiet r.history
  -- each transaction without an aborted ancestor was replied what a serial run replies
  pub right : (t : Name) → IsTrue (has_begun r.history t) → IsFalse (is_orphan r.history t)
      → Right (value_in r.opening) r.history t
  -- and one run serves them all: each has committed, and stands in it as a block
  pub served : (t : Name) → IsTrue (has_begun r.history t) → IsFalse (is_orphan r.history t)
      → IsTrue (is_committed (status r.history t)) × Stands (items r.history t) (items r.history [])
  -- that run leads from the opening rows to the final table
  pub runs : Runs (value_in r.opening) (items r.history []) (value_in r.table)

-- what these rows, labels, entries, the oldest first, and rows at the end tell
abbrev pub told_of : List Row → List (List ℕ) → List Entry → Rows → Told
told_of opening labels history table = record {
  opening = plain opening;
  labels = labels;
  history = reverse history;
  table = table;
}

-- What a report has to tell: a legal history that takes the lines of a text's sessions in turn, all
-- of them, between two tables.
use Rattle.std.specs.Prelude.{◌≡◌, ◌≤◌, ℕ, ℤ, IsTrue, List, [], length, map}
use Rattle.std.specs.List.{AllByRecursion}
use Rattle.txn_names.specs.Text.{IsKey}
use Rattle.serial_spec.specs.declared.limits.TheConstants.{MOST_ROWS}
use Rattle.serial_spec.specs.Operations.{is_i64}
use Rattle.serial_spec.specs.History.{History}
use Rattle.serial_spec.specs.Items.{items}
use Rattle.serial_spec.specs.Interleaving.{Session, IsInterleaving, IsFinished}
use Rattle.serial_spec.specs.Legal.{Legal}
use Rattle.serial_spec.specs.Rows.{IsRising, Rows, value_in}
use Rattle.serial_spec.specs.Serial.{Runs}
use Rattle.session_text.specs.Grammar.{IsText}

-- the key is one, and the value an i64
pub record IsRow (r : List ℕ × ℤ) : Type 0 where
  pub key : IsKey r.0
  pub value : IsTrue (is_i64 r.1)

-- few rows, in byte order
pub record IsTable (rows : Rows) : Type 0 where
  pub few : length rows ≤ MOST_ROWS
  pub rising : IsRising rows

pub record IsWhole (opening : Rows) (labels : List (List ℕ)) (h : History)
    (table : Rows) : Type 0 where
  pub sessions : List Session
  pub text : IsText sessions
  pub labelled : labels ≡ map (λ s. s.label) sessions
  pub in_turn : IsInterleaving opening sessions h
  pub finished : IsFinished sessions h
  pub rows : AllByRecursion IsRow opening
  pub first : IsTable opening
  pub last : IsTable table
  -- each entry was allowed where it stands
  pub legal : Legal opening h
  -- the committed top-level transactions lead from the opening rows to the final ones
  pub runs : Runs (value_in opening) (items h []) (value_in table)

-- Session texts as they are spelled: what a text may say, and its one spelling.
use Rattle.std.specs.Prelude.{ℕ, ◌≤◌, Bool, IsFalse, List, [], ◌∷◌, ◌++◌, length, codes}
use Rattle.std.specs.List.{AllByRecursion, list_any}
use Rattle.txn_names.specs.Path.{label_eq}
use Rattle.txn_names.specs.Text.{IsLabel}
use Rattle.serial_spec.specs.declared.limits.TheConstants.{MOST_LINES, MOST_SESSIONS}
pub use Rattle.line_language.specs.Events.{IsEvent}
use Rattle.line_language.specs.Printing.{spelled_event}
use Rattle.serial_spec.specs.Interleaving.{Session}
use Rattle.serial_spec.specs.declared.event.Event.{Event}

-- the lines are those behind the header
pub record IsSession (s : Session) : Type 0 where
  pub label : IsLabel s.label
  pub short : length s.lines ≤ MOST_LINES
  pub events : AllByRecursion IsEvent s.lines

-- some session has this label
abbrev pub is_taken : List ℕ → List Session → Bool
is_taken l ss = list_any (λ s. label_eq l s.label) ss

-- each label once
abbrev pub AreApart : List Session → Type 0
AreApart [] = Unit {0}
AreApart (s ∷ ss) = IsFalse (is_taken s.label ss) × AreApart ss

pub record IsText (ss : List Session) : Type 0 where
  pub few : length ss ≤ MOST_SESSIONS
  pub sessions : AllByRecursion IsSession ss
  pub apart : AreApart ss

-- each line ends with a line feed
abbrev pub spelled_lines : List Event → List ℕ
spelled_lines [] = []
spelled_lines (e ∷ es) = spelled_event e ++ 10 ∷ spelled_lines es

abbrev pub spelled_session : Session → List ℕ
spelled_session s = codes "session " ++ s.label ++ 10 ∷ spelled_lines s.lines

abbrev pub spelled_text : List Session → List ℕ
spelled_text [] = []
spelled_text (s ∷ ss) = spelled_session s ++ spelled_text ss

-- What contracts see of lists of events and entries, and how the lists keep them.
use Rattle.std.specs.Prelude.{◌≡◌, ℕ, Bool, true, false, List, [], map, slice_get, Some, unwrap_or}
use Rattle.serial_spec.specs.declared.event.Event.{Event}
use Rattle.serial_spec.specs.declared.entry.Entry.{Entry}
use Rattle.serial_spec.specs.History.{Name}
use Rattle.txn_names.specs.Reading.{pieces}
use Rattle.event_lists.specs.Views.{answer_by, event_by}
use Rattle.event_lists.specs.declared.view.Cause.TheVariants.{Orphan}
use Rattle.event_lists.specs.declared.view.Said.{Said}
use Rattle.event_lists.specs.declared.view.Said.TheVariants.{Refused}
use Rattle.event_lists.specs.declared.names.Asking.{Asking}
use Rattle.event_lists.specs.declared.entries.Noted.{Noted}

pub record Listed : Type 0 where
  -- the oldest first
  pub entries : List Entry
  -- how many entries may be added without memory
  pub room : ℕ

-- names by number, and for how many there is room
pub record Numbered : Type 0 where
  pub items : List Name
  pub capacity : ℕ

-- the name with this number, where there is one
abbrev pub name_at : List Name → ℕ → Name
name_at names n = unwrap_or (slice_get names n) []

-- the event, and the entry, that are kept so
abbrev pub event_at : List Name → Asking → Event
event_at names a = event_by (name_at names a.name) a.act

abbrev pub entry_at : List Name → Noted → Entry
entry_at names n = record {
  by = n.by;
  event = event_at names n.event;
  answer = answer_by n.said (name_at names n.top);
}

abbrev pub events_of : List Name → List Asking → List Event
events_of names asked = map (event_at names) asked

abbrev pub entries_of : List Name → List Noted → List Entry
entries_of names notes = map (entry_at names) notes

-- whether an orphan is refused, which tells its aborted ancestor
abbrev pub is_orphan : Said → Bool
is_orphan (Refused Orphan) = true
is_orphan s = false

-- the bytes spell the name with this number
abbrev pub IsSpelledAt : List Name → ℕ → List ℕ → Type 0
IsSpelledAt names n bs = slice_get names n ≡ Some (pieces bs)

-- there is a name with this number
abbrev pub IsNamed : List Name → ℕ → Type 0
IsNamed names n = (t : Name) × (slice_get names n ≡ Some t)

abbrev pub HasName : List Name → Asking → Type 0
HasName names a = IsNamed names a.name

abbrev pub HasNames : List Name → Noted → Type 0
HasNames names n = HasName names n.event × IsNamed names n.top

-- each name stands where it stood
abbrev pub Keeps : List Name → List Name → Type 0
Keeps old new = (n : ℕ) (t : Name) → slice_get old n ≡ Some t → slice_get new n ≡ Some t

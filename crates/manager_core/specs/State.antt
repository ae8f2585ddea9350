-- The manager as contracts see it.
use Rattle.serial_spec.specs.declared.entry.By.{By}
use Rattle.serial_spec.specs.declared.event.Event.{Event}
use Rattle.serial_spec.specs.declared.entry.Answer.{Answer}
use Rattle.serial_spec.specs.declared.entry.Entry.{Entry}
use Rattle.serial_spec.specs.History.{History}
use Rattle.serial_spec.specs.Rows.{Rows}
use Rattle.manager_core.specs.declared.manager.AtOpening.{AtOpening}

pub record State (S : Type 0) : Type 0 where
  -- the opening rows
  pub rows : Rows
  -- the same as the store gave them, with their numbers, and how many faults it had counted then
  pub opened : AtOpening
  -- the newest entry first
  pub history : History
  -- what the committed top-level transactions left
  pub table : Rows
  pub store : S

abbrev pub entry : By → Event → Answer → Entry
entry by event answer = record { by = by; event = event; answer = answer }

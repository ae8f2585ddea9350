-- What the entries of a line are to an event of it.
use Rattle.std.specs.Prelude.{◌≡◌, []}
use Rattle.serial_spec.specs.declared.entry.By.{By}
use Rattle.serial_spec.specs.declared.event.Event.{Event}
use Rattle.serial_spec.specs.History.{History}
use Rattle.txn_history.specs.Lines.{IsLine, IsLineFree, OnlyWaits, entries_of}
use Rattle.txn_history.specs.declared.history.LineUse.{LineUse}
use Rattle.txn_history.specs.declared.history.LineUse.TheVariants.{Unused, Waits, Used}

-- Each line and event has one of these: the first two are the ways in which a line is free
abbrev pub HasUse : History → By → Event → LineUse → Type 0
HasUse h by event Unused = IsLine by × (entries_of h by ≡ [])
HasUse h by event Waits = IsLine by × OnlyWaits h by event
HasUse h by event Used = IsLineFree h by event → ⊥

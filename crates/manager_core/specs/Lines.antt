-- Which line may have an entry, and by which access a transaction waits.
use Rattle.std.specs.Prelude.{Option, Some, None}
use Rattle.serial_spec.specs.declared.entry.By.{By}
use Rattle.serial_spec.specs.declared.target.Asked.{Asked}
use Rattle.serial_spec.specs.declared.target.Asked.TheVariants.{At, Over}
use Rattle.serial_spec.specs.declared.event.Event.{Event}
use Rattle.serial_spec.specs.declared.event.Event.TheVariants.{Access, Sum}
use Rattle.serial_spec.specs.declared.entry.Entry.{Entry}
pub use Rattle.txn_history.specs.Lines.{IsLine, entries_of, OnlyWaits, accessor, waits_no_more, IsRetried, IsFree, IsWaitOf, CanGiveUp}

-- what an access asks, and its line
abbrev pub access_by : By → Event → Option (By × Asked)
access_by by (Access t k o) = Some (by, At k o)
access_by by (Sum t g) = Some (by, Over g)
access_by by e = None

abbrev pub waiting_access : Option Entry → Option (By × Asked)
waiting_access None = None
waiting_access (Some w) = access_by w.by w.event

-- Events, answers and entries by their parts, of which names stand elsewhere.
use Rattle.serial_spec.specs.declared.event.Event.{Event}
use Rattle.serial_spec.specs.declared.event.Event.TheVariants as event
use Rattle.serial_spec.specs.declared.entry.Refusal.{Refusal}
use Rattle.serial_spec.specs.declared.entry.Refusal.TheVariants as refusal
use Rattle.serial_spec.specs.declared.entry.Answer.{Answer}
use Rattle.serial_spec.specs.declared.entry.Answer.TheVariants as answer
use Rattle.serial_spec.specs.declared.entry.Entry.{Entry}
use Rattle.serial_spec.specs.History.{Name}
use Rattle.event_lists.specs.declared.view.Act.{Act}
use Rattle.event_lists.specs.declared.view.Act.TheVariants.{Begin, Access, Sum, Commit, Abort, After}
use Rattle.event_lists.specs.declared.view.Cause.{Cause}
use Rattle.event_lists.specs.declared.view.Cause.TheVariants as cause
use Rattle.event_lists.specs.declared.view.EntryView.{EntryView}
use Rattle.event_lists.specs.declared.view.EventView.{EventView}
use Rattle.event_lists.specs.declared.view.Said.{Said}
use Rattle.event_lists.specs.declared.view.Said.TheVariants.{Done, Waits, Stuck, Refused}

-- what asks this of t
abbrev pub event_by : Name → Act → Event
event_by t Begin = event.Begin t
event_by t (Access k o) = event.Access t k o
event_by t (Sum g) = event.Sum t g
event_by t Commit = event.Commit t
event_by t Abort = event.Abort t
event_by t (After w) = event.After t w

-- an event's parts
abbrev pub name_of : Event → Name
name_of (event.Begin t) = t
name_of (event.Access t k o) = t
name_of (event.Sum t g) = t
name_of (event.Commit t) = t
name_of (event.Abort t) = t
name_of (event.After t w) = t

abbrev pub act_of : Event → Act
act_of (event.Begin t) = Begin
act_of (event.Access t k o) = Access k o
act_of (event.Sum t g) = Sum g
act_of (event.Commit t) = Commit
act_of (event.Abort t) = Abort
act_of (event.After t w) = After w

-- the cause of a refusal, the name of an orphan's ancestor left aside
abbrev pub cause_of : Refusal → Cause
cause_of refusal.Unknown = cause.Unknown
cause_of refusal.Used = cause.Used
cause_of refusal.NoParent = cause.NoParent
cause_of refusal.Done = cause.Done
cause_of (refusal.Orphan t) = cause.Orphan
cause_of refusal.Children = cause.Children
cause_of refusal.Waiting = cause.Waiting
cause_of refusal.Full = cause.Full
cause_of refusal.Store = cause.Store

-- the refusal by this cause, with the aborted ancestor of an orphan
abbrev pub refusal_by : Cause → Name → Refusal
refusal_by cause.Unknown t = refusal.Unknown
refusal_by cause.Used t = refusal.Used
refusal_by cause.NoParent t = refusal.NoParent
refusal_by cause.Done t = refusal.Done
refusal_by cause.Orphan t = refusal.Orphan t
refusal_by cause.Children t = refusal.Children
refusal_by cause.Waiting t = refusal.Waiting
refusal_by cause.Full t = refusal.Full
refusal_by cause.Store t = refusal.Store

abbrev pub answer_by : Said → Name → Answer
answer_by (Done r) t = answer.Done r
answer_by Waits t = answer.Waits
answer_by Stuck t = answer.Stuck
answer_by (Refused c) t = answer.Refused (refusal_by c t)

-- what was said by an answer, the name of an orphan's ancestor left aside
abbrev pub said_of : Answer → Said
said_of (answer.Done r) = Done r
said_of answer.Waits = Waits
said_of answer.Stuck = Stuck
said_of (answer.Refused r) = Refused (cause_of r)

-- the event, and the entry, that are seen so
abbrev pub asked : EventView → Event
asked v = event_by v.name.now v.act.now

abbrev pub seen : EntryView → Entry
seen v = record { by = v.by; event = asked v.event; answer = answer_by v.said v.top.now }

-- Which answers the line of a report may tell of an event. Whether the answer has its cause is
-- another matter.
use Rattle.std.specs.Prelude.{Bool, true, false}
use Rattle.serial_spec.specs.declared.operation.Op.{Op}
use Rattle.serial_spec.specs.declared.operation.Reply.TheVariants.{Ok, Value, Overflow}
use Rattle.serial_spec.specs.declared.event.Event.{Event}
use Rattle.serial_spec.specs.declared.event.Event.TheVariants.{Begin, Access, Sum, Commit, Abort, After}
use Rattle.serial_spec.specs.declared.entry.Answer.{Answer}
use Rattle.serial_spec.specs.declared.entry.Answer.TheVariants.{Done, Waits, Stuck, Refused}
use Rattle.line_language.specs.Refusals.{may_refuse_access, may_refuse_begin, may_refuse_commit, may_refuse_end, may_refuse_sum}
use Rattle.line_language.specs.Verbs.{may_reply}

abbrev pub may_begin : Answer → Bool
may_begin (Done Ok) = true
may_begin (Refused r) = may_refuse_begin r
may_begin a = false

abbrev pub may_access : Op → Answer → Bool
may_access o (Done r) = may_reply o r
may_access o Waits = true
may_access o Stuck = true
may_access o (Refused r) = may_refuse_access r

abbrev pub may_sum : Answer → Bool
may_sum (Done (Value v)) = true
may_sum (Done Overflow) = true
may_sum (Done r) = false
may_sum Waits = true
may_sum Stuck = true
may_sum (Refused r) = may_refuse_sum r

abbrev pub may_commit : Answer → Bool
may_commit (Done Ok) = true
may_commit (Refused r) = may_refuse_commit r
may_commit a = false

abbrev pub may_abort : Answer → Bool
may_abort (Done Ok) = true
may_abort (Refused r) = may_refuse_end r
may_abort a = false

abbrev pub may_after : Answer → Bool
may_after (Done Ok) = true
may_after Stuck = true
may_after a = false

abbrev pub may_answer : Event → Answer → Bool
may_answer (Begin t) a = may_begin a
may_answer (Access t k o) a = may_access o a
may_answer (Sum t g) a = may_sum a
may_answer (Commit t) a = may_commit a
may_answer (Abort t) a = may_abort a
may_answer (After t w) a = may_after a

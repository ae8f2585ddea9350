-- What the entries of a history did, each with its transaction by the number of that: the place in
-- the order of beginning, from 0.
use Rattle.std.specs.Prelude.{ℕ, Bool, true, false, if◌then◌else◌, List, [], ◌∷◌, ◌++◌, Option, Some, None, position}
use Rattle.std.specs.List.{list_any}
use Rattle.txn_names.specs.Path.{path_eq}
use Rattle.serial_spec.specs.declared.operation.Reply.{Reply}
use Rattle.serial_spec.specs.declared.operation.Reply.TheVariants.{Ok}
use Rattle.serial_spec.specs.declared.event.Event.{Event}
use Rattle.serial_spec.specs.declared.event.Event.TheVariants.{Begin, Access, Sum, Commit, Abort, After}
use Rattle.serial_spec.specs.declared.entry.Answer.{Answer}
use Rattle.serial_spec.specs.declared.entry.Answer.TheVariants as answer
use Rattle.serial_spec.specs.declared.entry.By.{By}
use Rattle.serial_spec.specs.declared.entry.By.TheVariants as by
use Rattle.serial_spec.specs.declared.entry.Entry.{Entry}
use Rattle.serial_spec.specs.History.{History, Name}
use Rattle.line_language.specs.Refusals.{cause_of}
use Rattle.report_marks.specs.declared.deeds.Doer.{Doer}
use Rattle.report_marks.specs.declared.deeds.Doer.TheVariants as doer
use Rattle.report_marks.specs.declared.deeds.Deed.{Deed}
use Rattle.report_marks.specs.declared.deeds.Deed.TheVariants as deed
use Rattle.report_marks.specs.declared.deeds.Mark.{Mark}

-- ---- who has begun

abbrev pub is_ok : Reply → Bool
is_ok Ok = true
is_ok r = false

abbrev pub is_done_ok : Answer → Bool
is_done_ok (answer.Done r) = is_ok r
is_done_ok a = false

-- the names, of which this is one
abbrev pub with_name : List Name → Name → List Name
with_name ts t = if list_any (path_eq t) ts then ts else ts ++ t ∷ []

abbrev pub with_begun : List Name → Event → Answer → List Name
with_begun ts (Begin t) a = if is_done_ok a then with_name ts t else ts
with_begun ts e a = ts

-- those that began, each once, in order of beginning: a transaction's number is its place
abbrev pub names : History → List Name
names [] = []
names (e ∷ h) = with_begun (names h) e.event e.answer

-- ---- what an entry did, by the names of those that have begun with it

abbrev pub number_if : Bool → List Name → Name → Option ℕ
number_if done ts t = if done then position (path_eq t) ts else None

abbrev pub begin_deed : Option ℕ → Deed
begin_deed (Some n) = deed.Began n
begin_deed None = deed.Other

abbrev pub access_deed : Option ℕ → Deed
access_deed (Some n) = deed.Accessed n
access_deed None = deed.Other

abbrev pub commit_deed : Option ℕ → Deed
commit_deed (Some n) = deed.Committed n
commit_deed None = deed.Other

abbrev pub abort_deed : Option ℕ → Deed
abort_deed (Some n) = deed.Aborted n
abort_deed None = deed.Other

abbrev pub wait_deed : Option ℕ → Deed
wait_deed (Some n) = deed.Waits n
wait_deed None = deed.Other

abbrev pub done_deed : List Name → Event → Reply → Deed
done_deed ts (Begin t) r = begin_deed (number_if (is_ok r) ts t)
done_deed ts (Access t k o) r = access_deed (position (path_eq t) ts)
done_deed ts (Sum t g) r = access_deed (position (path_eq t) ts)
done_deed ts (Commit t) r = commit_deed (number_if (is_ok r) ts t)
done_deed ts (Abort t) r = abort_deed (number_if (is_ok r) ts t)
done_deed ts (After t w) r = deed.Other

abbrev pub waiting_deed : List Name → Event → Deed
waiting_deed ts (Access t k o) = wait_deed (position (path_eq t) ts)
waiting_deed ts (Sum t g) = wait_deed (position (path_eq t) ts)
waiting_deed ts e = deed.Other

abbrev pub deed_of : List Name → Event → Answer → Deed
deed_of ts e (answer.Done r) = done_deed ts e r
deed_of ts e answer.Waits = waiting_deed ts e
deed_of ts e answer.Stuck = deed.Stuck
deed_of ts e (answer.Refused c) = deed.Refused (cause_of c)

abbrev pub doer_of : By → Doer
doer_of (by.Line s n) = doer.Session s
doer_of by.Victim = doer.Victim
doer_of by.Close = doer.Close

abbrev pub mark_of : List Name → Entry → Mark
mark_of ts e = record { by = doer_of e.by; deed = deed_of ts e.event e.answer }

-- the marks of all entries, that of the first one first
abbrev pub marks : History → List Mark
marks [] = []
marks (e ∷ h) = marks h ++ mark_of (names (e ∷ h)) e ∷ []

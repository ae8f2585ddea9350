-- Which answers are allowed: the first cause that holds, else the reply or the wait.
use Rattle.std.proofs.Common.{◌≡◌, true, false, ◌∷◌, Option, Some, None, refl, sym, ap, subst, ◌∙◌}
use Rattle.std.proofs.lemmas.Bool.{false≢true, true≢false}
use Rattle.serial_spec.specs.declared.entry.By.{By}
use Rattle.serial_spec.specs.declared.entry.By.TheVariants.{Line, Victim, Close}
use Rattle.serial_spec.specs.declared.entry.Refusal.{Refusal}
use Rattle.serial_spec.specs.declared.entry.Refusal.TheVariants.{Store}
use Rattle.serial_spec.specs.declared.target.Asked.{Asked}
use Rattle.serial_spec.specs.declared.event.Event.{Event}
use Rattle.serial_spec.specs.declared.event.Event.TheVariants.{Begin, Access, Sum, Commit, Abort}
use Rattle.serial_spec.specs.declared.entry.Answer.{Answer}
use Rattle.serial_spec.specs.declared.entry.Entry.{Entry}
use Rattle.serial_spec.specs.declared.entry.Answer.TheVariants.{Done, Waits, Stuck, Refused}
use Rattle.serial_spec.specs.History.{Name, History, event_of, is_active}
use Rattle.serial_spec.specs.Serial.{reply_at}
use Rattle.serial_spec.specs.Locks.{is_blocked}
use Rattle.serial_spec.specs.Values.{seen}
use Rattle.serial_spec.specs.Rows.{Rows, value_in}
use Rattle.serial_spec.specs.Legal.{AreAllowed}
use Rattle.serial_spec.specs.Allowed.{Allowed, answer, has_waited, cause_at_begin, cause_at_end, cause_at_access, cause_at_commit}
use Rattle.txn_history.proofs.Exports.{IsOther, acts_active, acts_at_end, is_store, line_self, neither, other_at_access, other_at_begin, other_at_commit, other_at_end, wait_holds}
use Rattle.serial_spec.specs.Waits.{is_waits, same_line}
use Rattle.manager_core.specs.declared.outcome.Outcome.{Outcome}
use Rattle.manager_core.specs.declared.outcome.Outcome.TheVariants as made
use Rattle.manager_core.specs.declared.accessing.Attempt.{Attempt}
use Rattle.manager_core.specs.declared.accessing.Attempt.TheVariants as attempt
use Rattle.manager_core.specs.Tables.{ComesTo}
use Rattle.manager_core.specs.Lines.{IsLine, IsFree, IsWaitOf}
use Rattle.manager_core.specs.Sound.{is_store_refusal}
use Rattle.manager_core.specs.Outcomes.{answer_of, outcome_of}
use Rattle.manager_core.specs.State.{entry}
use Rattle.manager_core.proofs.Events.{answer_at, is_wait}
use Rattle.manager_core.proofs.Waits.{not_waited}

-- an allowed entry of a line may come
pub allowed_next : (rows : Rows) (h : History) (by : By) (event : Event) (a : Answer) → AreAllowed rows h → IsLine by → Allowed rows h by event a
    → AreAllowed rows (entry by event a ∷ h)
allowed_next rows h (Line s l) event a before line allowed = (before, allowed)
allowed_next rows h Victim event a before line allowed = absurd line
allowed_next rows h Close event a before line allowed = absurd line

-- ---- no cause is a refusal of the store

other_than_store : (o c : Option Refusal) → IsOther c → o ≡ c → is_store_refusal (answer_of (outcome_of o)) ≡ false
other_than_store (Some Store) c n e = absurd (true≢false (ap is_store e ∙ n.other))
other_than_store o c n e = refl

pub begin_other : (h : History) (t : Name) (o : Option Refusal) → o ≡ cause_at_begin h t → is_store_refusal (answer_of (outcome_of o)) ≡ false
begin_other h t o e = other_than_store o _ (other_at_begin h t) e

pub abort_other : (h : History) (t : Name) (o : Option Refusal) → o ≡ cause_at_end h t → is_store_refusal (answer_of (outcome_of o)) ≡ false
abort_other h t o e = other_than_store o _ (other_at_end h t) e

pub access_other : (rows : Rows) (h : History) (by : By) (t : Name) (asked : Asked) (r : Refusal) → Some r ≡ cause_at_access rows h by t asked → is_store_refusal (Refused r) ≡ false
access_other rows h by t asked r e = other_than_store (Some r) _ (other_at_access rows h by t asked) e

pub commit_other : (h : History) (by : By) (t : Name) (o : Option Refusal) → o ≡ cause_at_commit h by t → is_store_refusal (answer_of (outcome_of o)) ≡ false
commit_other h by t o e = other_than_store o _ (other_at_commit h by t) e

-- a cause that is found is the answer
refused_allowed : (rows : Rows) (h : History) (by : By) (e : Event) (r : Refusal) → is_store_refusal (Refused r) ≡ false → answer rows h by e ≡ Some (Refused r)
    → Allowed rows h by e (Refused r)
refused_allowed rows h by e Store n a = absurd (false≢true (sym n))
refused_allowed rows h by e r n a = a

-- ---- begins, commits and aborts

pub begin_allowed : (rows : Rows) (h : History) (by : By) (t : Name) (o : Option Refusal) → o ≡ cause_at_begin h t → Allowed rows h by (Begin t) (answer_of (outcome_of o))
begin_allowed rows h by t None e = rw (← e) refl
begin_allowed rows h by t (Some r) e = refused_allowed rows h by (Begin t) r (begin_other h t (Some r) e) (rw (← e) refl)

pub abort_allowed : (rows : Rows) (h : History) (by : By) (t : Name) (o : Option Refusal) → o ≡ cause_at_end h t → Allowed rows h by (Abort t) (answer_of (outcome_of o))
abort_allowed rows h by t None e = rw (← e) refl
abort_allowed rows h by t (Some r) e = refused_allowed rows h by (Abort t) r (abort_other h t (Some r) e) (rw (← e) refl)

pub commit_allowed : (rows : Rows) (h : History) (by : By) (t : Name) (o : Option Refusal) → o ≡ cause_at_commit h by t → Allowed rows h by (Commit t) (answer_of (outcome_of o))
commit_allowed rows h by t None e = rw (← e) refl
commit_allowed rows h by t (Some r) e = refused_allowed rows h by (Commit t) r (commit_other h by t (Some r) e) (rw (← e) refl)

-- one whose commit has no cause acts
pub active_at_commit : (h : History) (by : By) (t : Name) → None ≡ cause_at_commit h by t → is_active h t ≡ true
active_at_commit h by t e = acts_active h t (acts_at_end h t (neither _ _ (sym e)).0).1

-- ---- accesses

pub access_refused : (rows : Rows) (h : History) (by : By) (t : Name) (asked : Asked) (r : Refusal) → Some r ≡ cause_at_access rows h by t asked
    → Allowed rows h by (event_of t asked) (Refused r)
access_refused rows h by t asked r e = refused_allowed rows h by (event_of t asked) r (access_other rows h by t asked r e) (answer_at rows h by t asked ∙ rw (← e) refl)

-- one whose access has no cause acts
pub active_at_access : (rows : Rows) (h : History) (by : By) (t : Name) (asked : Asked) → None ≡ cause_at_access rows h by t asked → is_active h t ≡ true
active_at_access rows h by t asked e = acts_active h t (acts_at_end h t (neither _ _ (sym e)).0).1

pub access_waits : (rows : Rows) (h : History) (by : By) (t : Name) (asked : Asked) → IsFree h by (event_of t asked) → None ≡ cause_at_access rows h by t asked
    → is_blocked h t asked ≡ true → Allowed rows h by (event_of t asked) Waits
access_waits rows h by t asked free e blocked =
    answer_at rows h by t asked ∙ rw (← e, blocked, not_waited h by t asked free (active_at_access rows h by t asked e)) refl

pub access_done : (rows : Rows) (h : History) (by : By) (t : Name) (asked : Asked) → None ≡ cause_at_access rows h by t asked
    → is_blocked h t asked ≡ false → Allowed rows h by (event_of t asked) (Done (reply_at (seen (value_in rows) h t) asked))
access_done rows h by t asked e free = answer_at rows h by t asked ∙ rw (← e, free) refl

-- an outcome but for the cause of a refusal
abbrev pub attempt_of : Outcome → Attempt
attempt_of (made.Done reply) = attempt.Answered reply
attempt_of made.Waits = attempt.Waits
attempt_of (made.Refused r) = attempt.Refused

-- what an access comes to, with the cause where it is refused
abbrev pub EndsAs : Rows → History → By → Name → Asked → Outcome → Type 0
EndsAs rows h by t asked (made.Refused r) = Some r ≡ cause_at_access rows h by t asked
EndsAs rows h by t asked outcome = ComesTo rows h by t asked (attempt_of outcome)

-- so an access that comes to this may be answered so
pub access_comes : (rows : Rows) (h : History) (by : By) (t : Name) (asked : Asked) → IsFree h by (event_of t asked) → (outcome : Outcome)
    → EndsAs rows h by t asked outcome → Allowed rows h by (event_of t asked) (answer_of outcome)
access_comes rows h by t asked free (made.Done reply) comes =
    subst (λ r. Allowed rows h by (event_of t asked) (Done r)) (sym comes.2) (access_done rows h by t asked comes.0 comes.1)
access_comes rows h by t asked free made.Waits comes = access_waits rows h by t asked free comes.0 comes.1
access_comes rows h by t asked free (made.Refused r) comes = access_refused rows h by t asked r comes

-- a line that has waited is answered only when it waits no more
pub retry_comes : (rows : Rows) (h : History) (by : By) (t : Name) (asked : Asked) (outcome : Outcome)
    → EndsAs rows h by t asked outcome → is_waits (answer_of outcome) ≡ false → Allowed rows h by (event_of t asked) (answer_of outcome)
retry_comes rows h by t asked (made.Done reply) comes answered =
    subst (λ r. Allowed rows h by (event_of t asked) (Done r)) (sym comes.2) (access_done rows h by t asked comes.0 comes.1)
retry_comes rows h by t asked made.Waits comes answered = absurd (false≢true (sym answered))
retry_comes rows h by t asked (made.Refused r) comes answered = access_refused rows h by t asked r comes

pub still_waits : (rows : Rows) (h : History) (by : By) (t : Name) (asked : Asked)
    → ComesTo rows h by t asked attempt.Waits → has_waited h by ≡ true
    → answer rows h by (event_of t asked) ≡ None
still_waits rows h by t asked comes waited =
    answer_at rows h by t asked ∙ rw (← comes.0, comes.1, waited) refl

-- ---- lines that are given up

-- whatever waits by a line is of a line
same_line_is : (a by : By) → same_line a by ≡ true → IsLine by
same_line_is (Line s l) (Line s2 l2) e = tt
same_line_is (Line s l) Victim e = absurd (false≢true e)
same_line_is (Line s l) Close e = absurd (false≢true e)
same_line_is Victim by e = absurd (false≢true e)
same_line_is Close by e = absurd (false≢true e)

pub line_of_wait : (h : History) (by : By) (event : Event) → IsWaitOf h by event → IsLine by
line_of_wait h by (Access t k o) waits = same_line_is waits.0.by by waits.2
line_of_wait h by (Sum t g) waits = same_line_is waits.0.by by waits.2
line_of_wait h by event waits = absurd waits

-- an access may give up the wait that its own line made
pub stuck_allowed : (rows : Rows) (h : History) (by : By) (event : Event) → IsWaitOf h by event → Allowed rows h by event Stuck
stuck_allowed rows h by (Access t k o) waits = rw (waits.1, waits.2) refl
stuck_allowed rows h by (Sum t g) waits = rw (waits.1, waits.2) refl
stuck_allowed rows h by event waits = absurd waits

-- ---- lines that begin to wait

pub waits_by_line : (rows : Rows) (h : History) (by : By) (t : Name) (asked : Asked) → IsLine by → Allowed rows h by (event_of t asked) Waits
    → IsWaitOf (entry by (event_of t asked) Waits ∷ h) by (event_of t asked)
waits_by_line rows h (Line s l) t asked line due =
    let x : Entry = entry (Line s l) (event_of t asked) Waits in
    is_wait (x ∷ h) (Line s l) t asked (record { wait = x; waits = (wait_holds rows x h s l t asked refl due).0; of_line = line_self s l; event_is = refl })
waits_by_line rows h Victim t asked line due = absurd line
waits_by_line rows h Close t asked line due = absurd line

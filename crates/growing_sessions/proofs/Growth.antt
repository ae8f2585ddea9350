-- A history in which no line was given up is under way for all sessions that its own may grow to.
use Rattle.std.proofs.Common.{◌≡◌, ℕ, zero, suc, ◌≤◌, ⊎_elim, Bool, true, false, cond, eqb, List, [], ◌∷◌, length, slice_get, Option, Some, refl, sym, ap, subst, ◌∙◌}
use Rattle.std.proofs.Common.{None as Nothing}
use Rattle.std.specs.Prelude.{IsTrue}
use Rattle.std.proofs.lemmas.Bool.Decides.{eqb_tells}
use Rattle.std.proofs.lemmas.Option.{none-some, slice_get_past}
use Rattle.serial_spec.specs.declared.operation.Reply.{Reply}
use Rattle.serial_spec.specs.declared.operation.Reply.TheVariants.{Ok}
use Rattle.serial_spec.specs.declared.event.Event.{Event}
use Rattle.serial_spec.specs.declared.event.Event.TheVariants.{Begin, Access, Sum, Commit, Abort, After}
use Rattle.serial_spec.specs.declared.entry.By.{By}
use Rattle.serial_spec.specs.declared.entry.By.TheVariants.{Line, Victim, Close}
use Rattle.serial_spec.specs.declared.entry.Entry.{Entry}
use Rattle.serial_spec.specs.declared.entry.Refusal.{Refusal}
use Rattle.serial_spec.specs.declared.entry.Refusal.TheVariants.{Store}
use Rattle.serial_spec.specs.declared.entry.Answer.{Answer}
use Rattle.serial_spec.specs.declared.entry.Answer.TheVariants.{Done, Waits, Stuck, Refused}
use Rattle.serial_spec.specs.declared.target.Asked.TheVariants.{At, Over}
use Rattle.serial_spec.specs.History.{Name, History}
use Rattle.serial_spec.specs.Locks.{is_blocked}
use Rattle.serial_spec.specs.Rows.{Rows}
use Rattle.serial_spec.specs.Allowed.{refused_or, answer, asks_store, has_waited, has_come, cause_at_begin, cause_at_access, cause_at_commit, cause_at_end}
use Rattle.serial_spec.specs.Interleaving.{Session, lines_of, answered, next_event, next_line, FitsMoment, IsInTurn, IsInterleaving, victim, AfterVictims, Answers, StepsOn}
use Rattle.growing_sessions.specs.Growing.{Extends, StaysRight, IsOpenEnded, GrowthKeeps, StepStaysOpen, RoundStaysOpen, NewSessionUnanswered}

-- ---- growth

module _ (rows : Rows) (ss more : List Session) (grows : Extends ss more) where
  fits_still : (h : History) (s l : ℕ) (a : Answer) → StaysRight (Line s l) a → FitsMoment rows ss h s a → FitsMoment rows more h s a
  fits_still h s l (Done r) right fits = tt
  fits_still h s l Waits right fits = fits
  fits_still h s l Stuck right fits = absurd right
  fits_still h s l (Refused r) right fits = tt

  in_turn_still : (h : History) (by : By) (e : Event) (a : Answer) → StaysRight by a → IsInTurn rows ss h by e a → IsInTurn rows more h by e a
  in_turn_still h (Line s l) e a right turn = (turn.0, grows.lines s (answered h s) e turn.1, fits_still h s l a right turn.2)
  in_turn_still h Victim e a right turn = tt
  in_turn_still h Close e a right turn = absurd right

  interleaving_still : (h : History) → IsOpenEnded h → IsInterleaving rows ss h → IsInterleaving rows more h
  interleaving_still [] lasting turn = tt
  interleaving_still (e ∷ h) lasting turn = (interleaving_still h lasting.0 turn.0, in_turn_still h e.by e.event e.answer lasting.1 turn.1)

pub growth_keeps : GrowthKeeps
growth_keeps rows ss more h grows lasting way = record { legal = way.legal; quiet = way.quiet; in_turn = interleaving_still rows ss more grows h lasting way.in_turn }

-- ---- steps

never_stuck : (c : Option Refusal) (r : Reply) → refused_or c (Some (Done r)) ≡ Some Stuck → ⊥
never_stuck Nothing r e = cc
never_stuck (Some x) r e = cc

access_never_stuck : (c : Option Refusal) (b w : Bool) (r : Reply) → refused_or c (cond b (cond w Nothing (Some Waits)) (Some (Done r))) ≡ Some Stuck → ⊥
access_never_stuck (Some x) b w r e = cc
access_never_stuck Nothing true true r e = cc
access_never_stuck Nothing true false r e = cc
access_never_stuck Nothing false w r e = cc

after_never_stuck : (b : Bool) → cond b (Some (Done Ok)) Nothing ≡ Some Stuck → ⊥
after_never_stuck true e = cc
after_never_stuck false e = cc

not_stuck : (rows : Rows) (h : History) (by : By) (e : Event) → answer rows h by e ≡ Some Stuck → ⊥
not_stuck rows h by (Begin t) a = never_stuck (cause_at_begin h t) Ok a
not_stuck rows h by (Access t k o) a = access_never_stuck (cause_at_access rows h by t (At k o)) (is_blocked h t (At k o)) (has_waited h by) _ a
not_stuck rows h by (Sum t g) a = access_never_stuck (cause_at_access rows h by t (Over g)) (is_blocked h t (Over g)) (has_waited h by) _ a
not_stuck rows h by (Commit t) a = never_stuck (cause_at_commit h by t) Ok a
not_stuck rows h by (Abort t) a = never_stuck (cause_at_end h t) Ok a
not_stuck rows h by (After t w) a = after_never_stuck (has_come h t w) a

stays : (s l : ℕ) (a : Answer) → (a ≡ Stuck → ⊥) → StaysRight (Line s l) a
stays s l (Done r) n = tt
stays s l Waits n = tt
stays s l Stuck n = absurd (n refl)
stays s l (Refused r) n = tt

victims_open : (h : History) (ts : List Name) (h2 : History) → IsOpenEnded h → AfterVictims h ts h2 → IsOpenEnded h2
victims_open h [] h2 lasting after = subst IsOpenEnded (sym after.1) lasting
victims_open h (t ∷ ts) h2 lasting after = victims_open (victim t ∷ h) ts h2 (lasting, tt) after.1

module _ (rows : Rows) (h : History) (s : ℕ) (e : Event) (lasting : IsOpenEnded h) where
  abbrev own : Answer → Entry
  own a = record { by = next_line h s; event = e; answer = a }

  answers_open : (x : Option Answer) (h2 : History) → answer rows h (next_line h s) e ≡ x → Answers rows h (next_line h s) e x h2 → IsOpenEnded h2
  answers_open Nothing h2 is same = subst IsOpenEnded (sym same) lasting
  answers_open (Some a) h2 is (b, which, ts, after) = victims_open (own b ∷ h) ts h2 (lasting, stays s (suc (answered h s)) b not) after
    where
      not : b ≡ Stuck → ⊥
      not stuck = ⊎_elim
          (λ (same : b ≡ a). not_stuck rows h (next_line h s) e (is ∙ ap (λ x. Some x) (sym same ∙ stuck)))
          (λ (refused : (b ≡ Refused Store) × (a ≡ Done Ok) × IsTrue (asks_store h e)). let clash : Refused Store ≡ Stuck = sym refused.0 ∙ stuck in cc)
          which

steps_open : (rows : Rows) (h h2 : History) (s : ℕ) (x : Option Event) → IsOpenEnded h → StepsOn rows h s x h2 → IsOpenEnded h2
steps_open rows h h2 s Nothing lasting same = subst IsOpenEnded (sym same) lasting
steps_open rows h h2 s (Some e) lasting step = answers_open rows h s e lasting (answer rows h (next_line h s) e) h2 refl step

pub step_stays_open : StepStaysOpen
step_stays_open rows ss h h2 s lasting step = steps_open rows h h2 s (next_event ss h s) lasting step

pub round_stays_open : RoundStaysOpen
round_stays_open rows ss zero h h2 lasting same = subst IsOpenEnded (sym same) lasting
round_stays_open rows ss (suc n) h h2 lasting (mid, before, step) = step_stays_open rows ss mid h2 n (round_stays_open rows ss n h mid lasting before) step

-- ---- a session that is not there yet

none_there : (ss : List Session) (h : History) (s : ℕ) (e : Event) → length ss ≤ s → next_event ss h s ≡ Some e → ⊥
none_there ss h s e past due = none-some e (sym (ap (λ x. slice_get (lines_of x) (answered h s)) (slice_get_past ss s past)) ∙ due)

still_none : (rows : Rows) (ss : List Session) (h : History) (s : ℕ) → length ss ≤ s → answered h s ≡ 0 → (b : By) (v : Event) (a : Answer) → IsInTurn rows ss h b v a
    → answered (record { by = b; event = v; answer = a } ∷ h) s ≡ 0
still_none rows ss h s past before (Line u l) v a due = ⊎_elim
    (λ (same : (eqb s u ≡ true) × (s ≡ u)). absurd (none_there ss h u v (subst (λ n. length ss ≤ n) same.1 past) due.1))
    (λ (other : (eqb s u ≡ false) × (s ≡ u → ⊥)). rw other.0 before)
    (eqb_tells s u)
still_none rows ss h s past before Victim v a due = before
still_none rows ss h s past before Close v a due = before

pub new_session_unanswered : NewSessionUnanswered
new_session_unanswered rows ss [] s turn past = refl
new_session_unanswered rows ss (e ∷ h) s turn past = still_none rows ss h s past (new_session_unanswered rows ss h s turn.0 past) e.by e.event e.answer turn.1

-- An attempt of a session's next line is a step, and what it does to the numbers of the next lines.
use Rattle.std.proofs.Common.{◌≡◌, ℕ, suc, inl, inr, ⊎_elim, true, false, List, [], ◌∷◌, Some, refl, sym, ap, subst, ◌∙◌}
use Rattle.std.proofs.lemmas.Bool.{eq-eqb, ne_eqb}
use Rattle.serial_spec.specs.declared.event.Event.{Event}
use Rattle.serial_spec.specs.declared.entry.By.{By}
use Rattle.serial_spec.specs.declared.entry.By.TheVariants.{Line}
use Rattle.serial_spec.specs.declared.entry.Refusal.TheVariants.{Store}
use Rattle.serial_spec.specs.declared.entry.Answer.{Answer}
use Rattle.serial_spec.specs.declared.entry.Answer.TheVariants as answer
use Rattle.serial_spec.specs.History.{Name, History}
use Rattle.serial_spec.specs.Rows.{Rows}
use Rattle.serial_spec.specs.Waits.{is_waits}
use Rattle.serial_spec.specs.Allowed.{Allowed}
use Rattle.serial_spec.specs.Allowed.{answer as due_answer}
use Rattle.serial_spec.specs.Interleaving.{Session, answered, next_event, next_line, victim, AfterVictims, Answers, StepsOn, Step}
use Rattle.durable_top.specs.declared.store.TopStore.{Ghosts}
use Rattle.manager_core.specs.declared.outcome.Outcome.{Outcome}
use Rattle.manager_core.specs.declared.outcome.Outcome.TheVariants.{Done, Waits, Refused}
use Rattle.manager_core.specs.Outcomes.{answer_of}
use Rattle.manager_core.specs.State.{State, entry}
use Rattle.interleavings.specs.Attempts.{Enters, StaysOut, Attempts}

-- ---- a step

-- an outcome that is allowed is the definition's answer, or the store refused
entered : (rows : Rows) (h h2 : History) (by : By) (e : Event) (o : Outcome) (ts : List Name) → Allowed rows h by e (answer_of o)
    → AfterVictims (entry by e (answer_of o) ∷ h) ts h2 → Answers rows h by e (due_answer rows h by e) h2
entered rows h h2 by e (Refused Store) ts may after =
    subst (λ x. Answers rows h by e x h2) (sym may.0) (answer.Refused Store, inr (refl, refl, may.1), ts, after)
entered rows h h2 by e o ts may after = subst (λ x. Answers rows h by e x h2) (sym may) (answer_of o, inl refl, ts, after)

module _ {S : Type 0} (g : Ghosts S) (old new : State S) (ss : List Session) (s : ℕ) (e : Event) (due : next_event ss old.history s ≡ Some e)
    (o : Outcome) (attempt : Attempts g old new (next_line old.history s) e o) where
  abbrev by : By
  by = next_line old.history s

  answers : Answers old.rows old.history by e (due_answer old.rows old.history by e) new.history
  answers = ⊎_elim
      (λ (made : Enters old new by e o). entered old.rows old.history new.history by e o made.victims made.allowed made.broken)
      (λ (out : StaysOut old new by e o). subst (λ x. Answers old.rows old.history by e x new.history) (sym out.none) out.same)
      attempt.told

  pub attempt_steps : Step old.rows ss old.history s new.history
  attempt_steps = subst (λ x. StepsOn old.rows old.history s x new.history) (sym due) answers

-- ---- how many lines are answered

pub victims_answer : (h : History) (ts : List Name) (h2 : History) (u : ℕ) → AfterVictims h ts h2 → answered h2 u ≡ answered h u
victims_answer h [] h2 u after = ap (λ x. answered x u) after.1
victims_answer h (t ∷ ts) h2 u after = victims_answer (victim t ∷ h) ts h2 u after.1

-- an entry of another session
pub other_answered : (h : History) (s l u : ℕ) (e : Event) (a : Answer) → (u ≡ s → ⊥) → answered (entry (Line s l) e a ∷ h) u ≡ answered h u
other_answered h s l u e a other = rw (ne_eqb u s other) refl

-- an answer, and no answer
pub own_answered : (h : History) (s l : ℕ) (e : Event) (a : Answer) → is_waits a ≡ false → answered (entry (Line s l) e a ∷ h) s ≡ suc (answered h s)
own_answered h s l e a ends = rw (eq-eqb s s refl, ends) refl

pub own_waits : (h : History) (s l : ℕ) (e : Event) (a : Answer) → is_waits a ≡ true → answered (entry (Line s l) e a ∷ h) s ≡ answered h s
own_waits h s l e a waits = rw (eq-eqb s s refl, waits) refl

module _ {S : Type 0} (g : Ghosts S) (old new : State S) (s l : ℕ) (e : Event) (o : Outcome) (attempt : Attempts g old new (Line s l) e o) where
  -- no other session's lines are concerned
  pub others_count : (u : ℕ) → (u ≡ s → ⊥) → answered new.history u ≡ answered old.history u
  others_count u other = ⊎_elim
      (λ (made : Enters old new (Line s l) e o). victims_answer _ made.victims new.history u made.broken ∙ other_answered old.history s l u e (answer_of o) other)
      (λ (out : StaysOut old new (Line s l) e o). ap (λ h. answered h u) out.same)
      attempt.told

  -- one that waits is not answered, and any other is
  pub count_waits : o ≡ Waits → answered new.history s ≡ answered old.history s
  count_waits is = ⊎_elim
      (λ (made : Enters old new (Line s l) e o). victims_answer _ made.victims new.history s made.broken ∙ own_waits old.history s l e (answer_of o) (ap (λ x. is_waits (answer_of x)) is))
      (λ (out : StaysOut old new (Line s l) e o). ap (λ h. answered h s) out.same)
      attempt.told

  pub count_answered : (o ≡ Waits → ⊥) → answered new.history s ≡ suc (answered old.history s)
  count_answered ends = ⊎_elim
      (λ (made : Enters old new (Line s l) e o). victims_answer _ made.victims new.history s made.broken ∙ own_answered old.history s l e (answer_of o) (no_wait o ends))
      (λ (out : StaysOut old new (Line s l) e o). absurd (ends out.outcome_is))
      attempt.told
    where
      no_wait : (x : Outcome) → (x ≡ Waits → ⊥) → is_waits (answer_of x) ≡ false
      no_wait (Done r) n = refl
      no_wait Waits n = absurd (n refl)
      no_wait (Refused r) n = refl

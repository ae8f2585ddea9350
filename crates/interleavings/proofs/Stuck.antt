-- The stuck rule, session by session.
use Rattle.std.proofs.Common.{◌≡◌, ℕ, suc, ◌<◌, ◌≤◌, ◌⊎◌, inl, inr, Bool, true, false, not, List, length, Option, Some, None, is_some, option_map, slice_get, IsTrue, ◌↔◌, refl, sym, ap, subst, ◌∙◌, arith}
use Rattle.std.proofs.lemmas.Bool.{false≢true, cases_lt}
use Rattle.std.proofs.lemmas.Option.{slice_get_past}
use Rattle.serial_spec.specs.declared.event.Event.{Event}
use Rattle.serial_spec.specs.declared.entry.By.TheVariants.{Line}
use Rattle.serial_spec.specs.declared.entry.Answer.{Answer}
use Rattle.serial_spec.specs.History.{History}
use Rattle.serial_spec.specs.Rows.{Rows}
use Rattle.serial_spec.specs.Allowed.{answer}
use Rattle.serial_spec.specs.Interleaving.{Session, lines_of, answered, next_event, next_line, AllAnswered, MustGiveUp}
use Rattle.serial_spec.specs.Follows.{NoneGivesUp, StepOfEach}
use Rattle.txn_history.specs.Turns.{IsUnderWay, pending_in}
use Rattle.txn_history.specs.Lines.{CanGiveUp}
use Rattle.txn_history.proofs.Exports.{steps_move, clash, legal_allowed, next_can_give_up}
use Rattle.manager_core.specs.Parking.{IsKeptOut}
use Rattle.interleavings.specs.Turning.{IsDue, IsFirstOpen, SomeGoesOn, has_answer, can_go_on, next_number}

module _ (ss : List Session) (h : History) where
  -- where there is no session there is no line
  pub none_past : (u : ℕ) → length ss ≤ u → next_event ss h u ≡ None
  none_past u past = ap (λ x. slice_get (lines_of x) (answered h u)) (slice_get_past ss u past)

  -- of those that are there none has a line left
  pub all_answered : ((u : ℕ) → u < length ss → next_event ss h u ≡ None) → AllAnswered ss h
  all_answered none u = by (cases_lt u (length ss))
    where
      by : (u < length ss) ⊎ (length ss ≤ u) → next_event ss h u ≡ None
      by (inl within) = none u within
      by (inr past) = none_past u past

  -- the number of the next line tells whether there is one
  pub some_next : (u : ℕ) → is_some (next_number ss h u) ≡ is_some (next_event ss h u)
  some_next u = by (next_event ss h u)
    where
      by : (x : Option Event) → is_some (option_map (λ (e : Event). suc (answered h u)) x) ≡ is_some x
      by None = refl
      by (Some e) = refl

  pub none_next : (u : ℕ) → is_some (next_number ss h u) ≡ false → next_event ss h u ≡ None
  none_next u none = by (next_event ss h u) refl
    where
      by : (x : Option Event) → next_event ss h u ≡ x → next_event ss h u ≡ None
      by None is = is
      by (Some e) is = clash (some_next u ∙ ap is_some is) none

  -- up to the next one
  pub none_more : (s : ℕ) → ((u : ℕ) → u < s → next_event ss h u ≡ None) → next_event ss h s ≡ None → (u : ℕ) → u < suc s → next_event ss h u ≡ None
  none_more s none last u less = by (cases_lt u s)
    where
      by : (u < s) ⊎ (s ≤ u) → next_event ss h u ≡ None
      by (inl before) = none u before
      by (inr from) = let same : s ≡ u = omega (arith, less, from) in subst (λ v. next_event ss h v ≡ None) same last

  module _ (rows : Rows) where
    abbrev goes : ℕ → Bool
    goes = can_go_on rows ss h

    -- one that cannot go on has no answer
    pub no_answer : (u : ℕ) → goes u ≡ false → (e : Event) → next_event ss h u ≡ Some e → answer rows h (next_line h u) e ≡ None
    no_answer u stays e due = by (answer rows h (next_line h u) e) refl
      where
        by : (x : Option Answer) → answer rows h (next_line h u) e ≡ x → answer rows h (next_line h u) e ≡ None
        by None is = is
        by (Some a) is = clash (ap (has_answer rows h u) due ∙ ap is_some is) stays

    -- where no session is none can go on
    pub none_goes : ((u : ℕ) → u < length ss → goes u ≡ false) → (u : ℕ) → goes u ≡ false
    none_goes none u = by (cases_lt u (length ss))
      where
        by : (u < length ss) ⊎ (length ss ≤ u) → goes u ≡ false
        by (inl within) = none u within
        by (inr past) = ap (has_answer rows h u) (none_past u past)

    -- where one can go on none must give up
    pub nobody_must : (u : ℕ) → goes u ≡ true → NoneGivesUp rows ss h
    nobody_must u on s e must = by (next_event ss h u) refl
      where
        by : (x : Option Event) → next_event ss h u ≡ x → ⊥
        by None is = clash on (ap (has_answer rows h u) is)
        by (Some d) is = clash on (ap (has_answer rows h u) is ∙ ap is_some (must.stuck.none_goes_on u d is))

    -- nor where no line is left
    pub none_left : AllAnswered ss h → NoneGivesUp rows ss h
    none_left all s e must = false≢true (ap is_some (sym (all s) ∙ must.left))

    -- where none can go on the first that has a line left must
    pub first_must : (s : ℕ) → IsFirstOpen ss h (Some s) → ((u : ℕ) → u < length ss → goes u ≡ false) → (e : Event) × MustGiveUp rows ss h s e
    first_must s first none = by (next_event ss h s) refl
      where
        nowhere : (u : ℕ) (e : Event) → next_event ss h u ≡ Some e → answer rows h (next_line h u) e ≡ None
        nowhere u e due = at (cases_lt u (length ss))
          where
            at : (u < length ss) ⊎ (length ss ≤ u) → answer rows h (next_line h u) e ≡ None
            at (inl within) = no_answer u (none u within) e due
            at (inr past) = absurd (false≢true (ap is_some (sym (none_past u past) ∙ due)))

        by : (x : Option Event) → next_event ss h s ≡ x → (e : Event) × MustGiveUp rows ss h s e
        by None is = clash first.0 (ap is_some is)
        by (Some e) is = (e, record { left = is; stuck = record { none_goes_on = nowhere; first = first.1 } })

    pub goes_more : (s : ℕ) → ((u : ℕ) → u < s → goes u ≡ false) → goes s ≡ false → (u : ℕ) → u < suc s → goes u ≡ false
    goes_more s none last u less = by (cases_lt u s)
      where
        by : (u < s) ⊎ (s ≤ u) → goes u ≡ false
        by (inl before) = none u before
        by (inr from) = let same : s ≡ u = omega (arith, less, from) in subst (λ v. goes v ≡ false) same last

    -- and past those that are passed over
    pub goes_past : (from end : ℕ) → ((u : ℕ) → u < from → goes u ≡ false) → ((u : ℕ) → from ≤ u → u < end → goes u ≡ false) → (u : ℕ) → u < end → goes u ≡ false
    goes_past from end none passed u less = by (cases_lt u from)
      where
        by : (u < from) ⊎ (from ≤ u) → goes u ≡ false
        by (inl before) = none u before
        by (inr past) = passed u past less

    -- the manager tells of a next line whether it can go on
    pub told_held_up : IsUnderWay rows ss h → (s l : ℕ) (e : Event) → IsDue ss h s l e → (b : Bool)
        → IsTrue b ↔ IsKeptOut rows h (Line s l) e → not b ≡ goes s
    told_held_up way s l e due b tells = by b tells (answer rows h (next_line h s) e) refl
      where
        line : Line s l ≡ next_line h s
        line = ap (Line s) due.number

        by : (c : Bool) → IsTrue c ↔ IsKeptOut rows h (Line s l) e → (x : Option Answer) → answer rows h (next_line h s) e ≡ x → not c ≡ goes s
        by true t x at = sym (ap (has_answer rows h s) due.event ∙ ap (λ b2. is_some (answer rows h b2 e)) (sym line) ∙ ap is_some (t.0 refl).none)
        by false t None at =
            clash (t.1 (record {
              can = subst (λ b2. CanGiveUp h b2 e) (sym line) (next_can_give_up rows ss h (legal_allowed rows h way.legal) way.in_turn s e due.event at);
              none = ap (λ b2. answer rows h b2 e) line ∙ at;
            })) refl
        by false t (Some a) at = sym (ap (has_answer rows h s) due.event ∙ ap is_some at)

    -- where one can go on, a step of each adds an entry
    pub some_moves : (h2 : History) → SomeGoesOn rows ss h → StepOfEach rows ss (length ss) h h2 → pending_in ss h2 (length ss) < pending_in ss h (length ss)
    some_moves h2 (s, on) each = by (steps_move rows ss h h2 each)
      where
        by : ((h2 ≡ h) × ((u : ℕ) (e : Event) → next_event ss h u ≡ Some e → answer rows h (next_line h u) e ≡ None)) ⊎ (pending_in ss h2 (length ss) < pending_in ss h (length ss))
            → pending_in ss h2 (length ss) < pending_in ss h (length ss)
        by (inr fewer) = fewer
        by (inl (same, none)) = clash on (stays (next_event ss h s) refl)
          where
            stays : (x : Option Event) → next_event ss h s ≡ x → goes s ≡ false
            stays None is = ap (has_answer rows h s) is
            stays (Some e) is = ap (has_answer rows h s) is ∙ ap is_some (none s e is)

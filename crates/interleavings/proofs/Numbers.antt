-- The numbers of the sessions' next lines: what they tell, and how they are kept.
use Rattle.std.proofs.Common.{◌≡◌, ℕ, zero, suc, ◌+◌, ◌-◌, ◌<◌, ◌≤◌, ◌⊎◌, inl, inr, ⊎_elim, true, false, eqb, List, [], ◌∷◌, length, Option, Some, None, is_some, option_map, set, replicate, slice_get, refl, sym, ap, subst, ◌∙◌, arith}
use Rattle.std.proofs.lemmas.Bool.{cases_lt}
use Rattle.std.proofs.lemmas.Bool.Decides.{nat_tests, eqb_tells}
use Rattle.std.proofs.lemmas.Option.{none-some, slice_get_within, slice_get_past, slice_get-get_or}
use Rattle.std.proofs.lemmas.List.{get_or-set_same, get_or-set_other, length-replicate, get_or-replicate}
use Rattle.serial_spec.specs.declared.event.Event.{Event}
use Rattle.serial_spec.specs.declared.entry.By.TheVariants.{Line}
use Rattle.serial_spec.specs.declared.entry.Answer.TheVariants.{Stuck}
use Rattle.serial_spec.specs.History.{History}
use Rattle.serial_spec.specs.Interleaving.{Session, lines_of, answered, next_event, next_line, MustGiveUp, IsInterleaving}
use Rattle.serial_spec.specs.Follows.{NoneGivesUp, stuck}
use Rattle.serial_spec.specs.Legal.{Legal}
use Rattle.serial_spec.specs.Waits.{Quiet}
use Rattle.std.specs.List.{AllByRecursion}
use Rattle.session_text.specs.Texts.{line_at}
use Rattle.session_text.specs.Grammar.{IsSession, IsText}
use Rattle.txn_history.specs.Turns.{IsUnderWay}
use Rattle.txn_history.specs.Lines.{IsFree, IsWaitOf}
use Rattle.txn_history.proofs.Exports.{legal_allowed, next_is_free, step_keeps, stuck_keeps}
use Rattle.durable_top.specs.declared.store.TopStore.{Ghosts}
use Rattle.manager_core.specs.declared.outcome.Outcome.{Outcome}
use Rattle.manager_core.specs.declared.outcome.Outcome.TheVariants.{Waits}
use Rattle.manager_core.specs.State.{State, entry}
use Rattle.manager_core.specs.Asked.{IsLater}
use Rattle.manager_core.specs.Opening.{most_rows}
use Rattle.serial_spec.specs.Rows.{Rows}
use Rattle.interleavings.specs.Attempts.{Attempts}
use Rattle.interleavings.specs.declared.turns.Turn.TheVariants.{Answered, Parked}
use Rattle.interleavings.specs.Trails.{Trail}
use Rattle.interleavings.specs.Turning.{AreNext, AreTurns, IsDue, Turning, Stepped, Unstuck, next_number}
use Rattle.interleavings.proofs.Trails.{stuck_asks, trail_one}
use Rattle.interleavings.proofs.Schedules.{on_same}
use Rattle.interleavings.proofs.Attempts.{attempt_steps, others_count, count_waits, count_answered, own_answered, other_answered}

pub unsome : {X : Type 0} (a b : X) → Some a ≡ Some b → a ≡ b
unsome a b e = cc

-- ---- what they tell

module _ (ss : List Session) (h : History) (numbers : List ℕ) (next : AreNext ss h numbers) (s : ℕ) where
  -- a number that is kept is that of the session's next line
  pub kept_number : (l : ℕ) → slice_get numbers s ≡ Some l → l ≡ suc (answered h s)
  kept_number l at =
      let within : s < length ss = subst (λ n. s < n) next.count (slice_get_within numbers s l at) in
      let same : Some l ≡ Some (suc (answered h s)) = sym at ∙ next.each s within in
      cc

  -- and where none is kept there is no session
  pub none_kept : slice_get numbers s ≡ None → next_event ss h s ≡ None
  none_kept at = missing (slice_get_past ss s (by (cases_lt s (length ss))))
    where
      by : (s < length ss) ⊎ (length ss ≤ s) → length ss ≤ s
      by (inl within) = absurd (none-some (suc (answered h s)) (sym at ∙ next.each s within))
      by (inr past) = past

      missing : slice_get ss s ≡ None → next_event ss h s ≡ None
      missing none = ap (λ x. slice_get (lines_of x) (answered h s)) none

-- a line is left only of a session that is there
pub session_there : (ss : List Session) (h : History) (s : ℕ) (e : Event) → next_event ss h s ≡ Some e → s < length ss
session_there ss h s e due = by (cases_lt s (length ss))
  where
    by : (s < length ss) ⊎ (length ss ≤ s) → s < length ss
    by (inl within) = within
    by (inr past) = absurd (none-some e (sym (ap (λ x. slice_get (lines_of x) (answered h s)) (slice_get_past ss s past)) ∙ due))

-- of a text each session has few lines
pub short : (ss : List Session) (s : ℕ) (x : Session) → AllByRecursion IsSession ss → slice_get ss s ≡ Some x → length x.lines ≤ 1024
short [] s x all at = absurd (none-some x at)
short (y ∷ ss) zero x all at = subst (λ (z : Session). length z.lines ≤ 1024) (unsome y x at) all.0.short
short (y ∷ ss) (suc s) x all at = short ss s x all.1 at

pub few_lines : (ss : List Session) (h : History) (s : ℕ) (e : Event) → IsText ss → next_event ss h s ≡ Some e → suc (answered h s) ≤ 1024
few_lines ss h s e text due = by (slice_get ss s) refl
  where
    by : (x : Option Session) → slice_get ss s ≡ x → suc (answered h s) ≤ 1024
    by None is = absurd (none-some e (sym (ap (λ x. slice_get (lines_of x) (answered h s)) is) ∙ due))
    by (Some x) is =
        let at : slice_get x.lines (answered h s) ≡ Some e = sym (ap (λ x. slice_get (lines_of x) (answered h s)) is) ∙ due in
        omega (arith, slice_get_within x.lines (answered h s) e at, short ss s x text.sessions is)

-- a line of the text by its number
pub line_of_number : (ss : List Session) (s n : ℕ) → line_at ss s (suc n) ≡ slice_get (lines_of (slice_get ss s)) n
line_of_number ss s n =
    let test : eqb (suc n) 0 ≡ false = grind (arith, nat_tests) in
    let before : suc n - 1 ≡ n = omega arith in
    rw test (ap (slice_get (lines_of (slice_get ss s))) before)

pub next_by_number : (ss : List Session) (h : History) (s l : ℕ) → l ≡ suc (answered h s) → line_at ss s l ≡ next_event ss h s
next_by_number ss h s l is = ap (line_at ss s) is ∙ line_of_number ss s (answered h s)

-- so the line of the number that is kept is the next
pub due_of_number : (ss : List Session) (h : History) (numbers : List ℕ) → AreNext ss h numbers → (s l : ℕ) → slice_get numbers s ≡ Some l
    → (e : Event) → line_at ss s l ≡ Some e → IsDue ss h s l e
due_of_number ss h numbers next s l at e line =
    let number : l ≡ suc (answered h s) = kept_number ss h numbers next s l at in
    record { event = sym (next_by_number ss h s l number) ∙ line; number = number }

-- and where it is none no line is left
pub none_of_number : (ss : List Session) (h : History) (numbers : List ℕ) → AreNext ss h numbers → (s l : ℕ) → slice_get numbers s ≡ Some l
    → line_at ss s l ≡ None → next_event ss h s ≡ None
none_of_number ss h numbers next s l at line = sym (next_by_number ss h s l (kept_number ss h numbers next s l at)) ∙ line

pub number_due : (ss : List Session) (h : History) (s l : ℕ) (e : Event) → IsDue ss h s l e → Some l ≡ next_number ss h s
number_due ss h s l e due = ap (λ n. Some n) due.number ∙ sym (ap (λ x. option_map (λ (d : Event). suc (answered h s)) x) due.event)

pub number_none : (ss : List Session) (h : History) (s : ℕ) → next_event ss h s ≡ None → None ≡ next_number ss h s
number_none ss h s none = sym (ap (λ x. option_map (λ (d : Event). suc (answered h s)) x) none)

-- ---- how they are kept

pub first_numbers : (ss : List Session) (numbers : List ℕ) → length numbers ≡ length ss → ((s : ℕ) → s < length ss → slice_get numbers s ≡ Some 1) → AreNext ss [] numbers
first_numbers ss numbers count each = record { count = count; each = λ s within. each s within ∙ ap (λ n. Some n) one }
  where
    one : 1 ≡ suc 0
    one = omega arith

abbrev pub ones : ℕ → List ℕ
ones n = replicate n 1

pub first_turns : {S : Type 0} (ss : List Session) (m : State S) → m.history ≡ [] → Quiet m.history → length m.rows ≤ most_rows → AreTurns (record { sessions = ss; core = m }) (ones (length ss))
first_turns ss m none quiet few = record {
  few = few;
  way = record { legal = subst (Legal m.rows) (sym none) tt; quiet = quiet; in_turn = subst (IsInterleaving m.rows ss) (sym none) tt };
  next = subst (λ h. AreNext ss h (ones (length ss))) (sym none) (first_numbers ss (ones (length ss)) (length-replicate {A = ℕ} (length ss) 1) each);
}
  where
    each : (s : ℕ) → s < length ss → slice_get (ones (length ss)) s ≡ Some 1
    each s within =
        slice_get-get_or (ones (length ss)) s 0 (omega (arith, within, length-replicate {A = ℕ} (length ss) 1)) ∙ ap (λ n. Some n) (get_or-replicate (length ss) s 1 0 within)

-- as long as no more lines are answered
next_same : (ss : List Session) (h h2 : History) (numbers : List ℕ) → ((u : ℕ) → answered h2 u ≡ answered h u) → AreNext ss h numbers → AreNext ss h2 numbers
next_same ss h h2 numbers same next = record { count = next.count; each = λ u within. next.each u within ∙ ap (λ n. Some (suc n)) (sym (same u)) }

-- and where one more of session s is
pub next_more : (ss : List Session) (h h2 : History) (numbers : List ℕ) (s l : ℕ) → l ≡ suc (answered h s) → answered h2 s ≡ suc (answered h s)
    → ((u : ℕ) → (u ≡ s → ⊥) → answered h2 u ≡ answered h u) → s < length ss → AreNext ss h numbers → (count : length (set numbers s (l + 1)) ≡ length numbers) → AreNext ss h2 (set numbers s (l + 1))
next_more ss h h2 numbers s l is more others there next count = record {
  count = count ∙ next.count;
  each = λ u within. at u within (eqb_tells u s);
}
  where
    within_set : (u : ℕ) → u < length ss → u < length (set numbers s (l + 1))
    within_set u within = omega (arith, within, count, next.count)

    at : (u : ℕ) → u < length ss → ((eqb u s ≡ true) × (u ≡ s)) ⊎ ((eqb u s ≡ false) × (u ≡ s → ⊥)) → slice_get (set numbers s (l + 1)) u ≡ Some (suc (answered h2 u))
    at u within (inl same) =
        let line : l + 1 ≡ suc (answered h2 s) = omega (arith, is, more) in
        ap (slice_get (set numbers s (l + 1))) same.1
        ∙ slice_get-get_or (set numbers s (l + 1)) s 0 (within_set s there)
        ∙ ap (λ n. Some n) (get_or-set_same numbers s (l + 1) 0 (omega (arith, there, next.count)) ∙ line)
        ∙ ap (λ v. Some (suc (answered h2 v))) (sym same.1)
    at u within (inr other) =
        slice_get-get_or (set numbers s (l + 1)) u 0 (within_set u within)
        ∙ ap (λ n. Some n) (get_or-set_other numbers s u (l + 1) 0 other.1)
        ∙ sym (slice_get-get_or numbers u 0 (omega (arith, within, next.count)))
        ∙ next.each u within
        ∙ ap (λ n. Some (suc n)) (sym (others u other.1))

-- ---- an attempt

module _ {S : Type 0} (g : Ghosts S) (ss : List Session) (old : State S) (numbers : List ℕ) (turns : AreTurns (record { sessions = ss; core = old }) numbers)
    (s l : ℕ) (e : Event) (due : IsDue ss old.history s l e) where
  -- the line is free, or waits
  pub free_or_waits : IsFree old.history (Line s l) e ⊎ IsWaitOf old.history (Line s l) e
  free_or_waits =
      subst (λ n. IsFree old.history (Line s n) e ⊎ IsWaitOf old.history (Line s n) e) (sym due.number)
      (next_is_free old.rows ss old.history (legal_allowed old.rows old.history turns.way.legal) turns.way.in_turn s e due.event)

  -- of its session, which has few lines, a number is kept
  pub number_fits : IsText ss → l ≤ 1024
  number_fits text = subst (λ n. n ≤ 1024) (sym due.number) (few_lines ss old.history s e text due.event)

  pub is_kept : s < length numbers
  is_kept = subst (λ n. s < n) (sym turns.next.count) (session_there ss old.history s e due.event)

  module _ (new : State S) (o : Outcome) (tried : Attempts g old new (Line s l) e o) where
    attempt : Attempts g old new (next_line old.history s) e o
    attempt = subst (λ n. Attempts g old new (Line s n) e o) due.number tried

    way_on : IsUnderWay new.rows ss new.history
    way_on =
        subst (λ r. IsUnderWay r ss new.history) (sym attempt.on.rows)
        (step_keeps old.rows ss old.history new.history s turns.way (attempt_steps g old new ss s e due.event o attempt))

    few_on : length new.rows ≤ most_rows
    few_on = subst (λ (r : Rows). length r ≤ most_rows) (sym attempt.on.rows) turns.few

    -- the line waits
    pub turns_parked : o ≡ Waits → AreTurns (record { sessions = ss; core = new }) numbers
    turns_parked waits = record {
      way = way_on;
      few = few_on;
      next = next_same ss old.history new.history numbers all turns.next;
    }
      where
        all : (u : ℕ) → answered new.history u ≡ answered old.history u
        all u = ⊎_elim
            (λ (same : (eqb u s ≡ true) × (u ≡ s)). ap (answered new.history) same.1 ∙ count_waits g old new s (suc (answered old.history s)) e o attempt waits ∙ ap (answered old.history) (sym same.1))
            (λ (other : (eqb u s ≡ false) × (u ≡ s → ⊥)). others_count g old new s (suc (answered old.history s)) e o attempt u other.1)
            (eqb_tells u s)

    -- it is answered
    pub turns_answered : (o ≡ Waits → ⊥) → length (set numbers s (l + 1)) ≡ length numbers → AreTurns (record { sessions = ss; core = new }) (set numbers s (l + 1))
    turns_answered ends count = record {
      way = way_on;
      few = few_on;
      next = next_more ss old.history new.history numbers s l due.number (count_answered g old new s (suc (answered old.history s)) e o attempt ends)
          (others_count g old new s (suc (answered old.history s)) e o attempt) (session_there ss old.history s e due.event) turns.next count;
    }

    -- so it was a step, and this is what it tells
    pub stepped_parked : o ≡ Waits → Stepped g (record { sessions = ss; core = old }) (record { sessions = ss; core = new }) s Parked
    stepped_parked waits = record {
      sessions = refl;
      step = attempt_steps g old new ss s e due.event o attempt;
      told = (ap is_some due.event, count_waits g old new s (suc (answered old.history s)) e o attempt waits);
      on = attempt.on;
    }

    pub stepped_answered : (o ≡ Waits → ⊥) → Stepped g (record { sessions = ss; core = old }) (record { sessions = ss; core = new }) s Answered
    stepped_answered ends = record {
      sessions = refl;
      step = attempt_steps g old new ss s e due.event o attempt;
      told = (ap is_some due.event, count_answered g old new s (suc (answered old.history s)) e o attempt ends);
      on = attempt.on;
    }

-- ---- a line that is given up

-- or none is
pub unstuck_none : {S : Type 0} (g : Ghosts S) (t : Turning S) → NoneGivesUp t.core.rows t.sessions t.core.history → Unstuck g t t None
unstuck_none g t none = record { sessions = refl; told = (none, refl); on = on_same g t.core }

module _ {S : Type 0} (ss : List Session) (old new : State S) (numbers : List ℕ) (turns : AreTurns (record { sessions = ss; core = old }) numbers)
    (s l : ℕ) (e : Event) (due : IsDue ss old.history s l e) (must : MustGiveUp old.rows ss old.history s e)
    (added : new ≡ record old { history = entry (Line s l) e Stuck ∷ old.history }) where
  -- its entry
  pub stuck_history : new.history ≡ stuck old.history s e ∷ old.history
  stuck_history = ap (λ (m : State S). m.history) added ∙ ap (λ n. entry (Line s n) e Stuck ∷ old.history) due.number

  stuck_rows : new.rows ≡ old.rows
  stuck_rows = ap (λ (m : State S). m.rows) added

  -- so the stuck rule was applied
  pub unstuck : (g : Ghosts S) → Unstuck g (record { sessions = ss; core = old }) (record { sessions = ss; core = new }) (Some (s, l))
  unstuck g = record {
    sessions = refl;
    told = (due.number, (e, must, stuck_history));
    on = record {
      rows = stuck_rows;
      opened = ap (λ (m : State S). m.opened) added;
      trail = subst (Trail g old.rows old.history old.store new.history) (sym stuck_store)
          (subst (λ h. Trail g old.rows old.history old.store h old.store) (sym (ap (λ (m : State S). m.history) added))
          (trail_one g old.rows old.history (entry (Line s l) e Stuck) old.store old.store (stuck_asks g old.rows old.history e old.store)));
      later = subst (IsLater g old.store) (sym stuck_store) (on_same g old).later;
    };
  }
    where
      stuck_store : new.store ≡ old.store
      stuck_store = ap (λ (m : State S). m.store) added

  pub turns_stuck : length (set numbers s (l + 1)) ≡ length numbers → AreTurns (record { sessions = ss; core = new }) (set numbers s (l + 1))
  turns_stuck count = record {
    few = subst (λ (r : Rows). length r ≤ most_rows) (sym stuck_rows) turns.few;
    way = subst (λ r. IsUnderWay r ss new.history) (sym stuck_rows) (stuck_keeps old.rows ss old.history new.history turns.way (s, e, must, stuck_history));
    next = next_more ss old.history new.history numbers s l due.number own others (session_there ss old.history s e must.left) turns.next count;
  }
    where
      own : answered new.history s ≡ suc (answered old.history s)
      own = ap (λ h. answered h s) stuck_history ∙ own_answered old.history s (suc (answered old.history s)) e Stuck refl

      others : (u : ℕ) → (u ≡ s → ⊥) → answered new.history u ≡ answered old.history u
      others u other = ap (λ h. answered h u) stuck_history ∙ other_answered old.history s (suc (answered old.history s)) u e Stuck other

-- Whoever is left out where lines are attempted cannot go on.
use Rattle.std.proofs.Common.{◌≡◌, ◌⊎◌, ◌<◌, ◌≤◌, ◌+◌, ℕ, suc, Bool, true, false, inl, inr, ⊎_elim, List, [], ◌∷◌, length, slice_get, Option, Some, None, is_some, refl, sym, ap, subst, ◌∙◌, arith}
use Rattle.std.proofs.lemmas.Bool.{cases_eq, cases_lt, ne_eqb, true≢false}
use Rattle.std.proofs.lemmas.Option.{none-some}
use Rattle.serial_spec.specs.declared.event.Event.{Event}
use Rattle.serial_spec.specs.declared.event.Event.TheVariants.{Begin, Access, Sum, Commit, Abort, After}
use Rattle.serial_spec.specs.declared.entry.By.TheVariants.{Line}
use Rattle.serial_spec.specs.declared.entry.Answer.{Answer}
use Rattle.serial_spec.specs.declared.entry.Answer.TheVariants.{Done}
use Rattle.serial_spec.specs.declared.entry.Answer.TheVariants as answers
use Rattle.serial_spec.specs.declared.entry.Entry.{Entry}
use Rattle.serial_spec.specs.declared.operation.Reply.{Reply}
use Rattle.serial_spec.specs.declared.operation.Reply.TheVariants.{Ok}
use Rattle.serial_spec.specs.History.{Name, History, Begins, effect_of}
use Rattle.serial_spec.specs.Rows.{Rows}
use Rattle.serial_spec.specs.Waits.{same_line}
use Rattle.serial_spec.specs.Allowed.{Allowed, answer, known, most_keys}
use Rattle.serial_spec.specs.Legal.{AreAllowed}
use Rattle.serial_spec.specs.Interleaving.{Session, lines_of, answered, next_event, next_line, victim, AfterVictims}
use Rattle.txn_history.specs.Turns.{IsUnderWay, may_free}
use Rattle.txn_history.proofs.Exports.{held_up_lasts, next_can_give_up, other_session, legal_allowed, wait_is_next}
use Rattle.durable_top.specs.declared.store.TopStore.{Ghosts}
use Rattle.manager_core.specs.declared.outcome.Outcome.{Outcome}
use Rattle.manager_core.specs.declared.outcome.Outcome.TheVariants as outcome
use Rattle.manager_core.specs.Outcomes.{answer_of, came_of}
use Rattle.manager_core.proofs.Exports.{waits_of}
use Rattle.manager_core.specs.State.{State, entry}
use Rattle.interleavings.specs.declared.crowd.Crowd.{Crowd}
use Rattle.manager_core.specs.declared.outcome.Came.{Came}
use Rattle.manager_core.specs.declared.outcome.Came.TheVariants as came
use Rattle.interleavings.specs.declared.ready.Ready.{Ready}
use Rattle.interleavings.specs.Attempts.{Attempts, Enters, StaysOut}
use Rattle.interleavings.specs.Crowds.{AreGathered, HasJoined, HasParked, IsGathered, IsPassedOver, IsStillGathered, IsStillIn, WaitsIn, is_abort}
use Rattle.interleavings.specs.LeftOut.{AreLeftOut, IsIdle, IsLeftOut, IsLeftOutByBegins, IsNoted, IsParkedStill, IsStillOut, IsStillPlain, StaysBy, StaysOutBy, is_after}
use Rattle.interleavings.specs.Turning.{AreTurns, IsDue, can_go_on, has_answer}
use Rattle.interleavings.proofs.Attempts.{count_waits, other_answered, others_count}
use Rattle.interleavings.proofs.Crowds.{joins, moved, parks, passed_over, waits_on}
use Rattle.interleavings.proofs.Numbers.{session_there}
use Rattle.interleavings.proofs.Stuck.{no_answer, none_past, told_held_up}

module _ (rows : Rows) (ss : List Session) (h : History) where
  -- where no session is left out
  pub all_ready : (r : Ready) → length ss ≤ 64 → ((u : ℕ) → u < 64 → IsLeftOut r u → ⊥) → ((u : ℕ) → u < 64 → IsIdle r u → ⊥) → ((u : ℕ) → u < 64 → IsGathered r.crowd u → ⊥)
      → AreLeftOut rows ss h r
  all_ready r few all busy nobody = record {
    held = λ u out. ap (has_answer rows h u) (none u (λ low. all u low out));
    begins = λ u out. ap is_after (none u (λ low. all u low out.0));
    idle = λ u out. none u (λ low. busy u low out);
    crowd = λ u low gathered. absurd (nobody u low gathered);
  }
    where
      none : (u : ℕ) → (u < 64 → ⊥) → next_event ss h u ≡ None
      none u out = ⊎_elim
          (λ (low : u < 64). absurd (out low))
          (λ (past : 64 ≤ u). none_past ss h u (omega (arith, few, past)))
          (cases_lt u 64)

  module _ (r r2 : Ready) (s : ℕ) (left : AreLeftOut rows ss h r) where
    -- one that cannot go on is left out
    pub one_out : (b : Bool) → can_go_on rows ss h s ≡ false → (b ≡ false → is_after (next_event ss h s) ≡ false)
        → ((u : ℕ) → IsLeftOut r2 u → (u ≡ s) ⊎ IsLeftOut r u)
        → ((u : ℕ) → IsLeftOutByBegins r2 u → ((u ≡ s) × (b ≡ false)) ⊎ IsLeftOutByBegins r u)
        → ((u : ℕ) → IsIdle r2 u → IsIdle r u)
        → r2.crowd ≡ r.crowd
        → AreLeftOut rows ss h r2
    one_out b stays plain out begins idle same = record {
      held = λ u o. ⊎_elim
          (λ (same : u ≡ s). ap (can_go_on rows ss h) same ∙ stays)
          (λ (was : IsLeftOut r u). left.held u was)
          (out u o);
      begins = λ u o. ⊎_elim
          (λ (same : (u ≡ s) × (b ≡ false)). ap (λ v. is_after (next_event ss h v)) same.0 ∙ plain same.1)
          (λ (was : IsLeftOutByBegins r u). left.begins u was)
          (begins u o);
      idle = λ u o. left.idle u (idle u o);
      crowd = subst (λ (c : Crowd). AreGathered ss h c) (sym same) left.crowd;
    }

    -- and so is one that has no line left
    pub one_idle : next_event ss h s ≡ None
        → ((u : ℕ) → IsLeftOut r2 u → (u ≡ s) ⊎ IsLeftOut r u)
        → ((u : ℕ) → IsLeftOutByBegins r2 u → (u ≡ s) ⊎ IsLeftOutByBegins r u)
        → ((u : ℕ) → IsIdle r2 u → (u ≡ s) ⊎ IsIdle r u)
        → r2.crowd ≡ r.crowd
        → AreLeftOut rows ss h r2
    one_idle none out begins idle same_crowd = record {
      held = λ u o. ⊎_elim
          (λ (same : u ≡ s). ap (has_answer rows h u) (there u same))
          (λ (was : IsLeftOut r u). left.held u was)
          (out u o);
      begins = λ u o. ⊎_elim
          (λ (same : u ≡ s). ap is_after (there u same))
          (λ (was : IsLeftOutByBegins r u). left.begins u was)
          (begins u o);
      idle = λ u o. ⊎_elim
          (λ (same : u ≡ s). there u same)
          (λ (was : IsIdle r u). left.idle u was)
          (idle u o);
      crowd = subst (λ (c : Crowd). AreGathered ss h c) (sym same_crowd) left.crowd;
    }
      where
        there : (u : ℕ) → u ≡ s → next_event ss h u ≡ None
        there u same = ap (next_event ss h) same ∙ none

was_left_out : (r : Ready) (u : ℕ) (e : Event) → StaysBy r e u → IsLeftOut r u
was_left_out r u (Begin t) stays = stays.0
was_left_out r u (Access t k o) stays = stays
was_left_out r u (Sum t g) stays = stays
was_left_out r u (Commit t) stays = absurd stays
was_left_out r u (Abort t) stays = absurd stays
was_left_out r u (After t w) stays = stays

-- ---- what an entry frees

begins_free : (t : Name) (d : Event) → is_after (Some d) ≡ false → may_free (Begins t) d ≡ false
begins_free t (After u w) n = absurd (true≢false n)
begins_free t d n = refl

not_freed : (r : Ready) (u : ℕ) (e : Event) (a : Answer) (d : Event) → StaysBy r e u → (IsLeftOutByBegins r u → is_after (Some d) ≡ false) → may_free (effect_of e a) d ≡ false
not_freed r u (Begin t) (Done Ok) d stays plain = begins_free t d (plain stays)
not_freed r u (Access t k o) (Done x) d stays plain = refl
not_freed r u (Sum t g) (Done x) d stays plain = refl
not_freed r u (Commit t) a d stays plain = absurd stays
not_freed r u (Abort t) a d stays plain = absurd stays
not_freed r u e a d stays plain = refl

-- ---- how many entries there are

no_fewer : (h : History) (ts : List Name) (h2 : History) → AfterVictims h ts h2 → length h ≤ length h2
no_fewer h [] h2 after = omega (arith, ap (λ (x : History). length x) after.1)
no_fewer h (t ∷ ts) h2 after = omega (arith, no_fewer (victim t ∷ h) ts h2 after.1)

-- where there are no more there were no victims
no_victims : (h : History) (ts : List Name) (h2 : History) → AfterVictims h ts h2 → length h2 ≤ length h → h2 ≡ h
no_victims h [] h2 after few = after.1
no_victims h (t ∷ ts) h2 after few = absurd (omega (arith, no_fewer (victim t ∷ h) ts h2 after.1, few))

-- ---- what is noted

-- where some are left out again, who are parked still
pub noted_parked : (old mid new : Ready) (rows : Rows) (h : History) (before s : ℕ) (due : Event) (what : Came) → IsNoted old mid rows h before s due what
    → ((u : ℕ) → IsLeftOut new u → IsLeftOut mid u ⊎ IsParkedStill old rows h s u)
    → ((u : ℕ) → IsLeftOutByBegins new u → IsLeftOutByBegins mid u ⊎ IsParkedStill old rows h s u)
    → ((u : ℕ) → IsIdle new u → IsIdle mid u) → new.crowd ≡ mid.crowd → IsNoted old new rows h before s due what
noted_parked old mid new rows h before s due what noted out begins idle same = record {
  out = λ u low o. ⊎_elim
      (λ (was : IsLeftOut mid u). noted.out u low was)
      (λ (parked : IsParkedStill old rows h s u). inr (inr parked))
      (out u o);
  begins = λ u low o. ⊎_elim
      (λ (was : IsLeftOutByBegins mid u). noted.begins u low was)
      (λ (parked : IsParkedStill old rows h s u). inr (inr (inl parked.out)))
      (begins u o);
  idle = λ u i. noted.idle u (idle u i);
  crowd = λ u low gathered.
      subst (λ (c : Crowd). IsStillGathered old.crowd c h before s due what u) (sym same)
      (noted.crowd u low (subst (λ (c : Crowd). IsGathered c u) same gathered));
}

-- ---- what came

done_of : (o : Outcome) → came_of o ≡ came.Done → (r : Reply) × (answer_of o ≡ answers.Done r)
done_of (outcome.Done r) e = (r, refl)
done_of outcome.Waits e = cc
done_of (outcome.Refused f) e = cc

no_wait_done : came.Waits ≡ came.Done → ⊥
no_wait_done e = cc

-- ---- an attempt

module _ {S : Type 0} (g : Ghosts S) (ss : List Session) (old : State S) (numbers : List ℕ) (turns : AreTurns (record { sessions = ss; core = old }) numbers)
    (s l : ℕ) (e : Event) (due : IsDue ss old.history s l e) (new : State S) (o : Outcome) (tried : Attempts g old new (Line s l) e o) where
  abbrev h : History
  h = old.history

  abbrev own : Entry
  own = entry (Line s l) e (answer_of o)

  -- another session that could not go on cannot where the line's entry alone came
  other_held : Enters old new (Line s l) e o → (r : Ready) (u : ℕ) → AreLeftOut old.rows ss h r → (u ≡ s → ⊥) → StaysBy r e u → length (known old.rows (own ∷ h)) < most_keys
      → can_go_on old.rows ss (own ∷ h) u ≡ false
  other_held made r u left other stays few = by (next_event ss h u) refl
    where
      count : answered (own ∷ h) u ≡ answered h u
      count = other_answered h s l u e (answer_of o) other

      same_event : next_event ss (own ∷ h) u ≡ next_event ss h u
      same_event = ap (λ n. slice_get (lines_of (slice_get ss u)) n) count

      allowed : AreAllowed old.rows h
      allowed = legal_allowed old.rows h turns.way.legal

      by : (x : Option Event) → next_event ss h u ≡ x → can_go_on old.rows ss (own ∷ h) u ≡ false
      by None is = ap (has_answer old.rows (own ∷ h) u) (same_event ∙ is)
      by (Some d) is =
          let held : can_go_on old.rows ss h u ≡ false = left.held u (was_left_out r u e stays) in
          let none : answer old.rows h (next_line h u) d ≡ None = no_answer ss h old.rows u held d is in
          let plain : IsLeftOutByBegins r u → is_after (Some d) ≡ false = λ out. ap is_after (sym is) ∙ left.begins u out in
          let apart : same_line (Line s l) (next_line h u) ≡ false = other_session s u l (suc (answered h u)) (ne_eqb s u (λ same. other (sym same))) in
          let lasts : answer old.rows (own ∷ h) (next_line h u) d ≡ None =
          held_up_lasts old.rows own h (allowed, made.allowed) u (suc (answered h u)) d apart (not_freed r u e (answer_of o) d stays plain) few
          (next_can_give_up old.rows ss h allowed turns.way.in_turn u d is none) none in
          ap (has_answer old.rows (own ∷ h) u) (same_event ∙ is)
          ∙ ap (λ n. is_some (answer old.rows (own ∷ h) (Line u (suc n)) d)) count
          ∙ ap is_some lasts

  module _ (small : length ss ≤ 64) (r r2 : Ready) (left : AreLeftOut old.rows ss h r) (before : ℕ) (counted : before ≡ length h)
      (what : Came) (what_is : what ≡ came_of o) (way : IsUnderWay new.rows ss new.history)
      (noted : IsNoted r r2 new.rows new.history before s e what) where
    nothing_there : (u : ℕ) → 64 ≤ u → next_event ss new.history u ≡ None
    nothing_there u past = none_past ss new.history u (omega (arith, small, past))

    -- where no entry came nothing happened, and the line has no answer
    stayed : length new.history ≤ before → StaysOut old new (Line s l) e o
    stayed same = by tried.told
      where
        by : Enters old new (Line s l) e o ⊎ StaysOut old new (Line s l) e o → StaysOut old new (Line s l) e o
        by (inl made) = absurd (omega (arith, no_fewer (own ∷ h) made.victims new.history made.broken, same, counted))
        by (inr out) = out

    own_held : StaysOut old new (Line s l) e o → can_go_on old.rows ss h s ≡ false
    own_held out =
        ap (has_answer old.rows h s) due.event
        ∙ ap (λ n. is_some (answer old.rows h (Line s n) e)) (sym due.number)
        ∙ ap is_some out.none

    -- as it was
    as_before : (u : ℕ) → new.history ≡ h → can_go_on old.rows ss h u ≡ false → can_go_on new.rows ss new.history u ≡ false
    as_before u same held = (λ i. can_go_on (tried.on.rows i) ss (same i) u) ∙ held

    one_more : length new.history ≤ before + 1 → (made : Enters old new (Line s l) e o) → new.history ≡ own ∷ h
    one_more few made = no_victims (own ∷ h) made.victims new.history made.broken (omega (arith, few, counted))

    few_then : (grown : new.history ≡ own ∷ h) → length (known new.rows new.history) < most_keys → length (known old.rows (own ∷ h)) < most_keys
    few_then grown few =
        subst (λ (x : History). length (known old.rows x) < most_keys) grown (subst (λ (x : Rows). length (known x new.history) < most_keys) tried.on.rows few)

    goes_by : (u : ℕ) (grown : new.history ≡ own ∷ h) → can_go_on old.rows ss (own ∷ h) u ≡ false → can_go_on new.rows ss new.history u ≡ false
    goes_by u grown held = (λ i. can_go_on (tried.on.rows i) ss (grown i) u) ∙ held

    -- a line that waits has an entry of its wait, where one came
    wait_may : (d : Event) → e ≡ d → what ≡ came.Waits → Enters old new (Line s l) e o → Allowed old.rows h (Line s l) d answers.Waits
    wait_may d is waits made =
        subst (λ (x : Event). Allowed old.rows h (Line s l) x answers.Waits) is
        (subst (λ (x : Outcome). Allowed old.rows h (Line s l) e (answer_of x)) (waits_of o (sym what_is ∙ waits)) made.allowed)

    wait_entry : (d : Event) → e ≡ d → what ≡ came.Waits → own ≡ entry (Line s l) d answers.Waits
    wait_entry d is waits = (λ i. entry (Line s l) (is i) (answer_of (waits_of o (sym what_is ∙ waits) i)))

    due_as : (d : Event) → e ≡ d → IsDue ss h s l d
    due_as d is = subst (λ (x : Event). IsDue ss h s l x) is due

    parked_held : (u : ℕ) → HasParked s e what u → length new.history ≤ before + 1 → Enters old new (Line s l) e o → can_go_on new.rows ss new.history u ≡ false
    parked_held u p few made =
        let d : Event = Access p.txn p.key p.op in
        let held : can_go_on old.rows ss (entry (Line s l) d answers.Waits ∷ h) s ≡ false =
        parks old.rows ss h s l p.txn p.key p.op (due_as d p.due_is) (wait_may d p.due_is p.waits made) in
        ap (can_go_on new.rows ss new.history) p.session
        ∙ goes_by s (one_more few made) (subst (λ (x : Entry). can_go_on old.rows ss (x ∷ h) s ≡ false) (sym (wait_entry d p.due_is p.waits)) held)

    passed_held : (u : ℕ) → u < 64 → s < 64 → IsPassedOver r.crowd s e what u → length new.history ≤ before + 1 → length (known new.rows new.history) < most_keys
        → Enters old new (Line s l) e o → can_go_on new.rows ss new.history u ≡ false
    passed_held u low own_low p few fewer_keys made =
        let done = done_of o (sym what_is ∙ p.done) in
        let grown = one_more few made in
        goes_by u grown
        (passed_over old.rows ss h (legal_allowed old.rows h turns.way.legal) s l e (answer_of o) made.allowed due.event r.crowd
        (left.crowd s own_low p.writer) u (left.crowd u low p.gathered) p.other done.0 done.1 p.writes (few_then grown fewer_keys))

    s_low : s < 64
    s_low = omega (arith, small, session_there ss h s e due.event)

    still_held : (u : ℕ) → u < 64 → IsStillOut r new.rows new.history before s e what u → can_go_on new.rows ss new.history u ≡ false
    still_held u low (inl (same, who)) =
        let out = stayed same in
        ⊎_elim
        (λ (is : u ≡ s). as_before u out.same (ap (can_go_on old.rows ss h) is ∙ own_held out))
        (λ (was : IsLeftOut r u). as_before u out.same (left.held u was))
        who
    still_held u low (inr (few, fewer_keys, stays)) = by tried.told stays
      where
        by : Enters old new (Line s l) e o ⊎ StaysOut old new (Line s l) e o → StaysOutBy r s e what u → can_go_on new.rows ss new.history u ≡ false
        by (inr out) (inl (other, keeps)) = as_before u out.same (left.held u (was_left_out r u e keeps))
        by (inr out) (inr (inl passed)) = absurd (no_wait_done (sym (what_is ∙ ap came_of out.outcome_is) ∙ passed.done))
        by (inr out) (inr (inr parked)) = as_before u out.same (ap (can_go_on old.rows ss h) parked.session ∙ own_held out)
        by (inl made) (inl (other, keeps)) =
            let grown = one_more few made in
            goes_by u grown (other_held made r u left other keeps (few_then grown fewer_keys))
        by (inl made) (inr (inl passed)) = passed_held u low s_low passed few fewer_keys made
        by (inl made) (inr (inr parked)) = parked_held u parked few made

    -- one of which an access is kept out: that is what its next line asks
    parked_still : (u : ℕ) → IsParkedStill r new.rows new.history s u → can_go_on new.rows ss new.history u ≡ false
    parked_still u p =
        let next = wait_is_next new.rows ss new.history way.in_turn u p.parked.line p.parked.event p.parked.waits in
        sym (told_held_up ss new.history new.rows way u p.parked.line p.parked.event (record { event = next.1; number = next.0 }) true (λ _. p.parked.kept, λ _. refl))

    -- ---- who waits for no condition

    plain_in : (u : ℕ) → u < 64 → IsGathered r.crowd u → is_after (next_event ss h u) ≡ false
    plain_in u low gathered = ap is_after (left.crowd u low gathered).event

    others_plain : (u : ℕ) → (u ≡ s → ⊥) → is_after (next_event ss h u) ≡ false → is_after (next_event ss new.history u) ≡ false
    others_plain u other plain = ap (λ n. is_after (slice_get (lines_of (slice_get ss u)) n)) (others_count g old new s l e o tried u other) ∙ plain

    parked_plain : (u : ℕ) → HasParked s e what u → is_after (next_event ss new.history u) ≡ false
    parked_plain u p =
        ap (λ v. is_after (next_event ss new.history v)) p.session
        ∙ ap (λ n. is_after (slice_get (lines_of (slice_get ss s)) n)) (count_waits g old new s l e o tried (waits_of o (sym what_is ∙ p.waits)))
        ∙ ap is_after (due.event ∙ ap (λ (d : Event). Some d) p.due_is)

    still_plain : (u : ℕ) → u < 64 → IsStillOut r new.rows new.history before s e what u → IsStillPlain r s e u → is_after (next_event ss new.history u) ≡ false
    still_plain u low (inl (same, who)) (inl (is, plain)) =
        ap (λ (x : History). is_after (next_event ss x u)) (stayed same).same ∙ ap (λ v. is_after (next_event ss h v)) is ∙ ap is_after due.event ∙ plain
    still_plain u low (inl (same, who)) (inr (inl was)) = ap (λ (x : History). is_after (next_event ss x u)) (stayed same).same ∙ left.begins u was
    still_plain u low (inl (same, who)) (inr (inr gathered)) = ap (λ (x : History). is_after (next_event ss x u)) (stayed same).same ∙ plain_in u low gathered
    still_plain u low (inr (few, fewer_keys, inl (other, keeps))) (inl (is, plain)) = absurd (other is)
    still_plain u low (inr (few, fewer_keys, inl (other, keeps))) (inr (inl was)) = others_plain u other (left.begins u was)
    still_plain u low (inr (few, fewer_keys, inl (other, keeps))) (inr (inr gathered)) = others_plain u other (plain_in u low gathered)
    still_plain u low (inr (few, fewer_keys, inr (inl passed))) still = others_plain u passed.other (plain_in u low passed.gathered)
    still_plain u low (inr (few, fewer_keys, inr (inr parked))) still = parked_plain u parked

    -- one that had no line left has none: it was not the one that was attempted
    still_idle : (u : ℕ) → IsIdle r u → next_event ss new.history u ≡ None
    still_idle u idle = ⊎_elim
        (λ (same : u ≡ s). absurd (none-some e (sym (left.idle u idle) ∙ ap (next_event ss h) same ∙ due.event)))
        (λ (other : u ≡ s → ⊥). ap (λ n. slice_get (lines_of (slice_get ss u)) n) (others_count g old new s l e o tried u other) ∙ left.idle u idle)
        (cases_eq u s)

    -- ---- the crowd

    in_history : (u : ℕ) (x : History) → new.history ≡ x → WaitsIn ss x r2.crowd u → WaitsIn ss new.history r2.crowd u
    in_history u x is waits = subst (λ (y : History). WaitsIn ss y r2.crowd u) (sym is) waits

    -- an entry came where there is one more
    entered : length new.history ≡ before + 1 → Enters old new (Line s l) e o
    entered more = by tried.told
      where
        by : Enters old new (Line s l) e o ⊎ StaysOut old new (Line s l) e o → Enters old new (Line s l) e o
        by (inl made) = made
        by (inr out) = absurd (omega (arith, more, counted, ap (λ (x : History). length x) out.same))

    joined : (u : ℕ) → what ≡ came.Waits → HasJoined r2.crowd s e u → length new.history ≡ before + 1 → WaitsIn ss new.history r2.crowd u
    joined u waits j more =
        let made = entered more in
        let d : Event = Access j.txn j.key j.op in
        in_history u (own ∷ h) (one_more (omega (arith, more)) made)
        (subst (λ v. WaitsIn ss (own ∷ h) r2.crowd v) (sym j.session) (subst (λ (x : Entry). WaitsIn ss (x ∷ h) r2.crowd s) (sym (wait_entry d j.due_is waits))
        (joins old.rows ss h s l j.txn j.key j.op (due_as d j.due_is) (wait_may d j.due_is waits made) r2.crowd j.at)))

    stays_in : (u : ℕ) → u < 64 → is_abort e ≡ false → IsStillIn r.crowd r2.crowd s u → length new.history ≡ before + 1 → WaitsIn ss new.history r2.crowd u
    stays_in u low no_abort still more =
        let made = entered more in
        in_history u (own ∷ h) (one_more (omega (arith, more)) made)
        (moved ss (own ∷ h) r.crowd r2.crowd u still.same
        (waits_on old.rows ss h (legal_allowed old.rows h turns.way.legal) s l e (answer_of o) made.allowed no_abort r.crowd u still.other (left.crowd u low still.gathered)))

    still_gathered : (u : ℕ) → u < 64 → IsStillGathered r.crowd r2.crowd new.history before s e what u → WaitsIn ss new.history r2.crowd u
    still_gathered u low (inl (same, was, crowd)) = in_history u h (stayed same).same (moved ss h r.crowd r2.crowd u crowd (left.crowd u low was))
    still_gathered u low (inr (more, inl (waits, j))) = joined u waits j more
    still_gathered u low (inr (more, inr (no_abort, still))) = stays_in u low no_abort still more

    pub left_out_after : AreLeftOut new.rows ss new.history r2
    left_out_after = record {
      held = λ u out. ⊎_elim
          (λ (low : u < 64). ⊎_elim
          (λ (idle : IsIdle r u). ap (has_answer new.rows new.history u) (still_idle u idle))
          (λ (still : IsStillOut r new.rows new.history before s e what u ⊎ IsParkedStill r new.rows new.history s u).
          ⊎_elim
          (λ (o : IsStillOut r new.rows new.history before s e what u). still_held u low o)
          (λ (p : IsParkedStill r new.rows new.history s u). parked_still u p)
          still)
          (noted.out u low out))
          (λ (past : 64 ≤ u). ap (has_answer new.rows new.history u) (nothing_there u past))
          (cases_lt u 64);
      begins = λ u out. ⊎_elim
          (λ (low : u < 64). begins_low u low out (noted.out u low out.0) (noted.begins u low out))
          (λ (past : 64 ≤ u). ap is_after (nothing_there u past))
          (cases_lt u 64);
      idle = λ u out. still_idle u (noted.idle u out);
      crowd = λ u low gathered. still_gathered u low (noted.crowd u low gathered);
    }
      where
        begins_low : (u : ℕ) → u < 64 → IsLeftOutByBegins r2 u
            → IsIdle r u ⊎ (IsStillOut r new.rows new.history before s e what u ⊎ IsParkedStill r new.rows new.history s u)
            → IsIdle r u ⊎ IsStillPlain r s e u → is_after (next_event ss new.history u) ≡ false
        begins_low u low out (inl idle) b = ap is_after (still_idle u idle)
        begins_low u low out (inr still) (inl idle) = ap is_after (still_idle u idle)
        begins_low u low out (inr (inl still)) (inr was) = still_plain u low still was
        begins_low u low out (inr (inr parked)) (inr was) = others_plain u parked.other (left.begins u parked.out)

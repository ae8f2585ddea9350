-- What each call of the manager is as an attempt.
use Rattle.std.proofs.Common.{◌≡◌, ◌⊎◌, inl, inr, ⊎_elim, Bool, true, false, [], ◌∷◌, Some, Result, Ok, Err, OnOk, IfOk, IsTrue, ◌↔◌, refl, sym, ap, subst, ◌∙◌}
use Rattle.std.proofs.Common.{None as Nothing}
use Rattle.std.proofs.lemmas.Option.{none-some}
use Rattle.serial_spec.specs.declared.entry.By.{By}
use Rattle.serial_spec.specs.declared.entry.Entry.{Entry}
use Rattle.serial_spec.specs.declared.event.Event.{Event}
use Rattle.serial_spec.specs.declared.event.Event.TheVariants.{Begin, Access, Sum, Commit, Abort, After}
use Rattle.serial_spec.specs.declared.entry.Answer.{Answer}
use Rattle.serial_spec.specs.History.{Name, History}
use Rattle.serial_spec.specs.Waits.{Quiet, same_line, wait_of}
use Rattle.serial_spec.specs.Allowed.{answer}
use Rattle.txn_history.specs.Lines.{IsFree, IsWaitOf, accessor}
use Rattle.txn_history.proofs.Exports.{clash}
use Rattle.durable_top.specs.declared.store.TopStore.{Ghosts}
use Rattle.manager_core.specs.declared.outcome.Outcome.{Outcome}
use Rattle.manager_core.specs.declared.outcome.Outcome.TheVariants.{Waits}
use Rattle.manager_core.specs.declared.outcome.Came.{Came}
use Rattle.manager_core.specs.Outcomes.{CameTo, answer_of}
use Rattle.manager_core.specs.State.{State, entry}
use Rattle.manager_core.specs.Asked.{IsLater}
use Rattle.manager_core.specs.Sound.{IsSound}
use Rattle.manager_core.specs.Calls.{Added, Answered, Committed, Retried, WaitsOn}
use Rattle.manager_core.specs.Parking.{Awaited, Awaits, IsKeptOut, NobodyWaits}
use Rattle.manager_core.proofs.Exports.{same_by}
use Rattle.interleavings.specs.Trails.{EntryAsks, Trail}
use Rattle.interleavings.specs.Attempts.{Attempts, GoesOn}
use Rattle.interleavings.proofs.Trails.{committed_asks, trail_more, trail_one, trail_victims}
use Rattle.interleavings.proofs.Schedules.{on_same}
use Rattle.interleavings.proofs.Numbers.{unsome}

-- an entry of this event asks nothing of the store, whatever its answer
abbrev pub AsksNothing : {S : Type 0} → Ghosts S → State S → Event → Type 0
AsksNothing {S} g old e = (a : Answer) (s : S) → EntryAsks g old.rows old.history e a s s

module _ {S : Type 0} (g : Ghosts S) (old new : State S) (by : By) (e : Event) (o : Outcome) where
  -- beside the history nothing has changed
  beside_on : new ≡ record old { history = new.history } → Trail g old.rows old.history old.store new.history old.store → GoesOn g old new
  beside_on same trail = record {
    rows = ap (λ (m : State S). m.rows) same;
    opened = ap (λ (m : State S). m.opened) same;
    trail = subst (Trail g old.rows old.history old.store new.history) (sym (ap (λ (m : State S). m.store) same)) trail;
    later = subst (IsLater g old.store) (sym (ap (λ (m : State S). m.store) same)) (on_same g old).later;
  }

  module _ (nothing : AsksNothing g old e) where
    trail_entry : Trail g old.rows old.history old.store (entry by e (answer_of o) ∷ old.history) old.store
    trail_entry = trail_one g old.rows old.history (entry by e (answer_of o)) old.store old.store (nothing (answer_of o) old.store)

    pub answered_attempt : Answered old new by e o → Attempts g old new by e o
    answered_attempt a = record {
      told = inl (record { allowed = a.allowed; victims = a.victims; broken = a.broken });
      on = beside_on a.beside
          (trail_more g old.rows old.history old.store (entry by e (answer_of o) ∷ old.history) old.store new.history old.store trail_entry
          (trail_victims g old.rows (entry by e (answer_of o) ∷ old.history) a.victims new.history old.store a.broken));
    }

    -- where no cycle stands there are no victims
    pub added_attempt : Quiet new.history → Added old new by e o → Attempts g old new by e o
    added_attempt quiet a = record {
      told = inl (record { allowed = a.allowed; victims = []; broken = (subst Quiet history quiet, history) });
      on = beside_on (a.added ∙ ap (λ h. record old { history = h }) (sym history))
          (subst (λ h. Trail g old.rows old.history old.store h old.store) (sym history) trail_entry);
    }
      where
        history : new.history ≡ entry by e (answer_of o) ∷ old.history
        history = ap (λ (m : State S). m.history) a.added

    pub awaited_attempt : Quiet new.history → Awaited old new by e o → Attempts g old new by e o
    awaited_attempt quiet a = ⊎_elim
        (λ (added : Added old new by e o). added_attempt quiet added)
        (λ (awaits : Awaits old new by e o). record {
          told = inr (record { none = awaits.none; outcome_is = awaits.outcome_is; same = ap (λ (m : State S). m.history) awaits.same });
          on = subst (GoesOn g old) (sym awaits.same) (on_same g old);
        })
        a

pub committed_attempt : {S : Type 0} (g : Ghosts S) (old new : State S) (by : By) (t : Name) (o : Outcome) → Quiet new.history → Committed g old new by t o
    → Attempts g old new by (Commit t) o
committed_attempt {S} g old new by t o quiet c = record {
  told = inl (record { allowed = c.allowed; victims = []; broken = (subst Quiet history quiet, history) });
  on = record {
    rows = ap (λ (m : State S). m.rows) c.added;
    opened = ap (λ (m : State S). m.opened) c.added;
    trail = subst (λ h. Trail g old.rows old.history old.store h new.store) (sym history)
        (trail_one g old.rows old.history (entry by (Commit t) (answer_of o)) old.store new.store (committed_asks g old new by t o c));
    later = c.later;
  };
}
  where
    history : new.history ≡ entry by (Commit t) (answer_of o) ∷ old.history
    history = ap (λ (m : State S). m.history) c.added

-- an access asks nothing of the store
pub access_asks : {S : Type 0} (g : Ghosts S) (old : State S) (e : Event) (t : Name) → accessor e ≡ Some t → AsksNothing g old e
access_asks g old (Access u k op) t is a s = refl
access_asks g old (Sum u group) t is a s = refl
access_asks g old (Begin u) t is a s = absurd (none-some t is)
access_asks g old (Commit u) t is a s = absurd (none-some t is)
access_asks g old (Abort u) t is a s = absurd (none-some t is)
access_asks g old (After u when) t is a s = absurd (none-some t is)

-- the wait of this line is that of the access's transaction
own_wait : (h : History) (by : By) (e : Event) (t : Name) → accessor e ≡ Some t → IsWaitOf h by e
    → (w : Entry) × (wait_of h t ≡ Some w) × IsTrue (same_line w.by by) × (w.event ≡ e)
own_wait h by (Access u k op) t is waits =
    subst (λ v. (w : Entry) × (wait_of h v ≡ Some w) × IsTrue (same_line w.by by) × (w.event ≡ Access u k op)) (unsome u t is) waits
own_wait h by (Sum u group) t is waits =
    subst (λ v. (w : Entry) × (wait_of h v ≡ Some w) × IsTrue (same_line w.by by) × (w.event ≡ Sum u group)) (unsome u t is) waits
own_wait h by (Begin u) t is none = absurd none
own_wait h by (Commit u) t is none = absurd none
own_wait h by (Abort u) t is none = absurd none
own_wait h by (After u when) t is none = absurd none

-- the wait that is asked for again is the one of this line
pub retried_attempt : {S : Type 0} (g : Ghosts S) (old new : State S) (by : By) (e : Event) (t : Name) (o : Outcome) → accessor e ≡ Some t → IsWaitOf old.history by e
    → Retried old new t o → Attempts g old new by e o
retried_attempt {S} g old new by e t o of waits r = ⊎_elim
    (λ (a : Answered old new r.wait.by r.wait.event o).
    answered_attempt g old new by e o (access_asks g old e t of) (subst (λ x. Answered old new by x o) event_is (subst (λ b. Answered old new b r.wait.event o) by_is a)))
    (λ (out : WaitsOn old new r.wait o). record {
      told = inr (record {
        none = subst (λ x. answer old.rows old.history by x ≡ Nothing) event_is (subst (λ b. answer old.rows old.history b r.wait.event ≡ Nothing) by_is out.none);
        outcome_is = out.outcome_is;
        same = ap (λ (m : State S). m.history) out.same;
      });
      on = subst (GoesOn g old) (sym out.same) (on_same g old);
    })
    r.told
  where
    own : (w : Entry) × (wait_of old.history t ≡ Some w) × IsTrue (same_line w.by by) × (w.event ≡ e)
    own = own_wait old.history by e t of waits

    found : own.0 ≡ r.wait
    found = unsome own.0 r.wait (sym own.1 ∙ r.waits)

    by_is : r.wait.by ≡ by
    by_is = ap (λ (x : Entry). x.by) (sym found) ∙ same_by own.0.by by own.2

    event_is : r.wait.event ≡ e
    event_is = ap (λ (x : Entry). x.event) (sym found) ∙ own.3

-- one that is kept out still has no answer yet
pub kept_out_attempt : {S : Type 0} (g : Ghosts S) (m : State S) (by : By) (e : Event) (b : Bool) → IsTrue b ↔ IsKeptOut m.rows m.history by e → b ≡ true → Attempts g m m by e Waits
kept_out_attempt g m by e b is held = record {
  told = inr (record { none = (is.0 held).none; outcome_is = refl; same = refl });
  on = on_same g m;
}

-- ---- by what a call answered

module _ {S E : Type 0} (g : Ghosts S) (old new : State S) (by : By) where
  pub if_added : (e : Event) → AsksNothing g old e → (r : Result Outcome E) → IfOk r (λ o. Added old new by e o) → OnOk r (IsSound g new) → IfOk r (λ o. Attempts g old new by e o)
  if_added e nothing (Ok o) a sound = added_attempt g old new by e o nothing sound.quiet a
  if_added e nothing (Err x) a sound = tt

  pub if_answered : (e : Event) → AsksNothing g old e → (r : Result Outcome E) → IfOk r (λ o. Answered old new by e o) → IfOk r (λ o. Attempts g old new by e o)
  if_answered e nothing (Ok o) a = answered_attempt g old new by e o nothing a
  if_answered e nothing (Err x) a = tt

  -- the same where the outcome is left aside
  pub came_answered : (e : Event) → AsksNothing g old e → (r : Result Came E) → IfOk r (λ c. CameTo c (Answered old new by e)) → IfOk r (λ c. CameTo c (Attempts g old new by e))
  came_answered e nothing (Ok c) to = record { outcome = to.outcome; came_is = to.came_is; holds = answered_attempt g old new by e to.outcome nothing to.holds }
  came_answered e nothing (Err x) to = tt

  pub if_awaited : (e : Event) → AsksNothing g old e → (r : Result Outcome E) → IfOk r (λ o. Awaited old new by e o) → OnOk r (IsSound g new) → IfOk r (λ o. Attempts g old new by e o)
  if_awaited e nothing (Ok o) a sound = awaited_attempt g old new by e o nothing sound.quiet a
  if_awaited e nothing (Err x) a sound = tt

  pub if_committed : (t : Name) (r : Result Outcome E) → IfOk r (λ o. Committed g old new by t o) → OnOk r (IsSound g new) → IfOk r (λ o. Attempts g old new by (Commit t) o)
  if_committed t (Ok o) a sound = committed_attempt g old new by t o sound.quiet a
  if_committed t (Err x) a sound = tt

  pub if_retried : (e : Event) (t : Name) → accessor e ≡ Some t → IsWaitOf old.history by e → (r : Result Outcome E) → IfOk r (λ o. Retried old new t o)
      → IfOk r (λ o. Attempts g old new by e o)
  if_retried e t of waits (Ok o) a = retried_attempt g old new by e t o of waits a
  if_retried e t of waits (Err x) a = tt

  pub came_retried : (e : Event) (t : Name) → accessor e ≡ Some t → IsWaitOf old.history by e → (r : Result Came E) → IfOk r (λ c. CameTo c (Retried old new t))
      → IfOk r (λ c. CameTo c (Attempts g old new by e))
  came_retried e t of waits (Ok c) to = record { outcome = to.outcome; came_is = to.came_is; holds = retried_attempt g old new by e t to.outcome of waits to.holds }
  came_retried e t of waits (Err x) to = tt

-- ---- which call may be made

-- what waits is an access, so that every other line is free
pub free_unless_access : (h : History) (by : By) (e : Event) → accessor e ≡ Nothing → IsFree h by e ⊎ IsWaitOf h by e → IsFree h by e
free_unless_access h by e is (inl free) = free
free_unless_access h by (Access t k op) is (inr waits) = absurd (none-some t (sym is))
free_unless_access h by (Sum t group) is (inr waits) = absurd (none-some t (sym is))
free_unless_access h by (Begin t) is (inr none) = absurd none
free_unless_access h by (Commit t) is (inr none) = absurd none
free_unless_access h by (Abort t) is (inr none) = absurd none
free_unless_access h by (After t when) is (inr none) = absurd none

-- nor does any line wait where nobody does
pub free_where_none_waits : (h : History) (by : By) (e : Event) → NobodyWaits h → IsFree h by e ⊎ IsWaitOf h by e → IsFree h by e
free_where_none_waits h by e none (inl free) = free
free_where_none_waits h by e none (inr waits) = absurd (none by e waits)

-- and an access that is not free waits
pub waits_unless_free : (h : History) (by : By) (e : Event) (b : Bool) → IsTrue b ↔ IsFree h by e → b ≡ false → IsFree h by e ⊎ IsWaitOf h by e → IsWaitOf h by e
waits_unless_free h by e b is other (inl free) = clash (is.1 free) other
waits_unless_free h by e b is other (inr waits) = waits

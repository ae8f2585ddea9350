-- Trails, one behind another.
use Rattle.std.proofs.Common.{◌≡◌, Bool, true, false, ◌&&◌, List, [], ◌∷◌, ◌++◌, inl, inr, IsTrue, IsFalse, refl, sym, subst}
use Rattle.std.proofs.lemmas.Bool.{false≢true}
use Rattle.serial_spec.specs.declared.entry.By.{By}
use Rattle.serial_spec.specs.declared.entry.Entry.{Entry}
use Rattle.serial_spec.specs.declared.entry.Answer.TheVariants as answer
use Rattle.serial_spec.specs.declared.entry.Refusal.TheVariants.{Store}
use Rattle.serial_spec.specs.declared.event.Event.{Event}
use Rattle.serial_spec.specs.declared.event.Event.TheVariants.{Begin, Access, Sum, Commit, Abort, After}
use Rattle.serial_spec.specs.History.{Name, History}
use Rattle.serial_spec.specs.Rows.{Rows}
use Rattle.serial_spec.specs.Allowed.{asks_store}
use Rattle.serial_spec.specs.Interleaving.{AfterVictims, victim}
use Rattle.durable_top.specs.declared.store.TopStore.{Ghosts}
use Rattle.manager_core.specs.declared.outcome.Outcome.{Outcome}
use Rattle.manager_core.specs.declared.outcome.Outcome.TheVariants.{Done, Waits, Refused}
use Rattle.manager_core.specs.Outcomes.{answer_of}
use Rattle.manager_core.specs.Outcomes.{is_done as done_outcome, is_of_store as of_store_outcome}
use Rattle.manager_core.specs.State.{State}
use Rattle.manager_core.specs.Calls.{Committed, IsDecided}
use Rattle.manager_core.specs.Closing.{closings}
use Rattle.interleavings.specs.Trails.{EntryAsks, HandsOver, Trail, is_done, is_of_store}

module _ {S : Type 0} (g : Ghosts S) (rows : Rows) where
  -- nothing has happened
  pub trail_none : (h : History) (s : S) → Trail g rows h s h s
  trail_none [] s = (refl, refl)
  trail_none (e ∷ h) s = inl (refl, refl)

  -- one entry
  pub trail_one : (h : History) (e : Entry) (s s2 : S) → EntryAsks g rows h e.event e.answer s s2 → Trail g rows h s (e ∷ h) s2
  trail_one h e s s2 asks = inr (s, trail_none h s, asks)

  -- one trail behind another
  pub trail_more : (h0 : History) (s0 : S) (h1 : History) (s1 : S) (h2 : History) (s2 : S) → Trail g rows h0 s0 h1 s1 → Trail g rows h1 s1 h2 s2 → Trail g rows h0 s0 h2 s2
  trail_more h0 s0 h1 s1 [] s2 a (hs, ss) = subst (λ s. Trail g rows h0 s0 [] s) (sym ss) (subst (λ h. Trail g rows h0 s0 h s1) (sym hs) a)
  trail_more h0 s0 h1 s1 (e ∷ h2) s2 a (inl (hs, ss)) =
      subst (λ s. Trail g rows h0 s0 (e ∷ h2) s) (sym ss) (subst (λ h. Trail g rows h0 s0 h s1) (sym hs) a)
  trail_more h0 s0 h1 s1 (e ∷ h2) s2 a (inr (mid, before, asks)) = inr (mid, trail_more h0 s0 h1 s1 h2 mid a before, asks)

  -- an abort asks nothing, so that neither the victims nor the close do
  pub trail_victims : (h : History) (ts : List Name) (h2 : History) (s : S) → AfterVictims h ts h2 → Trail g rows h s h2 s
  trail_victims h [] h2 s (quiet, same) = subst (λ x. Trail g rows h s x s) (sym same) (trail_none h s)
  trail_victims h (t ∷ ts) h2 s (chosen, after) =
      trail_more h s (victim t ∷ h) s h2 s (trail_one h (victim t) s s refl) (trail_victims (victim t ∷ h) ts h2 s after)

  pub trail_closings : (names : List Name) (h : History) (s : S) → Trail g rows h s (closings names ++ h) s
  trail_closings [] h s = trail_none h s
  trail_closings (t ∷ names) h s = inr (s, trail_closings names h s, refl)

  -- nor does a line that is given up
  never : (b : Bool) → IsTrue (b && false) → ⊥
  never true is = false≢true is
  never false is = false≢true is

  pub stuck_asks : (h : History) (e : Event) (s : S) → EntryAsks g rows h e answer.Stuck s s
  stuck_asks h (Begin t) s = refl
  stuck_asks h (Access t k op) s = refl
  stuck_asks h (Sum t group) s = refl
  stuck_asks h (Commit t) s = record { asked = λ is. absurd (never _ is); unasked = λ is. refl }
  stuck_asks h (Abort t) s = refl
  stuck_asks h (After t when) s = refl

-- an outcome is one of the store where its answer is
same_of_store : (o : Outcome) → is_of_store (answer_of o) ≡ of_store_outcome o
same_of_store (Done r) = refl
same_of_store Waits = refl
same_of_store (Refused Store) = refl
same_of_store (Refused r) = refl

same_done : (o : Outcome) → is_done (answer_of o) ≡ done_outcome o
same_done (Done r) = refl
same_done Waits = refl
same_done (Refused r) = refl

-- what the manager asked for a commit is what its entry asks
pub committed_asks : {S : Type 0} (g : Ghosts S) (old new : State S) (by : By) (t : Name) (o : Outcome) → Committed g old new by t o
    → EntryAsks g old.rows old.history (Commit t) (answer_of o) old.store new.store
committed_asks {S} g old new by t o c = record {
  asked = λ is.
      subst (λ b. HandsOver g old.rows old.history t b old.store new.store) (sym (same_done o))
      (handed (c.asked (subst (λ b. IsTrue (asks_store old.history (Commit t) && b)) (same_of_store o) is)));
  unasked = λ is. (c.unasked (subst (λ b. IsFalse (asks_store old.history (Commit t) && b)) (same_of_store o) is)).1;
}
  where
    handed : IsDecided g old new t o → HandsOver g old.rows old.history t (done_outcome o) old.store new.store
    handed d = record { changes = d.changes; due = d.due; asked = d.asked }

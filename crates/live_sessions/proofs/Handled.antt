-- What a request comes to.
use Rattle.std.proofs.Common.{◌≡◌, ℕ, zero, suc, inl, inr, List, [], length, Result, Ok, Err, OnOk, refl, sym, ap, ap₂, subst, ◌∙◌}
use Rattle.serial_spec.specs.declared.event.Event.{Event}
use Rattle.serial_spec.specs.History.{History}
use Rattle.serial_spec.specs.Rows.{Rows}
use Rattle.serial_spec.specs.Interleaving.{Session}
use Rattle.growing_sessions.specs.Growing.{IsOpenEnded, labels_in}
use Rattle.growing_sessions.proofs.Exports.{round_stays_open, step_stays_open}
use Rattle.durable_top.specs.declared.store.TopStore.{Ghosts}
use Rattle.manager_core.specs.State.{State}
use Rattle.manager_core.specs.Sound.{IsSound}
use Rattle.txn_history.specs.Turns.{IsUnderWay}
use Rattle.interleavings.specs.Attempts.{GoesOn}
use Rattle.interleavings.specs.Progressing.{Going, AreUnderWay, turning}
use Rattle.interleavings.specs.Scheduled.{Goes, Settles, Stands, StepsOfAll}
use Rattle.interleavings.specs.Turning.{IsStart, Turning, Stepped, NoneGoesOn}
use Rattle.interleavings.specs.declared.turns.Turn.{Turn}
use Rattle.interleavings.proofs.Exports.{goes_still, on_same}
use Rattle.live_sessions.specs.Handling.{Attempted, BreaksAt, Grows, IsLive}
use Rattle.live_sessions.specs.Requested.{number_of, with_request}

steps_open : (rows : Rows) (ss : List Session) (n : ℕ) (h h2 : History) → IsOpenEnded h → StepsOfAll rows ss n h h2 → IsOpenEnded h2
steps_open rows ss zero h h2 lasting same = subst IsOpenEnded (sym same) lasting
steps_open rows ss (suc n) h h2 lasting (mid, before, each) =
    round_stays_open rows ss (length ss) mid h2 (steps_open rows ss n h mid lasting before) each

module _ {S : Type 0} (g : Ghosts S) (s : ℕ) (old : Turning S) where
  -- no line is given up by it
  pub attempted_open : (new : Turning S) → IsOpenEnded old.core.history → Attempted g s old new → IsOpenEnded new.core.history
  attempted_open new lasting a =
      steps_open old.core.rows old.sessions a.count a.mid new.core.history
      (step_stays_open old.core.rows old.sessions old.core.history a.mid s lasting a.own) a.others

  -- a step, and then all until none goes on
  pub attempted : (mid new : Turning S) (turn : Turn) → Stepped g old mid s turn → Settles g mid new → Attempted g s old new
  attempted mid new turn st settled = record {
    goes = goes_still g old mid new goes settled.goes;
    mid = mid.core.history;
    own = st.step;
    count = settled.count;
    others = back (λ r ss. StepsOfAll r ss settled.count mid.core.history new.core.history) settled.steps;
    settled = back (λ r ss. NoneGoesOn r ss new.core.history) settled.settled;
  }
    where
      goes : Goes g old mid
      goes = record { sessions = st.sessions; on = st.on }

      -- what holds of the rows and sessions in the middle holds of those at first
      back : (P : Rows → List Session → Type 0) → P mid.core.rows mid.sessions → P old.core.rows old.sessions
      back P p = subst (λ r. P r old.sessions) st.on.rows (subst (P mid.core.rows) st.sessions p)

  pub attempted_ok : {T E : Type 0} (mid new : Turning S) (turn : Turn) (r : Result T E) → Stepped g old mid s turn → OnOk r (Settles g mid new) → OnOk r (Attempted g s old new)
  attempted_ok mid new turn (Ok x) st settled = attempted mid new turn st settled
  attempted_ok mid new turn (Err x) st settled = tt

-- ---- what the type keeps

module _ {S : Type 0} (g : Ghosts S) where
  pub live_start : (ss : List Session) (store : S) (t : Turning S) (q : Going S) (ls : List (List ℕ)) → IsStart g ss store t → q.core ≡ t.core → AreUnderWay t.sessions q
      → ss ≡ [] → ls ≡ [] → IsLive ss ls q
  live_start ss store t q ls start core way none unlabelled = record {
    way = subst (λ x. AreUnderWay x q) start.sessions way;
    open_ended = subst (λ (m : State S). IsOpenEnded m.history) (sym core) (subst IsOpenEnded (sym start.opened.history) tt);
    labels = unlabelled ∙ ap labels_in (sym none);
  }

  module _ (ss : List Session) (p : Going S) (s : ℕ) (old new : Turning S) (begun : old ≡ turning ss p) where
    pub live_still : (ls : List (List ℕ)) (q : Going S) → IsOpenEnded p.core.history → Attempted g s old new → q.core ≡ new.core → AreUnderWay new.sessions q
        → ls ≡ labels_in ss → IsLive ss ls q
    live_still ls q lasting a core way labelled = record {
      way = subst (λ x. AreUnderWay x q) (a.goes.sessions ∙ ap (λ (t : Turning S). t.sessions) begun) way;
      open_ended = subst (λ (m : State S). IsOpenEnded m.history) (sym core)
          (attempted_open g s old new (subst (λ (t : Turning S). IsOpenEnded t.core.history) (sym begun) lasting) a);
      labels = labelled;
    }

-- ---- from the sessions before they grew

module _ {S : Type 0} (g : Ghosts S) (ss : List Session) (p : Going S) (l : List ℕ) (e : Event) where
  pub breaks_here : (q : Going S) (left : S) → IsUnderWay p.core.rows ss p.core.history → IsSound g p.core → q.core ≡ p.core → left ≡ q.core.store → BreaksAt g (turning ss p) l e left
  breaks_here q left way sound same store = record {
    last = turning ss p;
    sessions = inl refl;
    on = on_same g p.core;
    go = record { stands = record { way = way; sound = sound }; store = store ∙ ap (λ (m : State S). m.store) same };
  }

  module _ (more : List Session) (grown : Going S) (old new : Turning S) (more_is : more ≡ with_request ss l e) (same : grown.core ≡ p.core)
      (begun : old ≡ turning more grown) where
    begun_so : old ≡ record { sessions = more; core = p.core }
    begun_so = begun ∙ ap (λ (m : State S). record { sessions = more; core = m }) same

    pub breaks_behind : (q : Going S) (left : S) → Goes g old new → Stands g new → q.core ≡ new.core → left ≡ q.core.store → BreaksAt g (turning ss p) l e left
    breaks_behind q left goes stands core store = record {
      last = new;
      sessions = inr (goes.sessions ∙ ap (λ (t : Turning S). t.sessions) begun ∙ more_is);
      on = subst (λ (t : Turning S). GoesOn g t.core new.core) begun_so goes.on;
      go = record { stands = stands; store = store ∙ ap (λ (m : State S). m.store) core };
    }

    pub grows_of : (s : ℕ) (q : Going S) → s ≡ number_of l ss → Attempted g s old new → q.core ≡ new.core → Grows g (turning ss p) l e (turning more q)
    grows_of s q number a core =
        let ended : new ≡ turning more q =
        ap₂ (λ (x : List Session) (m : State S). record { sessions = x; core = m }) (a.goes.sessions ∙ ap (λ (t : Turning S). t.sessions) begun) (sym core) in
        let attempted : Attempted g (number_of l ss) (record { sessions = more; core = p.core }) (turning more q) =
        subst (λ n. Attempted g n (record { sessions = more; core = p.core }) (turning more q)) number
        (subst (λ (t : Turning S). Attempted g s t (turning more q)) begun_so (subst (λ (t : Turning S). Attempted g s old t) ended a)) in
        record { sessions = more_is; on = attempted.goes.on; attempted = attempted }

-- A run, one call after another.
use Rattle.std.proofs.Common.{◌≡◌, ◌≤◌, ◌+◌, ◌-◌, ℕ, zero, suc, false, inl, inr, List, [], ◌∷◌, ◌++◌, length, Option, Some, None, Result, Ok, Err, OnErr, refl, sym, ap, subst, ◌∙◌, arith}
use Rattle.serial_spec.specs.History.{History}
use Rattle.serial_spec.specs.Rows.{Rows}
use Rattle.serial_spec.specs.declared.event.Event.{Event}
use Rattle.serial_spec.specs.Interleaving.{Session, AllAnswered, Answers, Step, StepsOn, next_event, next_line}
use Rattle.serial_spec.specs.Follows.{Steps, StepOfEach, Unsticks, Round}
use Rattle.durable_top.specs.declared.store.TopStore.{Ghosts}
use Rattle.manager_core.specs.State.{State}
use Rattle.manager_core.specs.Asked.{IsLater}
use Rattle.interleavings.specs.declared.turns.Turn.{Turn}
use Rattle.interleavings.specs.declared.turns.Turn.TheVariants.{OutOfTurn}
use Rattle.interleavings.specs.Trails.{Trail}
use Rattle.interleavings.specs.Attempts.{GoesOn}
use Rattle.interleavings.specs.Turning.{Turning, NoneGoesOn, NoneGoesOnFrom, Stepped, Unstuck, GivesUpLine, can_go_on}
use Rattle.interleavings.proofs.Stuck.{no_answer}
use Rattle.interleavings.proofs.Trails.{trail_more, trail_none}
use Rattle.interleavings.specs.Scheduled.{Goes, RunsList, RunsEach, RunsRound, RunsSoFar, RunsSome, RunsAll, SettlesPartly, SettlesSoFar, Settles}

-- ---- going on

later_still : {S : Type 0} (g : Ghosts S) (a b c : S) → IsLater g a b → IsLater g b c → IsLater g a c
later_still g a b c h k = record { doubt = omega (arith, h.doubt, k.doubt); failures = omega (arith, h.failures, k.failures) }

pub on_still : {S : Type 0} (g : Ghosts S) (old mid new : State S) → GoesOn g old mid → GoesOn g mid new → GoesOn g old new
on_still g old mid new a b = record {
  rows = b.rows ∙ a.rows;
  opened = b.opened ∙ a.opened;
  trail =
      trail_more g old.rows old.history old.store mid.history mid.store new.history new.store a.trail
      (subst (λ r. Trail g r mid.history mid.store new.history new.store) a.rows b.trail);
  later = later_still g old.store mid.store new.store a.later b.later;
}

pub on_same : {S : Type 0} (g : Ghosts S) (old : State S) → GoesOn g old old
on_same g old = record {
  rows = refl;
  opened = refl;
  trail = trail_none g old.rows old.history old.store;
  later = record { doubt = omega arith; failures = omega arith };
}

steps_more : (rows : Rows) (ss : List Session) (list : List ℕ) (s : ℕ) (h mid h2 : History) → Steps rows ss list h mid → Step rows ss mid s h2
    → Steps rows ss (list ++ s ∷ []) h h2
steps_more rows ss [] s h mid h2 same step = (h2, subst (λ x. Step rows ss x s h2) same step, refl)
steps_more rows ss (t ∷ list) s h mid h2 (next, first, rest) step = (next, first, steps_more rows ss list s next mid h2 rest step)

idle_step : (rows : Rows) (ss : List Session) (h : History) (n : ℕ) → can_go_on rows ss h n ≡ false → Step rows ss h n h
idle_step rows ss h n stays = by (next_event ss h n) refl
  where
    by : (x : Option Event) → next_event ss h n ≡ x → Step rows ss h n h
    by None is = subst (λ x. StepsOn rows h n x h) (sym is) refl
    by (Some e) is = subst (λ x. StepsOn rows h n x h) (sym is) (subst (λ x. Answers rows h (next_line h n) e x h) (sym (no_answer ss h rows n stays e is)) refl)

module _ {S : Type 0} (g : Ghosts S) where
  pub goes_same : (t : Turning S) → Goes g t t
  goes_same t = record { sessions = refl; on = on_same g t.core }

  pub goes_still : (old mid new : Turning S) → Goes g old mid → Goes g mid new → Goes g old new
  goes_still old mid new a b = record { sessions = b.sessions ∙ a.sessions; on = on_still g old.core mid.core new.core a.on b.on }

  module _ (old mid new : Turning S) (goes : Goes g old mid) where
    -- what a relation says of the rows and sessions in the middle it says of those at first
    back : (P : Rows → List Session → Type 0) → P mid.core.rows mid.sessions → P old.core.rows old.sessions
    back P p = subst (λ r. P r old.sessions) goes.on.rows (subst (P mid.core.rows) goes.sessions p)

    after_step : (s : ℕ) (turn : Turn) → Stepped g mid new s turn → Goes g old new
    after_step s turn st = goes_still old mid new goes (record { sessions = st.sessions; on = st.on })

    step_back : (s : ℕ) (turn : Turn) → Stepped g mid new s turn → Step old.core.rows old.sessions mid.core.history s new.core.history
    step_back s turn st = back (λ r ss. Step r ss mid.core.history s new.core.history) st.step

  -- one that is out of turn
  pub stepped_none : (t : Turning S) (s : ℕ) → next_event t.sessions t.core.history s ≡ None → Stepped g t t s OutOfTurn
  stepped_none t s none = record {
    sessions = refl;
    step = subst (λ x. StepsOn t.core.rows t.core.history s x t.core.history) (sym none) refl;
    told = (none, refl);
    on = on_same g t.core;
  }

  -- where memory ran out
  pub goes_err : {T E : Type 0} (r : Result T E) (old new : Turning S) → Goes g old new → OnErr r (Goes g old new)
  goes_err (Ok x) old new goes = tt
  goes_err (Err x) old new goes = goes

  pub goes_err_still : {T E : Type 0} (r : Result T E) (old mid new : Turning S) → Goes g old mid → OnErr r (Goes g mid new) → OnErr r (Goes g old new)
  goes_err_still (Ok x) old mid new goes more = tt
  goes_err_still (Err x) old mid new goes more = goes_still old mid new goes more

  pub some_err : {T E : Type 0} (r : Result T E) (old new : Turning S) → RunsSome g old new
      → OnErr r (RunsSome g old new)
  some_err (Ok x) old new some = tt
  some_err (Err x) old new some = some

  pub settles_err : {T E : Type 0} (r : Result T E) (old mid new : Turning S)
      → SettlesSoFar g old mid → RunsSome g mid new → OnErr r (SettlesPartly g old new)
  settles_err (Ok x) old mid new so_far some = tt
  settles_err (Err x) old mid new so_far some =
      record { between = mid; so_far = so_far; some = some }

  -- what was done until then went on
  pub goes_some : (old new : Turning S) → RunsSome g old new → Goes g old new
  goes_some old new some = some.runs.goes

  pub goes_partly : (old new : Turning S) → SettlesPartly g old new → Goes g old new
  goes_partly old new partly =
      goes_still old partly.between new partly.so_far.goes partly.some.runs.goes

  pub goes_partly_err : {T E : Type 0} (r : Result T E) (old mid new : Turning S) → Goes g old mid
      → OnErr r (SettlesPartly g mid new) → OnErr r (Goes g old new)
  goes_partly_err (Ok x) old mid new goes more = tt
  goes_partly_err (Err x) old mid new goes more =
      goes_still old mid new goes (goes_partly mid new more)

  -- ---- a list

  pub list_none : (t : Turning S) → RunsList g [] t t
  list_none t = record { goes = goes_same t; steps = refl }

  pub list_more : (list : List ℕ) (s : ℕ) (turn : Turn) (old mid new : Turning S) → RunsList g list old mid → Stepped g mid new s turn → RunsList g (list ++ s ∷ []) old new
  list_more list s turn old mid new so_far st = record {
    goes = after_step old mid new so_far.goes s turn st;
    steps = steps_more old.core.rows old.sessions list s old.core.history mid.core.history new.core.history so_far.steps (step_back old mid new so_far.goes s turn st);
  }

  -- ---- a round

  pub each_none : (t : Turning S) → RunsEach g 0 t t
  each_none t = record { goes = goes_same t; each = refl }

  pub each_more : (n : ℕ) (turn : Turn) (old mid new : Turning S) → RunsEach g n old mid → Stepped g mid new n turn → RunsEach g (suc n) old new
  each_more n turn old mid new so_far st = record {
    goes = after_step old mid new so_far.goes n turn st;
    each = (mid.core.history, so_far.each, step_back old mid new so_far.goes n turn st);
  }

  -- an attempt of a session that cannot go on does nothing
  each_idle : (n : ℕ) (old mid : Turning S) → RunsEach g n old mid → can_go_on mid.core.rows mid.sessions mid.core.history n ≡ false → RunsEach g (suc n) old mid
  each_idle n old mid so_far stays = record {
    goes = so_far.goes;
    each = (
      mid.core.history,
      so_far.each,
      back old mid mid so_far.goes (λ r ss. Step r ss mid.core.history n mid.core.history) (idle_step mid.core.rows mid.sessions mid.core.history n stays),
    );
  }

  each_far : (k n : ℕ) (old mid : Turning S) → RunsEach g n old mid → NoneGoesOnFrom mid n (n + k) → RunsEach g (n + k) old mid
  each_far zero n old mid so_far none = let same : n ≡ n + 0 = omega arith in subst (λ m. RunsEach g m old mid) same so_far
  each_far (suc k) n old mid so_far none =
      let same : suc n + k ≡ n + suc k = omega arith in
      subst (λ m. RunsEach g m old mid) same
      (each_far k (suc n) old mid (each_idle n old mid so_far (none n (omega arith) (omega arith))) (λ u from less. none u (omega (arith, from)) (omega (arith, less))))

  -- so those up to another are attempted where none of them can go on
  pub each_past : (n m : ℕ) (old mid : Turning S) → RunsEach g n old mid → NoneGoesOnFrom mid n m → n ≤ m → RunsEach g m old mid
  each_past n m old mid so_far none past =
      let place : n + (m - n) ≡ m = omega (arith, past) in
      subst (λ x. RunsEach g x old mid) place
      (each_far (m - n) n old mid so_far (λ u from less. none u from (omega (arith, less, past))))

  unsticks : (old new : Turning S) (line : Option (ℕ × ℕ)) → GivesUpLine old new line → Unsticks old.core.rows old.sessions old.core.history new.core.history
  unsticks old new None told = inr (told.0, ap (λ (t : Turning S). t.core.history) told.1)
  unsticks old new (Some line) told = inl (line.0, told.1.0, told.1.1, told.1.2)

  pub round_of : (old mid new : Turning S) (line : Option (ℕ × ℕ)) → RunsEach g (length old.sessions) old mid → Unstuck g mid new line → RunsRound g old new
  round_of old mid new line each un = record {
    goes = goes_still old mid new each.goes (record { sessions = un.sessions; on = un.on });
    round = (mid.core.history, each.each, back old mid new each.goes (λ r ss. Unsticks r ss mid.core.history new.core.history) (unsticks mid new line un.told));
  }

  -- ---- rounds

  pub rounds_none : (t : Turning S) → RunsSoFar g t t
  rounds_none t = record { goes = goes_same t; count = 0; rounds = refl }

  pub rounds_more : (old mid new : Turning S) → RunsSoFar g old mid → (AllAnswered mid.sessions mid.core.history → ⊥) → RunsRound g mid new → RunsSoFar g old new
  rounds_more old mid new so_far left round = record {
    goes = goes_still old mid new so_far.goes round.goes;
    count = suc so_far.count;
    rounds = (
      mid.core.history,
      so_far.rounds,
      subst (λ ss. AllAnswered ss mid.core.history → ⊥) so_far.goes.sessions left,
      back old mid new so_far.goes (λ r ss. Round r ss mid.core.history new.core.history) round.round,
    );
  }

  pub rounds_all : (old new : Turning S) → RunsSoFar g old new → AllAnswered new.sessions new.core.history → RunsAll g old new
  rounds_all old new so_far all = record {
    goes = so_far.goes;
    count = so_far.count;
    rounds = so_far.rounds;
    all = subst (λ ss. AllAnswered ss new.core.history) so_far.goes.sessions all;
  }

  -- ---- until none can go on

  pub settles_none : (t : Turning S) → SettlesSoFar g t t
  settles_none t = record { goes = goes_same t; count = 0; steps = refl }

  pub settles_more : (old mid new : Turning S) → SettlesSoFar g old mid → RunsEach g (length mid.sessions) mid new → SettlesSoFar g old new
  settles_more old mid new so_far each = record {
    goes = goes_still old mid new so_far.goes each.goes;
    count = suc so_far.count;
    steps = (
      mid.core.history,
      so_far.steps,
      back old mid new so_far.goes (λ r ss. StepOfEach r ss (length ss) mid.core.history new.core.history) each.each,
    );
  }

  pub settles_all : (old new : Turning S) → SettlesSoFar g old new → NoneGoesOn new.core.rows new.sessions new.core.history → Settles g old new
  settles_all old new so_far none = record {
    goes = so_far.goes;
    count = so_far.count;
    steps = so_far.steps;
    settled = subst (λ r. NoneGoesOn r old.sessions new.core.history) so_far.goes.on.rows (subst (λ ss. NoneGoesOn new.core.rows ss new.core.history) so_far.goes.sessions none);
  }

-- What each holder of the lock keeps of the opening.
use Rattle.std.proofs.Common.{◌≡◌, ℕ, true, false, Option, Some, None, Result, Ok, Err, IfOk, OnErr, refl, sym, subst}
use Rattle.std.proofs.lemmas.Bool.{true≢false}
use Rattle.serial_spec.specs.declared.event.Event.{Event}
use Rattle.durable_top.specs.declared.store.TopStore.{Ghosts}
use Rattle.interleavings.specs.declared.turns.Turn.{Turn}
use Rattle.interleavings.specs.declared.turns.Turn.TheVariants.{Answered, Parked, OutOfTurn}
use Rattle.interleavings.specs.Turning.{Turning, Unstuck}
use Rattle.interleavings.specs.Scheduled.{Goes}
use Rattle.interleavings.proofs.Exports.{goes_same, goes_still}
use Rattle.shared_book.specs.Attempting.{Attempted}
use Rattle.worker_pool.specs.Openings.{HasGoneOn, IsAsOpened, IsKept}

module _ {S : Type 0} (g : Ghosts S) where
  goes_on : (opened : Option (Turning S)) (old new : Turning S) → HasGoneOn g opened old → Goes g old new → HasGoneOn g opened new
  goes_on None old new so_far more = tt
  goes_on (Some first) old new so_far more = goes_still g first old new so_far more

  same_keeps : (opened : Option (Turning S)) (old new : Turning S) → HasGoneOn g opened old → new ≡ old → HasGoneOn g opened new
  same_keeps opened old new so_far same = subst (HasGoneOn g opened) (sym same) so_far

  attempt_keeps : (opened : Option (Turning S)) (old new : Turning S) (s l : ℕ) (e : Event) (turn : Turn) → HasGoneOn g opened old → Attempted g old new s l e turn
      → HasGoneOn g opened new
  attempt_keeps opened old new s l e Answered so_far did = goes_on opened old new so_far (record { sessions = did.1.sessions; on = did.1.on })
  attempt_keeps opened old new s l e Parked so_far did = goes_on opened old new so_far (record { sessions = did.1.sessions; on = did.1.on })
  attempt_keeps opened old new s l e OutOfTurn so_far did = same_keeps opened old new so_far did.1

  pub if_attempted : {E : Type 0} (opened : Option (Turning S)) (old new : Turning S) (s l : ℕ) (e : Event) (r : Result Turn E) → HasGoneOn g opened old
      → IfOk r (λ turn. Attempted g old new s l e turn) → OnErr r (new ≡ old) → HasGoneOn g opened new
  if_attempted opened old new s l e (Ok turn) so_far did same = attempt_keeps opened old new s l e turn so_far did
  if_attempted opened old new s l e (Err fault) so_far did same = same_keeps opened old new so_far same

  pub if_unstuck : {E : Type 0} (opened : Option (Turning S)) (old new : Turning S) (r : Result (Option (ℕ × ℕ)) E) → HasGoneOn g opened old
      → IfOk r (λ line. Unstuck g old new line) → OnErr r (new ≡ old) → HasGoneOn g opened new
  if_unstuck opened old new (Ok line) so_far did same = goes_on opened old new so_far (record { sessions = did.sessions; on = did.on })
  if_unstuck opened old new (Err fault) so_far did same = same_keeps opened old new so_far same

  -- a line was tried
  pub behind_try : (opened : Option (Turning S)) (t : Turning S) → HasGoneOn g opened t → IsKept g opened t true
  behind_try opened t so_far = record { gone_on = so_far; untried = λ e. absurd (true≢false e) }

  -- the book as it was opened
  pub kept_first : (opened : Option (Turning S)) (t : Turning S) → IsAsOpened opened t → IsKept g opened t false
  kept_first None t is = record { gone_on = tt; untried = λ e. tt }
  kept_first (Some first) t is = record { gone_on = subst (λ (u : Turning S). Goes g first u) (sym is) (goes_same g first); untried = λ e. is }

pub as_opened : {S : Type 0} (t : Turning S) → IsAsOpened (Some t) t
as_opened t = refl

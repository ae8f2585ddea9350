-- What an attempt of a line comes to that is named by its session, its number and its text.
use Rattle.std.specs.Prelude.{◌≡◌, ℕ, suc, Some}
use Rattle.serial_spec.specs.declared.event.Event.{Event}
use Rattle.serial_spec.specs.Interleaving.{answered, next_event}
use Rattle.durable_top.specs.declared.store.TopStore.{Ghosts}
use Rattle.interleavings.specs.declared.turns.Turn.{Turn}
use Rattle.interleavings.specs.declared.turns.Turn.TheVariants.{Answered, Parked, OutOfTurn}
use Rattle.interleavings.specs.Turning.{Turning, Stepped}

-- session s has a line left, and the next has this number and says this
pub record IsNext {S : Type 0} (t : Turning S) (s l : ℕ) (e : Event) : Type 0 where
  pub number : l ≡ suc (answered t.core.history s)
  pub event : next_event t.sessions t.core.history s ≡ Some e

-- the next line makes one step of its session; any other is out of turn, and changes nothing
abbrev pub Attempted : {S : Type 0} → Ghosts S → Turning S → Turning S → ℕ → ℕ → Event → Turn
    → Type 0
Attempted g old new s l e Answered = IsNext old s l e × Stepped g old new s Answered
Attempted g old new s l e Parked = IsNext old s l e × Stepped g old new s Parked
Attempted g old new s l e OutOfTurn = (IsNext old s l e → ⊥) × (new ≡ old)

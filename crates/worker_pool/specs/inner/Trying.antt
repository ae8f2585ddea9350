-- What one holder of the lock does: one attempt of a line, and behind a line that is parked at most
-- one look for stuck lines.
use Rattle.std.specs.Prelude.{◌≡◌, ◌↔◌, ◌⊎◌, ℕ, IsTrue, Option, None}
use Rattle.serial_spec.specs.declared.event.Event.{Event}
use Rattle.serial_spec.specs.Interleaving.{AllAnswered}
use Rattle.durable_top.specs.declared.store.TopStore.{Ghosts}
use Rattle.interleavings.specs.declared.turns.Turn.{Turn}
use Rattle.interleavings.specs.declared.turns.Turn.TheVariants.{Answered, Parked, OutOfTurn}
use Rattle.interleavings.specs.Turning.{Turning, Unstuck, next_number}
use Rattle.shared_book.specs.Attempting.{Attempted}
use Rattle.worker_pool.specs.declared.desk.Tried.{Tried}

-- nothing happens, and no line is given up
abbrev pub LooksNot : {S : Type 0} → Turning S → Turning S → Option (ℕ × ℕ) → Type 0
LooksNot mid new given_up = (new ≡ mid) × (given_up ≡ None)

-- behind a line that is parked the stuck rule is applied once, or nothing happens; behind any
-- other, nothing
abbrev pub LooksForStuck : {S : Type 0} → Ghosts S → Turning S → Turning S → Turn → Option (ℕ × ℕ)
    → Type 0
LooksForStuck g mid new Parked given_up = Unstuck g mid new given_up ⊎ LooksNot mid new given_up
LooksForStuck g mid new Answered given_up = LooksNot mid new given_up
LooksForStuck g mid new OutOfTurn given_up = LooksNot mid new given_up

pub record Tries {S : Type 0} (g : Ghosts S) (old new : Turning S) (s l : ℕ) (e : Event)
    (tried : Tried) : Type 0 where
  pub between : Turning S
  pub attempt : Attempted g old between s l e tried.turn
  pub stuck : LooksForStuck g between new tried.turn tried.given_up
  -- and what is left then
  pub next : tried.next ≡ next_number new.sessions new.core.history s
  pub finished : IsTrue tried.finished ↔ AllAnswered new.sessions new.core.history

-- What a run keeps beside its sessions.
use Rattle.std.specs.Prelude.{ℕ, List}
use Rattle.serial_spec.specs.Interleaving.{Session}
use Rattle.manager_core.specs.State.{State}
use Rattle.interleavings.specs.declared.ready.Ready.{Ready}
use Rattle.interleavings.specs.LeftOut.{AreLeftOut}
use Rattle.interleavings.specs.Turning.{Turning, AreTurns}

-- the manager, the number of each session's next line, and which sessions are left out
pub record Going (S : Type 0) : Type 0 where
  pub core : State S
  pub next : List ℕ
  pub ready : Ready

-- these sessions run over it
abbrev pub turning : {S : Type 0} → List Session → Going S → Turning S
turning ss p = record { sessions = ss; core = p.core }

-- and they are under way so
abbrev pub AreUnderWay : {S : Type 0} → List Session → Going S → Type 0
AreUnderWay ss p = AreTurns (turning ss p) p.next
    × AreLeftOut p.core.rows ss p.core.history p.ready

-- What a command has to do with: the surroundings and the two writers.
use Rattle.txn_bytes.specs.Written.{Writer}
use Rattle.durable_top.specs.declared.store.TopStore.{Ghosts}
use Rattle.txn_bytes.specs.Sources.{Reader}
use Rattle.tx_machine.specs.declared.store.EitherStore.{EitherStore}
use Rattle.tx_machine.specs.declared.host.Surroundings as surroundings

-- what is said of the surroundings, of a file and of a store in memory that they give, of any
-- store, of the output and of the error writer
pub record World (H T P N W E : Type 0) : Type 1 where
  pub host : surroundings.Ghosts H T P N
  pub file : Reader T
  pub memory : Ghosts N
  pub store : Ghosts (EitherStore N P)
  pub out : Writer W
  pub err : Writer E

-- the states of the surroundings and of the two writers
pub record State (H W E : Type 0) : Type 0 where
  pub host : H
  pub out : W
  pub err : E

-- a state of its parts
abbrev pub state : {H W E : Type 0} → H → W → E → State H W E
state host out err = record { host = host; out = out; err = err }

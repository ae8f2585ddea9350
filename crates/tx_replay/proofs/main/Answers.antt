use denote.Param.Send.{sendable}
use Rattle.sql_store.proofs.Exports.{database_send}
use Rattle.sql_store.proofs.memory.MemoryStore.TheSendSync as memory
use Rattle.tx_replay.proofs.main.Goals as goal

pub replay-requires-send-H-Store : goal.replay-requires-send-H-Store
replay-requires-send-H-Store c κs = search (sendable, database_send)

pub replay-requires-send-H-Memory : goal.replay-requires-send-H-Memory
replay-requires-send-H-Memory c κs = search (sendable, memory.the_send)

use denote.Param.Send.{sendable}
use Rattle.sql_store.proofs.Exports.{database_send}
use Rattle.sql_store.proofs.memory.MemoryStore.TheSendSync as memory
use Rattle.tx_server.proofs.main.Goals as goal

pub serve-requires-send-H-Store : goal.serve-requires-send-H-Store
serve-requires-send-H-Store c κs = search (sendable, database_send)

pub serve-requires-send-H-Memory : goal.serve-requires-send-H-Memory
serve-requires-send-H-Memory c κs = search (sendable, memory.the_send)

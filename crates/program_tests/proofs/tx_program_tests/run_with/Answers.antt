use denote.Param.Send.{sendable}
use Rattle.sql_store.proofs.Exports.{database_send}
use Rattle.sql_store.proofs.memory.MemoryStore.TheSendSync as memory
use Rattle.program_tests.proofs.tx_program_tests.run_with.Goals as goal

pub tx_main-status-requires-send-H-Store : goal.tx_main-status-requires-send-H-Store
tx_main-status-requires-send-H-Store c κs = search (sendable, database_send)

pub tx_main-status-requires-send-H-Memory : goal.tx_main-status-requires-send-H-Memory
tx_main-status-requires-send-H-Memory c κs = search (sendable, memory.the_send)

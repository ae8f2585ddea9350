-- A store over a database file may go to another thread: each of its parts may, from the heap down to the file of the machine.
use denote.RattleType.{RattleType}
use denote.Param.Send.{IsSend, owning_send, sendable}
use denote.Param.SendFields.{declared_send}
use Rattle.std.proofs.Crossing.{Box-send}
use Rattle.std.proofs.fs.File.TheSendSync as opened
use Rattle.sqlite.specs.contracts.FileStore as file_store
use Rattle.sqlite.specs.contracts.Unknown as unknown
use Rattle.sqlite.below.sqlite_std_file.specs.contracts.host.Host as host
use Rattle.sqlite.below.sqlite_std_file.specs.contracts.host.HostCalls.TheImpl as host_calls
use Rattle.sqlite.below.sqlite_std_file.specs.contracts.record.Record as noted
use Rattle.sqlite_disk.specs.contracts.modelled.Modelled as modelled
use Rattle.sqlite_disk.specs.contracts.modelled.ModelledDisk.TheImpl as disk
use Rattle.sqlite_disk.specs.contracts.start.UnknownStart.TheImpl as start
use Rattle.sqlite_disk.proofs.modelled.Modelled.TheSendSync as modelled_crosses
use Rattle.sqlite_store.specs.contracts.store.FileStoreStore.TheImpl as pages
use Rattle.sqlite_store.proofs.store.FileStore.TheSendSync as file_store_crosses
use Rattle.sql_store.specs.contracts.file.DatabaseStore as database
use Rattle.sql_store.specs.contracts.file.OnFile as on_file
use Rattle.sql_store.proofs.store.SqlStore.TheSendSync as store_crosses

-- the machine's file, with the record of what was written to it
host_send : IsSend host.the_row
host_send = declared_send host.the_type (search (sendable, opened.the_send), (owning_send noted.the_type (search sendable, tt) (λ d. tt) (λ k x w. tt), tt))

abbrev file : RattleType
file = modelled.the_row host.the_row unknown.the_row host_calls.ghosts start.ghosts

file_send : IsSend file
file_send = modelled_crosses.the_send host.the_row unknown.the_row host_calls.ghosts start.ghosts host_send

on_file_send : IsSend on_file.the_row
on_file_send =
    let g = disk.ghosts host.the_row unknown.the_row host_calls.ghosts disk.no_dict start.ghosts disk.no_dict disk.no_dict in
    let p : IsSend (file_store.the_row file g) = file_store_crosses.the_send file g file_send in
    declared_send on_file.the_type (store_crosses.the_send _ (pages.ghosts file g pages.no_dict) p, tt)

pub database_send : IsSend database.the_row
database_send = declared_send database.the_type (Box-send on_file.the_row on_file_send, tt)

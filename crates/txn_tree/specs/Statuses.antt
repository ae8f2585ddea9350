-- A state of the tree as the definitions call it, which read it off a history.
use Rattle.serial_spec.specs.History.{Status, Absent, Live, Committed, Aborted}
use Rattle.txn_tree.specs.declared.status.Status.{Status as State}
use Rattle.txn_tree.specs.declared.status.Status.TheVariants as state

abbrev pub status_of : State → Status
status_of state.Absent = Absent
status_of state.Live = Live
status_of state.Committed = Committed
status_of state.Aborted = Aborted

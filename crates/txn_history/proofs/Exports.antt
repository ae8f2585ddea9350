-- What proofs of other crates may cite. Each other module of this folder is private.
-- A test that is both true and false proves anything.
pub use Rattle.txn_history.proofs.Tests.{clash}
-- What a filter keeps passes a test only where the whole list has an item that does.
pub use Rattle.txn_history.proofs.Lists.{any-filter}
-- An item that is found is in the list.
pub use Rattle.txn_history.proofs.Lists.{any-find}
-- An item that passes is the first or one behind it.
pub use Rattle.txn_history.proofs.Lists.{any_cases}
-- What is found passes the test.
pub use Rattle.txn_history.proofs.Lists.{found_passes}
-- Where no item passes a test, none that a filter keeps does.
pub use Rattle.txn_history.proofs.Lists.{none-filter}
-- The topmost aborted ancestor of a name is that of its parent, where there is one.
pub use Rattle.txn_history.proofs.Tops.{top_by_parent}
-- Two histories have the same transactions active.
pub use Rattle.txn_history.proofs.Activity.{ActsAs}
-- What it means that a transaction is active in a history.
pub use Rattle.txn_history.proofs.Activity.{acting}
-- A transaction that is active by the statuses is active by the entries.
pub use Rattle.txn_history.proofs.Activity.{active_acts}
-- A transaction that is active by the entries is active by the statuses.
pub use Rattle.txn_history.proofs.Activity.{acts_active}
-- A transaction that is absent has not begun.
pub use Rattle.txn_history.proofs.StatusTests.{absent_not_begun}
-- A status is read off three tests: begun, committed, aborted.
pub use Rattle.txn_history.proofs.StatusTests.{status_by}
-- A transaction whose status is committed has committed.
pub use Rattle.txn_history.proofs.StatusTests.{status_committed}
-- What the effect of an entry tells of the history before it.
pub use Rattle.txn_history.proofs.Causes.{Sound}
-- An entry of a victim or of the close is an abort.
pub use Rattle.txn_history.proofs.Causes.{abort_of}
-- The causes of refusal that access, commit and abort share.
pub use Rattle.txn_history.proofs.Causes.{acts_at_end}
-- A reply is no refusal.
pub use Rattle.txn_history.proofs.Causes.{done_not_refused}
-- Where neither of two causes holds, no cause of the two is found.
pub use Rattle.txn_history.proofs.Causes.{neither}
-- An answer that is no refusal comes where there is no cause.
pub use Rattle.txn_history.proofs.Causes.{not_refused}
-- A cause that is not given does not hold.
pub use Rattle.txn_history.proofs.Causes.{not_when}
-- Each entry that is allowed is sound.
pub use Rattle.txn_history.proofs.Causes.{sound}
-- That a cause is not the refusal of the store.
pub use Rattle.txn_history.proofs.Refusing.{IsOther}
-- Whether a cause is the refusal of the store.
pub use Rattle.txn_history.proofs.Refusing.{is_store}
-- No cause at an access is the refusal of the store.
pub use Rattle.txn_history.proofs.Refusing.{other_at_access}
-- No cause at a begin is the refusal of the store.
pub use Rattle.txn_history.proofs.Refusing.{other_at_begin}
-- No cause at a commit is the refusal of the store.
pub use Rattle.txn_history.proofs.Refusing.{other_at_commit}
-- No cause that access, commit and abort share is the refusal of the store.
pub use Rattle.txn_history.proofs.Refusing.{other_at_end}
-- Where no cause refuses a commit, no child is live.
pub use Rattle.txn_history.proofs.Refusing.{childless_at_commit}
-- Where no cause refuses a commit, no access of the transaction waits by another line.
pub use Rattle.txn_history.proofs.Refusing.{alone_at_commit}
-- Where some begun transaction passes a test, the list of those that began has one that passes.
pub use Rattle.txn_history.proofs.Begun.{any_begun}
-- Where no name of the list passes a test, no begun transaction passes it.
pub use Rattle.txn_history.proofs.Begun.{none_begun}
-- A name of the list that passes a test has begun and passes.
pub use Rattle.txn_history.proofs.Begun.{some_begun}
-- The ancestors of an active transaction are active.
pub use Rattle.txn_history.proofs.Live.{ancestors_act}
-- The table of a legal history is that of the serial run of the root.
pub use Rattle.txn_history.proofs.Live.{table_correctness}
-- An active transaction sees the value that its serial run leaves.
pub use Rattle.txn_history.proofs.Live.{value_seen}
-- The stored value of a key is what the root sees.
pub use Rattle.txn_history.proofs.Live.{value_stored}
-- When no top-level transaction is live, the run of the root serves all that are no orphans.
pub use Rattle.txn_history.proofs.Homes.{finished_correctness}
-- A transaction without an aborted ancestor has the replies of a serial run.
pub use Rattle.txn_history.proofs.Homes.{serial_correctness}
-- A `waits` entry is of an access of its transaction.
pub use Rattle.txn_history.proofs.Waiting.{waits_as}
-- Every legal history keeps what holds of open waits.
pub use Rattle.txn_history.proofs.Waiting.{waits_kept}
-- An answered access keeps a history quiet where its new lock blocks nobody who waits.
pub use Rattle.txn_history.proofs.Pairs.{access_adds_at_key}
-- Where each cycle goes through one transaction, each still does after an entry that adds no edge.
pub use Rattle.txn_history.proofs.Pairs.{own_stays}
-- An entry that adds no edge keeps a history without cycles.
pub use Rattle.txn_history.proofs.Pairs.{quiet_stays}
-- A new wait makes cycles through its own transaction alone.
pub use Rattle.txn_history.proofs.Pairs.{wait_makes_own}
-- An abort is of a transaction that has begun.
pub use Rattle.txn_history.proofs.Ends.{AbortOf}
-- What each allowed entry needs holds of the history before it.
pub use Rattle.txn_history.proofs.Ends.{before_each}
-- A transaction that committed or aborted has begun.
pub use Rattle.txn_history.proofs.Ends.{ended_begun}
-- A transaction that has not begun has left nothing and holds nothing.
pub use Rattle.txn_history.proofs.Ends.{nothing_before}
-- Who is active after an entry, by who was before it.
pub use Rattle.txn_history.proofs.Statuses.{active_after}
-- The status of a transaction after an entry, by its status before.
pub use Rattle.txn_history.proofs.Statuses.{status_after}
-- What an allowed entry tells of the statuses before it.
pub use Rattle.txn_history.proofs.Statuses.{told}
-- The open wait of a transaction after an entry, by the one before.
pub use Rattle.txn_history.proofs.Statuses.{wait_after}
-- The footprint of a transaction is the greater of its held and its retained mode.
pub use Rattle.txn_history.proofs.Tables.{foot_is_greater}
-- What a transaction left at a key after an entry, by what it left before.
pub use Rattle.txn_history.proofs.Tables.{left_after}
-- The locks that are held and retained after an entry, by those before.
pub use Rattle.txn_history.proofs.Tables.{locks_after}
-- Whether a footprint has a key in write mode is decided by its keys.
pub use Rattle.txn_history.proofs.Tables.{writes_somewhere}
-- After a commit the parent sees what the child saw.
pub use Rattle.txn_history.proofs.Parents.{seen_after_commit}
-- What a child sees is what its parent sees on top of what the child left.
pub use Rattle.txn_history.proofs.Parents.{seen_by_parent}
-- The changes of a top-level commit are what the transaction saw at the keys that it wrote.
pub use Rattle.txn_history.proofs.Table.{changes_made}
-- The table after an entry, by the table before.
pub use Rattle.txn_history.proofs.Table.{table_after}
-- A wait closes no cycle while nobody else waits.
pub use Rattle.txn_history.proofs.Lone.{lone_quiet}
-- Each entry of a legal history is allowed.
pub use Rattle.txn_history.proofs.Quietness.{legal_allowed}
-- An allowed entry keeps a legal history without cycles legal.
pub use Rattle.txn_history.proofs.Quietness.{legal_next}
-- A new wait is its transaction's, and its line is due no answer until something else happens.
pub use Rattle.txn_history.proofs.Parked.{wait_holds}
-- A sorted table that a history makes has no more rows than the limit of keys.
pub use Rattle.txn_history.proofs.KnownKeys.{table_few}
-- A line is the same line as itself.
pub use Rattle.txn_history.proofs.OwnLines.{line_self}
-- A line of another session is another line.
pub use Rattle.txn_history.proofs.OwnLines.{other_session}
-- The next line of a session may be answered as stuck where it is held up.
pub use Rattle.txn_history.proofs.NextLines.{next_can_give_up}
-- The next line of a session is free for its event, or its access waits by this line.
pub use Rattle.txn_history.proofs.NextLines.{next_is_free}
-- A line by which an access waits is the next of its session, and asks this access.
pub use Rattle.txn_history.proofs.NextWaits.{wait_is_next}
-- A line that is held up stays so by an entry that ends nothing.
pub use Rattle.txn_history.proofs.HeldUp.{held_up_lasts}
-- The close finishes a run that is under way.
pub use Rattle.txn_history.proofs.Following.{close_finishes}
-- A run that is under way stays so by a step.
pub use Rattle.txn_history.proofs.Following.{step_keeps}
-- A run that is under way stays so where a line is given up.
pub use Rattle.txn_history.proofs.Following.{stuck_keeps}
-- A round that begins while a line is left lowers the number of lines and waits to come.
pub use Rattle.txn_history.proofs.Rounds.{round_adds}
-- Steps of all sessions change nothing, since no line may be answered, or add an entry of a line.
pub use Rattle.txn_history.proofs.Rounds.{steps_move}
-- Some item of a list passes a test where some item of the reversed list does.
pub use Rattle.txn_history.proofs.Reversed.{any_reversed}
-- The newest entry stands first in the list that is read from the end.
pub use Rattle.txn_history.proofs.Reversed.{newest}
-- A footprint keeps an access out exactly where it has some target that meets the access's target.
pub use Rattle.txn_history.proofs.Reaching.{reach_is_some}

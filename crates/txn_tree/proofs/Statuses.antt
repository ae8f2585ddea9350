-- The tests of a state are those of the status that it stands for.
use Rattle.std.proofs.Common.{◌≡◌, Bool, true, false, not, cond, refl}
use Rattle.std.proofs.lemmas.Bool.{false≢true}
use Rattle.serial_spec.specs.History.{Status, Absent, Live, Committed, Aborted, is_absent, is_committed, is_live_status}
use Rattle.txn_tree.specs.States.{is_absent as is_absent_state, is_live as is_live_state, is_committed as is_committed_state, is_aborted as is_aborted_state}
use Rattle.txn_tree.specs.Statuses.{status_of}
use Rattle.txn_tree.specs.declared.status.Status.{Status as State}
use Rattle.txn_tree.specs.declared.status.Status.TheVariants as state

pub absent_as : (s : State) → is_absent_state s ≡ is_absent (status_of s)
absent_as state.Absent = refl
absent_as state.Live = refl
absent_as state.Committed = refl
absent_as state.Aborted = refl

pub live_as : (s : State) → is_live_state s ≡ is_live_status (status_of s)
live_as state.Absent = refl
live_as state.Live = refl
live_as state.Committed = refl
live_as state.Aborted = refl

pub committed_as : (s : State) → is_committed_state s ≡ is_committed (status_of s)
committed_as state.Absent = refl
committed_as state.Live = refl
committed_as state.Committed = refl
committed_as state.Aborted = refl

abbrev pub is_aborted_status : Status → Bool
is_aborted_status Aborted = true
is_aborted_status s = false

pub aborted_as : (s : State) → is_aborted_state s ≡ is_aborted_status (status_of s)
aborted_as state.Absent = refl
aborted_as state.Live = refl
aborted_as state.Committed = refl
aborted_as state.Aborted = refl

-- ---- the status of a name by what its history tells: whether it has begun, aborted, committed

pub aborted_by : (b a c : Bool) → (a ≡ true → b ≡ true) → is_aborted_status (cond b (cond a Aborted (cond c Committed Live)) Absent) ≡ a
aborted_by true true c f = refl
aborted_by true false true f = refl
aborted_by true false false f = refl
aborted_by false true c f = absurd (false≢true (f refl))
aborted_by false false c f = refl

pub absent_by : (b a c : Bool) → is_absent (cond b (cond a Aborted (cond c Committed Live)) Absent) ≡ not b
absent_by true true c = refl
absent_by true false true = refl
absent_by true false false = refl
absent_by false a c = refl

-- a state that is set
pub status_set : (b : Bool) (s old : State) → status_of (cond b s old) ≡ cond b (status_of s) (status_of old)
status_set true s old = refl
status_set false s old = refl

-- The tables as contracts see them, what is asked of them, and what each step does to them.
use Rattle.std.specs.Prelude.{◌≡◌, ◌<◌, ℕ, Bool, true, false, ◌&&◌, ◌||◌, if◌then◌else◌, List, [], ◌∷◌, ◌++◌, length, slice_get, Option, Some, None}
use Rattle.std.specs.Prelude.{IsTrue, is_some}
use Rattle.txn_names.specs.Path.{path_eq, is_front, parent, top_of}
use Rattle.txn_tree.specs.States.{States, names, status_in}
use Rattle.txn_tree.specs.Asked.{IsNumberOf, is_absent_in, is_live_in, has_committed_in, is_name}
use Rattle.txn_tree.specs.declared.status.Status.TheVariants.{Live, Committed, Aborted}
use Rattle.orphans.specs.Marked.{Marked, is_marked}
use Rattle.lock_table.specs.ByAsked.{MayAsk}
use Rattle.lock_table.specs.Inherited.{free, with_held}
use Rattle.inherit.specs.LocksAndVersions.{LocksAndVersions, IsSame, modes_of, left_of, rows_of}
use Rattle.inherit.specs.Steps.{HasGoneUp}
use Rattle.wait_cycles.specs.declared.waits.Wait.{Wait}
use Rattle.wait_cycles.specs.Waiting.{Waiting, wait_of as kept_wait}
use Rattle.serial_spec.specs.declared.entry.By.{By}
use Rattle.serial_spec.specs.declared.target.Asked.{Asked}
use Rattle.serial_spec.specs.declared.target.Asked.TheVariants.{At, Over}
use Rattle.serial_spec.specs.declared.target.Target.{Target}
use Rattle.serial_spec.specs.Targets.{kind_of, target, target_eq}
use Rattle.serial_spec.specs.declared.event.Event.{Event}
use Rattle.serial_spec.specs.declared.event.Event.TheVariants.{Access, Sum}
use Rattle.serial_spec.specs.declared.entry.Answer.{Answer}
use Rattle.serial_spec.specs.declared.entry.Answer.TheVariants as answer
use Rattle.serial_spec.specs.declared.entry.Entry.{Entry}
use Rattle.serial_spec.specs.declared.operation.Reply.{Reply}
use Rattle.serial_spec.specs.History.{Name, History, event_of, or_else}
use Rattle.serial_spec.specs.Locks.{mode_of, is_blocked}
use Rattle.txn_cells.specs.Cells.{is_it}
use Rattle.serial_spec.specs.Serial.{reply_at}
use Rattle.serial_spec.specs.Values.{leaves_at, seen}
use Rattle.serial_spec.specs.Rows.{Rows, value_in}
use Rattle.serial_spec.specs.Allowed.{cause_at_access}
use Rattle.serial_spec.specs.Causes.{why_ended}
use Rattle.manager_core.specs.declared.accessing.Attempt.{Attempt}
use Rattle.manager_core.specs.declared.accessing.Request.{Request}
use Rattle.manager_core.specs.declared.accessing.Attempt.TheVariants.{Answered, Waits, Refused}
use Rattle.serial_spec.specs.Legal.{is_top_level}
use Rattle.manager_core.specs.State.{entry}
use Rattle.serial_spec.specs.declared.entry.Refusal.{Refusal}

-- who has begun with the state of each, who has aborted, what live transactions lock and have left,
-- over the table, and who waits
pub record Tabled : Type 0 where
  pub tree : States
  pub marks : Marked
  pub estate : LocksAndVersions
  pub waits : Waiting

-- the rows of the table
abbrev pub rows_in : Tabled → Rows
rows_in tables = rows_of tables.estate

-- ---- what is asked

-- the first of the causes that access, commit and abort share
abbrev pub cause_in : Tabled → Name → Option Refusal
cause_in tables t =
    why_ended (is_absent_in tables.tree t) (top_of (is_marked tables.marks) t)
    (has_committed_in tables.tree t)

abbrev pub is_live_top_in : States → Name → Bool
is_live_top_in tree t = is_top_level t && is_live_in tree t

-- whether there is a name, and it is t or below it
abbrev pub is_below : Option Name → Name → Bool
is_below None t = false
is_below (Some u) t = is_front t u

-- p is the number of t's parent, and there is none where that is the root
abbrev pub IsParentNumber : States → Name → Option ℕ → Type 0
IsParentNumber tree t p = (m : ℕ) → is_it p m ≡ is_name (slice_get (names tree) m) (parent t)

-- the wait that is kept for the number n
abbrev pub wait_at : Tabled → ℕ → Option Wait
wait_at tables n = kept_wait tables.waits n

-- where t waited, or one below it, fewer wait
abbrev pub FewerWaitBelow : Tabled → Tabled → Name → Type 0
FewerWaitBelow old new t = (n : ℕ) → IsTrue (is_below (slice_get (names old.tree) n) t)
    → IsTrue (is_some (wait_at old n)) → length new.waits.waits < length old.waits.waits

-- the entry of a line that asks this, with its answer
abbrev pub entry_of : Request → Answer → Entry
entry_of request said = entry request.by (event_of request.name.now request.asked.now) said

-- somebody keeps t from what it asks
abbrev pub IsKeptOutOf : Tabled → Name → Asked → Type 0
IsKeptOutOf tables t a = (n : ℕ) → IsNumberOf tables.tree t n
    → MayAsk tables.tree tables.estate.locks n a → ⊥

-- the wait that an entry begins, as it is kept for the number n
abbrev pub wait_by : ℕ → By → Event → Option Wait
wait_by n by (Access t k o) = Some (record { txn = n; asked = At k o; by = by })
wait_by n by (Sum t g) = Some (record { txn = n; asked = Over g; by = by })
wait_by n by e = None

abbrev pub wait_for : ℕ → Option Entry → Option Wait
wait_for n None = None
wait_for n (Some e) = wait_by n e.by e.event

-- ---- what each step does

-- beside the waits they are the same, with other room
pub record IsBeside (old new : Tabled) : Type 0 where
  pub tree : new.tree ≡ old.tree
  pub marks : new.marks.names ≡ old.marks.names
  pub estate : IsSame old.estate new.estate

-- with other room they are the same
pub record HasOtherRoom (old new : Tabled) : Type 0 where
  pub tree : new.tree ≡ old.tree
  pub marks : new.marks.names ≡ old.marks.names
  pub estate : IsSame old.estate new.estate
  pub waits : (n : ℕ) → wait_at new n ≡ wait_at old n

-- the step was made, unless it was refused
abbrev pub MadeUnless : Option Refusal → Tabled → Tabled → Type 0 → Type 0
MadeUnless None old new Step = Step
MadeUnless (Some refusal) old new Step = new ≡ old

-- t has begun
pub record BeginsIn (old new : Tabled) (t : Name) : Type 0 where
  pub begun : names new.tree ≡ names old.tree ++ t ∷ []
  pub status : (u : Name)
      → status_in new.tree u ≡ (if path_eq t u then Live else status_in old.tree u)
  pub marks : new.marks ≡ old.marks
  pub estate : new.estate ≡ old.estate
  pub waits : new.waits ≡ old.waits

-- t has aborted and is marked, what it and all below it had is gone, and they wait no more
pub record AbortsIn (old new : Tabled) (t : Name) : Type 0 where
  pub same_names : names new.tree ≡ names old.tree
  pub status : (u : Name)
      → status_in new.tree u ≡ (if path_eq t u then Aborted else status_in old.tree u)
  pub marks : (u : Name) → is_marked new.marks u ≡ (path_eq t u || is_marked old.marks u)
  pub modes : (n : ℕ) (s : Target)
      → modes_of new.estate n s ≡ (if is_below (slice_get (names old.tree) n) t then free
      else modes_of old.estate n s)
  pub left : (n : ℕ) (k : List ℕ)
      → left_of new.estate n k ≡ (if is_below (slice_get (names old.tree) n) t then None
      else left_of old.estate n k)
  pub rows : rows_in new ≡ rows_in old
  pub waits : (n : ℕ)
      → wait_at new n ≡ (if is_below (slice_get (names old.tree) n) t then None else wait_at old n)

-- t has committed, and what it had has gone up from its number to its parent's, or into the table
-- where there is none
pub record CommitsIn (old new : Tabled) (t : Name) (child : ℕ) (above : Option ℕ) : Type 0 where
  pub same_names : names new.tree ≡ names old.tree
  pub status : (u : Name)
      → status_in new.tree u ≡ (if path_eq t u then Committed else status_in old.tree u)
  pub marks : new.marks ≡ old.marks
  pub up : HasGoneUp old.estate new.estate child above
  pub waits : new.waits ≡ old.waits

-- t has locked what its access is of, and left what it leaves
pub record AccessesIn (old new : Tabled) (t : Name) (a : Asked) (reply : Reply) : Type 0 where
  pub tree : new.tree ≡ old.tree
  pub marks : new.marks ≡ old.marks
  pub modes : (n : ℕ) (s : Target) → modes_of new.estate n s
      ≡ (if is_name (slice_get (names old.tree) n) t && target_eq (target a) s
      then with_held (modes_of old.estate n s) (mode_of (kind_of a))
      else modes_of old.estate n s)
  pub left : (n : ℕ) (q : List ℕ) → left_of new.estate n q
      ≡ (if is_name (slice_get (names old.tree) n) t
      then or_else (leaves_at a reply q) (left_of old.estate n q) else left_of old.estate n q)
  pub rows : rows_in new ≡ rows_in old

-- the access was made, if it was answered
abbrev pub ReachesIn : Tabled → Tabled → Name → Asked → Attempt → Type 0
ReachesIn old new t a (Answered reply) = AccessesIn old new t a reply
ReachesIn old new t a attempt = IsBeside old new

-- all wait as before
abbrev pub KeepsWaits : Tabled → Tabled → Type 0
KeepsWaits old new = (n : ℕ) → wait_at new n ≡ wait_at old n

-- t waits as this entry says, or not at all, and all others wait as before
abbrev pub SetsWait : Tabled → Tabled → Name → Option Entry → Type 0
SetsWait old new t w = (n : ℕ)
    → wait_at new n ≡ (if is_name (slice_get (names old.tree) n) t then wait_for n w
    else wait_at old n)

-- an access that has to wait does so from then on
abbrev pub WaitsFrom : Tabled → Tabled → By → Name → Asked → Attempt → Type 0
WaitsFrom old new by t a Waits = SetsWait old new t (Some (entry by (event_of t a) answer.Waits))
WaitsFrom old new by t a attempt = KeepsWaits old new

-- one that waited does so until it is answered
abbrev pub WaitsUntil : Tabled → Tabled → Name → Attempt → Type 0
WaitsUntil old new t (Answered reply) = SetsWait old new t None
WaitsUntil old new t attempt = KeepsWaits old new

-- what an access comes to: that some cause refuses it, a wait, or its reply
abbrev pub ComesTo : Rows → History → By → Name → Asked → Attempt → Type 0
ComesTo rows h by t a (Answered reply) =
    (None ≡ cause_at_access rows h by t a) × (is_blocked h t a ≡ false)
    × (reply ≡ reply_at (seen (value_in rows) h t) a)
ComesTo rows h by t a Waits = (None ≡ cause_at_access rows h by t a) × (is_blocked h t a ≡ true)
ComesTo rows h by t a Refused = IsTrue (is_some (cause_at_access rows h by t a))

-- The event by which something is asked of a transaction: what the definitions say of it, whatever is asked.
use Rattle.std.proofs.Common.{◌≡◌, ℕ, true, false, Option, Some, unwrap_or, refl, sym, ap, ◌∙◌}
use Rattle.txn_names.specs.Path.{path_eq}
use Rattle.txn_names.proofs.Exports.{path_eq_self}
use Rattle.serial_spec.specs.declared.target.Asked.{Asked}
use Rattle.serial_spec.specs.declared.target.Asked.TheVariants.{At, Over}
use Rattle.serial_spec.specs.declared.operation.Reply.{Reply}
use Rattle.serial_spec.specs.declared.entry.By.{By}
use Rattle.serial_spec.specs.declared.entry.By.TheVariants.{Close}
use Rattle.serial_spec.specs.declared.entry.Refusal.{Refusal}
use Rattle.serial_spec.specs.declared.entry.Answer.TheVariants.{Done, Waits, Stuck, Refused}
use Rattle.serial_spec.specs.declared.entry.Entry.{Entry}
use Rattle.serial_spec.specs.History.{Name, History, Accesses, Nothing, effect_of, event_of}
use Rattle.serial_spec.specs.Rows.{Rows}
use Rattle.serial_spec.specs.Waits.{accesses, blocks_event, same_line, wait_of}
use Rattle.serial_spec.specs.Locks.{is_blocker}
use Rattle.serial_spec.specs.Allowed.{answer, answer_to_access}
use Rattle.event_lists.specs.declared.view.Act.{Act}
use Rattle.event_lists.specs.declared.view.Act.TheVariants as act
use Rattle.event_lists.specs.Views.{event_by}
use Rattle.txn_history.specs.Laws.{may_add_pair}
use Rattle.manager_core.specs.Lines.{CanGiveUp, IsWaitOf, access_by, accessor}
use Rattle.manager_core.specs.Tables.{wait_by}

pub answer_at : (rows : Rows) (h : History) (by : By) (t : Name) (a : Asked) → answer rows h by (event_of t a) ≡ answer_to_access rows h by t a
answer_at rows h by t (At k o) = refl
answer_at rows h by t (Over g) = refl

pub accesses_at : (u t : Name) (a : Asked) → accesses u (event_of t a) ≡ path_eq t u
accesses_at u t (At k o) = refl
accesses_at u t (Over g) = refl

pub accesses_own : (t : Name) (a : Asked) → accesses t (event_of t a) ≡ true
accesses_own t (At k o) = path_eq_self t
accesses_own t (Over g) = path_eq_self t

pub blocks_at : (h : History) (t : Name) (a : Asked) (u : Name) → blocks_event h (event_of t a) u ≡ is_blocker h t a u
blocks_at h t (At k o) u = refl
blocks_at h t (Over g) u = refl

pub accessor_at : (t : Name) (a : Asked) → accessor (event_of t a) ≡ Some t
accessor_at t (At k o) = refl
accessor_at t (Over g) = refl

pub done_at : (t : Name) (a : Asked) (r : Reply) → effect_of (event_of t a) (Done r) ≡ Accesses t a r
done_at t (At k o) r = refl
done_at t (Over g) r = refl

pub waits_at : (t : Name) (a : Asked) → effect_of (event_of t a) Waits ≡ Nothing
waits_at t (At k o) = refl
waits_at t (Over g) = refl

pub refused_at : (t : Name) (a : Asked) (r : Refusal) → effect_of (event_of t a) (Refused r) ≡ Nothing
refused_at t (At k o) r = refl
refused_at t (Over g) r = refl

pub stuck_at : (t : Name) (a : Asked) → effect_of (event_of t a) Stuck ≡ Nothing
stuck_at t (At k o) = refl
stuck_at t (Over g) = refl

pub refused_adds_none : (t : Name) (a : Asked) (r : Refusal) → may_add_pair (event_of t a) (Refused r) ≡ false
refused_adds_none t (At k o) r = refl
refused_adds_none t (Over g) r = refl

pub access_by_at : (by : By) (t : Name) (a : Asked) → access_by by (event_of t a) ≡ Some (by, a)
access_by_at by t (At k o) = refl
access_by_at by t (Over g) = refl

pub wait_by_at : (n : ℕ) (by : By) (t : Name) (a : Asked) → wait_by n by (event_of t a) ≡ Some (record { txn = n; asked = a; by = by })
wait_by_at n by t (At k o) = refl
wait_by_at n by t (Over g) = refl

-- the wait that is of the line
pub record IsOwnWait (h : History) (by : By) (t : Name) (a : Asked) : Type 0 where
  pub wait : Entry
  pub waits : wait_of h t ≡ Some wait
  pub of_line : same_line wait.by by ≡ true
  pub event_is : wait.event ≡ event_of t a

pub own_wait : (h : History) (by : By) (t : Name) (a : Asked) → IsWaitOf h by (event_of t a) → IsOwnWait h by t a
own_wait h by t (At k o) (w, waits, own, is) = record { wait = w; waits = waits; of_line = own; event_is = is }
own_wait h by t (Over g) (w, waits, own, is) = record { wait = w; waits = waits; of_line = own; event_is = is }

pub is_wait : (h : History) (by : By) (t : Name) (a : Asked) → IsOwnWait h by t a → IsWaitOf h by (event_of t a)
is_wait h by t (At k o) w = (w.wait, w.waits, w.of_line, w.event_is)
is_wait h by t (Over g) w = (w.wait, w.waits, w.of_line, w.event_is)

pub may_give_up : (h : History) (by : By) (t : Name) (a : Asked) → IsWaitOf h by (event_of t a) → CanGiveUp h by (event_of t a)
may_give_up h by t (At k o) waits = waits
may_give_up h by t (Over g) waits = waits

pub waits_own : (h : History) (by : By) (t : Name) (a : Asked) → CanGiveUp h by (event_of t a) → IsWaitOf h by (event_of t a)
waits_own h by t (At k o) can = can
waits_own h by t (Over g) can = can

-- one event asks one thing
pub same_asked : (t u : Name) (a b : Asked) → event_of t a ≡ event_of u b → a ≡ b
same_asked t u a b e =
    let both : Some (Close, a) ≡ Some (Close, b) = sym (access_by_at Close t a) ∙ ap (access_by Close) e ∙ access_by_at Close u b in
    ap (λ (o : Option (By × Asked)). (unwrap_or o (Close, a)).1) both

-- a line that waits asks for an access
pub waits_asked : (h : History) (by : By) (t : Name) (a : Act) → IsWaitOf h by (event_by t a) → (asked : Asked) × (event_by t a ≡ event_of t asked)
waits_asked h by t act.Begin waits = absurd waits
waits_asked h by t (act.Access k o) waits = (At k o, refl)
waits_asked h by t (act.Sum g) waits = (Over g, refl)
waits_asked h by t act.Commit waits = absurd waits
waits_asked h by t act.Abort waits = absurd waits
waits_asked h by t (act.After w) waits = absurd waits

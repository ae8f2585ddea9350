-- The causes of refusal, one by one: no place but this goes through those of an event in their order, to tell
-- that none is a refusal of the store, and what holds where none is found.
use Rattle.std.proofs.Common.{◌≡◌, Bool, true, false, not, length, Option, Some, option_map, refl}
use Rattle.std.proofs.Common.{None as Nothing}
use Rattle.std.specs.Prelude.{nat_le}
use Rattle.txn_names.specs.Path.{parent}
use Rattle.serial_spec.specs.declared.entry.By.{By}
use Rattle.serial_spec.specs.declared.entry.Refusal.{Refusal}
use Rattle.serial_spec.specs.declared.entry.Refusal.TheVariants.{Unknown, Used, NoParent, Done as HasCommitted, Orphan, Children, Waiting, Full, Store}
use Rattle.serial_spec.specs.declared.target.Asked.{Asked}
use Rattle.serial_spec.specs.History.{Name, History, or_else, top_aborted, status, is_absent, is_committed, has_begun, begun}
use Rattle.serial_spec.specs.Rows.{Rows}
use Rattle.serial_spec.specs.Allowed.{most_transactions, waits_elsewhere, is_full_for, has_live_child, cause_at_begin, cause_at_access, cause_at_commit, cause_at_end}
use Rattle.serial_spec.specs.Causes.{when}
use Rattle.txn_history.proofs.Causes.{neither, not_when}

-- ---- no cause is a refusal of the store: the store is asked once none is found

abbrev pub is_store : Option Refusal → Bool
is_store (Some Store) = true
is_store x = false

pub record IsOther (cause : Option Refusal) : Type 0 where
  pub other : is_store cause ≡ false

neither_store : {x y : Option Refusal} → IsOther x → IsOther y → IsOther (or_else x y)
neither_store {x} {y} p q = record { other = by x p.other }
  where
    by : (c : Option Refusal) → is_store c ≡ false → is_store (or_else c y) ≡ false
    by Nothing e = q.other
    by (Some r) e = e

when_other : (b : Bool) (r : Refusal) → is_store (Some r) ≡ false → IsOther (when b r)
when_other b r p = record { other = by b }
  where
    by : (c : Bool) → is_store (when c r) ≡ false
    by true = p
    by false = refl

orphan_other : (o : Option Name) → IsOther (option_map (λ a. Orphan a) o)
orphan_other o = record { other = by o }
  where
    by : (p : Option Name) → is_store (option_map (λ a. Orphan a) p) ≡ false
    by Nothing = refl
    by (Some a) = refl

pub other_at_end : (h : History) (t : Name) → IsOther (cause_at_end h t)
other_at_end h t = neither_store (when_other (not (has_begun h t)) Unknown refl) (neither_store (orphan_other (top_aborted h t)) (when_other (is_committed (status h t)) HasCommitted refl))

pub other_at_begin : (h : History) (t : Name) → IsOther (cause_at_begin h t)
other_at_begin h t =
    neither_store (when_other (not (is_absent (status h t))) Used refl)
    (neither_store (when_other (is_absent (status h (parent t))) NoParent refl)
    (neither_store (orphan_other (top_aborted h (parent t)))
    (neither_store (when_other (is_committed (status h (parent t))) NoParent refl)
    (when_other (nat_le most_transactions (length (begun h))) Full refl))))

pub other_at_access : (rows : Rows) (h : History) (by : By) (t : Name) (k : Asked) → IsOther (cause_at_access rows h by t k)
other_at_access rows h by t k =
    neither_store (other_at_end h t) (neither_store (when_other (waits_elsewhere h by t) Waiting refl) (when_other (is_full_for rows h k) Full refl))

pub other_at_commit : (h : History) (by : By) (t : Name) → IsOther (cause_at_commit h by t)
other_at_commit h by t =
    neither_store (other_at_end h t) (neither_store (when_other (has_live_child h t) Children refl) (when_other (waits_elsewhere h by t) Waiting refl))

-- ---- where no cause is found

-- no child of a transaction is live that may commit
pub childless_at_commit : (h : History) (by : By) (t : Name) → cause_at_commit h by t ≡ Nothing → has_live_child h t ≡ false
childless_at_commit h by t none = not_when _ _ (neither _ _ (neither _ _ none).1).0

-- nor does an access of it wait by another line
pub alone_at_commit : (h : History) (by : By) (t : Name) → cause_at_commit h by t ≡ Nothing → waits_elsewhere h by t ≡ false
alone_at_commit h by t none = not_when _ _ (neither _ _ (neither _ _ none).1).1

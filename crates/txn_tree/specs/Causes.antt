-- Why a begin, a commit or an abort is refused: the first cause that holds.
use Rattle.std.specs.Prelude.{ℕ, not, nat_le, length, Option, Some, None, Result, Err}
use Rattle.std.specs.List.{list_any}
use Rattle.txn_names.specs.Path.{Path, parent}
use Rattle.serial_spec.specs.History.{or_else}
use Rattle.serial_spec.specs.Allowed.{most_transactions}
use Rattle.serial_spec.specs.Causes.{when, why_childless, why_ended, why_unbegun}
use Rattle.serial_spec.specs.declared.entry.Refusal.{Refusal}
use Rattle.serial_spec.specs.declared.entry.Refusal.TheVariants.{Children, Orphan}
use Rattle.txn_tree.specs.declared.fault.TreeFault.{TreeFault}
use Rattle.txn_tree.specs.declared.fault.TreeFault.TheVariants.{Refused}
use Rattle.txn_tree.specs.States.{States, names}
use Rattle.txn_tree.specs.Asked.{is_absent_in, has_committed_in, top_aborted_in, is_live_child_in}

-- why a transaction can have no more children
abbrev pub cause_at_parent : States → Path → Option Refusal
cause_at_parent tree p =
    why_childless (is_absent_in tree p) (top_aborted_in tree p) (has_committed_in tree p)

abbrev pub cause_at_begin : States → Path → Option Refusal
cause_at_begin tree t =
    why_unbegun (not (is_absent_in tree t)) (is_absent_in tree (parent t))
    (top_aborted_in tree (parent t)) (has_committed_in tree (parent t))
    (nat_le most_transactions (length tree))

abbrev pub cause_at_abort : States → Path → Option Refusal
cause_at_abort tree t =
    why_ended (is_absent_in tree t) (top_aborted_in tree t) (has_committed_in tree t)

abbrev pub cause_at_commit : States → Path → Option Refusal
cause_at_commit tree t =
    or_else (cause_at_abort tree t)
    (when (list_any (is_live_child_in tree t) (names tree)) Children)

-- that an orphan is one, or this refusal where nobody above has aborted
abbrev pub orphan_or : Option Path → Refusal → Refusal
orphan_or (Some top) r = Orphan top
orphan_or None r = r

-- the refusal, if the begin was refused
abbrev pub refusal_of : Result ℕ TreeFault → Option Refusal
refusal_of (Err (Refused r)) = Some r
refusal_of r = None

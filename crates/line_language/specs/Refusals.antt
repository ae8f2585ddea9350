-- The causes of refusal: their words, and which lines may be refused so. A refusal is told by the
-- word of its cause behind `refused`; but that of an orphan names the topmost aborted transaction
-- in its place.
use Rattle.std.specs.Prelude.{ℕ, Bool, true, false, List, [], ◌∷◌, Option, find, codes}
use Rattle.std.specs.Str.{bytes_eq}
use Rattle.serial_spec.specs.declared.entry.Refusal.{Refusal}
use Rattle.serial_spec.specs.declared.entry.Refusal.TheVariants.{Unknown, Used, NoParent, Done as HasCommitted, Orphan, Children, Waiting, Full, Store}
use Rattle.event_lists.specs.declared.view.Cause.{Cause}
use Rattle.event_lists.specs.declared.view.Cause.TheVariants as cause
pub use Rattle.event_lists.specs.Views.{cause_of}

abbrev pub refusals : List Refusal
refusals = Unknown ∷ Used ∷ NoParent ∷ HasCommitted ∷ Children ∷ Waiting ∷ Full ∷ Store ∷ []

-- ---- causes

-- in the order in which a summary counts them
abbrev pub causes : List Cause
causes = cause.Unknown ∷ cause.Used ∷ cause.NoParent ∷ cause.Orphan ∷ cause.Done
    ∷ cause.Children ∷ cause.Waiting ∷ cause.Full ∷ cause.Store ∷ []

abbrev pub same_cause : Cause → Cause → Bool
same_cause cause.Unknown cause.Unknown = true
same_cause cause.Used cause.Used = true
same_cause cause.NoParent cause.NoParent = true
same_cause cause.Done cause.Done = true
same_cause cause.Orphan cause.Orphan = true
same_cause cause.Children cause.Children = true
same_cause cause.Waiting cause.Waiting = true
same_cause cause.Full cause.Full = true
same_cause cause.Store cause.Store = true
same_cause a b = false

-- ---- words

abbrev pub cause_word : Cause → List ℕ
cause_word cause.Unknown = codes "unknown"
cause_word cause.Used = codes "used"
cause_word cause.NoParent = codes "no-parent"
cause_word cause.Orphan = codes "orphan"
cause_word cause.Done = codes "done"
cause_word cause.Children = codes "children"
cause_word cause.Waiting = codes "waiting"
cause_word cause.Full = codes "full"
cause_word cause.Store = codes "store"

-- the word behind `refused`; an orphan's has none
abbrev pub refusal_word : Refusal → List ℕ
refusal_word (Orphan t) = []
refusal_word r = cause_word (cause_of r)

-- the refusal that the word behind `refused` tells
abbrev pub refusal_of : List ℕ → Option Refusal
refusal_of w = find (λ r. bytes_eq w (refusal_word r)) refusals

-- ---- which lines may be refused so

abbrev pub may_refuse_begin : Refusal → Bool
may_refuse_begin Used = true
may_refuse_begin NoParent = true
may_refuse_begin (Orphan t) = true
may_refuse_begin Full = true
may_refuse_begin r = false

-- every other step of a transaction, so too an abort
abbrev pub may_refuse_end : Refusal → Bool
may_refuse_end Unknown = true
may_refuse_end (Orphan t) = true
may_refuse_end HasCommitted = true
may_refuse_end r = false

abbrev pub may_refuse_access : Refusal → Bool
may_refuse_access Waiting = true
may_refuse_access Full = true
may_refuse_access r = may_refuse_end r

-- a sum makes no key known, so no limit refuses it
abbrev pub may_refuse_sum : Refusal → Bool
may_refuse_sum Waiting = true
may_refuse_sum r = may_refuse_end r

abbrev pub may_refuse_commit : Refusal → Bool
may_refuse_commit Children = true
may_refuse_commit Waiting = true
may_refuse_commit Store = true
may_refuse_commit r = may_refuse_end r

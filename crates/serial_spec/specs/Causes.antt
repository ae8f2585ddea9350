-- Why a step of a transaction is refused: the first cause that holds, by tests of names. A history, the
-- states of a tree and tables each have these tests: whether a name is absent, which is the topmost
-- aborted one on its path, and whether it has committed.
use Rattle.std.specs.Prelude.{Bool, if◌then◌else◌, Option, Some, None, option_map}
use Rattle.serial_spec.specs.declared.entry.Refusal.{Refusal}
use Rattle.serial_spec.specs.declared.entry.Refusal.TheVariants.{Unknown, Used, NoParent, Done as HasCommitted, Orphan, Full}
use Rattle.serial_spec.specs.History.{Name, or_else}

-- one refusal, where its cause holds
abbrev pub when : Bool → Refusal → Option Refusal
when b r = if b then Some r else None

-- an orphan is told the topmost aborted one on its path
abbrev pub why_orphaned : Option Name → Option Refusal
why_orphaned top = option_map (λ a. Orphan a) top

-- why a transaction takes no access, commit or abort
abbrev pub why_ended : Bool → Option Name → Bool → Option Refusal
why_ended absent top committed =
    or_else (when absent Unknown)
    (or_else (why_orphaned top)
    (when committed HasCommitted))

-- why it takes no child
abbrev pub why_childless : Bool → Option Name → Bool → Option Refusal
why_childless absent top committed =
    or_else (when absent NoParent)
    (or_else (why_orphaned top)
    (when committed NoParent))

-- why a name cannot begin: whether it is used, the three tests of its parent, and whether no
-- transaction more has room
abbrev pub why_unbegun : Bool → Bool → Option Name → Bool → Bool → Option Refusal
why_unbegun used absent top committed full =
    or_else (when used Used)
    (or_else (when absent NoParent)
    (or_else (why_orphaned top)
    (or_else (when committed NoParent)
    (when full Full))))

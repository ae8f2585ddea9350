-- What holds of the table with its numbers holds of its values.
use Rattle.std.proofs.Common.{◌≡◌, ◌⊎◌, inl, inr, List, Result, IfOk, Ok, Err, refl, sym, ap, ◌∙◌}
use Rattle.std.specs.Global.{Vec}
use Rattle.sqlite.specs.Store.{Ghosts}
use Rattle.sqlite.specs.Held.{Held, state}
use Rattle.sqlite.specs.State.{HasCleanDisk}
use Rattle.sqlite.specs.Tree.{Trees}
use Rattle.txn_names.specs.declared.change.Change.{Change}
use Rattle.serial_spec.specs.Changes.{overlay}
use Rattle.serial_spec.specs.Rows.{value_in}
use Rattle.serial_spec.specs.Serial.{Map}
use Rattle.durable_top.specs.declared.store.Row.{Row}
use Rattle.durable_top.specs.Numbered.{Numbered, values_of, entries_in, Commits}
use Rattle.durable_top.specs.Store.{plain}
use Rattle.durable_top.proofs.Exports.{values_in_rows, values_committed}
use Rattle.sql_store.specs.Calls.{SurvivesAsBefore}
use Rattle.sql_store.specs.Table.{map_of}
use Rattle.sql_store.specs.Stored.{numbered, table, may_leave, may_leave_numbered}

pub rows_forgotten : {E : Type 0} (r : Result (Vec Row) E) (m : Numbered) → IfOk r (λ rows. entries_in rows.items ≡ m) → IfOk r (λ rows. value_in (plain rows.items) ≡ values_of m)
rows_forgotten (Ok rows) m h = sym (values_in_rows rows.items) ∙ ap values_of h
rows_forgotten (Err fault) m h = tt

module _ {S : Type 0} (g : Ghosts S) where
  module _ (old new : Held S) where
    -- a crash leaves nothing that it could not leave before
    pub no_other_trees : SurvivesAsBefore g old new → HasCleanDisk (state g new) → (db : Trees) → (state g new).may_leave db → (state g old).may_leave db
    no_other_trees survives clean db may = elim (survives.crash clean db may) [ inl was ↦ was | inr none ↦ absurd none ]

    pub no_other : SurvivesAsBefore g old new → HasCleanDisk (state g new) → (left : Numbered) → may_leave_numbered g new left → may_leave_numbered g old left
    no_other survives clean left may = (may.0, no_other_trees survives clean may.0 may.1, may.2)

    pub same_forgotten : ((left : Numbered) → may_leave_numbered g new left → may_leave_numbered g old left) → (left : Map) → may_leave g new left → may_leave g old left
    same_forgotten crash left may = let it = crash (map_of (may.0 2)) (may.0, may.1, refl) in (it.0, it.1, may.2 ∙ ap values_of it.2)

    pub crash_forgotten : (changes : List Change) → ((left : Numbered) → may_leave_numbered g new left → may_leave_numbered g old left ⊎ Commits changes (numbered g old) left)
        → (left : Map) → may_leave g new left → may_leave g old left ⊎ (left ≡ overlay changes (table g old))
    crash_forgotten changes crash left may = elim (crash (map_of (may.0 2)) (may.0, may.1, refl)) [
      | inl it ↦ inl (it.0, it.1, may.2 ∙ ap values_of it.2)
      | inr commits ↦ inr (may.2 ∙ values_committed changes (numbered g old) (map_of (may.0 2)) commits)
    ]

    pub settled_forgotten : (changes : List Change) → Commits changes (numbered g old) (numbered g new) → ((left : Numbered) → may_leave_numbered g new left → left ≡ numbered g new)
        → (left : Map) → may_leave g new left → left ≡ overlay changes (table g old)
    settled_forgotten changes commits settled left may =
        may.2 ∙ ap values_of (settled (map_of (may.0 2)) (may.0, may.1, refl)) ∙ values_committed changes (numbered g old) (numbered g new) commits

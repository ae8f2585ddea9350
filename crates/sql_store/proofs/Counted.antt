-- A commit under the number above the greatest, and the numbers that are kept in memory.
use Rattle.std.proofs.Common.{◌≡◌, ◌⊎◌, inl, inr, ℤ, pos, ◌+ℤ◌, ◌≤ℤ◌, true, List, refl, sym, ap, subst, ◌∙◌}
use Rattle.sqlite.specs.Store.{Ghosts}
use Rattle.sqlite.specs.Held.{Held, state}
use Rattle.sqlite.specs.State.{HasCleanDisk, Survives}
use Rattle.txn_names.specs.declared.change.Change.{Change}
use Rattle.serial_spec.specs.Serial.{Map}
use Rattle.durable_top.specs.Numbered.{Numbered, numbers_of, overlay_numbered, last_number, Follows}
use Rattle.durable_top.specs.Numbers.{renumbered, IsTopIn}
use Rattle.durable_top.proofs.Exports.{greatest_from, numbers_after}
use Rattle.sql_store.specs.Stored.{numbered, may_leave_numbered, IsKept, IsCounted}
use Rattle.sql_store.specs.inner.Writes.{Stores, IsStored}

pub follows_by : (number top : ℤ) (changes : List Change) (numbers : Map) (old new : Numbered) → IsTopIn numbers top → numbers ≡ numbers_of old
    → number ≡ top +ℤ pos 1 → number ≤ℤ last_number → new ≡ overlay_numbered number changes old → Follows changes old new
follows_by number top changes numbers old new greatest counted next fits is = record {
  top = top;
  greatest = greatest_from old top (subst (λ (m : Map). IsTopIn m top) counted greatest);
  fits = subst (λ n. n ≤ℤ last_number) next fits;
  is = is ∙ ap (λ n. overlay_numbered n changes old) next;
}

module _ {S : Type 0} (g : Ghosts S) (number : ℤ) (changes : List Change) (numbers : Map) (old new : Held S) (clean : HasCleanDisk (state g old)) (kept : IsKept g true old) (counted : IsCounted g true numbers old) where
  pub follows_stored : (top : ℤ) → IsTopIn numbers top → number ≡ top +ℤ pos 1 → number ≤ℤ last_number → Stores number changes (state g old) (state g new)
      → Follows changes (numbered g old) (numbered g new)
  follows_stored top greatest next fits stored =
      follows_by number top changes numbers (numbered g old) (numbered g new) greatest (counted refl clean stored.was_open) next fits (stored.table (kept refl clean stored.was_open).ready)

  pub counted_stored : (new_numbers : Map) → Stores number changes (state g old) (state g new) → new_numbers ≡ renumbered number changes numbers → IsCounted g true new_numbers new
  counted_stored new_numbers stored is yes_known sound open_now =
      is
      ∙ ap (renumbered number changes) (counted refl clean stored.was_open)
      ∙ sym (numbers_after number changes (numbered g old))
      ∙ ap numbers_of (sym (stored.table (kept refl clean stored.was_open).ready))

  pub follows_left : (top : ℤ) → IsTopIn numbers top → number ≡ top +ℤ pos 1 → number ≤ℤ last_number → HasCleanDisk (state g new) → Survives (state g old) (state g new) (IsStored number changes (state g old))
      → (left : Numbered) → may_leave_numbered g new left → may_leave_numbered g old left ⊎ Follows changes (numbered g old) left
  follows_left top greatest next fits sound survives left may = elim (survives.crash sound may.0 may.1) [
    | inl before ↦ inl (may.0, before, may.2)
    | inr stored ↦ inr (follows_by number top changes numbers (numbered g old) left greatest (counted refl clean stored.0) next fits (may.2 ∙ stored.1 (kept refl clean stored.0).ready))
  ]

-- Those who may keep an access from being answered, in two lists.
use Rattle.std.proofs.Common.{◌≡◌, ℕ, zero, suc, ◌<◌, ◌≤◌, nat_eq, true, false, List, ◌++◌, sym, subst, ◌∙◌, arith}
use Rattle.std.specs.List.{list_any}
use Rattle.std.proofs.lemmas.Bool.{false≢true, or_parts}
use Rattle.std.proofs.lemmas.List.Folds.{list_any-append}
use Rattle.txn_tree.specs.States.{States}
use Rattle.lock_table.specs.Targeted.{AreListed, Reaches, Targeted, is_listed, lists_of}
use Rattle.serial_spec.specs.declared.target.Target.{Target}
use Rattle.serial_spec.specs.Targets.{kind_of, target}
use Rattle.wait_cycles.specs.declared.waits.Wait.{Wait}
use Rattle.wait_graph.specs.Edges.{AreLockers}

-- where the second of two lists has everybody from each list of the target but the first, both have all who may keep the access out
pub only_two : (locks : Targeted) (s : Target) (w : Wait) → target w.asked ≡ s → AreListed locks s
    → (first more : List ℕ) → ((u : ℕ) → list_any (nat_eq u) first ≡ is_listed locks s 0 u)
    → ((p : ℕ) → 1 ≤ p → p < lists_of s → (u : ℕ) → is_listed locks s p u ≡ true → list_any (nat_eq u) more ≡ true)
    → (tree : States) → AreLockers tree locks w (first ++ more)
only_two locks s w of_it all first more at_first others tree u none blocks = by at.0 at.1 at.2
  where
    apart : (list_any (nat_eq u) first ≡ false) × (list_any (nat_eq u) more ≡ false)
    apart = or_parts (list_any (nat_eq u) first) (list_any (nat_eq u) more) (sym (list_any-append (nat_eq u) first more) ∙ none)

    at : (p : ℕ) × (p < lists_of s) × (is_listed locks s p u ≡ true)
    at = all u w.asked of_it (subst (λ x. Reaches locks u x (kind_of w.asked)) of_it blocks.reaches)

    by : (p : ℕ) → p < lists_of s → is_listed locks s p u ≡ true → ⊥
    by zero within listed = false≢true (sym apart.0 ∙ at_first u ∙ listed)
    by (suc p) within listed = false≢true (sym apart.1 ∙ others (suc p) (omega arith) within u listed)

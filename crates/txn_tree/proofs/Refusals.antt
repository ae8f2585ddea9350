-- What it tells that there is no cause to refuse.
use Rattle.std.proofs.Common.{◌≡◌, ◌≢◌, ◌<◌, Bool, true, false, not, nat_le, [], ◌∷◌, length, Option, Some, None, unwrap_or, refl, true≢false, arith}
use Rattle.std.specs.Prelude.{IfSome}
use Rattle.std.specs.Map.{lookup}
use Rattle.std.proofs.lemmas.Bool.{leb-false}
use Rattle.std.proofs.lemmas.Map.Views.{IfSome-lookup_from_All}
use Rattle.txn_names.specs.Path.{Path, path_eq, parent}
use Rattle.txn_names.specs.Text.{IsName}
use Rattle.serial_spec.specs.History.{or_else}
use Rattle.serial_spec.specs.Allowed.{most_transactions}
use Rattle.serial_spec.specs.Causes.{when, why_orphaned}
use Rattle.serial_spec.specs.declared.entry.Refusal.{Refusal}
use Rattle.serial_spec.specs.declared.entry.Refusal.TheVariants.{Used, NoParent, Full}
use Rattle.txn_tree.specs.declared.status.Status.{Status}
use Rattle.txn_tree.specs.declared.status.Status.TheVariants.{Absent}
use Rattle.txn_tree.specs.States.{States, IsTree, is_absent}
use Rattle.txn_tree.specs.Asked.{is_absent_in, has_committed_in, top_aborted_in}
use Rattle.txn_tree.specs.Causes.{cause_at_begin}

no_cause_at_begin : (a b : Bool) (o : Option Refusal) (d e : Bool)
    → or_else (when (not a) Used) (or_else (when b NoParent) (or_else o (or_else (when d NoParent) (when e Full)))) ≡ None
    → (a ≡ true) × (e ≡ false)
no_cause_at_begin true false None false false h = (refl, refl)
no_cause_at_begin true false None false true h = cc
no_cause_at_begin true false None true e h = cc
no_cause_at_begin true false (Some r) d e h = cc
no_cause_at_begin true true o d e h = cc
no_cause_at_begin false b o d e h = cc

no_row : (o : Option Status) → IfSome o (λ s. s ≢ Absent) → is_absent (unwrap_or o Absent) ≡ true → o ≡ None
no_row None h e = refl
no_row (Some s) h e = absurd (h (is s e))
  where
    is : (s : Status) → is_absent s ≡ true → s ≡ Absent
    is Absent e = refl
    is s e = absurd (true≢false cc)

module _ (tree : States) (t : Path) (begins : cause_at_begin tree t ≡ None) where
  causes : (is_absent_in tree t ≡ true) × (nat_le most_transactions (length tree) ≡ false)
  causes = no_cause_at_begin (is_absent_in tree t) (is_absent_in tree (parent t)) (why_orphaned (top_aborted_in tree (parent t))) (has_committed_in tree (parent t)) (nat_le most_transactions (length tree)) begins

  -- there is place for one more
  pub place_to_begin : length tree < most_transactions
  place_to_begin = leb-false most_transactions (length tree) causes.1

  pub absent_to_begin : is_absent_in tree t ≡ true
  absent_to_begin = causes.0

  -- it has no row
  pub new_to_begin : IsTree tree → IsName t → lookup (path_eq t) tree ≡ None
  new_to_begin is name = by t name causes.0
    where
      by : (u : Path) → IsName u → is_absent_in tree u ≡ true → lookup (path_eq u) tree ≡ None
      by [] name e = absurd (omega (arith, name.some))
      by (l ∷ ls) name e = no_row (lookup (path_eq (l ∷ ls)) tree) (IfSome-lookup_from_All (λ s. s ≢ Absent) (path_eq (l ∷ ls)) tree is.begun) e

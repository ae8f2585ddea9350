-- What holds of the states in every tree holds after each change.
use Rattle.std.proofs.Common.{◌≡◌, ◌≢◌, ◌<◌, Bool, [], ◌∷◌, ◌++◌, length, All, refl, sym, ap, subst, arith, length-append}
use Rattle.std.specs.List.{IsDistinct}
use Rattle.std.specs.Map.{values_of, set_value}
use Rattle.std.proofs.lemmas.List.Elements.{All-push}
use Rattle.std.proofs.lemmas.Map.{keys-set_value, length-set_value}
use Rattle.std.proofs.lemmas.Map.Views.{All-values-set_value}
use Rattle.txn_names.specs.Path.{Path, path_eq}
use Rattle.txn_names.specs.Text.{IsName}
use Rattle.serial_spec.specs.Allowed.{most_transactions}
use Rattle.txn_tree.specs.declared.status.Status.{Status}
use Rattle.txn_tree.specs.declared.status.Status.TheVariants.{Absent, Live}
use Rattle.txn_tree.specs.States.{States, IsTree, names}

pub tree_set : (test : Path → Bool) (tree : States) (s : Status) → IsTree tree → s ≢ Absent → IsTree (set_value test tree s)
tree_set test tree s is other =
    let same : names (set_value test tree s) ≡ names tree = keys-set_value test tree s in
    record {
      named = subst (All IsName) (sym same) is.named;
      distinct = subst (IsDistinct path_eq) (sym same) is.distinct;
      begun = All-values-set_value test (λ v. v ≢ Absent) tree s is.begun other;
      few = omega (arith, is.few, length-set_value test tree s);
    }

pub keys-push : (tree : States) (t : Path) (s : Status) → names (tree ++ (t, s) ∷ []) ≡ names tree ++ t ∷ []
keys-push [] t s = refl
keys-push (r ∷ rs) t s = ap (λ ns. r.0 ∷ ns) (keys-push rs t s)

values-push : (tree : States) (t : Path) (s : Status) → values_of (tree ++ (t, s) ∷ []) ≡ values_of tree ++ s ∷ []
values-push [] t s = refl
values-push (r ∷ rs) t s = ap (λ vs. r.1 ∷ vs) (values-push rs t s)

live_begun : Live ≢ Absent
live_begun e = cc

pub tree_begun : (tree : States) (t : Path) → IsTree tree → IsName t → length tree < most_transactions → IsDistinct path_eq (names (tree ++ (t, Live) ∷ [])) → IsTree (tree ++ (t, Live) ∷ [])
tree_begun tree t is name room distinct = record {
  named = subst (All IsName) (sym (keys-push tree t Live)) (All-push IsName (names tree) t is.named name);
  distinct = distinct;
  begun = subst (All (λ v. v ≢ Absent)) (sym (values-push tree t Live)) (All-push (λ v. v ≢ Absent) (values_of tree) Live is.begun live_begun);
  few = omega (arith, room, length-append tree ((t, Live) ∷ []));
}

-- A line without an entry.
use Rattle.std.proofs.Common.{◌≡◌, Bool, false, cond, ◌||◌, List, [], ◌∷◌, filter, refl}
use Rattle.std.specs.List.{list_any}
use Rattle.txn_names.proofs.Exports.{on_test}

-- where nothing is kept none passes
pub filtered_none : {X : Type 0} (p : X → Bool) (xs : List X) → filter p xs ≡ [] → list_any p xs ≡ false
filtered_none p [] e = refl
filtered_none p (x ∷ xs) e =
    on_test (p x) (λ b. cond b (x ∷ filter p xs) (filter p xs) ≡ [] → b || list_any p xs ≡ false)
    (λ _ f. cc) (λ _ f. filtered_none p xs f) e

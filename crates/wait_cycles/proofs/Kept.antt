-- Those that were reached, as they are kept.
use Rattle.std.proofs.Common.{◌≡◌, ℕ, nat_eq, Bool, true, false, ◌||◌, cond, List, [], ◌∷◌, Option, Some, None, is_some, refl, sym, ap, ◌∙◌, true≢false}
use Rattle.std.specs.Prelude.{slice_get}
use Rattle.std.specs.List.{list_any, position}
use Rattle.std.specs.Map.{keys_of, lookup}
use Rattle.std.proofs.lemmas.Bool.{eqb-true}
use Rattle.wait_cycles.specs.Cycles.{is_member}
use Rattle.wait_cycles.specs.Trails.{nodes, reached_in}
use Rattle.wait_cycles.proofs.Lists.{none_passes, passes_there}

pub nodes_are_keys : (entries : List (ℕ × Option ℕ)) → nodes (reached_in entries) ≡ keys_of entries
nodes_are_keys [] = refl
nodes_are_keys (e ∷ entries) = ap (λ ns. e.0 ∷ ns) (nodes_are_keys entries)

-- whoever is found was reached
pub found_in : (t : ℕ) (entries : List (ℕ × Option ℕ)) → is_some (lookup (nat_eq t) entries) ≡ list_any (λ r. nat_eq t r.txn) (reached_in entries)
found_in t [] = refl
found_in t (e ∷ entries) = by (nat_eq t e.0) (found_in t entries)
  where
    by : (b : Bool) → is_some (lookup (nat_eq t) entries) ≡ list_any (λ r. nat_eq t r.txn) (reached_in entries)
        → is_some (cond b (Some e.1) (lookup (nat_eq t) entries)) ≡ (b || list_any (λ r. nat_eq t r.txn) (reached_in entries))
    by true rest = refl
    by false rest = rest

pub absent_in : (t : ℕ) (entries : List (ℕ × Option ℕ)) → list_any (λ r. nat_eq t r.txn) (reached_in entries) ≡ false → lookup (nat_eq t) entries ≡ None
absent_in t entries e = by (lookup (nat_eq t) entries) (found_in t entries ∙ e)
  where
    by : (o : Option (Option ℕ)) → is_some o ≡ false → o ≡ None
    by None f = refl
    by (Some from) f = absurd (true≢false f)

pub place_found : (t n : ℕ) (entries : List (ℕ × Option ℕ)) → position (nat_eq t) (keys_of entries) ≡ Some n → slice_get (nodes (reached_in entries)) n ≡ Some t
place_found t n entries at =
    let there = passes_there (nat_eq t) (keys_of entries) n at in
    ap (λ (ns : List ℕ). slice_get ns n) (nodes_are_keys entries) ∙ there.1 ∙ ap (λ (x : ℕ). Some x) (sym (eqb-true t there.0 there.2))

pub place_missed : (t : ℕ) (entries : List (ℕ × Option ℕ)) → position (nat_eq t) (keys_of entries) ≡ None → is_member t (nodes (reached_in entries)) ≡ false
place_missed t entries none = ap (is_member t) (nodes_are_keys entries) ∙ none_passes (nat_eq t) (keys_of entries) none

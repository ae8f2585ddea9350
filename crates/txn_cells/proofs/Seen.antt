-- The lists of keys beside what is kept at each key: where a place is made or a child's are taken, and what callers see.
use Rattle.std.proofs.Common.{◌≡◌, ◌+◌, ◌<◌, ℕ, zero, suc, Bool, true, false, cond, not, nat_eq, ◌&&◌, ◌||◌, List, [], ◌∷◌, ◌++◌, length, Option, Some, None, unwrap_or, is_some, refl, sym, ap, ◌∙◌, arith}
use Rattle.std.specs.Prelude.{◌↔◌}
use Rattle.std.specs.List.{list_any}
use Rattle.std.specs.Map.{lookup, keys_of}
use Rattle.std.proofs.lemmas.Bool.{eq-eqb, eqb-true, ne_eqb}
use Rattle.txn_names.specs.Path.{label_eq}
use Rattle.txn_names.proofs.Exports.{on_label}
use Rattle.txn_cells.specs.Cells.{IsTowards, with_childs, with_place}
use Rattle.txn_cells.specs.Kept.{AreListed, AtKeys, Lists, busy_in, cells_in, cells_of, content, content_kept, has_place, held_at, keys_at, nothing, place_kept, seen, seen_from}
use Rattle.txn_cells.proofs.Puts.{none_from}
use Rattle.txn_cells.proofs.Reserving.{among_more}

-- ---- what callers see

module _ {V : Type 0} (kept : AtKeys V) where
  -- the numbers of the lists are not below the first
  none_below : (t u : ℕ) (lists : Lists) → u < t → lookup (nat_eq u) (seen_from t lists kept) ≡ None
  none_below t u [] below = refl
  none_below t u ([] ∷ lists) below = none_below (suc t) u lists (omega (arith, below))
  none_below t u ((e ∷ es) ∷ lists) below =
      ap (λ b. cond b (Some (cells_of kept t (keys_of (e ∷ es)))) (lookup (nat_eq u) (seen_from (suc t) lists kept))) (ne_eqb u t (λ same. omega (arith, below, same)))
      ∙ none_below (suc t) u lists (omega (arith, below))

  -- the cells of u are at the keys of its list
  cells_seen : (t i u : ℕ) (lists : Lists) → u ≡ t + i → cells_in (seen_from t lists kept) u ≡ cells_of kept u (keys_at lists i)
  cells_seen t i u [] e = refl
  cells_seen t zero u ([] ∷ lists) e = ap (λ o. unwrap_or o []) (none_below (suc t) u lists (omega (arith, e)))
  cells_seen t (suc i) u ([] ∷ lists) e = cells_seen (suc t) i u lists (omega (arith, e))
  cells_seen t zero u ((x ∷ xs) ∷ lists) e =
      let same : u ≡ t = omega (arith, e) in
      ap (λ b. unwrap_or (cond b (Some (cells_of kept t (keys_of (x ∷ xs)))) (lookup (nat_eq u) (seen_from (suc t) lists kept))) []) (eq-eqb u t same)
      ∙ ap (λ (n : ℕ). cells_of kept n (keys_of (x ∷ xs))) (sym same)
  cells_seen t (suc i) u ((x ∷ xs) ∷ lists) e =
      ap (λ b. unwrap_or (cond b (Some (cells_of kept t (keys_of (x ∷ xs)))) (lookup (nat_eq u) (seen_from (suc t) lists kept))) []) (ne_eqb u t (λ same. omega (arith, same, e)))
      ∙ cells_seen (suc t) i u lists (omega (arith, e))

  -- what is found at a key of them
  cell_found : (u : ℕ) (q : List ℕ) (keys : List (List ℕ)) → lookup (label_eq q) (cells_of kept u keys) ≡ cond (list_any (label_eq q) keys) (Some (content_kept kept u q)) None
  cell_found u q [] = refl
  cell_found u q (k ∷ keys) =
      on_label q k (λ b. cond b (Some (content_kept kept u k)) (lookup (label_eq q) (cells_of kept u keys)) ≡ cond (b || list_any (label_eq q) keys) (Some (content_kept kept u q)) None)
      (λ same. ap (λ (p : List ℕ). Some (content_kept kept u p)) (sym same))
      (λ _. cell_found u q keys)

  none_seen : (t : ℕ) (lists : Lists) → busy_in lists ≡ 0 → seen_from t lists kept ≡ []
  none_seen t [] e = refl
  none_seen t ([] ∷ lists) e = none_seen (suc t) lists (omega (arith, e))
  none_seen t ((x ∷ xs) ∷ lists) e = absurd (omega (arith, e))

  none_busy : (t : ℕ) (lists : Lists) → seen_from t lists kept ≡ [] → busy_in lists ≡ 0
  none_busy t [] e = refl
  none_busy t ([] ∷ lists) e = let rest = none_busy (suc t) lists e in omega (arith, rest)
  none_busy t ((x ∷ xs) ∷ lists) e = let long = ap length e in absurd (omega (arith, long))

  -- nothing is seen if and only if nobody is busy
  pub seen_nothing : (lists : Lists) → (nat_eq (busy_in lists) 0 ≡ true) ↔ (seen lists kept ≡ nothing)
  seen_nothing lists = (λ e. none_seen 0 lists (eqb-true (busy_in lists) 0 e), λ bare. eq-eqb (busy_in lists) 0 (none_busy 0 lists bare))

whole : {X : Type 0} (o : Option (Option X)) → cond (is_some o) (Some (unwrap_or o None)) None ≡ o
whole None = refl
whole (Some c) = refl

module _ {V : Type 0} (table : AtKeys V) (lists : Lists) (listed : AreListed table lists) where
  seen_cell : (u : ℕ) (q : List ℕ) → lookup (label_eq q) (cells_in (seen lists table) u) ≡ lookup (nat_eq u) (held_at table q)
  seen_cell u q =
      ap (lookup (label_eq q)) (cells_seen table 0 u u lists (omega arith))
      ∙ cell_found table u q (keys_at lists u)
      ∙ ap (λ b. cond b (Some (content_kept table u q)) None) (sym (listed u q))
      ∙ whole (lookup (nat_eq u) (held_at table q))

  pub seen_place : (u : ℕ) (q : List ℕ) → has_place (seen lists table) u q ≡ place_kept table u q
  seen_place u q = ap is_some (seen_cell u q)

  pub seen_content : (u : ℕ) (q : List ℕ) → content (seen lists table) u q ≡ content_kept table u q
  seen_content u q = ap (λ o. unwrap_or o None) (seen_cell u q)

  -- nothing stands where there is no place
  pub none_there : (u : ℕ) (q : List ℕ) → place_kept table u q ≡ false → content_kept table u q ≡ None
  none_there u q e = ap (λ o. unwrap_or o None) (none_from (lookup (nat_eq u) (held_at table q)) e)

  -- ---- one more place

  pub listed_more : (made : AtKeys V) (now : Lists) (t : ℕ) (k : List ℕ) → ((u : ℕ) (q : List ℕ) → place_kept made u q ≡ with_place (place_kept table) t k u q)
      → ((u : ℕ) → keys_at now u ≡ cond (nat_eq t u) (keys_at lists u ++ k ∷ []) (keys_at lists u)) → AreListed made now
  listed_more made now t k put added u q =
      put u q
      ∙ ap (λ b. (nat_eq t u && label_eq k q) || b) (listed u q)
      ∙ by (nat_eq t u)
      ∙ ap (list_any (label_eq q)) (sym (added u))
    where
      swapped : (a b : Bool) → (a || b) ≡ (b || a)
      swapped true true = refl
      swapped true false = refl
      swapped false true = refl
      swapped false false = refl

      by : (b : Bool) → ((b && label_eq k q) || list_any (label_eq q) (keys_at lists u)) ≡ list_any (label_eq q) (cond b (keys_at lists u ++ k ∷ []) (keys_at lists u))
      by true = swapped (label_eq k q) (list_any (label_eq q) (keys_at lists u)) ∙ sym (among_more q k (keys_at lists u))
      by false = refl

  -- ---- one transaction's places taken out

  pub listed_less : (left : AtKeys V) (now : Lists) (t : ℕ) → ((u : ℕ) (q : List ℕ) → place_kept left u q ≡ (not (nat_eq t u) && place_kept table u q))
      → ((u : ℕ) → keys_at now u ≡ cond (nat_eq t u) [] (keys_at lists u)) → AreListed left now
  listed_less left now t out taken u q =
      out u q
      ∙ ap (λ b. not (nat_eq t u) && b) (listed u q)
      ∙ by (nat_eq t u)
      ∙ ap (list_any (label_eq q)) (sym (taken u))
    where
      by : (b : Bool) → (not b && list_any (label_eq q) (keys_at lists u)) ≡ list_any (label_eq q) (cond b [] (keys_at lists u))
      by true = refl
      by false = refl

-- ---- a child's keys, seen before and after

module _ (old now before after : ℕ → List ℕ → Bool) (was : (u : ℕ) (q : List ℕ) → before u q ≡ old u q) (is : (u : ℕ) (q : List ℕ) → after u q ≡ now u q) (child parent : ℕ) where
  pub childs_seen : (u : ℕ) (q : List ℕ) → with_childs old child parent u q ≡ with_childs before child parent u q
  childs_seen u q =
      ap (λ b. (nat_eq parent u && b) || old u q) (sym (was child q))
      ∙ ap (λ b. (nat_eq parent u && before child q) || b) (sym (was u q))

  pub towards_seen : IsTowards old now child parent → IsTowards before after child parent
  towards_seen t = record {
    kept = λ u q e. is u q ∙ t.kept u q (sym (was u q) ∙ e);
    added = λ u q e. sym (childs_seen u q) ∙ t.added u q (sym (is u q) ∙ e);
  }

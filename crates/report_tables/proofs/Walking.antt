-- A walk along accesses, each of which leads to the next, has at most as many steps as there are accesses.
use Rattle.std.proofs.Common.{◌≡◌, ℕ, suc, ◌<◌, ◌≤◌, eqb, Bool, true, false, ◌||◌, List, [], ◌∷◌, length, Option, Some, is_some, unwrap_or, ⊎_elim, refl, sym, ap, subst, ◌∙◌, true≢false, arith}
use Rattle.std.specs.Prelude.{slice_get}
use Rattle.std.specs.List.{AllByRecursion, IsDistinct, list_any}
use Rattle.std.proofs.lemmas.Bool.{false≢true, eqb-true, or_cases, false_from_ne_true}
use Rattle.std.proofs.lemmas.Option.{slice_get_within}
use Rattle.std.proofs.lemmas.Map.Steps.{length-le_from_distinct_below}
use Rattle.report_check.specs.Serving.{PlacedAccess}
use Rattle.report_tables.specs.Chained.{Known, Leads}
use Rattle.report_tables.specs.declared.chains.Access.{Access}

module _ (acs : List Access) (known : Known) where
  -- where the walk stands, step by step
  abbrev walked : (at b l : Option ℕ) (ps : List PlacedAccess) → Leads acs known at b l ps → List ℕ
  walked at b l [] h = []
  walked at b l (p ∷ ps) h = h.0 ∷ walked h.1.next (Some h.0) l ps h.5

  length_walked : (at b l : Option ℕ) (ps : List PlacedAccess) (h : Leads acs known at b l ps) → length (walked at b l ps h) ≡ length ps
  length_walked at b l [] h = refl
  length_walked at b l (p ∷ ps) h = ap suc (length_walked h.1.next (Some h.0) l ps h.5)

  -- from one place all walks are as long
  as_long : (at b l b2 l2 : Option ℕ) (ps qs : List PlacedAccess) → Leads acs known at b l ps → Leads acs known at b2 l2 qs → length ps ≡ length qs
  as_long at b l b2 l2 [] [] h g = refl
  as_long at b l b2 l2 [] (q ∷ qs) h g = absurd (true≢false (sym (ap is_some (sym h.0 ∙ g.2))))
  as_long at b l b2 l2 (p ∷ ps) [] h g = absurd (true≢false (sym (ap is_some (sym g.0 ∙ h.2))))
  as_long at b l b2 l2 (p ∷ ps) (q ∷ qs) h g =
      let place : g.0 ≡ h.0 = ap (λ o. unwrap_or o h.0) (sym g.2 ∙ h.2) in
      let same : g.1 ≡ h.1 = ap (λ o. unwrap_or o h.1) (sym g.3 ∙ ap (slice_get acs) place ∙ h.3) in
      ap suc (as_long h.1.next (Some h.0) l (Some g.0) l2 ps qs h.5 (subst (λ (a : Access). Leads acs known a.next (Some g.0) l2 qs) same g.5))

  -- from each place on the walk the rest of it goes on
  pub record RestFrom (i : ℕ) (l : Option ℕ) (n : ℕ) : Type 0 where
    pub before : Option ℕ
    pub rest : List PlacedAccess
    pub leads : Leads acs known (Some i) before l rest
    pub shorter : length rest ≤ n

  rest_from : (at b l : Option ℕ) (ps : List PlacedAccess) (h : Leads acs known at b l ps) (i : ℕ) → list_any (eqb i) (walked at b l ps h) ≡ true → RestFrom i l (length ps)
  rest_from at b l [] h i found = absurd (false≢true found)
  rest_from at b l (p ∷ ps) h i found =
      ⊎_elim (λ (e : eqb i h.0 ≡ true). record {
        before = b;
        rest = p ∷ ps;
        leads = subst (λ (o : Option ℕ). Leads acs known o b l (p ∷ ps)) (h.2 ∙ ap Some (sym (eqb-true i h.0 e))) h;
        shorter = omega arith;
      })
      (λ (e : list_any (eqb i) (walked h.1.next (Some h.0) l ps h.5) ≡ true).
      let w = rest_from h.1.next (Some h.0) l ps h.5 i e in
      record { before = w.before; rest = w.rest; leads = w.leads; shorter = omega (arith, w.shorter) })
      (or_cases (eqb i h.0) (list_any (eqb i) (walked h.1.next (Some h.0) l ps h.5)) found)

  not_among : (i : ℕ) (xs : List ℕ) → list_any (eqb i) xs ≡ false → AllByRecursion (λ y. eqb i y ≡ false) xs
  not_among i [] none = tt
  not_among i (x ∷ xs) none = both (eqb i x) (list_any (eqb i) xs) none (not_among i xs)
    where
      both : (b c : Bool) → (b || c) ≡ false → (c ≡ false → AllByRecursion (λ y. eqb i y ≡ false) xs) → (b ≡ false) × AllByRecursion (λ y. eqb i y ≡ false) xs
      both true c e f = absurd (true≢false e)
      both false c e f = (refl, f e)

  apart : (at b l : Option ℕ) (ps : List PlacedAccess) (h : Leads acs known at b l ps) → IsDistinct eqb (walked at b l ps h)
  unfolding IsDistinct
  apart at b l [] h = tt
  apart at b l (p ∷ ps) h = (
    not_among h.0 (walked h.1.next (Some h.0) l ps h.5) (false_from_ne_true _ (λ found.
        let w = rest_from h.1.next (Some h.0) l ps h.5 h.0 found in
        let longer = as_long (Some h.0) b l w.before l (p ∷ ps) w.rest (subst (λ (o : Option ℕ). Leads acs known o b l (p ∷ ps)) h.2 h) w.leads in
        omega (arith, longer, w.shorter))),
    apart h.1.next (Some h.0) l ps h.5,
  )

  below : (at b l : Option ℕ) (ps : List PlacedAccess) (h : Leads acs known at b l ps) (i : ℕ) → list_any (eqb i) (walked at b l ps h) ≡ true → i < length acs
  below at b l [] h i found = absurd (false≢true found)
  below at b l (p ∷ ps) h i found =
      ⊎_elim (λ (e : eqb i h.0 ≡ true). subst (λ j. j < length acs) (sym (eqb-true i h.0 e)) (slice_get_within acs h.0 h.1 h.3))
      (λ (e : list_any (eqb i) (walked h.1.next (Some h.0) l ps h.5) ≡ true). below h.1.next (Some h.0) l ps h.5 i e)
      (or_cases (eqb i h.0) (list_any (eqb i) (walked h.1.next (Some h.0) l ps h.5)) found)

  pub walk_ends : (at b l : Option ℕ) (ps : List PlacedAccess) → Leads acs known at b l ps → length ps ≤ length acs
  walk_ends at b l ps h =
      let few = length-le_from_distinct_below (walked at b l ps h) (length acs) (apart at b l ps h) (below at b l ps h) in
      let same = length_walked at b l ps h in
      omega (arith, few, same)

-- Sessions looked up by their labels.
use Rattle.std.proofs.Common.{◌≡◌, ℕ, zero, suc, ◌+◌, ◌<◌, Bool, true, false, cond, ltb, List, [], ◌∷◌, length, Option, Some, None, refl, sym, ap, ◌∙◌, arith}
use Rattle.std.specs.Prelude.{position, option_map, IsFalse}
use Rattle.std.specs.List.{position_or_len}
use Rattle.std.proofs.lemmas.Bool.{or_from, ltb-true, ltb-false, lt-ltb, le-ltb}
use Rattle.txn_names.specs.Path.{label_eq}
use Rattle.txn_names.proofs.Exports.{same_label}
use Rattle.serial_spec.specs.Interleaving.{Session}
use Rattle.session_text.specs.Grammar.{is_taken}
use Rattle.session_text.specs.Growing.{place_of, PlacesFound}
use Rattle.session_text.specs.Texts.{label_at}

abbrev has_label : List ℕ → Session → Bool
has_label l s = label_eq l s.label

moved : (n m : ℕ) → option_map suc (cond (ltb n m) (Some n) None) ≡ cond (ltb (1 + n) (suc m)) (Some (1 + n)) None
moved n m = by (ltb n m) refl
  where
    by : (t : Bool) → ltb n m ≡ t → option_map suc (cond t (Some n) None) ≡ cond (ltb (1 + n) (suc m)) (Some (1 + n)) None
    by true e =
        let next : 1 + n ≡ suc n = omega arith in
        let less : ltb (1 + n) (suc m) ≡ true = lt-ltb (1 + n) (suc m) (omega (arith, ltb-true n m e)) in
        rw less (ap (λ k. Some k) (sym next))
    by false e =
        let more : ltb (1 + n) (suc m) ≡ false = le-ltb (1 + n) (suc m) (omega (arith, ltb-false n m e)) in
        rw more refl

-- the place that a search finds
place_by : (l : List ℕ) (x : Session) (ss : List Session) (t : Bool) → label_eq l x.label ≡ t → position (has_label l) ss ≡ place_of l ss
    → position (has_label l) (x ∷ ss) ≡ place_of l (x ∷ ss)
place_by l x ss true e more =
    let some : ltb 0 (suc (length ss)) ≡ true = lt-ltb 0 (suc (length ss)) (omega arith) in
    rw e (rw some refl)
place_by l x ss false e more = rw e (sym (moved (position_or_len (has_label l) ss) (length ss)) ∙ ap (option_map suc) more)

pub place_is : (l : List ℕ) (ss : List Session) → position (λ s. label_eq l s.label) ss ≡ place_of l ss
place_is l [] = refl
place_is l (x ∷ ss) = place_by l x ss (label_eq l x.label) refl (place_is l ss)

-- ---- what it says

behind_first : (o : Option ℕ) (n : ℕ) → option_map suc o ≡ Some n → (m : ℕ) × (o ≡ Some m) × (n ≡ suc m)
behind_first (Some m) n h = (m, refl, cc)
behind_first None n h = cc

none_behind : (o : Option ℕ) → option_map suc o ≡ None → o ≡ None
none_behind (Some m) h = cc
none_behind None h = refl

free_by : (l : List ℕ) (x : Session) (ss : List Session) (t : Bool) → label_eq l x.label ≡ t → cond t (Some 0) (option_map suc (place_of l ss)) ≡ None
    → (place_of l ss ≡ None → IsFalse (is_taken l ss)) → IsFalse (is_taken l (x ∷ ss))
free_by l x ss true e h more = cc
free_by l x ss false e h more = or_from _ _ e (more (none_behind (place_of l ss) h))

free : (l : List ℕ) (ss : List Session) → place_of l ss ≡ None → IsFalse (is_taken l ss)
free l [] h = refl
free l (x ∷ ss) h = free_by l x ss (label_eq l x.label) refl h (free l ss)

abbrev Stands : List ℕ → List Session → ℕ → Type 0
Stands l ss s = (s < length ss) × (label_at ss s ≡ Some l)

stands_by : (l : List ℕ) (x : Session) (ss : List Session) (s : ℕ) (t : Bool) → label_eq l x.label ≡ t → cond t (Some 0) (option_map suc (place_of l ss)) ≡ Some s
    → ((n : ℕ) → place_of l ss ≡ Some n → Stands l ss n) → Stands l (x ∷ ss) s
stands_by l x ss zero true e h more = (omega arith, ap (λ (m : List ℕ). Some m) (sym (same_label l x.label e)))
stands_by l x ss (suc s) true e h more = cc
stands_by l x ss s false e h more =
    let m = behind_first (place_of l ss) s h in
    let there = more m.0 m.1 in
    rw m.2 (omega (arith, there.0), there.1)

pub place_stands : (l : List ℕ) (ss : List Session) (s : ℕ) → place_of l ss ≡ Some s → Stands l ss s
place_stands l [] s h = cc
place_stands l (x ∷ ss) s h = stands_by l x ss s (label_eq l x.label) refl h (place_stands l ss)

pub places_found : PlacesFound
places_found = (free, place_stands)

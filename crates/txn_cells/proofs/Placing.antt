-- The keys of each transaction at their places among all keys, as a key is listed, a list is taken, and the keys grow.
use Rattle.std.proofs.Common.{◌≡◌, ℕ, zero, suc, Bool, true, false, cond, nat_eq, ◌&&◌, List, [], ◌∷◌, ◌++◌, get_or, length, Option, Some, None, unwrap_or, is_some, refl, sym, ap, subst, ◌∙◌}
use Rattle.std.specs.Prelude.{IfSome, option_map, slice_get}
use Rattle.std.specs.Borrow.{MutBor}
use Rattle.std.specs.Option.{option_copied_mut}
use Rattle.std.specs.List.{position}
use Rattle.std.specs.Map.{keys_of, values_of}
use Rattle.std.proofs.lemmas.Bool.{false≢true}
use Rattle.std.proofs.lemmas.Cmp.{nat_list_eq_equiv}
use Rattle.std.proofs.lemmas.Map.Entries.{lookup_from_place}
use Rattle.std.proofs.lemmas.Option.{slice_get-get_or, slice_get-map}
use Rattle.std.proofs.lemmas.List.Quantifiers.{position-Some}
use Rattle.indexmap.specs.IndexMap.{IndexMap, IsUnique, with_value_at}
use Rattle.indexmap.proofs.CallerLemmas.{keys-with_value_at, updates-with_value_at}
use Rattle.txn_names.specs.Path.{label_eq}
use Rattle.txn_names.proofs.Exports.{same_label}
use Rattle.txn_cells.proofs.Puts.{cond-both, cond_same, each-put}
use Rattle.txn_cells.specs.Kept.{AreAt, ArePlaced, AtKeys, Held, Listed, Lists, StayAt, content_of, held_at, keys_at, listed_at}

keys-push : (es : Listed) (e : List ℕ × ℕ) → keys_of (es ++ e ∷ []) ≡ keys_of es ++ e.0 ∷ []
keys-push [] e = refl
keys-push (x ∷ es) e = ap (λ (ks : List (List ℕ)). x.0 ∷ ks) (keys-push es e)

-- what stands at the place of a listed key
pub at_in : (keys : List (List ℕ)) (es : Listed) (i : ℕ) (e : List ℕ × ℕ) → AreAt keys es → slice_get es i ≡ Some e → slice_get keys e.1 ≡ Some e.0
at_in keys [] i e at is = absurd (false≢true (ap is_some is))
at_in keys (x ∷ es) zero e at is = subst (λ (y : List ℕ × ℕ). slice_get keys y.1 ≡ Some y.0) (ap (λ o. unwrap_or o x) is) at.0
at_in keys (x ∷ es) (suc i) e at is = at_in keys es i e at.1 is

at_stay : (old new : List (List ℕ)) → StayAt old new → (es : Listed) → AreAt old es → AreAt new es
at_stay old new stay [] at = tt
at_stay old new stay (x ∷ es) at = (stay x.1 x.0 at.0, at_stay old new stay es at.1)

at_push : (keys : List (List ℕ)) (es : Listed) (e : List ℕ × ℕ) → AreAt keys es → slice_get keys e.1 ≡ Some e.0 → AreAt keys (es ++ e ∷ [])
at_push keys [] e at is = (is, tt)
at_push keys (x ∷ es) e at is = (at.0, at_push keys es e at.1 is)

module _ (lists now : Lists) (t : ℕ) where
  -- ---- one key more

  module _ (k : List ℕ) (p : ℕ) (more : (u : ℕ) → listed_at now u ≡ cond (nat_eq t u) (listed_at lists u ++ (k, p) ∷ []) (listed_at lists u)) where
    pub keys_more : (u : ℕ) → keys_at now u ≡ cond (nat_eq t u) (keys_at lists u ++ k ∷ []) (keys_at lists u)
    keys_more u = ap (λ (es : Listed). keys_of es) (more u) ∙ by (nat_eq t u)
      where
        by : (b : Bool) → keys_of (cond b (listed_at lists u ++ (k, p) ∷ []) (listed_at lists u)) ≡ cond b (keys_at lists u ++ k ∷ []) (keys_at lists u)
        by true = keys-push (listed_at lists u) (k, p)
        by false = refl

    pub placed_more : {V : Type 0} (kept : AtKeys V) → slice_get (keys_of kept) p ≡ Some k → ArePlaced kept lists → ArePlaced kept now
    placed_more kept at placed u = subst (λ (es : Listed). AreAt (keys_of kept) es) (sym (more u)) (by (nat_eq t u))
      where
        by : (b : Bool) → AreAt (keys_of kept) (cond b (listed_at lists u ++ (k, p) ∷ []) (listed_at lists u))
        by true = at_push (keys_of kept) (listed_at lists u) (k, p) (placed u) at
        by false = placed u

  -- ---- no keys

  module _ (less : (u : ℕ) → listed_at now u ≡ cond (nat_eq t u) [] (listed_at lists u)) where
    pub keys_less : (u : ℕ) → keys_at now u ≡ cond (nat_eq t u) [] (keys_at lists u)
    keys_less u = ap (λ (es : Listed). keys_of es) (less u) ∙ by (nat_eq t u)
      where
        by : (b : Bool) → keys_of (cond b [] (listed_at lists u)) ≡ cond b [] (keys_at lists u)
        by true = refl
        by false = refl

    pub placed_less : {V : Type 0} (kept : AtKeys V) → ArePlaced kept lists → ArePlaced kept now
    placed_less kept placed u = subst (λ (es : Listed). AreAt (keys_of kept) es) (sym (less u)) (by (nat_eq t u))
      where
        by : (b : Bool) → AreAt (keys_of kept) (cond b [] (listed_at lists u))
        by true = tt
        by false = placed u

-- where the lists are as they were and what stands at a place stands there still
pub placed_stay : {V : Type 0} (old new : AtKeys V) (lists now : Lists) → StayAt (keys_of old) (keys_of new) → ((u : ℕ) → listed_at now u ≡ listed_at lists u)
    → ArePlaced old lists → ArePlaced new now
placed_stay old new lists now stay same placed u =
    subst (λ (es : Listed). AreAt (keys_of new) es) (sym (same u)) (at_stay (keys_of old) (keys_of new) stay (listed_at lists u) (placed u))

-- ---- keys and what is kept at each

module _ {X : Type 0} where
  entry_at : (es : List (List ℕ × X)) (p : ℕ) (k : List ℕ) (v : X) → slice_get (keys_of es) p ≡ Some k → slice_get (values_of es) p ≡ Some v → slice_get es p ≡ Some (k, v)
  entry_at [] p k v at is = absurd (false≢true (ap is_some at))
  entry_at (e ∷ es) zero k v at is = ap (λ (x : List ℕ). Some (x, e.1)) (ap (λ o. unwrap_or o k) at) ∙ ap (λ (y : X). Some (k, y)) (ap (λ o. unwrap_or o v) is)
  entry_at (e ∷ es) (suc p) k v at is = entry_at es p k v at is

-- a key that is found is at its place
pub key_at_place : (k : List ℕ) (keys : List (List ℕ)) (p : ℕ) → position (label_eq k) keys ≡ Some p → slice_get keys p ≡ Some k
key_at_place k keys p e =
    let found = position-Some (label_eq k) keys p [] e in
    slice_get-get_or keys p [] found.0 ∙ ap (λ (x : List ℕ). Some x) (sym (same_label k (get_or keys p []) found.1))

pub place_found : (k : List ℕ) (keys : List (List ℕ)) (o : Option ℕ) → o ≡ position (label_eq k) keys → IfSome o (λ p. slice_get keys p ≡ Some k)
place_found k keys None e = tt
place_found k keys (Some p) e = key_at_place k keys p (sym e)

-- a key that goes last
pub last_at : (keys : List (List ℕ)) (k : List ℕ) → slice_get (keys ++ k ∷ []) (length keys) ≡ Some k
last_at [] k = refl
last_at (x ∷ keys) k = last_at keys k

pub stay_pushed : (keys : List (List ℕ)) (k : List ℕ) → StayAt keys (keys ++ k ∷ [])
stay_pushed [] k p q at = absurd (false≢true (ap is_some at))
stay_pushed (x ∷ keys) k zero q at = at
stay_pushed (x ∷ keys) k (suc p) q at = stay_pushed keys k p q at

pub keys_pushed : {X : Type 0} (es : List (List ℕ × X)) (k : List ℕ) (v : X) → keys_of (es ++ (k, v) ∷ []) ≡ keys_of es ++ k ∷ []
keys_pushed [] k v = refl
keys_pushed (e ∷ es) k v = ap (λ (ks : List (List ℕ)). e.0 ∷ ks) (keys_pushed es k v)

-- at the place p of a map, which is seen as `kept`, the key k stands with what is held there
pub record IsHeldAt {V S : Type 0} (m : IndexMap (List ℕ) (Held V) S) (kept : AtKeys V) (p : ℕ)
    (k : List ℕ) (held : Held V) : Type 0 where
  pub unique : IsUnique label_eq m
  pub seen : m.entries ≡ kept
  pub key : slice_get (keys_of kept) p ≡ Some k
  pub value : slice_get (values_of m.entries) p ≡ Some held

-- where the place of the key lends what is held there
pub lent_at : {V S : Type 0} (m : IndexMap (List ℕ) (Held V) S) (kept : AtKeys V) (p : ℕ) (k : List ℕ) (o : Option (MutBor (Held V))) (lent : MutBor (Held V))
    → IsUnique label_eq m → m.entries ≡ kept → slice_get (keys_of kept) p ≡ Some k → option_copied_mut o ≡ slice_get (values_of m.entries) p → o ≡ Some lent
    → IsHeldAt m kept p k lent.now
lent_at m kept p k o lent unique seen key value is = record { unique = unique; seen = seen; key = key; value = sym value ∙ ap option_copied_mut is }

module _ {V S : Type 0} {m : IndexMap (List ℕ) (Held V) S} {kept : AtKeys V} {p : ℕ}
    {k : List ℕ} {held : Held V} (at : IsHeldAt m kept p k held) where
  entry : slice_get m.entries p ≡ Some (k, held)
  entry =
      entry_at m.entries p k held
      (ap (λ (es : AtKeys V). slice_get (keys_of es) p) at.seen ∙ at.key) at.value

  -- what is kept at the key
  pub kept_at : held_at kept k ≡ held
  kept_at =
      ap (λ (es : AtKeys V). held_at es k) (sym at.seen)
      ∙ ap (λ o. unwrap_or o [])
      (lookup_from_place nat_list_eq_equiv m.entries p k held at.unique entry)

  -- ---- where it is changed by its place

  module _ (now : Held V) where
    abbrev changed : AtKeys V
    changed = (with_value_at m p now).entries

    pub keys_stay : keys_of changed ≡ keys_of kept
    keys_stay = keys-with_value_at m p now ∙ ap (λ (es : AtKeys V). keys_of es) at.seen

    module _ {X : Type 0} (read : Held V → X) where
      -- what is read at each key
      pub each_at : (put : Held V → X) → read now ≡ put held → (q : List ℕ)
          → read (held_at changed q)
          ≡ cond (label_eq k q) (put (held_at kept q)) (read (held_at kept q))
      each_at put e q =
          each-put m.entries k now _
          (updates-with_value_at m p now nat_list_eq_equiv at.unique k held entry).0
          read (λ r. put (held_at kept r)) (e ∙ ap put (sym kept_at)) q
          ∙ ap (λ (es : AtKeys V). cond (label_eq k q) (put (held_at kept q)) (read (held_at es q)))
          at.seen

      pub same_at : read now ≡ read held → (q : List ℕ)
          → read (held_at changed q) ≡ read (held_at kept q)
      same_at e q = each_at read e q ∙ cond_same (label_eq k q) (read (held_at kept q))

    -- what one transaction has there is set by what it had
    pub set_at : (t : ℕ) (put : Option V → V)
        → ((u : ℕ) → content_of now u ≡ cond (nat_eq t u) (Some (put (content_of held u))) (content_of held u))
        → (u : ℕ) (q : List ℕ) → content_of (held_at changed q) u
        ≡ cond (nat_eq t u && label_eq k q) (Some (put (content_of (held_at kept q) u))) (content_of (held_at kept q) u)
    set_at t put is u q =
        let new : Held V → Option V = λ h. cond (nat_eq t u) (Some (put (content_of h u))) (content_of h u) in
        each_at (λ h. content_of h u) new (is u) q
        ∙ cond-both (label_eq k q) (nat_eq t u) (Some (put (content_of (held_at kept q) u))) (content_of (held_at kept q) u)

-- the key of an entry
pub key_listed : {X : Type 0} (es : List (List ℕ × X)) (i : ℕ) (e : List ℕ × X) → slice_get es i ≡ Some e → slice_get (keys_of es) i ≡ Some e.0
key_listed es i e is = slice_get-map (λ x. x.0) es i ∙ ap (option_map (λ x. x.0)) is

pub none_listed : (es : Listed) (i : ℕ) → slice_get es i ≡ None → slice_get (keys_of es) i ≡ None
none_listed es i is = slice_get-map (λ x. x.0) es i ∙ ap (option_map (λ x. x.0)) is

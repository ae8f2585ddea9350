-- The greatest number of a table, and what changes make of it.
use Rattle.std.proofs.Common.{zero, suc, is_some, true≢false, ◌⊎◌, ◌≡◌, inl, inr, ℕ, ◌+◌, ◌<◌, ℤ, pos, ◌≤ℤ◌, ◌<ℤ◌, Bool, true, false, cond, List, [], ◌∷◌, ◌++◌, length, take, map, get_or, Option, Some, None, IfSome, refl, sym, ap, subst, ◌∙◌, arith}
use Rattle.std.proofs.lemmas.Int.{ints}
use Rattle.std.specs.Prelude.{slice_get}
use Rattle.std.proofs.lemmas.List.{take_more}
use Rattle.std.specs.Cmp.Lexicographic.{slice_cmp, nat_list_eq_equiv, texts_ties}
use Rattle.std.specs.declared.cmp.Ordering.TheVariants.{Less}
use Rattle.std.specs.List.{AllByRecursion}
use Rattle.std.specs.Option.{option_map}
use Rattle.std.specs.Ordering.{nat_cmp, is_eq}
use Rattle.txn_names.specs.Path.{label_eq}
use Rattle.txn_names.proofs.Exports.{label_eq_self, same_label}
use Rattle.txn_names.specs.declared.change.Change.{Change}
use Rattle.serial_spec.specs.Changes.{change_at, AreRising}
use Rattle.serial_spec.specs.History.{or_else}
use Rattle.serial_spec.specs.Rows.{Rows, value_in}
use Rattle.serial_spec.specs.Serial.{Map, put}
use Rattle.durable_top.specs.Numbers.{Has, number_or, renumbered, IsKept, IsTopIn, IsTopOf, HasValue}
use Rattle.durable_top.proofs.Tables.{last_change}

-- ---- lists

pub all_has : {X : Type 0} (P : X → Type 0) (xs : List X) (x : X) → AllByRecursion P xs → Has xs x → P x
all_has P [] x all h = absurd h
all_has P (y ∷ xs) x all (inl same) = subst P (sym same) all.0
all_has P (y ∷ xs) x all (inr later) = all_has P xs x all.1 later

pub has_at : {X : Type 0} (xs : List X) (i : ℕ) (x : X) → i < length xs → x ≡ get_or xs i x → Has xs x
has_at [] i x h e = absurd (omega (arith, h))
has_at (y ∷ xs) zero x h e = inl e
has_at (y ∷ xs) (suc i) x h e = inr (has_at xs i x (omega (arith, h)) e)

pub has_mapped : {X Y : Type 0} (f : X → Y) (xs : List X) (x : X) → Has xs x → Has (map f xs) (f x)
has_mapped f [] x h = absurd h
has_mapped f (y ∷ xs) x (inl e) = inl (ap f e)
has_mapped f (y ∷ xs) x (inr later) = inr (has_mapped f xs x later)

-- ---- rows

-- one more row, with the greater of its number and the greatest of those before it
pub bounds_more : (rows : Rows) (i : ℕ) (before top : ℤ) → i < length rows → AllByRecursion (λ r. r.1 ≤ℤ before) (take i rows) → before ≤ℤ top
    → IfSome (slice_get rows i) (λ r. r.1 ≤ℤ top) → AllByRecursion (λ r. r.1 ≤ℤ top) (take (suc i) rows)
bounds_more [] i before top within all above here = tt
bounds_more (r ∷ rows) zero before top within all above here = (here, tt)
bounds_more (r ∷ rows) (suc i) before top within all above here =
    (let low = all.0 in omega (arith, ints), bounds_more rows i before top (omega arith) all.1 above here)

number_had : (rows : Rows) (k : List ℕ) (P : ℤ → Type 0) → ((r : List ℕ × ℤ) → Has rows r → P r.1) → IfSome (value_in rows k) P
number_had [] k P each = tt
number_had (x ∷ rows) k P each = go (number_had rows k P (λ r has. each r (inr has))) (label_eq x.0 k)
  where
    go : IfSome (value_in rows k) P → (b : Bool) → IfSome (cond b (Some x.1) (value_in rows k)) P
    go more true = each x (inl refl)
    go more false = more

pub unequal : (a b : List ℕ) → slice_cmp nat_cmp a b ≡ Less → label_eq a b ≡ false
unequal a b e = texts_ties a b ∙ ap is_eq e

unequal_back : (a b : List ℕ) → slice_cmp nat_cmp a b ≡ Less → label_eq b a ≡ false
unequal_back a b e = nat_list_eq_equiv.symm b a ∙ unequal a b e

-- of rows whose numbers are not below 0
pub top_by : (rows : Rows) (top : ℤ) → ((k : List ℕ) → IfSome (value_in rows k) (λ n. pos 0 ≤ℤ n)) → IsTopOf rows top → IsTopIn (value_in rows) top
top_by rows top least h = record {
  least = h.least;
  bounds = λ k. go (value_in rows k) (least k) (number_had rows k (λ n. n ≤ℤ top) (λ r has. all_has (λ x. x.1 ≤ℤ top) rows r h.bounds has));
  met = h.met;
}
  where
    go : (o : Option ℤ) → IfSome o (λ n. pos 0 ≤ℤ n) → IfSome o (λ n. n ≤ℤ top) → IfSome o (λ n. (pos 0 ≤ℤ n) × (n ≤ℤ top))
    go None a b = tt
    go (Some n) a b = (a, b)

-- ---- changes

pub renumbered_none : (n : ℤ) (m : Map) → renumbered n [] m ≡ m
renumbered_none n m = λ i k. m k

-- one more change is put into the numbers
pub renumbered_more : (n : ℤ) (cs : List Change) (i : ℕ) (c : Change) (m : Map) → i < length cs → c ≡ get_or cs i c
    → put (renumbered n (take i cs) m) c.key (option_map (λ _. n) c.value) ≡ renumbered n (take (i + 1) cs) m
renumbered_more n cs i c m within at =
    let each : (k : List ℕ) → put (renumbered n (take i cs) m) c.key (option_map (λ _. n) c.value) k ≡ renumbered n (take i cs ++ c ∷ []) m k = λ k.
    go (label_eq c.key k) c.value (change_at (take i cs) k) (m k) ∙ ap (λ x. number_or n x (m k)) (sym (last_change (take i cs) c k)) in
    let same : put (renumbered n (take i cs) m) c.key (option_map (λ _. n) c.value) ≡ renumbered n (take i cs ++ c ∷ []) m = λ j k. each k j in
    same ∙ ap (λ ds. renumbered n ds m) (ap (λ d. take i cs ++ d ∷ []) at ∙ sym (take_more cs i c within))
  where
    go : (b : Bool) (v : Option ℤ) (x : Option (Option ℤ)) (w : Option ℤ) → cond b (option_map (λ _. n) v) (number_or n x w) ≡ number_or n (cond b (Some v) x) w
    go true v x w = refl
    go false v x w = refl

none_above : (k : List ℕ) (cs : List Change) → AllByRecursion (λ q. slice_cmp nat_cmp k q ≡ Less) (map (λ c. c.key) cs) → change_at cs k ≡ None
none_above k [] h = refl
none_above k (c ∷ cs) h =
    ap (λ x. or_else x (cond (label_eq c.key k) (Some c.value) None)) (none_above k cs h.1)
    ∙ ap (λ b. cond b (Some c.value) None) (unequal_back k c.key h.0)

-- where the changes rise, each decides at its key
change_found : (cs : List Change) (c : Change) → AreRising cs → Has cs c → change_at cs c.key ≡ Some c.value
change_found [] c rising has = absurd has
change_found (d ∷ cs) c rising (inl e) = subst (λ (x : Change). change_at (d ∷ cs) x.key ≡ Some x.value) (sym e)
    (ap (λ x. or_else x (cond (label_eq d.key d.key) (Some d.value) None)) (none_above d.key cs rising.0) ∙ ap (λ b. cond b (Some d.value) None) (label_eq_self d.key))
change_found (d ∷ cs) c rising (inr has) =
    ap (λ x. or_else x (cond (label_eq d.key c.key) (Some d.value) None)) (change_found cs c rising.1 has)

has_split : {X : Type 0} (xs : List X) (y x : X) → Has (xs ++ y ∷ []) x → (Has xs x) ⊎ (x ≡ y)
has_split [] y x (inl same) = inr same
has_split [] y x (inr later) = absurd later
has_split (z ∷ xs) y x (inl same) = inl (inl same)
has_split (z ∷ xs) y x (inr later) = elim (has_split xs y x later) [ inl has ↦ inl (inr has) | inr same ↦ inr same ]

-- no value is given by one more change that gives none
pub none_pushed : (cs : List Change) (i : ℕ) (c : Change) → i < length cs → c ≡ get_or cs i c → is_some c.value ≡ false
    → (HasValue (take i cs) → ⊥) → HasValue (take (i + 1) cs) → ⊥
none_pushed cs i c within at none before it = elim (has_split (take i cs) c it.0 (subst (λ ds. Has ds it.0) (take_more cs i c within ∙ ap (λ x. take i cs ++ x ∷ []) (sym at)) it.2)) [
  | inl has ↦ before (it.0, it.1, has, it.3)
  | inr same ↦ let some : is_some c.value ≡ true = ap is_some (ap (λ (d : Change). d.value) (sym same) ∙ it.3) in true≢false (sym some ∙ none)
]

pub value_there : (cs : List Change) (i : ℕ) (c : Change) → i < length cs → c ≡ get_or cs i c → is_some c.value ≡ true → HasValue cs
value_there cs i c h e some = go c.value refl some
  where
    go : (o : Option ℤ) → c.value ≡ o → is_some o ≡ true → HasValue cs
    go None is some = cc
    go (Some v) is some = (c, v, has_at cs i c h e, is)

-- where a value is given, the number is the greatest
pub top_raised : (m new : Map) (cs : List Change) (top n : ℤ) → IsTopIn m top → top <ℤ n → AreRising cs → HasValue cs
    → new ≡ renumbered n cs m → IsTopIn new n
top_raised m new cs top n h above rising some is = subst (λ t. IsTopIn t n) (sym is) (record {
  least = let least = h.least in omega (arith, ints);
  bounds = λ k. go (change_at cs k) (m k) (h.bounds k);
  met = inr (some.0.key, ap (λ x. number_or n x (m some.0.key)) (change_found cs some.0 rising some.2 ∙ ap (λ v. Some v) some.3));
})
  where
    go : (x : Option (Option ℤ)) (e : Option ℤ) → IfSome e (λ q. (pos 0 ≤ℤ q) × (q ≤ℤ top)) → IfSome (number_or n x e) (λ q. (pos 0 ≤ℤ q) × (q ≤ℤ n))
    go None None b = tt
    go None (Some e) b = (b.0, let low = b.1 in omega (arith, ints))
    go (Some None) e b = tt
    go (Some (Some v)) e b = (let least = h.least in omega (arith, ints), omega (arith, ints))

-- else each number is one of before
pub none_below : (m new : Map) (cs : List Change) (top n : ℤ) → IsTopIn m top → top <ℤ n → new ≡ renumbered n cs m
    → (k : List ℕ) → IfSome (new k) (λ q. pos 0 ≤ℤ q)
none_below m new cs top n h above is = subst (λ (t : Map). (k : List ℕ) → IfSome (t k) (λ q. pos 0 ≤ℤ q)) (sym is) (λ k. go (change_at cs k) (m k) (h.bounds k))
  where
    go : (x : Option (Option ℤ)) (e : Option ℤ) → IfSome e (λ q. (pos 0 ≤ℤ q) × (q ≤ℤ top)) → IfSome (number_or n x e) (λ q. pos 0 ≤ℤ q)
    go None None b = tt
    go None (Some e) b = b.0
    go (Some None) e b = tt
    go (Some (Some v)) e b = let least = h.least in omega (arith, ints)

-- a key's change stands among the changes
change_from : (cs : List Change) (k : List ℕ) (v : Option ℤ) → change_at cs k ≡ Some v → (c : Change) × Has cs c × (c.key ≡ k) × (c.value ≡ v)
change_from [] k v e = absurd cc
change_from (c ∷ cs) k v e = go (change_from cs k v) (change_at cs k) refl (label_eq c.key k) refl e
  where
    go : (change_at cs k ≡ Some v → (d : Change) × Has cs d × (d.key ≡ k) × (d.value ≡ v))
        → (x : Option (Option ℤ)) → change_at cs k ≡ x → (b : Bool) → label_eq c.key k ≡ b
        → or_else x (cond b (Some c.value) None) ≡ Some v → (d : Change) × Has (c ∷ cs) d × (d.key ≡ k) × (d.value ≡ v)
    go later (Some w) is b test e = let it = later (is ∙ e) in (it.0, inr it.1, it.2, it.3)
    go later None is true test e = (c, inl refl, same_label c.key k test, cc)
    go later None is false test e = absurd cc

-- where no value is given and no key of the greatest number is changed, it stays the greatest
pub top_kept : (m new : Map) (cs : List Change) (top n : ℤ) → IsTopIn m top → (HasValue cs → ⊥) → IsKept m top cs
    → new ≡ renumbered n cs m → IsTopIn new top
top_kept m new cs top n h none kept is = subst (λ t. IsTopIn t top) (sym is) (record {
  least = h.least;
  bounds = λ k. go k (change_at cs k) refl (m k) (h.bounds k);
  met = elim h.met [ inl nil ↦ inl nil | inr it ↦ inr (it.0, met it.0 it.1 (change_at cs it.0) refl) ];
})
  where
    go : (k : List ℕ) (x : Option (Option ℤ)) → change_at cs k ≡ x → (e : Option ℤ)
        → IfSome e (λ q. (pos 0 ≤ℤ q) × (q ≤ℤ top)) → IfSome (number_or n x e) (λ q. (pos 0 ≤ℤ q) × (q ≤ℤ top))
    go k None at e b = b
    go k (Some None) at e b = tt
    go k (Some (Some v)) at e b = let it = change_from cs k (Some v) at in absurd (none (it.0, v, it.1, it.3))

    met : (k : List ℕ) → m k ≡ Some top → (x : Option (Option ℤ)) → change_at cs k ≡ x → number_or n x (m k) ≡ Some top
    met k has None at = has
    met k has (Some v) at =
        let it = change_from cs k v at in
        absurd (all_has (λ c. m c.key ≡ Some top → ⊥) cs it.0 kept it.1 (ap m it.2 ∙ has))

-- What each entry does to the chains of accesses.
use Rattle.std.proofs.Common.{◌≡◌, ℕ, zero, suc, ◌+◌, ◌<◌, nat_eq, Bool, true, false, cond, List, [], ◌∷◌, ◌++◌, length, reverse, Option, Some, None, is_some, unwrap_or, ◌⊎◌, inl, inr, refl, sym, ap, subst, ◌∙◌, true≢false, arith, length-append}
use Rattle.std.specs.Prelude.{slice_get}
use Rattle.std.specs.Option.{option_or}
use Rattle.std.proofs.lemmas.Bool.{eqb-true, eq-eqb}
use Rattle.std.proofs.lemmas.List.{reverse-append}
use Rattle.std.proofs.lemmas.Option.{slice_get_within}
use Rattle.txn_names.specs.Path.{parent, path_eq}
use Rattle.txn_names.specs.Text.{IsName}
use Rattle.txn_names.proofs.Exports.{length-parent, on_path, path_eq_self}
use Rattle.txn_tree.specs.Linked.{update_at}
use Rattle.txn_tree.specs.States.{IsTree, States, names, status_in, is_absent, is_live}
use Rattle.txn_tree.specs.Asked.{is_absent_in, is_live_in}
use Rattle.txn_tree.specs.declared.status.Status.{Status as State}
use Rattle.txn_tree.specs.declared.status.Status.TheVariants as state
use Rattle.txn_tree.proofs.Exports.{some_label, get_last, get_pushed, get_updated, length_updated, one_place, absent_nowhere}
use Rattle.serial_spec.specs.declared.entry.Entry.{Entry}
use Rattle.serial_spec.specs.declared.target.Asked.{Asked}
use Rattle.serial_spec.specs.declared.operation.Reply.{Reply}
use Rattle.serial_spec.specs.History.{Name, History, Begins, Accesses, Commits, effect}
use Rattle.report_check.specs.Serving.{PlacedAccess, accesses_of, with_access}
use Rattle.report_tables.specs.Chained.{Asks, Holds, Known, Leads, joined, led, no_chain, one_access}
use Rattle.report_tables.specs.Told.{AreChainsOf, places}
use Rattle.report_tables.specs.declared.chains.Access.{Access}
use Rattle.report_tables.specs.declared.chains.Chain.{Chain}
use Rattle.report_tables.proofs.Leading.{AsksStill, last_at, leads_aside, leads_grown, leads_joined}

-- ---- places

-- a name stands at one place
pub one_place_each : (tree : States) → IsTree tree → (k l : ℕ) (t : Name) → slice_get (places tree) k ≡ Some t → slice_get (places tree) l ≡ Some t → k ≡ l
one_place_each tree is zero zero t a b = refl
one_place_each tree is zero (suc l) t a b = absurd (true≢false (sym (ap (λ u. path_eq [] u) (ap (λ o. unwrap_or o t) (sym a)) ∙ path_eq_self []) ∙ some_label (names tree) l t is.named b))
one_place_each tree is (suc k) zero t a b = absurd (true≢false (sym (ap (λ u. path_eq [] u) (ap (λ o. unwrap_or o t) (sym b)) ∙ path_eq_self []) ∙ some_label (names tree) k t is.named a))
one_place_each tree is (suc k) (suc l) t a b = ap suc (one_place (names tree) is.distinct t k l a b)

-- one that is absent has none
pub absent_placeless : (tree : States) → IsTree tree → (t : Name) → IsName t → is_absent_in tree t ≡ true → (k : ℕ) → slice_get (places tree) k ≡ Some t → ⊥
absent_placeless tree is t name absent zero a = true≢false (sym absent ∙ ap (is_absent_in tree) (ap (λ o. unwrap_or o t) (sym a)))
absent_placeless tree is t name absent (suc k) a = absent_nowhere tree is t name absent k a

same_name : (t u : Name) (o : Option Name) → o ≡ Some t → o ≡ Some u → t ≡ u
same_name t u o a b = ap (λ p. unwrap_or p t) (sym a ∙ b)

length_places : (tree : States) → length (places tree) ≡ suc (length (names tree))
length_places tree = refl

-- ---- the same accesses

module _ (base : ℕ) (known : Known) (h : History) (e : Entry) (old new : States) (acs : List Access) (chains : List Chain)
    (are : AreChainsOf base known h old acs chains) (same_names : names new ≡ names old)
    (lived : (t : Name) → is_live_in new t ≡ true → is_live_in old t ≡ true) (lacked : (t : Name) → is_absent_in new t ≡ true → is_absent_in old t ≡ true)
    (same : (t : Name) → accesses_of base (e ∷ h) t ≡ accesses_of base h t) where
  was : (k : ℕ) (t : Name) → slice_get (places new) k ≡ Some t → slice_get (places old) k ≡ Some t
  was k t at = ap (λ ns. slice_get ([] ∷ ns) k) (sym same_names) ∙ at

  pub chains_kept : AreChainsOf base known (e ∷ h) new acs chains
  chains_kept = record {
    level = are.level ∙ ap (λ ns. suc (length ns)) (sym same_names);
    each = λ k t c at own live. subst (λ (ps : List PlacedAccess). Holds acs known c (reverse ps)) (sym (same t)) (are.each k t c (was k t at) own (lived t live));
    apart = λ k l t u c d i a b own other live alive. are.apart k l t u c d i (was k t a) (was l u b) own other (lived t live) (lived u alive);
    fresh = λ t absent. same t ∙ are.fresh t (lacked t absent);
  }

-- ---- more keys and groups

pub chains_roomy : (base : ℕ) (known more : Known) (h : History) (tree : States) (acs : List Access) (chains : List Chain)
    → AsksStill known more → AreChainsOf base known h tree acs chains → AreChainsOf base more h tree acs chains
chains_roomy base known more h tree acs chains still are = record {
  level = are.level;
  each = λ k t c at own live. subst (λ (xs : List Access). Leads xs more c.first None c.last (reverse (accesses_of base h t))) (append_nothing acs)
      (leads_grown acs [] known more still c.first None c.last (reverse (accesses_of base h t)) (are.each k t c at own live));
  apart = are.apart;
  fresh = are.fresh;
}
  where
    append_nothing : (xs : List Access) → xs ++ [] ≡ xs
    append_nothing [] = refl
    append_nothing (x ∷ xs) = ap (λ ys. x ∷ ys) (append_nothing xs)

-- ---- a begin

module _ (base : ℕ) (known : Known) (h : History) (e : Entry) (old new : States) (acs : List Access) (chains : List Chain) (t : Name)
    (are : AreChainsOf base known h old acs chains) (is : IsTree old) (name : IsName t) (absent : is_absent_in old t ≡ true) (does : effect e ≡ Begins t)
    (more_names : names new ≡ names old ++ t ∷ []) (sets : (u : Name) → status_in new u ≡ cond (path_eq t u) state.Live (status_in old u)) where
  same_accesses : (u : Name) → accesses_of base (e ∷ h) u ≡ accesses_of base h u
  same_accesses u = ap (λ x. with_access u x (base + suc (length h)) (accesses_of base h)) does

  other : (k : ℕ) (u : Name) → slice_get (places old) k ≡ Some u → path_eq t u ≡ false
  other k u at = on_path t u (λ b. b ≡ false) (λ s. absurd (absent_placeless old is t name absent k (at ∙ ap Some (sym s)))) (λ s. refl)

  lived_old : (k : ℕ) (u : Name) → slice_get (places old) k ≡ Some u → is_live_in new u ≡ true → is_live_in old u ≡ true
  lived_old k u at live = sym (ap is_live (sets u ∙ ap (λ b. cond b state.Live (status_in old u)) (other k u at))) ∙ live

  -- a place is an old one, or the new one
  data Place (k : ℕ) (u : Name) (c : Chain) : Type 0 where
    Old : slice_get (places old) k ≡ Some u → slice_get chains k ≡ Some c → Place k u c
    New : k ≡ length chains → u ≡ t → c ≡ no_chain → Place k u c

  place : (k : ℕ) (u : Name) (c : Chain) → slice_get (places new) k ≡ Some u → slice_get (chains ++ no_chain ∷ []) k ≡ Some c → Place k u c
  place k u c at own = by (get_pushed (places old) t k u (ap (λ ns. slice_get ([] ∷ ns) k) (sym more_names) ∙ at)) (get_pushed chains no_chain k c own)
    where
      by : (slice_get (places old) k ≡ Some u) ⊎ ((k ≡ length (places old)) × (u ≡ t)) → (slice_get chains k ≡ Some c) ⊎ ((k ≡ length chains) × (c ≡ no_chain)) → Place k u c
      by (inl a) (inl b) = Old a b
      by (inl a) (inr b) = let w = slice_get_within (places old) k u a in absurd (omega (arith, w, b.0, are.level))
      by (inr a) (inl b) = let w = slice_get_within chains k c b in absurd (omega (arith, w, a.0, are.level))
      by (inr a) (inr b) = New b.0 a.1 b.1

  each_new : (k : ℕ) (u : Name) (c : Chain) → Place k u c → is_live_in new u ≡ true → Holds acs known c (reverse (accesses_of base (e ∷ h) u))
  each_new k u c (Old at own) live = subst (λ (ps : List PlacedAccess). Holds acs known c (reverse ps)) (sym (same_accesses u)) (are.each k u c at own (lived_old k u at live))
  each_new k u c (New at this empty) live =
      let none : accesses_of base (e ∷ h) u ≡ [] = same_accesses u ∙ ap (accesses_of base h) this ∙ are.fresh t absent in
      subst (λ (d : Chain). Holds acs known d (reverse (accesses_of base (e ∷ h) u))) (sym empty)
      (subst (λ (ps : List PlacedAccess). Holds acs known no_chain (reverse ps)) (sym none) (refl, refl))

  no_last : (c : Chain) (i : ℕ) → c ≡ no_chain → c.last ≡ Some i → ⊥
  no_last c i empty at = true≢false (sym (ap is_some (sym (ap (λ (d : Chain). d.last) empty) ∙ at)))

  apart_new : (k l : ℕ) (u v : Name) (c d : Chain) (i : ℕ) → Place k u c → Place l v d → is_live_in new u ≡ true → is_live_in new v ≡ true → c.last ≡ Some i → d.last ≡ Some i → k ≡ l
  apart_new k l u v c d i (Old a own) (Old b and) live alive x y = are.apart k l u v c d i a b own and (lived_old k u a live) (lived_old l v b alive) x y
  apart_new k l u v c d i (New a this empty) q live alive x y = absurd (no_last c i empty x)
  apart_new k l u v c d i (Old a own) (New b this empty) live alive x y = absurd (no_last d i empty y)

  pub chains_begun : AreChainsOf base known (e ∷ h) new acs (chains ++ no_chain ∷ [])
  chains_begun = record {
    level = length-append chains (no_chain ∷ []) ∙ ap (λ n. n + 1) are.level ∙ sym (ap (λ ns. suc (length ns)) more_names ∙ ap suc (length-append (names old) (t ∷ [])) ∙ shift);
    each = λ k u c at own live. each_new k u c (place k u c at own) live;
    apart = λ k l u v c d i a b own and live alive. apart_new k l u v c d i (place k u c a own) (place l v d b and) live alive;
    fresh = λ u gone. same_accesses u ∙ are.fresh u (on_path t u (λ b. status_in new u ≡ cond b state.Live (status_in old u) → is_absent_in old u ≡ true)
        (λ s f. absurd (true≢false (sym gone ∙ ap is_absent f))) (λ s f. sym (ap is_absent f) ∙ gone) (sets u));
  }
    where
      shift : suc (length (names old) + 1) ≡ suc (length (names old)) + 1
      shift = omega arith

-- ---- one chain behind another

-- the places and the chains after a chain was put behind the one at p
module _ (tree : States) (is : IsTree tree) (acs : List Access) (known : Known) (chains : List Chain) (p : ℕ) (own : Name) (c0 d : Chain) (ps qs : List PlacedAccess)
    (at : slice_get (places tree) p ≡ Some own) (there : slice_get chains p ≡ Some c0)
    (holds : Holds acs known c0 ps) (more : Holds acs known d qs) (ends_apart : (i : ℕ) → c0.last ≡ Some i → d.last ≡ Some i → ⊥) where
  abbrev longer : List Access
  longer = led acs c0.last d.first

  abbrev after : List Chain
  after = update_at chains p (λ c. joined c d)

  -- a chain stands at p, or is one of the others
  data Either (k : ℕ) (u : Name) (c : Chain) : Type 0 where
    Here : k ≡ p → u ≡ own → c ≡ joined c0 d → Either k u c
    There : (k ≡ p → ⊥) → path_eq own u ≡ false → slice_get chains k ≡ Some c → Either k u c

  either : (k : ℕ) (u : Name) (c : Chain) → slice_get (places tree) k ≡ Some u → slice_get after k ≡ Some c → Either k u c
  either k u c a b = by (nat_eq p k) refl
    where
      w : (x : Chain) × (slice_get chains k ≡ Some x) × (c ≡ cond (nat_eq p k) (joined x d) x)
      w = get_updated chains p (λ y. joined y d) k c b

      by : (t : Bool) → nat_eq p k ≡ t → Either k u c
      by true e =
          let same : p ≡ k = eqb-true p k e in
          let first : w.0 ≡ c0 = ap (λ o. unwrap_or o c0) (sym w.1 ∙ ap (slice_get chains) (sym same) ∙ there) in
          Here (sym same) (same_name u own (slice_get (places tree) k) a (ap (slice_get (places tree)) (sym same) ∙ at))
          (w.2 ∙ ap (λ t. cond t (joined w.0 d) w.0) e ∙ ap (λ x. joined x d) first)
      by false e =
          let apart : p ≡ k → ⊥ = λ s. true≢false (sym (eq-eqb p k s) ∙ e) in
          There (λ s. apart (sym s))
          (on_path own u (λ t. t ≡ false) (λ s. absurd (apart (one_place_each tree is p k own at (a ∙ ap Some (sym s))))) (λ s. refl))
          (w.1 ∙ ap Some (sym (w.2 ∙ ap (λ t. cond t (joined w.0 d) w.0) e)))

  pub joined_holds : Holds longer known (joined c0 d) (ps ++ qs)
  joined_holds = leads_joined acs known c0.first c0.last d.first d.last ps qs holds more ends_apart

  pub aside_holds : (c : Chain) (rs : List PlacedAccess) → Holds acs known c rs → ((i : ℕ) → c0.last ≡ Some i → c.last ≡ Some i → ⊥) → Holds longer known c rs
  aside_holds c rs own_holds apart = leads_aside acs known c0.first c0.last d.first c.first c.last ps rs holds own_holds apart

  -- the last of the longer chain is the last of one of its parts
  pub joined_last : (i : ℕ) → (joined c0 d).last ≡ Some i → (d.last ≡ Some i) ⊎ (c0.last ≡ Some i)
  joined_last i e = by d.last refl
    where
      by : (o : Option ℕ) → d.last ≡ o → (d.last ≡ Some i) ⊎ (c0.last ≡ Some i)
      by None f = inr (sym (ap (λ o. option_or o c0.last) f) ∙ e)
      by (Some j) f = inl (f ∙ sym (ap (λ o. option_or o c0.last) f) ∙ e)

-- ---- an access

reverse_first : {X : Type 0} (x : X) (xs : List X) → reverse (x ∷ xs) ≡ reverse xs ++ x ∷ []
reverse_first x xs = reverse-append (x ∷ []) xs

within : (acs : List Access) (known : Known) (c : Chain) (ps : List PlacedAccess) → Holds acs known c ps → (i : ℕ) → c.last ≡ Some i → i < length acs
within acs known c [] h i at = absurd (true≢false (sym (ap is_some (sym h.1 ∙ at))))
within acs known c (p ∷ ps) h i at =
    let e = last_at acs known c.first None c.last p ps h in
    let same : e.place ≡ i = ap (λ o. unwrap_or o i) (sym e.last ∙ at) in
    let w = slice_get_within acs e.place e.access e.found in
    omega (arith, same, w)

module _ (base : ℕ) (known : Known) (h : History) (e : Entry) (tree : States) (is : IsTree tree) (acs : List Access) (chains : List Chain) (p : ℕ) (t : Name)
    (q : Asked) (r : Reply) (a : Access) (n : ℕ)
    (are : AreChainsOf base known h tree acs chains) (at : slice_get (places tree) p ≡ Some t) (live : is_live_in tree t ≡ true) (does : effect e ≡ Accesses t q r)
    (line : a.line ≡ base + suc (length h)) (asks : Asks known a.asked q) (reply : a.reply ≡ r) (ends : a.next ≡ None)
    (last : n ≡ length acs) (c0 : Chain) (there : slice_get chains p ≡ Some c0) where
  abbrev told : PlacedAccess
  told = record { line = base + suc (length h); asked = q; reply = r }

  abbrev own_accesses : List PlacedAccess
  own_accesses = reverse (accesses_of base h t)

  pushed : (c : Chain) (ps : List PlacedAccess) → Holds acs known c ps → Holds (acs ++ a ∷ []) known c ps
  pushed c ps holds = leads_grown acs (a ∷ []) known known (λ m b h. h) c.first None c.last ps holds

  one_holds : Holds (acs ++ a ∷ []) known (one_access n) (told ∷ [])
  one_holds = (n, a, refl, ap (slice_get (acs ++ a ∷ [])) last ∙ get_last acs a, record { line = line; asked = asks; reply = reply }, (ends, refl))

  own_holds : Holds (acs ++ a ∷ []) known c0 own_accesses
  own_holds = pushed c0 own_accesses (are.each p t c0 at there live)

  before_end : (c : Chain) (ps : List PlacedAccess) → Holds acs known c ps → (i : ℕ) → c.last ≡ Some i → (one_access n).last ≡ Some i → ⊥
  before_end c ps holds i x y =
      let w = within acs known c ps holds i x in
      let z : n ≡ i = ap (λ q. unwrap_or q i) y in
      omega (arith, w, z, last)

  accesses_are : (u : Name) → accesses_of base (e ∷ h) u ≡ cond (path_eq t u) (told ∷ accesses_of base h u) (accesses_of base h u)
  accesses_are u = ap (λ x. with_access u x (base + suc (length h)) (accesses_of base h)) does

  abbrev Spot : ℕ → Name → Chain → Type 0
  Spot = Either tree is (acs ++ a ∷ []) known chains p t c0 (one_access n) own_accesses (told ∷ []) at there own_holds one_holds (before_end c0 own_accesses (are.each p t c0 at there live))

  each_now : (l : ℕ) (u : Name) (c : Chain) → Spot l u c → slice_get (places tree) l ≡ Some u → is_live_in tree u ≡ true
      → Holds (led (acs ++ a ∷ []) c0.last (Some n)) known c (reverse (accesses_of base (e ∷ h) u))
  each_now l u c (Here same this new) b alive =
      let all : accesses_of base (e ∷ h) u ≡ told ∷ accesses_of base h t =
      accesses_are u ∙ ap (λ v. cond (path_eq t v) (told ∷ accesses_of base h v) (accesses_of base h v)) this ∙ ap (λ q. cond q (told ∷ accesses_of base h t) (accesses_of base h t)) (path_eq_self t) in
      subst (λ (x : Chain). Holds (led (acs ++ a ∷ []) c0.last (Some n)) known x (reverse (accesses_of base (e ∷ h) u))) (sym new)
      (subst (λ (ps : List PlacedAccess). Holds (led (acs ++ a ∷ []) c0.last (Some n)) known (joined c0 (one_access n)) ps) (sym (ap (λ (ps : List PlacedAccess). reverse ps) all ∙ reverse_first told (accesses_of base h t)))
      (joined_holds tree is (acs ++ a ∷ []) known chains p t c0 (one_access n) own_accesses (told ∷ []) at there own_holds one_holds (before_end c0 own_accesses (are.each p t c0 at there live))))
  each_now l u c (There apart differ old) b alive =
      let all : accesses_of base (e ∷ h) u ≡ accesses_of base h u = accesses_are u ∙ ap (λ q. cond q (told ∷ accesses_of base h u) (accesses_of base h u)) differ in
      subst (λ (ps : List PlacedAccess). Holds (led (acs ++ a ∷ []) c0.last (Some n)) known c (reverse ps)) (sym all)
      (aside_holds tree is (acs ++ a ∷ []) known chains p t c0 (one_access n) own_accesses (told ∷ []) at there own_holds one_holds (before_end c0 own_accesses (are.each p t c0 at there live))
      c (reverse (accesses_of base h u)) (pushed c (reverse (accesses_of base h u)) (are.each l u c b old alive)) (λ i x y. apart (are.apart l p u t c c0 i b at old there alive live y x)))

  apart_now : (l m : ℕ) (u v : Name) (c d : Chain) (i : ℕ) → Spot l u c → Spot m v d → slice_get (places tree) l ≡ Some u → slice_get (places tree) m ≡ Some v
      → is_live_in tree u ≡ true → is_live_in tree v ≡ true → c.last ≡ Some i → d.last ≡ Some i → l ≡ m
  apart_now l m u v c d i (Here s f g) (Here s2 f2 g2) b b2 w w2 x y = s ∙ sym s2
  apart_now l m u v c d i (There s f g) (There s2 f2 g2) b b2 w w2 x y = are.apart l m u v c d i b b2 g g2 w w2 x y
  apart_now l m u v c d i (Here s f g) (There s2 f2 g2) b b2 w w2 x y =
      absurd (before_end d (reverse (accesses_of base h v)) (are.each m v d b2 g2 w2) i y (sym (ap (λ (q : Chain). q.last) g) ∙ x))
  apart_now l m u v c d i (There s f g) (Here s2 f2 g2) b b2 w w2 x y =
      absurd (before_end c (reverse (accesses_of base h u)) (are.each l u c b g w) i x (sym (ap (λ (q : Chain). q.last) g2) ∙ y))

  spot : (l : ℕ) (u : Name) (c : Chain) → slice_get (places tree) l ≡ Some u → slice_get (update_at chains p (λ q. joined q (one_access n))) l ≡ Some c → Spot l u c
  spot = either tree is (acs ++ a ∷ []) known chains p t c0 (one_access n) own_accesses (told ∷ []) at there own_holds one_holds (before_end c0 own_accesses (are.each p t c0 at there live))

  pub chains_accessed : AreChainsOf base known (e ∷ h) tree (led (acs ++ a ∷ []) c0.last (Some n)) (update_at chains p (λ q. joined q (one_access n)))
  chains_accessed = record {
    level = length_updated chains p (λ q. joined q (one_access n)) ∙ are.level;
    each = λ l u c b f alive. each_now l u c (spot l u c b f) b alive;
    apart = λ l m u v c d i b b2 f f2 alive alive2 x y. apart_now l m u v c d i (spot l u c b f) (spot m v d b2 f2) b b2 alive alive2 x y;
    fresh = λ u gone. accesses_are u ∙ on_path t u (λ q. cond q (told ∷ accesses_of base h u) (accesses_of base h u) ≡ [])
        (λ s. absurd (live_there (status_in tree t) live (ap (is_absent_in tree) s ∙ gone)))
        (λ s. are.fresh u gone);
  }
    where
      live_there : (s : State) → is_live s ≡ true → is_absent s ≡ true → ⊥
      live_there state.Live x y = true≢false (sym y)
      live_there state.Absent x y = true≢false (sym x)
      live_there state.Committed x y = true≢false (sym x)
      live_there state.Aborted x y = true≢false (sym x)

-- ---- a commit

module _ (base : ℕ) (known : Known) (h : History) (e : Entry) (old new : States) (is : IsTree old) (acs : List Access) (chains : List Chain) (k0 p : ℕ) (t : Name)
    (are : AreChainsOf base known h old acs chains) (at0 : slice_get (places old) k0 ≡ Some t) (at : slice_get (places old) p ≡ Some (parent t)) (named : 0 < length t)
    (live : is_live_in old t ≡ true) (above : is_live_in old (parent t) ≡ true) (does : effect e ≡ Commits t)
    (same_names : names new ≡ names old) (sets : (u : Name) → status_in new u ≡ cond (path_eq t u) state.Committed (status_in old u))
    (c0 d : Chain) (there : slice_get chains p ≡ Some c0) (own : slice_get chains k0 ≡ Some d) where
  abbrev theirs : List PlacedAccess
  theirs = reverse (accesses_of base h (parent t))

  abbrev mine : List PlacedAccess
  mine = reverse (accesses_of base h t)

  two_places : k0 ≡ p → ⊥
  two_places same =
      let alike : t ≡ parent t = same_name t (parent t) (slice_get (places old) k0) at0 (ap (slice_get (places old)) same ∙ at) in
      let shorter = length-parent t in
      omega (arith, named, shorter, ap (λ (u : Name). length u) alike)

  ends_apart : (i : ℕ) → c0.last ≡ Some i → d.last ≡ Some i → ⊥
  ends_apart i x y = two_places (are.apart k0 p t (parent t) d c0 i at0 at own there live above y x)

  holds0 : Holds acs known c0 theirs
  holds0 = are.each p (parent t) c0 at there above

  more0 : Holds acs known d mine
  more0 = are.each k0 t d at0 own live

  accesses_now : (u : Name) → accesses_of base (e ∷ h) u ≡ cond (path_eq (parent t) u) (accesses_of base h t ++ accesses_of base h u) (accesses_of base h u)
  accesses_now u = ap (λ x. with_access u x (base + suc (length h)) (accesses_of base h)) does

  still : (u : Name) → is_live_in new u ≡ true → (path_eq t u ≡ false) × (is_live_in old u ≡ true)
  still u alive = by (path_eq t u) refl (sym (ap is_live (sets u)) ∙ alive)
    where
      by : (b : Bool) → path_eq t u ≡ b → is_live (cond b state.Committed (status_in old u)) ≡ true → (path_eq t u ≡ false) × (is_live_in old u ≡ true)
      by true f g = absurd (true≢false (sym g))
      by false f g = (f, g)

  was_at : (k : ℕ) (u : Name) → slice_get (places new) k ≡ Some u → slice_get (places old) k ≡ Some u
  was_at k u a = ap (λ ns. slice_get ([] ∷ ns) k) (sym same_names) ∙ a

  abbrev Point : ℕ → Name → Chain → Type 0
  Point = Either old is acs known chains p (parent t) c0 d theirs mine at there holds0 more0 ends_apart

  point : (l : ℕ) (u : Name) (c : Chain) → slice_get (places old) l ≡ Some u → slice_get (update_at chains p (λ q. joined q d)) l ≡ Some c → Point l u c
  point = either old is acs known chains p (parent t) c0 d theirs mine at there holds0 more0 ends_apart

  each_then : (l : ℕ) (u : Name) (c : Chain) → Point l u c → slice_get (places old) l ≡ Some u → is_live_in old u ≡ true
      → Holds (led acs c0.last d.first) known c (reverse (accesses_of base (e ∷ h) u))
  each_then l u c (Here same this now) b alive =
      let all : accesses_of base (e ∷ h) u ≡ accesses_of base h t ++ accesses_of base h (parent t) =
      accesses_now u ∙ ap (λ v. cond (path_eq (parent t) v) (accesses_of base h t ++ accesses_of base h v) (accesses_of base h v)) this
      ∙ ap (λ q. cond q (accesses_of base h t ++ accesses_of base h (parent t)) (accesses_of base h (parent t))) (path_eq_self (parent t)) in
      subst (λ (x : Chain). Holds (led acs c0.last d.first) known x (reverse (accesses_of base (e ∷ h) u))) (sym now)
      (subst (λ (ps : List PlacedAccess). Holds (led acs c0.last d.first) known (joined c0 d) ps)
      (sym (ap (λ (ps : List PlacedAccess). reverse ps) all ∙ reverse-append (accesses_of base h t) (accesses_of base h (parent t))))
      (joined_holds old is acs known chains p (parent t) c0 d theirs mine at there holds0 more0 ends_apart))
  each_then l u c (There apart differ kept) b alive =
      let all : accesses_of base (e ∷ h) u ≡ accesses_of base h u = accesses_now u ∙ ap (λ q. cond q (accesses_of base h t ++ accesses_of base h u) (accesses_of base h u)) differ in
      subst (λ (ps : List PlacedAccess). Holds (led acs c0.last d.first) known c (reverse ps)) (sym all)
      (aside_holds old is acs known chains p (parent t) c0 d theirs mine at there holds0 more0 ends_apart
      c (reverse (accesses_of base h u)) (are.each l u c b kept alive) (λ i x y. apart (are.apart l p u (parent t) c c0 i b at kept there alive above y x)))

  -- the longer chain ends where none of the others does
  alone : (m : ℕ) (v : Name) (f : Chain) (i : ℕ) → (m ≡ p → ⊥) → path_eq t v ≡ false → slice_get chains m ≡ Some f → slice_get (places old) m ≡ Some v → is_live_in old v ≡ true
      → (joined c0 d).last ≡ Some i → f.last ≡ Some i → ⊥
  alone m v f i apart other kept b alive x y = by (joined_last old is acs known chains p (parent t) c0 d theirs mine at there holds0 more0 ends_apart i x)
    where
      by : (d.last ≡ Some i) ⊎ (c0.last ≡ Some i) → ⊥
      by (inl z) =
          let same : m ≡ k0 = are.apart m k0 v t f d i b at0 kept own alive live y z in
          let alike : v ≡ t = same_name v t (slice_get (places old) m) b (ap (slice_get (places old)) same ∙ at0) in
          true≢false (sym (ap (path_eq t) alike ∙ path_eq_self t) ∙ other)
      by (inr z) = apart (are.apart m p v (parent t) f c0 i b at kept there alive above y z)

  apart_then : (l m : ℕ) (u v : Name) (c f : Chain) (i : ℕ) → Point l u c → Point m v f → slice_get (places old) l ≡ Some u → slice_get (places old) m ≡ Some v
      → is_live_in new u ≡ true → is_live_in new v ≡ true → c.last ≡ Some i → f.last ≡ Some i → l ≡ m
  apart_then l m u v c f i (Here s g j) (Here s2 g2 j2) b b2 w w2 x y = s ∙ sym s2
  apart_then l m u v c f i (There s g j) (There s2 g2 j2) b b2 w w2 x y = are.apart l m u v c f i b b2 j j2 (still u w).1 (still v w2).1 x y
  apart_then l m u v c f i (Here s g j) (There s2 g2 j2) b b2 w w2 x y =
      absurd (alone m v f i s2 (still v w2).0 j2 b2 (still v w2).1 (sym (ap (λ (q : Chain). q.last) j) ∙ x) y)
  apart_then l m u v c f i (There s g j) (Here s2 g2 j2) b b2 w w2 x y =
      absurd (alone l u c i s (still u w).0 j b (still u w).1 (sym (ap (λ (q : Chain). q.last) j2) ∙ y) x)

  pub chains_committed : AreChainsOf base known (e ∷ h) new (led acs c0.last d.first) (update_at chains p (λ q. joined q d))
  chains_committed = record {
    level = length_updated chains p (λ q. joined q d) ∙ are.level ∙ ap (λ ns. suc (length ns)) (sym same_names);
    each = λ l u c b f alive. each_then l u c (point l u c (was_at l u b) f) (was_at l u b) (still u alive).1;
    apart = λ l m u v c f i b b2 x y alive alive2. apart_then l m u v c f i (point l u c (was_at l u b) x) (point m v f (was_at m v b2) y) (was_at l u b) (was_at m v b2) alive alive2;
    fresh = λ u gone. accesses_now u ∙ on_path (parent t) u (λ q. cond q (accesses_of base h t ++ accesses_of base h u) (accesses_of base h u) ≡ [])
        (λ s. absurd (live_there (status_in old (parent t)) above (ap (is_absent_in old) s ∙ was_gone u gone)))
        (λ s. are.fresh u (was_gone u gone));
  }
    where
      live_there : (s : State) → is_live s ≡ true → is_absent s ≡ true → ⊥
      live_there state.Live x y = true≢false (sym y)
      live_there state.Absent x y = true≢false (sym x)
      live_there state.Committed x y = true≢false (sym x)
      live_there state.Aborted x y = true≢false (sym x)

      was_gone : (u : Name) → is_absent_in new u ≡ true → is_absent_in old u ≡ true
      was_gone u gone = by (path_eq t u) (sym (ap is_absent (sets u)) ∙ gone)
        where
          by : (b : Bool) → is_absent (cond b state.Committed (status_in old u)) ≡ true → is_absent (status_in old u) ≡ true
          by true g = absurd (true≢false (sym g))
          by false g = g

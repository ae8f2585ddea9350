-- Accesses, one behind the other, where one is made to lead to another.
use Rattle.std.proofs.Common.{◌≡◌, ℕ, zero, suc, ◌<◌, ◌≤◌, true, false, List, [], ◌∷◌, ◌++◌, length, get_or, set, take, Option, Some, None, is_some, unwrap_or, refl, sym, ap, subst, ◌∙◌, true≢false, arith}
use Rattle.std.specs.Prelude.{slice_get}
use Rattle.std.specs.Option.{option_or}
use Rattle.txn_tree.specs.Linked.{update_at}
use Rattle.txn_tree.proofs.Exports.{get_front}
use Rattle.report_check.specs.Serving.{PlacedAccess}
use Rattle.serial_spec.specs.declared.target.Asked.{Asked}
use Rattle.serial_spec.specs.declared.target.Asked.TheVariants as asked
use Rattle.report_tables.specs.Chained.{Asks, IsPlaced, Known, Leads, chain_in, joined, leading_to, led}
use Rattle.report_tables.specs.declared.chains.Access.{Access}
use Rattle.report_tables.specs.declared.chains.Chain.{Chain}
use Rattle.report_tables.specs.declared.chains.ByNumber.{ByNumber}
use Rattle.report_tables.specs.declared.chains.ByNumber.TheVariants.{At, Over}

-- ---- an item changed in place

pub changed_within : {X : Type 0} (f : X → X) (xs : List X) (p : ℕ) (d : X) → p < length xs → set xs p (f (get_or xs p d)) ≡ update_at xs p f
changed_within f [] p d within = absurd (omega (arith, within))
changed_within f (x ∷ xs) zero d within = refl
changed_within f (x ∷ xs) (suc p) d within = ap (λ ys. x ∷ ys) (changed_within f xs p d (omega (arith, within)))

pub changed_past : {X : Type 0} (f : X → X) (xs : List X) (p : ℕ) → length xs ≤ p → xs ≡ update_at xs p f
changed_past f [] p past = refl
changed_past f (x ∷ xs) zero past = absurd (omega (arith, past))
changed_past f (x ∷ xs) (suc p) past = ap (λ ys. x ∷ ys) (changed_past f xs p (omega (arith, past)))

pub found_within : {X : Type 0} (xs : List X) (p : ℕ) (x d : X) → slice_get xs p ≡ Some x → x ≡ get_or xs p d
found_within [] p x d at = cc
found_within (y ∷ xs) zero x d at = cc
found_within (y ∷ xs) (suc p) x d at = found_within xs p x d at

pub changed_here : {X : Type 0} (xs : List X) (p : ℕ) (f : X → X) (x : X) → slice_get xs p ≡ Some x → slice_get (update_at xs p f) p ≡ Some (f x)
changed_here [] p f x at = cc
changed_here (y ∷ xs) zero f x at = ap (λ z. Some (f z)) at'
  where
    at' : y ≡ x
    at' = cc
changed_here (y ∷ xs) (suc p) f x at = changed_here xs p f x at

pub changed_elsewhere : {X : Type 0} (xs : List X) (p n : ℕ) (f : X → X) → (p ≡ n → ⊥) → slice_get (update_at xs p f) n ≡ slice_get xs n
changed_elsewhere [] p n f other = refl
changed_elsewhere (y ∷ xs) zero zero f other = absurd (other refl)
changed_elsewhere (y ∷ xs) zero (suc n) f other = refl
changed_elsewhere (y ∷ xs) (suc p) zero f other = refl
changed_elsewhere (y ∷ xs) (suc p) (suc n) f other = changed_elsewhere xs p n f (λ e. other (ap suc e))

-- ---- as the code does it

pub lead_within : (acs : List Access) (p : ℕ) (n : Option ℕ) (d : Access) → p < length acs → set acs p (leading_to n (get_or acs p d)) ≡ update_at acs p (leading_to n)
lead_within acs p n d within = changed_within (leading_to n) acs p d within

pub lead_both : (acs : List Access) (from to : Option ℕ) (i : ℕ) → from ≡ Some i → is_some to ≡ true → update_at acs i (leading_to to) ≡ led acs from to
lead_both acs from None i at some = absurd (true≢false (sym some))
lead_both acs from (Some n) i at some = ap (λ o. led acs o (Some n)) (sym at)

pub lead_none : (acs : List Access) (from to : Option ℕ) → is_some to ≡ false → acs ≡ led acs from to
lead_none acs None to none = refl
lead_none acs (Some i) None none = refl
lead_none acs (Some i) (Some n) none = absurd (true≢false none)

pub chain_within : (cs : List Chain) (p : ℕ) (c d : Chain) → p < length cs → set cs p (joined (chain_in (slice_get cs p)) d) ≡ update_at cs p (λ c. joined c d)
chain_within [] p c d within = absurd (omega (arith, within))
chain_within (x ∷ cs) zero c d within = refl
chain_within (x ∷ cs) (suc p) c d within = ap (λ ys. x ∷ ys) (chain_within cs p c d (omega (arith, within)))

-- ---- what is led to

same_some : {X : Type 0} (x y : X) → Some x ≡ Some y → x ≡ y
same_some x y e = ap (λ o. unwrap_or o x) e

-- what stands at the numbers is asked with more behind too
abbrev pub AsksStill : Known → Known → Type 0
AsksStill known more = (n : ByNumber) (a : Asked) → Asks known n a → Asks more n a

pub keys_grown : (ks gs more : List (List ℕ)) → AsksStill (record { keys = ks; groups = gs }) (record { keys = ks ++ more; groups = gs })
keys_grown ks gs more (At i o) (asked.At k q) h = (get_front ks more i k h.0, h.1)
keys_grown ks gs more (At i o) (asked.Over g) h = h
keys_grown ks gs more (Over i) (asked.At k q) h = h
keys_grown ks gs more (Over i) (asked.Over g) h = h

pub groups_grown : (ks gs more : List (List ℕ)) → AsksStill (record { keys = ks; groups = gs }) (record { keys = ks; groups = gs ++ more })
groups_grown ks gs more (At i o) (asked.At k q) h = h
groups_grown ks gs more (At i o) (asked.Over g) h = h
groups_grown ks gs more (Over i) (asked.At k q) h = h
groups_grown ks gs more (Over i) (asked.Over g) h = get_front gs more i g h

pub placed_grown : (known more : Known) (a : Access) (p : PlacedAccess) → AsksStill known more → IsPlaced known a p → IsPlaced more a p
placed_grown known more a p still is = record { line = is.line; asked = still a.asked p.asked is.asked; reply = is.reply }

-- keys, groups and accesses behind the others change nothing
pub leads_grown : (acs others : List Access) (known more : Known) → AsksStill known more → (at b l : Option ℕ) (ps : List PlacedAccess) → Leads acs known at b l ps → Leads (acs ++ others) more at b l ps
leads_grown acs others known more still at b l [] h = h
leads_grown acs others known more still at b l (p ∷ ps) h =
    (h.0, h.1, h.2, get_front acs others h.0 h.1 h.3, placed_grown known more h.1 p still h.4, leads_grown acs others known more still h.1.next (Some h.0) l ps h.5)

-- nothing is led to from nowhere
nowhere : (acs : List Access) (known : Known) (b l : Option ℕ) (ps : List PlacedAccess) → Leads acs known None b l ps → (l ≡ b) × (ps ≡ [])
nowhere acs known b l [] h = (h.1, refl)
nowhere acs known b l (p ∷ ps) h = cc

-- from somewhere, it does not matter what stands before
behind : (acs : List Access) (known : Known) (n : ℕ) (b b2 l : Option ℕ) (ps : List PlacedAccess) → Leads acs known (Some n) b l ps → Leads acs known (Some n) b2 l ps
behind acs known n b b2 l [] h = cc
behind acs known n b b2 l (p ∷ ps) h = h

-- the last access leads nowhere
pub record IsLastAt (acs : List Access) (l : Option ℕ) : Type 0 where
  pub place : ℕ
  pub access : Access
  pub last : l ≡ Some place
  pub found : slice_get acs place ≡ Some access
  pub ends : access.next ≡ None

pub last_at : (acs : List Access) (known : Known) (at b l : Option ℕ) (p : PlacedAccess) (ps : List PlacedAccess) → Leads acs known at b l (p ∷ ps) → IsLastAt acs l
last_at acs known at b l p [] h = record { place = h.0; access = h.1; last = h.5.1; found = h.3; ends = h.5.0 }
last_at acs known at b l p (q ∷ ps) h = last_at acs known h.1.next (Some h.0) l q ps h.5

module _ (acs : List Access) (known : Known) (j : ℕ) (x : Access) (found : slice_get acs j ≡ Some x) (ends : x.next ≡ None) where
  is_same : (i : ℕ) (a : Access) → slice_get acs i ≡ Some a → i ≡ j → a ≡ x
  is_same i a at same = same_some a x (sym at ∙ ap (slice_get acs) same ∙ found)

  ended : (i : ℕ) (a : Access) → slice_get acs i ≡ Some a → i ≡ j → a.next ≡ None
  ended i a at same = ap (λ (y : Access). y.next) (is_same i a at same) ∙ ends

  -- what does not end there is as it was
  pub leads_beside : (f : Access → Access) (at b l : Option ℕ) (ps : List PlacedAccess) → (l ≡ Some j → ⊥) → Leads acs known at b l ps → Leads (update_at acs j f) known at b l ps
  leads_beside f at b l [] apart h = h
  leads_beside f at b l (p ∷ ps) apart h =
      let other : j ≡ h.0 → ⊥ = λ e.
      let none = ended h.0 h.1 h.3 (sym e) in
      let rest = nowhere acs known (Some h.0) l ps (subst (λ (o : Option ℕ). Leads acs known o (Some h.0) l ps) none h.5) in
      apart (rest.0 ∙ ap Some (sym e)) in
      (h.0, h.1, h.2, changed_elsewhere acs j h.0 f other ∙ h.3, h.4, leads_beside f h.1.next (Some h.0) l ps apart h.5)

  -- and what ends there goes on
  pub leads_on : (n : ℕ) (at b l : Option ℕ) (p : PlacedAccess) (ps qs : List PlacedAccess) → Leads acs known at b (Some j) (p ∷ ps)
      → Leads (update_at acs j (leading_to (Some n))) known (Some n) (Some j) l qs → Leads (update_at acs j (leading_to (Some n))) known at b l (p ∷ (ps ++ qs))
  leads_on n at b l p [] qs h more =
      let same : j ≡ h.0 = same_some j h.0 h.5.1 in
      let new = changed_here acs h.0 (leading_to (Some n)) h.1 h.3 in (
        h.0,
        leading_to (Some n) h.1,
        h.2,
        ap (λ k. slice_get (update_at acs k (leading_to (Some n))) h.0) same ∙ new,
        record { line = h.4.line; asked = h.4.asked; reply = h.4.reply },
        subst (λ k. Leads (update_at acs j (leading_to (Some n))) known (Some n) (Some k) l qs) same more,
      )
  leads_on n at b l p (q ∷ ps) qs h more =
      let other : j ≡ h.0 → ⊥ = λ e.
      let none = ended h.0 h.1 h.3 (sym e) in
      absurd (true≢false (sym (ap is_some (sym none ∙ h.5.2)))) in
      (h.0, h.1, h.2, changed_elsewhere acs j h.0 (leading_to (Some n)) other ∙ h.3, h.4, leads_on n h.1.next (Some h.0) l q ps qs h.5 more)

or_none : (o : Option ℕ) → option_or o None ≡ o
or_none None = refl
or_none (Some n) = refl

led_nowhere : (acs : List Access) (o : Option ℕ) → led acs o None ≡ acs
led_nowhere acs None = refl
led_nowhere acs (Some i) = refl

append_none : {X : Type 0} (xs : List X) → xs ++ [] ≡ xs
append_none [] = refl
append_none (x ∷ xs) = ap (λ ys. x ∷ ys) (append_none xs)

-- one chain behind another that ends elsewhere
pub leads_joined : (acs : List Access) (known : Known) (cf cl df dl : Option ℕ) (ps qs : List PlacedAccess) → Leads acs known cf None cl ps → Leads acs known df None dl qs
    → ((i : ℕ) → cl ≡ Some i → dl ≡ Some i → ⊥) → Leads (led acs cl df) known (option_or cf df) None (option_or dl cl) (ps ++ qs)
leads_joined acs known cf cl df dl [] qs h g apart = rw (h.0, h.1, or_none dl) g
leads_joined acs known cf cl df dl (p ∷ ps) [] h g apart =
    let all : List PlacedAccess = (p ∷ ps) ++ [] in
    subst (λ (z : List Access). Leads z known (option_or cf df) None (option_or dl cl) all) (sym (ap (led acs cl) g.0 ∙ led_nowhere acs cl))
    (subst (λ (o : Option ℕ). Leads acs known o None (option_or dl cl) all) (sym (ap (option_or cf) g.0 ∙ or_none cf))
    (subst (λ (o : Option ℕ). Leads acs known cf None o all) (sym (ap (λ o. option_or o cl) g.1))
    (subst (λ (xs : List PlacedAccess). Leads acs known cf None cl xs) (sym (append_none (p ∷ ps))) h)))
leads_joined acs known cf cl df dl (p ∷ ps) (q ∷ qs) h g apart =
    let e = last_at acs known cf None cl p ps h in
    let f = last_at acs known df None dl q qs g in
    let j = e.place in
    let n = g.0 in
    let own : Leads acs known cf None (Some j) (p ∷ ps) = subst (λ (o : Option ℕ). Leads acs known cf None o (p ∷ ps)) e.last h in
    let more : Leads (update_at acs j (leading_to (Some n))) known df None dl (q ∷ qs) =
    leads_beside acs known j e.access e.found e.ends (leading_to (Some n)) df None dl (q ∷ qs) (apart j e.last) g in
    let joined_on = leads_on acs known j e.access e.found e.ends n cf None dl p ps (q ∷ qs) own
    (behind (update_at acs j (leading_to (Some n))) known n None (Some j) dl (q ∷ qs) (subst (λ (o : Option ℕ). Leads (update_at acs j (leading_to (Some n))) known o None dl (q ∷ qs)) g.2 more)) in
    let all : List PlacedAccess = (p ∷ ps) ++ (q ∷ qs) in
    subst (λ (z : List Access). Leads z known (option_or cf df) None (option_or dl cl) all) (sym (ap (λ o. led acs o df) e.last ∙ ap (led acs (Some j)) g.2))
    (subst (λ (o : Option ℕ). Leads (update_at acs j (leading_to (Some n))) known o None (option_or dl cl) all) (sym (ap (λ o. option_or o df) h.2 ∙ sym h.2))
    (subst (λ (o : Option ℕ). Leads (update_at acs j (leading_to (Some n))) known cf None o all) (sym (ap (λ o. option_or o cl) f.last ∙ sym f.last)) joined_on))

-- a chain that ends elsewhere than one that goes on is as it was
pub leads_aside : (acs : List Access) (known : Known) (cf cl df bf bl : Option ℕ) (ps rs : List PlacedAccess) → Leads acs known cf None cl ps → Leads acs known bf None bl rs
    → ((i : ℕ) → cl ≡ Some i → bl ≡ Some i → ⊥) → Leads (led acs cl df) known bf None bl rs
leads_aside acs known cf cl df bf bl [] rs h g apart = rw h.1 g
leads_aside acs known cf cl None bf bl (p ∷ ps) rs h g apart = rw (led_nowhere acs cl) g
leads_aside acs known cf cl (Some n) bf bl (p ∷ ps) rs h g apart =
    let e = last_at acs known cf None cl p ps h in
    rw e.last (leads_beside acs known e.place e.access e.found e.ends (leading_to (Some n)) bf None bl rs (apart e.place e.last) g)

-- a vector that was written to as a slice has what was written
pub written : {X : Type 0} (xs ys : List X) (n : ℕ) → n ≡ length xs → take n (xs ++ ys) ≡ xs
written [] ys zero e = refl
written [] ys (suc n) e = absurd (omega (arith, e))
written (x ∷ xs) ys zero e = absurd (omega (arith, e))
written (x ∷ xs) ys (suc n) e = ap (λ zs. x ∷ zs) (written xs ys n (omega (arith, e)))

-- What a child has, handed up key by key.
use Rattle.std.proofs.Common.{◌≡◌, ℕ, Bool, true, false, cond, not, nat_eq, ◌&&◌, ◌||◌, List, [], ◌∷◌, ◌++◌, take, Option, Some, None, refl, sym, ap, subst, ◌∙◌}
use Rattle.std.specs.Prelude.{IfSome, IsFalse, IsTrue}
use Rattle.std.specs.List.{list_any}
use Rattle.std.proofs.lemmas.Bool.{eq-eqb}
use Rattle.txn_names.specs.Path.{label_eq}
use Rattle.txn_names.proofs.Exports.{on_label, on_test}
use Rattle.txn_cells.specs.Cells.{handed_up, is_it, merged}
use Rattle.txn_cells.proofs.Puts.{on_number}
use Rattle.txn_cells.proofs.Reserving.{among_more}

-- handing up once more where all has been handed up changes nothing
again : {V : Type 0} (inherited : V → Option V → V) (a x y : Bool) (childs own now_childs now_own : Option V) → now_childs ≡ cond a None childs
    → now_own ≡ cond a (cond x None (cond y (merged inherited childs own) own)) own
    → cond x None (cond y (merged inherited now_childs now_own) now_own) ≡ cond (a || true) (cond x None (cond y (merged inherited childs own) own)) own
again inherited true true y childs own now_childs now_own e f = refl
again inherited true false true childs own now_childs now_own e f = ap (λ o. merged inherited o now_own) e ∙ f
again inherited true false false childs own now_childs now_own e f = f
again inherited false true y childs own now_childs now_own e f = refl
again inherited false false true childs own now_childs now_own e f = ap (λ o. merged inherited o now_own) e ∙ ap (merged inherited childs) f
again inherited false false false childs own now_childs now_own e f = f

or_false : {X : Type 0} (a : Bool) (x y : X) → cond a x y ≡ cond (a || false) x y
or_false true x y = refl
or_false false x y = refl

module _ {V : Type 0} (inherited : V → Option V → V) (old : ℕ → List ℕ → Option V) (child : ℕ) (parent : Option ℕ) where
  abbrev handed : ℕ → List ℕ → Option V
  handed u q = handed_up inherited old child parent u q

  module _ (keys : List (List ℕ)) (k : List ℕ) (now next : ℕ → List ℕ → Option V) (is : (u : ℕ) (q : List ℕ) → now u q ≡ cond (list_any (label_eq q) keys) (handed u q) (old u q)) where
    childs : (q : List ℕ) → now child q ≡ cond (list_any (label_eq q) keys) None (old child q)
    childs q =
        is child q
        ∙ ap (λ b. cond (list_any (label_eq q) keys) (cond b None (cond (is_it parent child) (merged inherited (old child q) (old child q)) (old child q))) (old child q)) (eq-eqb child child refl)

    pub contents_next : ((u : ℕ) (q : List ℕ) → next u q ≡ cond (label_eq k q) (handed_up inherited now child parent u q) (now u q))
        → (u : ℕ) (q : List ℕ) → next u q ≡ cond (list_any (label_eq q) (keys ++ k ∷ [])) (handed u q) (old u q)
    contents_next step u q =
        step u q
        ∙ on_label k q (λ b. cond b (handed_up inherited now child parent u q) (now u q) ≡ cond (list_any (label_eq q) keys || b) (handed u q) (old u q))
        (λ _. again inherited (list_any (label_eq q) keys) (nat_eq child u) (is_it parent u) (old child q) (old u q) (now child q) (now u q) (childs q) (is u q))
        (λ _. is u q ∙ or_false (list_any (label_eq q) keys) (handed u q) (old u q))
        ∙ ap (λ b. cond b (handed u q) (old u q)) (sym (among_more q k keys))

without_next : (t h a b : Bool) → (not (t && b) && (not (t && a) && h)) ≡ (not (t && (a || b)) && h)
without_next true h true true = refl
without_next true h true false = refl
without_next true h false true = refl
without_next true h false false = refl
without_next false h a b = refl

pub places_next : (old now next : ℕ → List ℕ → Bool) (child : ℕ) (keys : List (List ℕ)) (k : List ℕ)
    → ((u : ℕ) (q : List ℕ) → now u q ≡ (not (nat_eq child u && list_any (label_eq q) keys) && old u q))
    → ((u : ℕ) (q : List ℕ) → next u q ≡ (not (nat_eq child u && label_eq k q) && now u q))
    → (u : ℕ) (q : List ℕ) → next u q ≡ (not (nat_eq child u && list_any (label_eq q) (keys ++ k ∷ [])) && old u q)
places_next old now next child keys k is step u q =
    step u q
    ∙ ap (λ h. not (nat_eq child u && label_eq k q) && h) (is u q)
    ∙ without_next (nat_eq child u) (old u q) (list_any (label_eq q) keys) (label_eq k q)
    ∙ ap (λ b. not (nat_eq child u && b) && old u q) (sym (among_more q k keys))

-- ---- at all keys of the child

-- where the child has nothing nothing changes
nothing_up : {V : Type 0} (inherited : V → Option V → V) (y : Bool) (childs own : Option V) → childs ≡ None → cond y (merged inherited childs own) own ≡ own
nothing_up inherited true childs own e = ap (λ o. merged inherited o own) e
nothing_up inherited false childs own e = refl

pub handed_all : {V : Type 0} (inherited : V → Option V → V) (old : ℕ → List ℕ → Option V) (child : ℕ) (heir parent : Option ℕ) (among : List ℕ → Bool)
    → ((q : List ℕ) → among q ≡ false → old child q ≡ None) → ((u : ℕ) → nat_eq child u ≡ false → is_it heir u ≡ is_it parent u)
    → (u : ℕ) (q : List ℕ) → cond (among q) (handed_up inherited old child heir u q) (old u q) ≡ handed_up inherited old child parent u q
handed_all inherited old child heir parent among none same u q =
    on_test (among q) (λ b. cond b (handed_up inherited old child heir u q) (old u q) ≡ handed_up inherited old child parent u q)
    (λ _. on_number child u (λ x. cond x None (cond (is_it heir u) (merged inherited (old child q) (old u q)) (old u q)) ≡ cond x None (cond (is_it parent u) (merged inherited (old child q) (old u q)) (old u q)))
    (λ _. refl)
    (λ other. ap (λ y. cond y (merged inherited (old child q) (old u q)) (old u q)) (same u other)))
    (λ away. on_number child u (λ x. old u q ≡ cond x None (cond (is_it parent u) (merged inherited (old child q) (old u q)) (old u q)))
    (λ e. subst (λ (v : ℕ). old v q ≡ None) e (none q away))
    (λ _. sym (nothing_up inherited (is_it parent u) (old child q) (old u q) (none q away))))

not_itself : (a : Bool) → (not (true && a) && a) ≡ false
not_itself true = refl
not_itself false = refl

-- the child has no place any more
pub none_left : (old : ℕ → List ℕ → Bool) (child : ℕ) (among : List ℕ → Bool) → ((q : List ℕ) → old child q ≡ among q)
    → (u : ℕ) (q : List ℕ) → (not (nat_eq child u && among q) && old u q) ≡ (not (nat_eq child u) && old u q)
none_left old child among each u q =
    on_number child u (λ b. (not (b && among q) && old u q) ≡ (not b && old u q))
    (λ e. subst (λ (v : ℕ). (not (true && among q) && old v q) ≡ false) e (ap (λ b. not (true && among q) && b) (each q) ∙ not_itself (among q)))
    (λ _. refl)

-- the parent has a place at the next key
pub parents_there : (old now : ℕ → List ℕ → Bool) (child : ℕ) (keys : List (List ℕ)) (n : ℕ) (k : List ℕ) (parent : Option ℕ) → IfSome parent (λ p. IsFalse (nat_eq child p))
    → IfSome parent (λ p. (q : List ℕ) → IsTrue (list_any (label_eq q) keys) → IsTrue (old p q))
    → ((u : ℕ) (q : List ℕ) → now u q ≡ (not (nat_eq child u && list_any (label_eq q) (take n keys)) && old u q))
    → list_any (label_eq k) keys ≡ true → IfSome parent (λ p. IsTrue (now p k))
parents_there old now child keys n k None other places is among = tt
parents_there old now child keys n k (Some p) other places is among =
    is p k ∙ ap (λ b. not (b && list_any (label_eq k) (take n keys)) && old p k) other ∙ places k among

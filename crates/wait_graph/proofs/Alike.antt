-- Lists of edges by which the same wait for the same.
use Rattle.std.proofs.Common.{◌≡◌, ℕ, ◌+◌, nat_eq, Bool, true, false, ◌&&◌, ◌||◌, cond, filter, map, List, [], ◌∷◌, ◌++◌, take, Option, Some, None, is_some, refl, sym, ap, ◌∙◌}
use Rattle.std.specs.Cmp.{both_ways}
use Rattle.std.specs.Prelude.{slice_get, IfNone, IfSome}
use Rattle.std.specs.List.{list_any}
use Rattle.std.proofs.lemmas.Bool.{eq-eqb, eqb-true, false≢true, true≢false}
use Rattle.std.proofs.lemmas.List.Folds.{list_any-append}
use Rattle.serial_spec.proofs.Exports.{take_next}
use Rattle.txn_tree.specs.States.{States}
use Rattle.wait_cycles.specs.Cycles.{IsCycle, IsLastOn, Pairs, WaitInTurn, waits_in}
use Rattle.wait_cycles.specs.Waiting.{wait_in}
use Rattle.wait_cycles.specs.declared.waits.Wait.{Wait}
use Rattle.wait_graph.specs.Edges.{AreAlike, Keeps, is_held_up, edges_of, edges_from, waits_for_in}
use Rattle.wait_graph.proofs.HeldUp.{edges_next}

abbrev is_it : ℕ → ℕ → ℕ × ℕ → Bool
is_it a b p = nat_eq p.0 a && nat_eq p.1 b

pub joined : (ps qs : Pairs) (a b : ℕ) → waits_in (ps ++ qs) a b ≡ (waits_in ps a b || waits_in qs a b)
joined ps qs a b = list_any-append (is_it a b) ps qs

-- ---- cycles

turns_alike : (ps qs : Pairs) → AreAlike ps qs → (a : ℕ) (xs : List ℕ) (b : ℕ) → WaitInTurn ps a xs b → WaitInTurn qs a xs b
turns_alike ps qs same a [] b h = sym (same a b) ∙ h
turns_alike ps qs same a (x ∷ xs) b h = (sym (same a x) ∙ h.0, turns_alike ps qs same x xs b h.1)

pub cycle_alike : (ps qs : Pairs) → AreAlike ps qs → (xs : List ℕ) → IsCycle ps xs → IsCycle qs xs
cycle_alike ps qs same [] h = h
cycle_alike ps qs same (a ∷ xs) h = (h.0, turns_alike ps qs same a xs a h.1)

pub last_alike : (ps qs : Pairs) → AreAlike ps qs → (a : ℕ) → IsLastOn ps a → IsLastOn qs a
last_alike ps qs same a l = record {
  through = (l.through.0, cycle_alike ps qs same l.through.0 l.through.1, l.through.2);
  last = λ ys cycle b member. l.last ys (cycle_alike qs ps (λ x y. sym (same x y)) ys cycle) b member;
}

-- ---- the edges of one that waits

module _ (tree : States) (keeps : Keeps) (w : Wait) where
  -- of those that wait, it waits for whom it waits for
  pub with_tells : (vs : List Wait) (a b : ℕ) → waits_in (edges_from tree keeps vs w) a b ≡ (nat_eq w.txn a && (is_some (wait_in vs b) && waits_for_in tree keeps w b))
  with_tells [] a b = sym (none (nat_eq w.txn a))
    where
      none : (x : Bool) → (x && false) ≡ false
      none true = refl
      none false = refl
  with_tells (v ∷ vs) a b = by (waits_for_in tree keeps w v.txn) (nat_eq v.txn b) refl refl (with_tells vs a b)
    where
      pair : Wait → ℕ × ℕ
      pair u = (w.txn, u.txn)

      rest : List Wait
      rest = filter (λ u. waits_for_in tree keeps w u.txn) vs

      same : (f : Bool) → waits_for_in tree keeps w v.txn ≡ f → nat_eq v.txn b ≡ true → waits_for_in tree keeps w b ≡ f
      same f is e = ap (waits_for_in tree keeps w) (sym (eqb-true v.txn b e)) ∙ is

      here : (x s f : Bool) → f ≡ true → ((x && true) || (x && (s && f))) ≡ (x && f)
      here true true f e = rw e refl
      here true false f e = rw e refl
      here false s f e = refl

      gone : (x s f : Bool) → f ≡ false → (x && (s && f)) ≡ (x && f)
      gone true true f e = refl
      gone true false f e = sym e
      gone false s f e = refl

      other : (x r : Bool) → ((x && false) || r) ≡ r
      other true r = refl
      other false r = refl

      by : (p m : Bool) → waits_for_in tree keeps w v.txn ≡ p → nat_eq v.txn b ≡ m
          → list_any (is_it a b) (map pair rest) ≡ (nat_eq w.txn a && (is_some (wait_in vs b) && waits_for_in tree keeps w b))
          → list_any (is_it a b) (map pair (cond (waits_for_in tree keeps w v.txn) (v ∷ rest) rest))
          ≡ (nat_eq w.txn a && (is_some (cond (nat_eq v.txn b) (Some v) (wait_in vs b)) && waits_for_in tree keeps w b))
      by true true is e more =
          rw (is, e, more) (here (nat_eq w.txn a) (is_some (wait_in vs b)) (waits_for_in tree keeps w b) (same true is e))
      by true false is e more = rw (is, e) (other (nat_eq w.txn a) (list_any (is_it a b) (map pair rest)) ∙ more)
      by false true is e more = rw (is, e) (more ∙ gone (nat_eq w.txn a) (is_some (wait_in vs b)) (waits_for_in tree keeps w b) (same false is e))
      by false false is e more = rw (is, e) more

-- ---- one pair more, or none

pushed : (o x s e c : Bool) → (e ≡ true → c ≡ true) → ((o || (x && (s && c))) || ((x && e) || false)) ≡ (o || (x && ((s || (e || false)) && c)))
pushed true x s e c h = refl
pushed false false s e c h = refl
pushed false true true true true h = refl
pushed false true true true false h = absurd (false≢true (h refl))
pushed false true true false true h = refl
pushed false true true false false h = refl
pushed false true false true true h = refl
pushed false true false true false h = absurd (false≢true (h refl))
pushed false true false false true h = refl
pushed false true false false false h = refl

passed : (o x s e c : Bool) → (e ≡ true → c ≡ false) → (o || (x && (s && c))) ≡ (o || (x && ((s || (e || false)) && c)))
passed true x s e c h = refl
passed false false s e c h = refl
passed false true true e true h = refl
passed false true true e false h = refl
passed false true false true true h = absurd (true≢false (h refl))
passed false true false true false h = refl
passed false true false false c h = refl

turned : (m n : ℕ) → nat_eq m n ≡ nat_eq n m
turned m n = both_ways (nat_eq m n) (nat_eq n m) (λ e. eq-eqb n m (sym (eqb-true m n e))) (λ e. eq-eqb m n (sym (eqb-true n m e)))

-- whoever is among so many, waits, and holds the access up
abbrev pub MadeBy : (ℕ → Bool) → Pairs → Pairs → ℕ → List ℕ → Type 0
MadeBy holds old new t us = (a b : ℕ) → waits_in new a b ≡ (waits_in old a b || (nat_eq t a && (list_any (nat_eq b) us && holds b)))

module _ (holds : ℕ → Bool) (old new : Pairs) (t : ℕ) (us : List ℕ) (i u : ℕ) (at : slice_get us i ≡ Some u) where
  next : (b : ℕ) → list_any (nat_eq b) (take (i + 1) us) ≡ (list_any (nat_eq b) (take i us) || (nat_eq b u || false))
  next b = ap (list_any (nat_eq b)) (take_next us i u at) ∙ list_any-append (nat_eq b) (take i us) (u ∷ [])

  it : (f : Bool) → holds u ≡ f → (b : ℕ) → nat_eq b u ≡ true → holds b ≡ f
  it f is b e = ap holds (eqb-true b u e) ∙ is

  pub one_pushed : MadeBy holds old new t (take i us) → holds u ≡ true → MadeBy holds old (new ++ (t, u) ∷ []) t (take (i + 1) us)
  one_pushed made there a b =
      joined new ((t, u) ∷ []) a b
      ∙ ap (λ x. x || ((nat_eq t a && nat_eq u b) || false)) (made a b)
      ∙ ap (λ y. (waits_in old a b || (nat_eq t a && (list_any (nat_eq b) (take i us) && holds b))) || ((nat_eq t a && y) || false)) (turned u b)
      ∙ pushed (waits_in old a b) (nat_eq t a) (list_any (nat_eq b) (take i us)) (nat_eq b u) (holds b) (it true there b)
      ∙ ap (λ x. waits_in old a b || (nat_eq t a && (x && holds b))) (sym (next b))

  pub one_passed : MadeBy holds old new t (take i us) → holds u ≡ false → MadeBy holds old new t (take (i + 1) us)
  one_passed made none a b =
      made a b
      ∙ passed (waits_in old a b) (nat_eq t a) (list_any (nat_eq b) (take i us)) (nat_eq b u) (holds b) (it false none b)
      ∙ ap (λ x. waits_in old a b || (nat_eq t a && (x && holds b))) (sym (next b))

-- once all were looked at
pub all_made : (tree : States) (keeps : Keeps) (w : Wait) (vs : List Wait) (old new : Pairs) (us : List ℕ)
    → ((b : ℕ) → is_held_up tree keeps w b b ≡ waits_for_in tree keeps w b)
    → ((b : ℕ) → list_any (nat_eq b) us ≡ false → is_held_up tree keeps w b b ≡ false)
    → MadeBy (λ b. is_some (wait_in vs b) && is_held_up tree keeps w b b) old new w.txn us
    → AreAlike new (old ++ edges_from tree keeps vs w)
all_made tree keeps w vs old new us same out made a b =
    made a b
    ∙ ap (λ x. waits_in old a b || (nat_eq w.txn a && x)) (among (list_any (nat_eq b) us) (is_some (wait_in vs b)) (is_held_up tree keeps w b b) (out b))
    ∙ ap (λ x. waits_in old a b || (nat_eq w.txn a && (is_some (wait_in vs b) && x))) (same b)
    ∙ ap (λ x. waits_in old a b || x) (sym (with_tells tree keeps w vs a b))
    ∙ sym (joined old (edges_from tree keeps vs w) a b)
  where
    among : (m s h : Bool) → (m ≡ false → h ≡ false) → (m && (s && h)) ≡ (s && h)
    among true s h f = refl
    among false true h f = sym (f refl)
    among false false h f = refl

-- ---- all that wait

pub alike_next : (tree : States) (keeps : Keeps) (vs : List Wait) (i : ℕ) (w : Wait) (old new : Pairs) → slice_get vs i ≡ Some w
    → AreAlike old (edges_of tree keeps (take i vs) vs) → AreAlike new (old ++ edges_from tree keeps vs w) → AreAlike new (edges_of tree keeps (take (i + 1) vs) vs)
alike_next tree keeps vs i w old new at before added a b =
    added a b
    ∙ joined old (edges_from tree keeps vs w) a b
    ∙ ap (λ x. x || waits_in (edges_from tree keeps vs w) a b) (before a b)
    ∙ sym (joined (edges_of tree keeps (take i vs) vs) (edges_from tree keeps vs w) a b)
    ∙ ap (λ ps. waits_in ps a b) (sym (edges_next tree keeps vs vs i w at))

-- ---- what is told of a result

pub some_told : {X : Type 0} (P Q : X → Type 0) → ((x : X) → P x → Q x) → (o : Option X) → IfSome o P → IfSome o Q
some_told P Q f None h = h
some_told P Q f (Some x) h = f x h

pub none_told : {X : Type 0} (P Q : Type 0) → (P → Q) → (o : Option X) → IfNone o P → IfNone o Q
none_told P Q f None h = f h
none_told P Q f (Some x) h = h

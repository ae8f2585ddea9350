-- A top-level transaction without descendants is in nobody's branch but its own, and nobody else is in its branch.
use Rattle.std.proofs.Common.{◌≡◌, ℕ, ◌+◌, nat_eq, nat_lt, Bool, true, false, ◌||◌, cond, List, [], ◌∷◌, ◌++◌, length, take, Option, Some, None, refl, sym, ap, subst, ◌∙◌, arith}
use Rattle.std.specs.Cmp.{both_ways}
use Rattle.std.specs.Prelude.{slice_get}
use Rattle.std.specs.List.{list_any}
use Rattle.std.proofs.lemmas.Bool.{and_parts, eqb-true, eq-eqb, false≢true, false_from_ne_true, ltb-true, or_right}
use Rattle.std.proofs.lemmas.Option.{none-some}
use Rattle.txn_names.specs.Path.{Path, is_front, label_eq, meet}
use Rattle.txn_names.proofs.Exports.{label_eq_self, same_label}
use Rattle.txn_tree.specs.States.{States, names}
use Rattle.txn_tree.specs.Numbered.{is_front_of}
use Rattle.lock_table.specs.Blocking.{numbers}
use Rattle.lock_table.proofs.Exports.{any_in_range, witness}
use Rattle.serial_spec.specs.declared.target.Target.{Target}
use Rattle.serial_spec.specs.Targets.{meets, target}
use Rattle.wait_cycles.specs.declared.waits.Wait.{Wait}
use Rattle.serial_spec.proofs.Exports.{take_next}
use Rattle.wait_cycles.specs.Waiting.{wait_in}
use Rattle.wait_graph.specs.Edges.{Keeps, AreOwnBranches, IsAlone, IsNobodysWay, IsOwnBranch, is_beside, is_beside_it, is_held_up, is_in_branch, waits_by_way_of, waits_for_in}
use Rattle.wait_graph.proofs.HeldUp.{holder_begun, open_holds_nobody}

-- a path that shares its first label with one of one label is that or below it
shared : (t : Path) (l : List ℕ) (b : Path) → nat_lt (meet t b) (meet (l ∷ []) b) ≡ true → is_front (l ∷ []) b ≡ true
shared t l [] e = let less = ltb-true (meet t []) 0 e in absurd (omega (arith, less))
shared t l (y ∷ ys) e = by (label_eq l y) refl
  where
    by : (v : Bool) → label_eq l y ≡ v → is_front (l ∷ []) (y ∷ ys) ≡ true
    by true same = rw same refl
    by false other =
        let none : meet (l ∷ []) (y ∷ ys) ≡ 0 = rw other refl in
        let less = ltb-true (meet t (y ∷ ys)) (meet (l ∷ []) (y ∷ ys)) e in
        absurd (omega (arith, less, none))

module _ (tree : States) (keeps : Keeps) (w : Wait) (u : ℕ) (a : IsAlone tree u) where
  itself : (b : ℕ) → is_held_up tree keeps w u b ≡ true → u ≡ b
  itself b e = a.alone b (below (slice_get (names tree) w.txn) (slice_get (names tree) b)
      (subst (λ o. is_beside (slice_get (names tree) w.txn) (slice_get (names tree) b) o ≡ true) a.named
      (and_parts (keeps w.txn w.asked b) (is_in_branch tree w.txn b u) e).1))
    where
      front : (o : Option Path) → is_front_of (Some (a.label ∷ [])) o ≡ true → is_front_of (slice_get (names tree) u) o ≡ true
      front o f = subst (λ p. is_front_of p o ≡ true) (sym a.named) f

      below : (t o : Option Path) → is_beside t o (Some (a.label ∷ [])) ≡ true → is_front_of (slice_get (names tree) u) o ≡ true
      below None o f = absurd (false≢true f)
      below (Some t) None f = absurd (false≢true f)
      below (Some t) (Some b) f = front (Some b) (shared t a.label b f)

  -- so it is waited for exactly where it keeps the access from being answered itself
  pub alone_waited_for : is_held_up tree keeps w u u ≡ waits_for_in tree keeps w u
  alone_waited_for = both_ways (holds u) (list_any holds (numbers tree)) there here
    where
      holds : ℕ → Bool
      holds = is_held_up tree keeps w u

      there : holds u ≡ true → list_any holds (numbers tree) ≡ true
      there e =
          let begun = holder_begun tree keeps w u u e in
          any_in_range holds 0 (length (names tree)) u (omega arith) (omega (arith, begun)) e

      here : list_any holds (numbers tree) ≡ true → holds u ≡ true
      here e = let b = witness holds (numbers tree) e in subst (λ v. holds v ≡ true) (sym (itself b.0 b.1)) b.1

-- so is a path that shares more labels with one of one label than another does
shares : (t : Path) (l : List ℕ) (v : Path) → nat_lt (meet t (l ∷ [])) (meet v (l ∷ [])) ≡ true → is_front (l ∷ []) v ≡ true
shares t l [] e = let less = ltb-true (meet t (l ∷ [])) 0 e in absurd (omega (arith, less))
shares t l (y ∷ ys) e = by (label_eq y l) refl
  where
    by : (v : Bool) → label_eq y l ≡ v → is_front (l ∷ []) (y ∷ ys) ≡ true
    by true same = subst (λ z. is_front (l ∷ []) (z ∷ ys) ≡ true) (sym (same_label y l same)) (rw (label_eq_self l) refl)
    by false other =
        let none : meet (y ∷ ys) (l ∷ []) ≡ 0 = rw other refl in
        let less = ltb-true (meet t (l ∷ [])) (meet (y ∷ ys) (l ∷ [])) e in
        absurd (omega (arith, less, none))

module _ (tree : States) (b : ℕ) (a : IsAlone tree b) where
  -- nobody else is in its branch
  only_itself : (t v : ℕ) → is_in_branch tree t b v ≡ true → b ≡ v
  only_itself t v e =
      a.alone v (below (slice_get (names tree) t) (slice_get (names tree) v) (subst (λ o. is_beside (slice_get (names tree) t) o (slice_get (names tree) v) ≡ true) a.named e))
    where
      below : (t o : Option Path) → is_beside t (Some (a.label ∷ [])) o ≡ true → is_front_of (slice_get (names tree) b) o ≡ true
      below None o f = absurd (false≢true f)
      below (Some t) None f = absurd (false≢true f)
      below (Some t) (Some v) f = subst (λ p. is_front_of p (Some v) ≡ true) (sym a.named) (shares t a.label v f)

  -- so no other waits there, where it does not wait itself
  nobody_beside : (t : ℕ) (ws : List Wait) → wait_in ws b ≡ None → list_any (is_beside_it tree t b) ws ≡ false
  nobody_beside t [] none = refl
  nobody_beside t (w ∷ ws) none = by (nobody_beside t ws) (nat_eq w.txn b) refl
    where
      by : (wait_in ws b ≡ None → list_any (is_beside_it tree t b) ws ≡ false) → (e : Bool) → nat_eq w.txn b ≡ e → list_any (is_beside_it tree t b) (w ∷ ws) ≡ false
      by others true is = absurd (none-some w (sym none ∙ ap (λ c. cond c (Some w) (wait_in ws b)) is))
      by others false is =
          let rest : wait_in ws b ≡ None = ap (λ c. cond c (Some w) (wait_in ws b)) (sym is) ∙ none in
          let here : is_beside_it tree t b w ≡ false = false_from_ne_true _ (λ e. false≢true (sym is ∙ eq-eqb w.txn b (sym (only_itself t w.txn e)))) in
          rw here (others rest)

  nobodys_way_among : (keeps : Keeps) (s : Target) (all vs : List Wait) → ((t : ℕ) → list_any (is_beside_it tree t b) all ≡ false)
      → list_any (waits_by_way_of tree keeps all b s) vs ≡ false
  nobodys_way_among keeps s all [] none = refl
  nobodys_way_among keeps s all (v ∷ vs) none =
      let here : waits_by_way_of tree keeps all b s v ≡ false = false_from_ne_true _ (λ e.
      let blocks = (and_parts (meets s (target v.asked)) _ e).1 in
      false≢true (sym (none v.txn) ∙ (and_parts (keeps v.txn v.asked b) _ blocks).1)) in
      rw here (nobodys_way_among keeps s all vs none)

  pub nobodys_way : (waits : List Wait) → wait_in waits b ≡ None → IsNobodysWay tree waits b
  nobodys_way waits none keeps s = nobodys_way_among keeps s waits waits (λ t. nobody_beside t waits none)

-- where all who may keep an access from being answered are alone in their branches, the access waits for whoever keeps it from being answered itself, and for nobody else
module _ (tree : States) (keeps : Keeps) (w : Wait) (u : ℕ) (holders : List ℕ)
    (out : (v : ℕ) → list_any (nat_eq v) holders ≡ false → keeps w.txn w.asked v ≡ false) (alone : AreOwnBranches tree w.txn holders) where
  pub flat_waited_for : is_held_up tree keeps w u u ≡ waits_for_in tree keeps w u
  flat_waited_for = both_ways (holds u) (list_any holds (numbers tree)) there here
    where
      holds : ℕ → Bool
      holds = is_held_up tree keeps w u

      there : holds u ≡ true → list_any holds (numbers tree) ≡ true
      there e =
          let begun = holder_begun tree keeps w u u e in
          any_in_range holds 0 (length (names tree)) u (omega arith) (omega (arith, begun)) e

      among : (b : ℕ) → holds b ≡ true → (found : Bool) → list_any (nat_eq b) holders ≡ found → holds u ≡ true
      among b e true found =
          let beside = (and_parts (keeps w.txn w.asked b) (is_in_branch tree w.txn b u) e).1 in
          subst (λ v. holds v ≡ true) (alone b found u beside) e
      among b e false found = absurd (open_holds_nobody tree keeps w u b e (out b found))

      here : list_any holds (numbers tree) ≡ true → holds u ≡ true
      here e = let b = witness holds (numbers tree) e in among b.0 b.1 (list_any (nat_eq b.0) holders) refl

-- one more of those of whom this holds
at_end : (P : ℕ → Type 0) (u v : ℕ) → P u → (xs : List ℕ) → ((x : ℕ) → list_any (nat_eq x) xs ≡ true → P x) → list_any (nat_eq v) (xs ++ u ∷ []) ≡ true → P v
at_end P u v one [] none e = last (nat_eq v u) refl e
  where
    last : (c : Bool) → nat_eq v u ≡ c → list_any (nat_eq v) (u ∷ []) ≡ true → P v
    last true is e = subst P (sym (eqb-true v u is)) one
    last false is e = absurd (false≢true (sym (ap (λ c. c || false) is) ∙ e))
at_end P u v one (x ∷ xs) some e = first (at_end P u v one xs (λ y f. some y (or_right (nat_eq y x) (list_any (nat_eq y) xs) f))) (nat_eq v x) refl e
  where
    first : (list_any (nat_eq v) (xs ++ u ∷ []) ≡ true → P v) → (c : Bool) → nat_eq v x ≡ c → list_any (nat_eq v) (x ∷ (xs ++ u ∷ [])) ≡ true → P v
    first others true is e = some v (rw is refl)
    first others false is e = others (subst (λ c. (c || list_any (nat_eq v) (xs ++ u ∷ [])) ≡ true) is e)

pub one_more_own : (tree : States) (t : ℕ) (us : List ℕ) (i u : ℕ) → slice_get us i ≡ Some u → AreOwnBranches tree t (take i us) → IsOwnBranch tree t u → AreOwnBranches tree t (take (i + 1) us)
one_more_own tree t us i u at own one v e = at_end (IsOwnBranch tree t) u v one (take i us) own (subst (λ xs. list_any (nat_eq v) xs ≡ true) (take_next us i u at) e)

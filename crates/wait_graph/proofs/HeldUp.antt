-- Who waits for whom, found among those who lock a key.
use Rattle.std.proofs.Common.{◌≡◌, ℕ, zero, suc, ◌+◌, ◌<◌, ◌≤◌, nat_eq, Bool, true, false, cond, filter, map, List, [], ◌∷◌, ◌++◌, length, take, Option, Some, None, refl, sym, ap, subst, ◌∙◌, arith}
use Rattle.std.specs.Cmp.{both_ways}
use Rattle.std.specs.Prelude.{slice_get}
use Rattle.std.proofs.lemmas.List.{append-nil, append_assoc, map-append}
use Rattle.std.proofs.lemmas.List.Elements.{filter-append}
use Rattle.std.proofs.lemmas.Option.{slice_get_within}
use Rattle.std.specs.List.{list_any}
use Rattle.std.proofs.lemmas.Bool.{and_parts, false≢true, false_from_ne_true}
use Rattle.txn_tree.specs.States.{States, names}
use Rattle.lock_table.specs.Blocking.{numbers}
use Rattle.lock_table.specs.Targeted.{AreListed, Reaches, Targeted, is_listed, lists_of}
use Rattle.serial_spec.specs.declared.target.Target.{Target}
use Rattle.serial_spec.specs.Targets.{kind_of, target}
use Rattle.txn_names.specs.Path.{Path}
use Rattle.lock_table.proofs.Exports.{any_in_range, any_of_those, witness}
use Rattle.serial_spec.proofs.Exports.{take_next}
use Rattle.wait_cycles.specs.declared.waits.Wait.{Wait}
use Rattle.wait_graph.specs.Edges.{AreLockers, Keeps, Tells, is_beside, is_held_up, is_in_branch, edges_of, edges_from, waits_for_in}

-- by a test that tells, whoever is not among those who may keep the access out does not
pub keeps_none : (tree : States) (locks : Targeted) (keeps : Keeps) (w : Wait) (us : List ℕ) → Tells tree locks keeps → AreLockers tree locks w us
    → (v : ℕ) → list_any (nat_eq v) us ≡ false → keeps w.txn w.asked v ≡ false
keeps_none tree locks keeps w us tells all v none = false_from_ne_true _ (λ e. all v none ((tells w.txn w.asked v).0 e))

module _ (tree : States) (keeps : Keeps) (w : Wait) (u : ℕ) where
  -- whoever keeps nobody out holds nobody up
  pub open_holds_nobody : (b : ℕ) → is_held_up tree keeps w u b ≡ true → keeps w.txn w.asked b ≡ false → ⊥
  open_holds_nobody b e is = false≢true (sym is ∙ (and_parts (keeps w.txn w.asked b) (is_in_branch tree w.txn b u) e).0)

  -- so does whoever is not among those who may
  pub left_out_holds_nobody : (holders : List ℕ) → ((v : ℕ) → list_any (nat_eq v) holders ≡ false → keeps w.txn w.asked v ≡ false)
      → list_any (nat_eq u) holders ≡ false → is_held_up tree keeps w u u ≡ false
  left_out_holds_nobody holders out none = false_from_ne_true _ (λ e. open_holds_nobody u e (out u none))

  -- who holds somebody up has begun
  pub holder_begun : (b : ℕ) → is_held_up tree keeps w u b ≡ true → b < length (names tree)
  holder_begun b e = by (slice_get (names tree) w.txn) (slice_get (names tree) b) refl (and_parts (keeps w.txn w.asked b) (is_in_branch tree w.txn b u) e).1
    where
      by : (t o : Option Path) → slice_get (names tree) b ≡ o → is_beside t o (slice_get (names tree) u) ≡ true → b < length (names tree)
      by None o at h = absurd (false≢true h)
      by (Some t) None at h = absurd (false≢true h)
      by (Some t) (Some n) at h = slice_get_within (names tree) b n at

  -- one of these who holds it up is somebody who does
  pub found_here : (holders : List ℕ) → list_any (is_held_up tree keeps w u) holders ≡ true → waits_for_in tree keeps w u ≡ true
  found_here holders e =
      let holds : ℕ → Bool = is_held_up tree keeps w u in
      let b = witness holds holders e in
      let begun = holder_begun b.0 b.1 in
      any_in_range holds 0 (length (names tree)) b.0 (omega arith) (omega (arith, begun)) b.1

  -- it is the same to look among those who may
  pub found_among : (holders : List ℕ) → ((v : ℕ) → list_any (nat_eq v) holders ≡ false → keeps w.txn w.asked v ≡ false)
      → list_any (is_held_up tree keeps w u) holders ≡ waits_for_in tree keeps w u
  found_among holders out = both_ways (list_any holds holders) (list_any holds (numbers tree)) (found_here holders) here
    where
      holds : ℕ → Bool
      holds = is_held_up tree keeps w u

      among : (b : ℕ) → holds b ≡ true → (found : Bool) → list_any (nat_eq b) holders ≡ found → list_any holds holders ≡ true
      among b e true found = any_of_those holds holders b found e
      among b e false found = absurd (open_holds_nobody b e (out b found))

      here : list_any holds (numbers tree) ≡ true → list_any holds holders ≡ true
      here e = let b = witness holds (numbers tree) e in among b.0 b.1 (list_any (nat_eq b.0) holders) refl

  -- where nobody in any list of the target does, nobody does
  pub found_nowhere : (locks : Targeted) (s : Target) → Tells tree locks keeps → AreListed locks s → target w.asked ≡ s
      → ((p : ℕ) → p < lists_of s → (v : ℕ) → is_listed locks s p v ≡ true → is_held_up tree keeps w u v ≡ false) → waits_for_in tree keeps w u ≡ false
  found_nowhere locks s tells all of_it none = false_from_ne_true _ (λ e.
      let holds : ℕ → Bool = is_held_up tree keeps w u in
      let b = witness holds (numbers tree) e in
      let blocks = (tells w.txn w.asked b.0).0 (and_parts (keeps w.txn w.asked b.0) (is_in_branch tree w.txn b.0 u) b.1).0 in
      let at = all b.0 w.asked of_it (subst (λ x. Reaches locks b.0 x (kind_of w.asked)) of_it blocks.reaches) in
      false≢true (sym (none at.0 at.1 b.0 at.2) ∙ b.1))

-- where only the first list of the target has anybody, that has all who may keep the access out
pub only_first : (locks : Targeted) (s : Target) (w : Wait) → target w.asked ≡ s → AreListed locks s
    → ((p : ℕ) → 1 ≤ p → p < lists_of s → (u : ℕ) → is_listed locks s p u ≡ false)
    → (us : List ℕ) → ((u : ℕ) → list_any (nat_eq u) us ≡ is_listed locks s 0 u) → (tree : States) → AreLockers tree locks w us
only_first locks s w of_it all bare us first tree u none blocks = by at.0 at.1 at.2
  where
    at : (p : ℕ) × (p < lists_of s) × (is_listed locks s p u ≡ true)
    at = all u w.asked of_it (subst (λ x. Reaches locks u x (kind_of w.asked)) of_it blocks.reaches)

    by : (p : ℕ) → p < lists_of s → is_listed locks s p u ≡ true → ⊥
    by zero within listed = false≢true (sym none ∙ first u ∙ listed)
    by (suc p) within listed = false≢true (sym (bare (suc p) (omega arith) within u) ∙ listed)

-- where none of these holds it up, none does by itself
pub none_of_those : (p : ℕ → Bool) (us : List ℕ) → list_any p us ≡ false → (v : ℕ) → list_any (nat_eq v) us ≡ true → p v ≡ false
none_of_those p us none v among = false_from_ne_true _ (λ e. false≢true (sym none ∙ any_of_those p us v among e))

abbrev pair : Wait → Wait → ℕ × ℕ
pair w v = (w.txn, v.txn)

-- one more of those that wait
pub edges_more : (tree : States) (keeps : Keeps) (w : Wait) (vs : List Wait) (i : ℕ) (v : Wait) → slice_get vs i ≡ Some v
    → edges_from tree keeps (take (i + 1) vs) w ≡ edges_from tree keeps (take i vs) w ++ cond (waits_for_in tree keeps w v.txn) ((w.txn, v.txn) ∷ []) []
edges_more tree keeps w vs i v at =
    let passes : Wait → Bool = λ x. waits_for_in tree keeps w x.txn in
    ap (λ xs. map (pair w) (filter passes xs)) (take_next vs i v at)
    ∙ ap (map (pair w)) (filter-append passes (take i vs) (v ∷ []))
    ∙ map-append (pair w) (filter passes (take i vs)) (filter passes (v ∷ []))
    ∙ ap (λ xs. edges_from tree keeps (take i vs) w ++ xs) (single (passes v))
  where
    single : (b : Bool) → map (pair w) (cond b (v ∷ []) []) ≡ cond b ((w.txn, v.txn) ∷ []) []
    single true = refl
    single false = refl

-- and one more of those whose edges are made
pub edges_next : (tree : States) (keeps : Keeps) (others ws : List Wait) (i : ℕ) (w : Wait) → slice_get ws i ≡ Some w
    → edges_of tree keeps (take (i + 1) ws) others ≡ edges_of tree keeps (take i ws) others ++ edges_from tree keeps others w
edges_next tree keeps others ws i w at = ap (λ xs. edges_of tree keeps xs others) (take_next ws i w at) ∙ appended (take i ws)
  where
    appended : (xs : List Wait) → edges_of tree keeps (xs ++ w ∷ []) others ≡ edges_of tree keeps xs others ++ edges_from tree keeps others w
    appended [] = append-nil _
    appended (x ∷ xs) = ap (λ ps. edges_from tree keeps others x ++ ps) (appended xs) ∙ sym (append_assoc (edges_from tree keeps others x) (edges_of tree keeps xs others) (edges_from tree keeps others w))

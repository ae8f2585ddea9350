-- The pairs that are collected from the tables are those of the definitions.
use Rattle.std.proofs.Common.{◌≡◌, ℕ, zero, suc, nat_eq, nat_lt, Bool, true, false, not, ◌&&◌, ◌||◌, filter, find, map, reverse, List, [], ◌∷◌, ◌++◌, length, Option, Some, None, inl, inr, refl, sym, ap, subst, ◌∙◌, IsTrue, cond, is_some, unwrap_or, if◌then◌else◌}
use Rattle.std.specs.Prelude.{slice_get}
use Rattle.std.specs.List.{AllByRecursion, IsDistinct, list_any}
use Rattle.std.proofs.lemmas.Bool.{and_parts, eq-eqb, eqb-true, false≢true, not-true, or_left, or_right, or_cases}
use Rattle.std.proofs.lemmas.List.Folds.{list_any-append}
use Rattle.std.proofs.lemmas.Map.Keys.{IsDistinct-head, IsDistinct-tail}
use Rattle.std.proofs.lemmas.List.{reverse-append, length-reverse}
use Rattle.txn_names.specs.Path.{is_front, meet, path_eq}
use Rattle.txn_names.proofs.Exports.{on_path, on_test, path_eq_self, same_path}
use Rattle.txn_tree.specs.States.{States, names}
use Rattle.serial_spec.specs.declared.entry.Entry.{Entry}
use Rattle.serial_spec.specs.declared.event.Event.{Event}
use Rattle.serial_spec.specs.declared.event.Event.TheVariants.{Abort, Access, Sum, After, Begin, Commit}
use Rattle.serial_spec.specs.declared.target.Asked.{Asked}
use Rattle.serial_spec.specs.declared.target.Asked.TheVariants.{At, Over}
use Rattle.serial_spec.specs.Targets.{kind_of, target}
use Rattle.serial_spec.specs.History.{Name, History, event_of, begun, has_begun, is_active}
use Rattle.serial_spec.specs.Locks.{conflicts, is_blocker, reach}
use Rattle.serial_spec.specs.Rows.{Rows}
use Rattle.serial_spec.specs.Legal.{AreAllowed}
use Rattle.serial_spec.specs.Waits.{accesses, blocks_event, branch_of, number, number_in, open_waits, wait_of as wait_by, waits_by, waits_for}
use Rattle.txn_history.proofs.Exports.{any_begun, any-find, found_passes, waits_as, waits_kept}
use Rattle.wait_cycles.specs.Agreement.{Agree, AreWaits}
use Rattle.wait_cycles.proofs.Exports.{cycles_agree}
use Rattle.wait_cycles.specs.Cycles.{Pairs, waits_in}
use Rattle.wait_cycles.specs.Waiting.{AreOnce, Waiting, wait_of}
use Rattle.wait_cycles.specs.declared.waits.Wait.{Wait}
use Rattle.txn_tree.proofs.Exports.{get_front, get_pushed}
use Rattle.manager_core.specs.Kept.{AreTablesOf, wait_of_any}
use Rattle.wait_graph.specs.Edges.{Keeps, is_beside, is_held_up, is_in_branch, edges_of, edges_from, waits_for_in}
use Rattle.manager_core.specs.Tables.{Tabled, wait_by as kept_by, wait_for}
use Rattle.manager_core.proofs.Blocking.{any_named}
use Rattle.manager_core.proofs.Branches.{in_branch}
use Rattle.manager_core.proofs.Lasting.{is_open}
use Rattle.manager_core.proofs.Events.{blocks_at}
use Rattle.manager_core.proofs.Locks.{any_numbered, keeps_as, keeps_by}
use Rattle.wait_graph.proofs.Exports.{any_got}

-- ---- numbers

AreApart : List Name → Type 0
AreApart ns = (i j : ℕ) (t : Name) → slice_get ns i ≡ Some t → slice_get ns j ≡ Some t → i ≡ j

-- none of these is u
differs : (u : Name) (xs : List Name) → AllByRecursion (λ y. path_eq u y ≡ false) xs → (n : ℕ) → slice_get xs n ≡ Some u → ⊥
differs u [] all n at = false≢true (ap is_some at)
differs u (x ∷ xs) all zero at = false≢true (sym all.0 ∙ ap (λ o. path_eq u (unwrap_or o x)) at ∙ path_eq_self u)
differs u (x ∷ xs) all (suc n) at = differs u xs all.1 n at

-- in a list of distinct names each stands once
once : (ns : List Name) → IsDistinct path_eq ns → AreApart ns
unfolding AreApart
once [] d i j t a b = absurd (false≢true (ap is_some a))
once (u ∷ ns) d zero zero t a b = refl
once (u ∷ ns) d zero (suc j) t a b =
    let same : u ≡ t = ap (λ o. unwrap_or o u) a in
    absurd (differs u ns (IsDistinct-head path_eq u ns d) j (b ∙ ap (λ v. Some v) (sym same)))
once (u ∷ ns) d (suc i) zero t a b =
    let same : u ≡ t = ap (λ o. unwrap_or o u) b in
    absurd (differs u ns (IsDistinct-head path_eq u ns d) i (a ∙ ap (λ v. Some v) (sym same)))
once (u ∷ ns) d (suc i) (suc j) t a b = ap suc (once ns (IsDistinct-tail path_eq u ns d) i j t a b)

-- the place in the order of beginning is the number
place_is : (us : List Name) → AreApart (reverse us) → (a : ℕ) (t : Name) → slice_get (reverse us) a ≡ Some t → number_in us t ≡ a
unfolding AreApart
place_is [] apart a t at = absurd (false≢true (ap is_some at))
place_is (u ∷ us) apart a t at =
    let turned : reverse (u ∷ us) ≡ reverse us ++ u ∷ [] = reverse-append (u ∷ []) us in
    let long : length (reverse us) ≡ length us = length-reverse us in
    let last : slice_get (reverse (u ∷ us)) (length us) ≡ Some u = ap (λ ns. slice_get ns (length us)) turned ∙ ap (slice_get (reverse us ++ u ∷ [])) (sym long) ∙ get_last (reverse us) u in
    on_path u t (λ b. (if b then length us else number_in us t) ≡ a)
    (λ same. apart (length us) a t (last ∙ ap (λ v. Some v) same) at)
    (λ other.
    elim (get_pushed (reverse us) u a t (ap (λ ns. slice_get ns a) (sym turned) ∙ at)) [
      | inl front ↦
          place_is us (λ i j v x y.
          apart i j v (ap (λ ns. slice_get ns i) turned ∙ get_front (reverse us) (u ∷ []) i v x) (ap (λ ns. slice_get ns j) turned ∙ get_front (reverse us) (u ∷ []) j v y)) a t front
      | inr end ↦ absurd (false≢true (sym other ∙ ap (path_eq u) end.1 ∙ path_eq_self u))
    ])
  where
    get_last : (xs : List Name) (x : Name) → slice_get (xs ++ x ∷ []) (length xs) ≡ Some x
    get_last [] x = refl
    get_last (y ∷ xs) x = get_last xs x

-- ---- pairs

-- who waits and for whom, of a pair that was made
record IsMade (tree : States) (keeps : Keeps) (ws others : List Wait) (a b : ℕ) : Type 0 where
  w : Wait
  i : ℕ
  first : slice_get ws i ≡ Some w
  w_is : w.txn ≡ a
  v : Wait
  j : ℕ
  second : slice_get others j ≡ Some v
  v_is : v.txn ≡ b
  waiting : waits_for_in tree keeps w v.txn ≡ true

module _ (tree : States) (keeps : Keeps) (a b : ℕ) where
  is_it : ℕ × ℕ → Bool
  is_it p = nat_eq p.0 a && nat_eq p.1 b

  -- one that waits, with one of these for which it waits
  IsInRow : Wait → List Wait → Type 0
  IsInRow w others = (w.txn ≡ a) × (v : Wait) × (j : ℕ) × (slice_get others j ≡ Some v) × (v.txn ≡ b) × (waits_for_in tree keeps w v.txn ≡ true)

  row_of : Wait → Bool → Wait → List Wait → Pairs
  row_of w t x xs = map (λ v. (w.txn, v.txn)) (cond t (x ∷ filter (λ v. waits_for_in tree keeps w v.txn) xs) (filter (λ v. waits_for_in tree keeps w v.txn) xs))

  in_row : (w : Wait) (others : List Wait) → list_any is_it (edges_from tree keeps others w) ≡ true → IsInRow w others
  unfolding is_it IsInRow row_of
  in_row w [] e = absurd (false≢true e)
  in_row w (x ∷ xs) e = by (in_row w xs) (waits_for_in tree keeps w x.txn) refl e
    where
      further : IsInRow w xs → IsInRow w (x ∷ xs)
      further r = (r.0, r.1, suc r.2, r.3, r.4, r.5)

      by : (list_any is_it (edges_from tree keeps xs w) ≡ true → IsInRow w xs) → (t : Bool) → waits_for_in tree keeps w x.txn ≡ t
          → list_any is_it (row_of w t x xs) ≡ true → IsInRow w (x ∷ xs)
      by rest true is f =
          elim (or_cases (is_it (w.txn, x.txn)) (list_any is_it (edges_from tree keeps xs w)) f) [
            | inl here ↦
                let p = and_parts (nat_eq w.txn a) (nat_eq x.txn b) here in
                (eqb-true w.txn a p.0, x, 0, refl, eqb-true x.txn b p.1, is)
            | inr later ↦ further (rest later)
          ]
      by rest false is f = further (rest f)

  in_rows : (ws others : List Wait) → list_any is_it (edges_of tree keeps ws others) ≡ true → IsMade tree keeps ws others a b
  unfolding IsInRow
  in_rows [] others e = absurd (false≢true e)
  in_rows (x ∷ ws) others e =
      elim (or_cases _ _ (sym (list_any-append is_it (edges_from tree keeps others x) (edges_of tree keeps ws others)) ∙ e)) [
        | inl here ↦
            let r = in_row x others here in
            record { w = x; i = 0; first = refl; w_is = r.0; v = r.1; j = r.2; second = r.3; v_is = r.4; waiting = r.5 }
        | inr later ↦
            let r = in_rows ws others later in
            record { w = r.w; i = suc r.i; first = r.first; w_is = r.w_is; v = r.v; j = r.j; second = r.second; v_is = r.v_is; waiting = r.waiting }
      ]

  row_made : (w : Wait) (others : List Wait) (j : ℕ) (v : Wait) → slice_get others j ≡ Some v → w.txn ≡ a → v.txn ≡ b → waits_for_in tree keeps w v.txn ≡ true
      → list_any is_it (edges_from tree keeps others w) ≡ true
  unfolding is_it row_of
  row_made w [] j v at is_a is_b e = absurd (false≢true (ap is_some at))
  row_made w (x ∷ xs) zero v at is_a is_b e =
      let same : x ≡ v = ap (λ o. unwrap_or o x) at in
      let passes : waits_for_in tree keeps w x.txn ≡ true = ap (λ (y : Wait). waits_for_in tree keeps w y.txn) same ∙ e in
      ap (λ t. list_any is_it (row_of w t x xs)) passes
      ∙ or_left (is_it (w.txn, x.txn)) _ (and_true (eq-eqb w.txn a is_a) (eq-eqb x.txn b (ap (λ (y : Wait). y.txn) same ∙ is_b)))
    where
      and_true : {p q : Bool} → p ≡ true → q ≡ true → (p && q) ≡ true
      and_true {p} {q} x y = ap (λ c. c && q) x ∙ y
  row_made w (x ∷ xs) (suc j) v at is_a is_b e = by (row_made w xs j v at is_a is_b e) (waits_for_in tree keeps w x.txn)
    where
      by : list_any is_it (edges_from tree keeps xs w) ≡ true → (t : Bool) → list_any is_it (row_of w t x xs) ≡ true
      by rest true = or_right (is_it (w.txn, x.txn)) _ rest
      by rest false = rest

  rows_made : (ws others : List Wait) → IsMade tree keeps ws others a b → list_any is_it (edges_of tree keeps ws others) ≡ true
  rows_made ws others m = by ws m.i m.first
    where
      by : (xs : List Wait) (i : ℕ) → slice_get xs i ≡ Some m.w → list_any is_it (edges_of tree keeps xs others) ≡ true
      by [] i at = absurd (false≢true (ap is_some at))
      by (x ∷ xs) zero at =
          let same : x ≡ m.w = ap (λ o. unwrap_or o x) at in
          list_any-append is_it (edges_from tree keeps others x) (edges_of tree keeps xs others)
          ∙ or_left _ _ (ap (λ (y : Wait). list_any is_it (edges_from tree keeps others y)) same ∙ row_made m.w others m.j m.v m.second m.w_is m.v_is m.waiting)
      by (x ∷ xs) (suc i) at =
          list_any-append is_it (edges_from tree keeps others x) (edges_of tree keeps xs others)
          ∙ or_right (list_any is_it (edges_from tree keeps others x)) _ (by xs i at)

-- ---- the waits that stand

-- the one at a place is its transaction's
stands : (waits : Waiting) → AreOnce waits → (i : ℕ) (w : Wait) → slice_get waits.waits i ≡ Some w → wait_of waits w.txn ≡ Some w
stands waits once_each i w at = by (wait_of waits w.txn) refl
  where
    find_none : (p : Wait → Bool) (xs : List Wait) → find p xs ≡ None → list_any p xs ≡ false
    find_none p [] e = refl
    find_none p (x ∷ xs) e = on_test (p x) (λ t. cond t (Some x) (find p xs) ≡ None → (t || list_any p xs) ≡ false) (λ yes f. absurd (false≢true (sym (ap is_some f)))) (λ no f. find_none p xs f) e

    by : (o : Option Wait) → wait_of waits w.txn ≡ o → wait_of waits w.txn ≡ Some w
    by None none = absurd (false≢true (sym (find_none (λ x. nat_eq x.txn w.txn) waits.waits none) ∙ any_got (λ x. nat_eq x.txn w.txn) waits.waits i w at (eq-eqb w.txn w.txn refl)))
    by (Some x) is =
        let there = once_each.all w.txn x is in
        let alike : x.txn ≡ w.txn = eqb-true x.txn w.txn (found_passes (λ y. nat_eq y.txn w.txn) waits.waits x is) in
        let place : i ≡ there.0 = once_each.apart i there.0 w x at there.1 (sym alike) in
        is ∙ sym there.1 ∙ ap (slice_get waits.waits) (sym place) ∙ at

-- the waits that are kept, each by a number, are those of the history, each by a name
pub record TellWaits (h : History) (tree : States) (waits : Waiting) : Type 0 where
  pub known : (n : ℕ) (w : Wait) → wait_of waits n ≡ Some w
      → (t : Name) × (e : Entry) × (slice_get (names tree) n ≡ Some t) × (wait_by h t ≡ Some e) × (e.event ≡ event_of t w.asked) × (w.txn ≡ n)
  pub all : (t : Name) (e : Entry) → wait_by h t ≡ Some e → (n : ℕ) × (w : Wait) × (slice_get (names tree) n ≡ Some t) × (wait_of waits n ≡ Some w)

-- a wait that is kept is that of an entry
read_wait : (n : ℕ) (t : Name) (x : Entry) (w : Wait) → accesses t x.event ≡ true → wait_for n (Some x) ≡ Some w
    → (x.event ≡ event_of t w.asked) × (w.txn ≡ n)
read_wait n t x w of_it is = by x.event refl of_it is
  where
    by_asked : (u : Name) (a : Asked) → x.event ≡ event_of u a → path_eq u t ≡ true → Some (record { txn = n; asked = a; by = x.by }) ≡ Some w
        → (x.event ≡ event_of t w.asked) × (w.txn ≡ n)
    by_asked u a event f g =
        let same : u ≡ t = same_path u t f in
        let made : record { txn = n; asked = a; by = x.by } ≡ w = ap (λ p. unwrap_or p w) g in (
          event ∙ ap (λ v. event_of v a) same ∙ ap (λ (v : Wait). event_of t v.asked) made,
          sym (ap (λ (v : Wait). v.txn) made),
        )

    by : (e : Event) → x.event ≡ e → accesses t e ≡ true → kept_by n x.by e ≡ Some w → (x.event ≡ event_of t w.asked) × (w.txn ≡ n)
    by (Access u k o) event f g = by_asked u (At k o) event f g
    by (Sum u k) event f g = by_asked u (Over k) event f g
    by (Begin u) event f g = absurd (false≢true f)
    by (Commit u) event f g = absurd (false≢true f)
    by (Abort u) event f g = absurd (false≢true f)
    by (After u m) event f g = absurd (false≢true f)

-- an entry by which a transaction waits is kept
kept_some : (n : ℕ) (t : Name) (x : Entry) → accesses t x.event ≡ true → is_some (wait_for n (Some x)) ≡ true
kept_some n t x of_it = by x.event of_it
  where
    by : (e : Event) → accesses t e ≡ true → is_some (kept_by n x.by e) ≡ true
    by (Access u k o) f = refl
    by (Sum u k) f = refl
    by (Begin u) f = absurd (false≢true f)
    by (Commit u) f = absurd (false≢true f)
    by (Abort u) f = absurd (false≢true f)
    by (After u m) f = absurd (false≢true f)

-- some place passes
place_where : (p : Name → Bool) (xs : List Name) → list_any p xs ≡ true → (n : ℕ) × (x : Name) × (slice_get xs n ≡ Some x) × (p x ≡ true)
place_where p [] e = absurd (false≢true e)
place_where p (x ∷ xs) e =
    elim (or_cases (p x) (list_any p xs) e) [
      | inl here ↦ (0, x, refl, here)
      | inr later ↦ let r = place_where p xs later in (suc r.0, r.1, r.2, r.3)
    ]

some_of : {X : Type 0} (o : Option X) → is_some o ≡ true → (x : X) × (o ≡ Some x)
some_of None e = absurd (false≢true e)
some_of (Some x) e = (x, refl)

-- so the table of waits tells those of the history
pub tell_waits : (rows : Rows) (h : History) (tables : Tabled) → AreAllowed rows h → AreTablesOf rows h tables → TellWaits h tables.tree tables.waits
tell_waits rows h tables allowed are = record { known = known; all = all }
  where
    known : (n : ℕ) (w : Wait) → wait_of tables.waits n ≡ Some w
        → (t : Name) × (e : Entry) × (slice_get (names tables.tree) n ≡ Some t) × (wait_by h t ≡ Some e) × (e.event ≡ event_of t w.asked) × (w.txn ≡ n)
    known n w is = named (slice_get (names tables.tree) n) refl (sym (are.waiting n) ∙ is)
      where
        waited : (t : Name) → slice_get (names tables.tree) n ≡ Some t → (o : Option Entry) → wait_by h t ≡ o → wait_for n o ≡ Some w
            → (u : Name) × (e : Entry) × (slice_get (names tables.tree) n ≡ Some u) × (wait_by h u ≡ Some e) × (e.event ≡ event_of u w.asked) × (w.txn ≡ n)
        waited t at None waits f = absurd (false≢true (ap is_some f))
        waited t at (Some x) waits f =
            let read = read_wait n t x w (is_open h t x waits).of_it f in
            (t, x, at, waits, read.0, read.1)

        named : (o : Option Name) → slice_get (names tables.tree) n ≡ o → wait_for n (wait_of_any h o) ≡ Some w
            → (u : Name) × (e : Entry) × (slice_get (names tables.tree) n ≡ Some u) × (wait_by h u ≡ Some e) × (e.event ≡ event_of u w.asked) × (w.txn ≡ n)
        named None at f = absurd (false≢true (ap is_some f))
        named (Some t) at f = waited t at (wait_by h t) refl f

    all : (t : Name) (e : Entry) → wait_by h t ≡ Some e → (n : ℕ) × (w : Wait) × (slice_get (names tables.tree) n ≡ Some t) × (wait_of tables.waits n ≡ Some w)
    all t e waits =
        let found = is_open h t e waits in
        let started : has_begun h t ≡ true = (waits_kept rows h allowed).begun t (any-find (waits_as t) (waits_as t) (open_waits h) e found.found found.of_it) in
        let place = place_where (path_eq t) (names tables.tree) (any_named (path_eq t) h tables.tree are.in_tree ∙ any_begun (path_eq t) t h started (path_eq_self t)) in
        let at : slice_get (names tables.tree) place.0 ≡ Some t = place.2 ∙ ap (λ v. Some v) (sym (same_path t place.1 place.3)) in
        let is : wait_of tables.waits place.0 ≡ wait_for place.0 (Some e) = are.waiting place.0 ∙ ap (λ o. wait_for place.0 (wait_of_any h o)) at ∙ ap (wait_for place.0) waits in
        let kept = some_of (wait_of tables.waits place.0) (ap is_some is ∙ kept_some place.0 t e found.of_it) in
        (place.0, kept.0, at, kept.1)

module _ (rows : Rows) (h : History) (tables : Tabled) (are : AreTablesOf rows h tables) where
  abbrev waits : Waiting
  waits = tables.waits

  abbrev tree : States
  tree = tables.tree

  abbrev keeps : Keeps
  keeps = keeps_by h tables.tree

  -- by numbers one waits for another exactly where it does by names
  pub as_named : (w : Wait) (m : ℕ) (t u : Name) (e f : Entry) → slice_get (names tree) w.txn ≡ Some t → slice_get (names tree) m ≡ Some u
      → wait_by h t ≡ Some e → wait_by h u ≡ Some f → e.event ≡ event_of t w.asked → waits_for_in tree keeps w m ≡ waits_for h t u
  as_named w m t u e f at_t at_u is_e is_f event =
      any_numbered (is_held_up tree keeps w m) (λ b. blocks_event h (event_of t w.asked) b && is_front (branch_of t b) u) h tree are.in_tree each
      ∙ sym (
      ap (λ o. waits_by h t u o (wait_by h u)) is_e
      ∙ ap (waits_by h t u (Some e)) is_f
      ∙ ap (λ x. list_any (λ b. blocks_event h x b && is_front (branch_of t b) u) (begun h)) event)
    where
      each : (n : ℕ) (b : Name) → slice_get (names tree) n ≡ Some b
          → is_held_up tree keeps w m n ≡ (blocks_event h (event_of t w.asked) b && is_front (branch_of t b) u)
      each n b at =
          ap (λ x. x && is_in_branch tree w.txn n m) (keeps_as rows h tables are w.txn n t b at_t at w.asked)
          ∙ ap (λ o. is_blocker h t w.asked b && is_beside o (slice_get (names tree) n) (slice_get (names tree) m)) at_t
          ∙ ap (λ o. is_blocker h t w.asked b && is_beside (Some t) o (slice_get (names tree) m)) at
          ∙ ap (λ o. is_blocker h t w.asked b && is_beside (Some t) (Some b) o) at_u
          ∙ by (is_blocker h t w.asked b) refl
          ∙ ap (λ x. x && is_front (branch_of t b) u) (sym (blocks_at h t w.asked b))
        where
          by : (x : Bool) → is_blocker h t w.asked b ≡ x → (x && nat_lt (meet t b) (meet u b)) ≡ (x && is_front (branch_of t b) u)
          by false is = refl
          by true is =
              let more = and_parts (is_active h b) (not (is_front b t) && conflicts (reach h b (target w.asked)) (kind_of w.asked)) is in
              in_branch t b u (not-true (is_front b t) (and_parts (not (is_front b t)) (conflicts (reach h b (target w.asked)) (kind_of w.asked)) more.1).0)

  -- the pairs are those of the definitions
  pub are_waits : AreAllowed rows h → IsDistinct path_eq (names tables.tree) → AreOnce tables.waits
      → AreWaits h (names tables.tree) (edges_of tables.tree (keeps_by h tables.tree) tables.waits.waits tables.waits.waits)
  unfolding is_it
  are_waits allowed distinct once_each = record { numbered = numbered; sound = sound; whole = whole }
    where
      tell : TellWaits h tables.tree tables.waits
      tell = tell_waits rows h tables allowed are

      numbered : (a : ℕ) (t : Name) → slice_get (names tree) a ≡ Some t → number h t ≡ a
      numbered a t at =
          place_is (begun h) (once (reverse (begun h)) (subst (λ (ns : List Name). IsDistinct path_eq ns) are.in_tree.begun distinct)) a t
          (ap (λ ns. slice_get ns a) (sym are.in_tree.begun) ∙ at)

      sound : (a b : ℕ) → IsTrue (waits_in (edges_of tree keeps waits.waits waits.waits) a b)
          → (t : Name) × (u : Name) × (slice_get (names tree) a ≡ Some t) × (slice_get (names tree) b ≡ Some u) × IsTrue (waits_for h t u)
      sound a b e =
          let m = in_rows tree keeps a b waits.waits waits.waits e in
          let one = tell.known m.w.txn m.w (stands waits once_each m.i m.w m.first) in
          let other = tell.known m.v.txn m.v (stands waits once_each m.j m.v m.second) in (
            one.0,
            other.0,
            ap (slice_get (names tree)) (sym m.w_is) ∙ one.2,
            ap (slice_get (names tree)) (sym m.v_is) ∙ other.2,
            sym (as_named m.w m.v.txn one.0 other.0 one.1 other.1 one.2 other.2 one.3 other.3 one.4) ∙ m.waiting,
          )

      made : (t u : Name) (e f : Entry) → wait_by h t ≡ Some e → wait_by h u ≡ Some f → IsTrue (waits_for h t u)
          → (a : ℕ) × (b : ℕ) × (slice_get (names tree) a ≡ Some t) × (slice_get (names tree) b ≡ Some u) × IsTrue (waits_in (edges_of tree keeps waits.waits waits.waits) a b)
      made t u e f is_e is_f for =
          let one = tell.all t e is_e in
          let other = tell.all u f is_f in
          let w = one.1 in
          let v = other.1 in
          let same_w = tell.known one.0 w one.3 in
          let same_v = tell.known other.0 v other.3 in
          let i = once_each.all one.0 w one.3 in
          let j = once_each.all other.0 v other.3 in
          let there : same_w.0 ≡ t = ap (λ o. unwrap_or o t) (sym same_w.2 ∙ one.2) in
          let at_w : slice_get (names tree) w.txn ≡ Some t = ap (slice_get (names tree)) same_w.5 ∙ one.2 in
          let at_v : slice_get (names tree) v.txn ≡ Some u = ap (slice_get (names tree)) same_v.5 ∙ other.2 in
          let entry_is : same_w.1 ≡ e = ap (λ o. unwrap_or o e) (sym same_w.3 ∙ ap (wait_by h) there ∙ is_e) in
          let event : e.event ≡ event_of t w.asked = ap (λ (x : Entry). x.event) (sym entry_is) ∙ same_w.4 ∙ ap (λ x. event_of x w.asked) there in (
            one.0,
            other.0,
            one.2,
            other.2,
            rows_made tree keeps one.0 other.0 waits.waits waits.waits (record {
              w = w;
              i = i.0;
              first = i.1;
              w_is = same_w.5;
              v = v;
              j = j.0;
              second = j.1;
              v_is = same_v.5;
              waiting = as_named w v.txn t u e f at_w at_v is_e is_f event ∙ for;
            }),
          )

      whole : (t u : Name) → IsTrue (waits_for h t u)
          → (a : ℕ) × (b : ℕ) × (slice_get (names tree) a ≡ Some t) × (slice_get (names tree) b ≡ Some u) × IsTrue (waits_in (edges_of tree keeps waits.waits waits.waits) a b)
      whole t u e = by (wait_by h t) (wait_by h u) refl refl e
        where
          by : (o p : Option Entry) → wait_by h t ≡ o → wait_by h u ≡ p → IsTrue (waits_by h t u o p)
              → (a : ℕ) × (b : ℕ) × (slice_get (names tree) a ≡ Some t) × (slice_get (names tree) b ≡ Some u) × IsTrue (waits_in (edges_of tree keeps waits.waits waits.waits) a b)
          by None p is_o is_p f = absurd (false≢true f)
          by (Some x) None is_o is_p f = absurd (false≢true f)
          by (Some x) (Some y) is_o is_p f = made t u x y is_o is_p e

-- so the numbers on cycles tell of those of the definitions
pub agreed : (rows : Rows) (h : History) (tables : Tabled) → AreTablesOf rows h tables → AreAllowed rows h → IsDistinct path_eq (names tables.tree) → AreOnce tables.waits
    → Agree h (names tables.tree) (edges_of tables.tree (keeps_by h tables.tree) tables.waits.waits tables.waits.waits)
agreed rows h tables are allowed distinct once_each =
    cycles_agree h (names tables.tree) (edges_of tables.tree (keeps_by h tables.tree) tables.waits.waits tables.waits.waits)
    (are_waits rows h tables are allowed distinct once_each)

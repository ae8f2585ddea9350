-- Waits in a slab, seen as a list.
use Rattle.std.proofs.Common.{◌≡◌, ◌≢◌, ◌⊎◌, ℕ, zero, suc, nat_eq, Bool, true, false, cond, ◌+◌, ◌<◌, ◌-◌, length, List, [], ◌∷◌, ◌++◌, get_or, set, Option, Some, None, is_some, inl, inr, refl, sym, ap, subst, ◌∙◌, true≢false, arith}
use Rattle.std.specs.Prelude.{slice_get, IfNone, IfSome}
use Rattle.std.specs.Option.{option_map, unwrap_or}
use Rattle.std.proofs.lemmas.Bool.{cases_eq, cases_lt, eqb-true, eq-eqb}
use Rattle.std.proofs.lemmas.List.{length-append, length-set}
use Rattle.std.proofs.lemmas.Option.{none-some, same_Some, slice_get-get_or, slice_get_read, slice_get_within}
use Rattle.slab.specs.Slab.{Slab, Updates, get, slab_len}
use Rattle.txn_tree.proofs.Exports.{get_front, get_last, get_pushed}
use Rattle.wait_cycles.specs.declared.records.Record.{Record}
use Rattle.wait_cycles.specs.declared.waits.Wait.{Wait}
use Rattle.wait_cycles.specs.Stored.{AreInTable, AreStored, no_wait, wait_under, waits_under}
use Rattle.wait_cycles.specs.Waiting.{IsTaken, wait_in}
use Rattle.wait_cycles.proofs.Listed.{AreApart, found_of, none_of, off}
use Rattle.wait_cycles.proofs.Lists.{get-map, get-unmap, length_map, map_append}

-- ---- options and lists

pub mapped : {X Y : Type 0} (f : X → Y) (o : Option X) (y : Y) → option_map f o ≡ Some y → (x : X) × (o ≡ Some x) × (f x ≡ y)
mapped f None y e = absurd (none-some y e)
mapped f (Some x) y e = (x, refl, same_Some (f x) y e)

set_same : {X : Type 0} (xs : List X) (i : ℕ) (y : X) → i < length xs → slice_get (set xs i y) i ≡ Some y
set_same [] i y within = absurd (omega (arith, within))
set_same (x ∷ xs) zero y within = refl
set_same (x ∷ xs) (suc i) y within = set_same xs i y (omega (arith, within))

set_other : {X : Type 0} (xs : List X) (i j : ℕ) (y : X) → (j ≡ i → ⊥) → slice_get (set xs i y) j ≡ slice_get xs j
set_other [] i j y other = refl
set_other (x ∷ xs) zero zero y other = absurd (other refl)
set_other (x ∷ xs) zero (suc j) y other = refl
set_other (x ∷ xs) (suc i) zero y other = refl
set_other (x ∷ xs) (suc i) (suc j) y other = set_other xs i j y (λ e. other (ap suc e))

-- what stands where something was put
set_there : {X : Type 0} (xs : List X) (i : ℕ) (y z : X) → slice_get (set xs i y) i ≡ Some z → y ≡ z
set_there [] i y z e = absurd (none-some z e)
set_there (x ∷ xs) zero y z e = same_Some y z e
set_there (x ∷ xs) (suc i) y z e = set_there xs i y z e

none_within : {X : Type 0} (xs : List X) (i : ℕ) → i < length xs → slice_get xs i ≡ None → ⊥
none_within [] i within e = omega (arith, within)
none_within (x ∷ xs) zero within e = none-some x (sym e)
none_within (x ∷ xs) (suc i) within e = none_within xs i (omega (arith, within)) e

-- ---- under keys, and at places

pub wait_is : (slab : Slab Record) (k : ℕ) (r : Record) → get slab k ≡ Some r → wait_under slab k ≡ r.wait
wait_is slab k r at = ap (λ (o : Option Record). unwrap_or (option_map (λ (q : Record). q.wait) o) no_wait) at

module _ (slab : Slab Record) (keys : List ℕ) (table : List (Option ℕ)) (are : AreStored slab keys table) where
  pub record_at : (i k : ℕ) → slice_get keys i ≡ Some k → (r : Record) × (get slab k ≡ Some r) × (r.place ≡ i)
  record_at i k at = mapped (λ (r : Record). r.place) (get slab k) i (are.stored i k at)

  pub stands : (k : ℕ) (r : Record) → get slab k ≡ Some r → slice_get (waits_under slab keys) r.place ≡ Some r.wait
  stands k r at = get-map (wait_under slab) keys r.place k (are.kept k r at) ∙ ap (λ (w : Wait). Some w) (wait_is slab k r at)

  pub standing : (i : ℕ) (w : Wait) → slice_get (waits_under slab keys) i ≡ Some w → (k : ℕ) × (r : Record) × (get slab k ≡ Some r) × (r.place ≡ i) × (r.wait ≡ w)
  standing i w at =
      let k = get-unmap (wait_under slab) keys i w at in
      let r = record_at i k.0 k.1 in
      (k.0, r.0, r.1, r.2, sym (wait_is slab k.0 r.0 r.1) ∙ k.2)

  pub all_apart : AreApart (waits_under slab keys)
  all_apart i j v w at also same =
      let q = standing i v at in
      let r = standing j w also in
      let key = are.apart q.0 r.0 q.1 r.1 q.2 r.2 (ap (λ (x : Wait). x.txn) q.4 ∙ same ∙ ap (λ (x : Wait). x.txn) (sym r.4)) in
      let one = same_Some q.1 r.1 (sym q.2 ∙ ap (get slab) key ∙ r.2) in
      sym q.3 ∙ ap (λ (x : Record). x.place) one ∙ r.3

  -- nobody is found of whom there is no record
  pub nobody : (t : ℕ) → ((k : ℕ) (r : Record) → get slab k ≡ Some r → r.wait.txn ≡ t → ⊥) → wait_in (waits_under slab keys) t ≡ None
  nobody t none = none_of (waits_under slab keys) t (λ i w at same. let r = standing i w at in none r.0 r.1 r.2 (ap (λ (x : Wait). x.txn) r.4 ∙ same))

  -- no record is of one who is not found
  pub unrecorded : (t : ℕ) → wait_in (waits_under slab keys) t ≡ None → (k : ℕ) (r : Record) → get slab k ≡ Some r → r.wait.txn ≡ t → ⊥
  unrecorded t none k r at same = none-some r.wait (sym none ∙ found_of (waits_under slab keys) all_apart t r.place r.wait (stands k r at) same)

  -- ---- one more

  module _ (new : Slab Record) (key : ℕ) (x : Wait) (free : get slab key ≡ None) (updates : Updates slab new key (Some (record { wait = x; place = length keys })))
      (more : slab_len new ≡ slab_len slab + 1) (none : wait_in (waits_under slab keys) x.txn ≡ None) where
    abbrev newest : Record
    newest = record { wait = x; place = length keys }

    was : (k : ℕ) (r : Record) → get new k ≡ Some r → ((k ≡ key) × (newest ≡ r)) ⊎ ((k ≡ key → ⊥) × (get slab k ≡ Some r))
    was k r at =
        elim (cases_eq k key) [
          | inl same ↦ inl (same, same_Some newest r (sym updates.changed ∙ ap (get new) (sym same) ∙ at))
          | inr other ↦ inr (other, sym (updates.others k other) ∙ at)
        ]

    is : (k : ℕ) (r : Record) → get slab k ≡ Some r → get new k ≡ Some r
    is k r at = updates.others k (λ same. none-some r (sym free ∙ ap (get slab) (sym same) ∙ at)) ∙ at

    others : (k : ℕ) (r : Record) → get slab k ≡ Some r → r.wait.txn ≡ x.txn → ⊥
    others k r at same = unrecorded x.txn none k r at same

    pub pushed : AreStored new (keys ++ key ∷ []) (set table x.txn (Some key))
    pushed = record {
      number = more ∙ ap (λ (n : ℕ). n + 1) are.number ∙ sym (length-append keys (key ∷ []));
      stored = λ i k at.
          elim (get_pushed keys key i k at) [
            | inl there ↦ let r = record_at i k there in ap (option_map (λ (q : Record). q.place)) (is k r.0 r.1) ∙ ap Some r.2
            | inr last ↦ ap (λ (j : ℕ). option_map (λ (q : Record). q.place) (get new j)) last.1 ∙ ap (option_map (λ (q : Record). q.place)) updates.changed ∙ ap Some (sym last.0)
          ];
      kept = λ k r at.
          elim (was k r at) [
            | inl here ↦ ap (λ (q : Record). slice_get (keys ++ key ∷ []) q.place) (sym here.1) ∙ get_last keys key ∙ ap Some (sym here.0)
            | inr there ↦ get_front keys (key ∷ []) r.place k (are.kept k r there.1)
          ];
      own = λ t k at.
          elim (cases_eq t x.txn) [
            | inl same ↦
                let is_key = same_Some key k (set_there table x.txn (Some key) (Some k) (sym (ap (slice_get (set table x.txn (Some key))) same) ∙ at)) in
                ap (λ (j : ℕ). option_map (λ (q : Record). q.wait.txn) (get new j)) (sym is_key) ∙ ap (option_map (λ (q : Record). q.wait.txn)) updates.changed ∙ ap Some (sym same)
            | inr other ↦
                let r = mapped (λ (q : Record). q.wait.txn) (get slab k) t (are.own t k (sym (set_other table x.txn t (Some key) other) ∙ at)) in
                ap (option_map (λ (q : Record). q.wait.txn)) (is k r.0 r.1) ∙ ap Some r.2
          ];
      found = λ k r at within.
          elim (was k r at) [
            | inl here ↦
                let mine = ap (λ (q : Record). q.wait.txn) here.1 in
                let long = length-set table x.txn (Some key) in
                ap (slice_get (set table x.txn (Some key))) (sym mine) ∙ set_same table x.txn (Some key) (omega (arith, mine, within, long)) ∙ ap (λ (j : ℕ). Some (Some j)) (sym here.0)
            | inr there ↦
                let long = length-set table x.txn (Some key) in
                set_other table x.txn r.wait.txn (Some key) (others k r there.1) ∙ are.found k r there.1 (omega (arith, within, long))
          ];
      apart = λ j k q r at also same.
          elim (was j q at) [
            | inl here ↦
                elim (was k r also) [
                  | inl also_here ↦ here.0 ∙ sym also_here.0
                  | inr there ↦ absurd (others k r there.1 (sym same ∙ ap (λ (o : Record). o.wait.txn) (sym here.1)))
                ]
            | inr there ↦
                elim (was k r also) [
                  | inl here ↦ absurd (others j q there.1 (same ∙ ap (λ (o : Record). o.wait.txn) (sym here.1)))
                  | inr also_there ↦ are.apart j k q r there.1 also_there.1 same
                ]
          ];
    }

    same_waits : (ks : List ℕ) → ((i k : ℕ) → slice_get ks i ≡ Some k → (r : Record) × (get slab k ≡ Some r)) → waits_under new ks ≡ waits_under slab ks
    same_waits [] have = refl
    same_waits (k ∷ ks) have =
        let r = have 0 k refl in
        ap (λ (w : Wait). w ∷ waits_under new ks) (wait_is new k r.0 (is k r.0 r.1) ∙ sym (wait_is slab k r.0 r.1))
        ∙ ap (λ (ws : List Wait). wait_under slab k ∷ ws) (same_waits ks (λ i j at. have (suc i) j at))

    pub waits_pushed : waits_under new (keys ++ key ∷ []) ≡ waits_under slab keys ++ x ∷ []
    waits_pushed =
        map_append (wait_under new) keys (key ∷ [])
        ∙ ap (λ (ws : List Wait). ws ++ wait_under new key ∷ []) (same_waits keys (λ i k at. let r = record_at i k at in (r.0, r.1)))
        ∙ ap (λ (w : Wait). waits_under slab keys ++ w ∷ []) (wait_is new key newest updates.changed)

  -- ---- one less

  module _ (p key : ℕ) (r0 : Record) (at_p : slice_get keys p ≡ Some key) (record_p : get slab key ≡ Some r0) (left : List ℕ) (fewer : length left + 1 ≡ length keys)
      (from : (i : ℕ) → i < length left → slice_get left i ≡ slice_get keys (cond (nat_eq i p) (length left) i)) where
    here : r0.place ≡ p
    here = let r = record_at p key at_p in ap (λ (q : Record). q.place) (same_Some r0 r.0 (sym record_p ∙ r.1)) ∙ r.2

    one_place : (i j k : ℕ) → slice_get keys i ≡ Some k → slice_get keys j ≡ Some k → i ≡ j
    one_place i j k at also =
        let q = record_at i k at in
        let r = record_at j k also in
        sym q.2 ∙ ap (λ (o : Record). o.place) (same_Some q.0 r.0 (sym q.1 ∙ r.1)) ∙ r.2

    within_p : p < length keys
    within_p = slice_get_within keys p key at_p

    -- what stands at the place then is what stood last
    from_last : (k : ℕ) → slice_get left p ≡ Some k → slice_get keys (length left) ≡ Some k
    from_last k at = ap (λ (b : Bool). slice_get keys (cond b (length left) p)) (sym (eq-eqb p p refl)) ∙ sym (from p (slice_get_within left p k at)) ∙ at

    to_place : (k : ℕ) → slice_get keys (length left) ≡ Some k → p < length left → slice_get left p ≡ Some k
    to_place k at less = from p less ∙ ap (λ (b : Bool). slice_get keys (cond b (length left) p)) (eq-eqb p p refl) ∙ at

    abbrev moved : Record → Record
    moved r = record { wait = r.wait; place = cond (nat_eq r.place (length left)) p r.place }

    -- the record of the last is still there when the other is taken out
    pub last_there : (mid : Slab Record) → Updates slab mid key None → (k : ℕ) → slice_get left p ≡ Some k → is_some (get mid k) ≡ true
    last_there mid removed k at =
        let r = record_at (length left) k (from_last k at) in
        let lt = slice_get_within left p k at in
        ap is_some (removed.others k (λ same. let one = one_place p (length left) k (at_p ∙ ap Some (sym same)) (from_last k at) in absurd (omega (arith, lt, one))) ∙ r.1)

    -- the record is taken out, and then that of the last has its place
    module _ (mid new : Slab Record) (removed : Updates slab mid key None)
        (moves : (k : ℕ) (w : Wait) (q : ℕ) → slice_get left p ≡ Some k → get mid k ≡ Some (record { wait = w; place = q }) → get new k ≡ Some (record { wait = w; place = p }))
        (keeps : (k : ℕ) → (slice_get left p ≡ Some k → ⊥) → get new k ≡ get mid k) where
      still : (k : ℕ) (r : Record) → (k ≡ key → ⊥) → get slab k ≡ Some r → get new k ≡ Some (moved r)
      still k r other at =
          elim (cases_eq r.place (length left)) [
            | inl last ↦
                let less : p < length left = elim (cases_lt p (length left)) [
                  | inl less ↦ less
                  | inr le ↦
                      let same : r.place ≡ p = omega (arith, last, le, within_p, fewer) in
                      absurd (other (same_Some k key (sym (are.kept k r at) ∙ ap (slice_get keys) same ∙ at_p)))
                ] in
                moves k r.wait r.place (to_place k (ap (slice_get keys) (sym last) ∙ are.kept k r at) less) middle
                ∙ ap (λ (b : Bool). Some (record { wait = r.wait; place = cond b p r.place })) (sym (eq-eqb r.place (length left) last))
            | inr first ↦
                keeps k (λ there. absurd (first (one_place r.place (length left) k (are.kept k r at) (from_last k there))))
                ∙ middle
                ∙ ap (λ (b : Bool). Some (record { wait = r.wait; place = cond b p r.place })) (sym (off r.place (length left) first))
          ]
        where
          middle : get mid k ≡ Some r
          middle = removed.others k other ∙ at

      was_there : (k : ℕ) (r : Record) → get new k ≡ Some r → (q : Record) × (get slab k ≡ Some q) × (k ≡ key → ⊥) × (moved q ≡ r)
      was_there k r at = by (get slab k) refl
        where
          unmoved : (k ≡ key → ⊥) → get slab k ≡ None → ⊥
          unmoved other none =
              none-some r (sym (keeps k (λ there. let o = record_at (length left) k (from_last k there) in none-some o.0 (sym none ∙ o.1)) ∙ removed.others k other ∙ none) ∙ at)

          not_key : k ≡ key → ⊥
          not_key same =
              let there : slice_get left p ≡ Some k → ⊥ = λ e.
              let lt = slice_get_within left p k e in
              let one = one_place p (length left) k (at_p ∙ ap Some (sym same)) (from_last k e) in
              omega (arith, lt, one) in
              none-some r (sym (keeps k there ∙ ap (get mid) same ∙ removed.changed) ∙ at)

          by : (o : Option Record) → get slab k ≡ o → (q : Record) × (get slab k ≡ Some q) × (k ≡ key → ⊥) × (moved q ≡ r)
          by None e = absurd (unmoved not_key e)
          by (Some q) e = (q, e, not_key, same_Some (moved q) r (sym (still k q not_key e) ∙ at))

      -- the record that stands at a place that is left
      left_at : (i k : ℕ) → slice_get left i ≡ Some k → (r : Record) × (get slab k ≡ Some r) × (k ≡ key → ⊥) × ((moved r).place ≡ i)
      left_at i k at = by (nat_eq i p) refl (sym (from i (slice_get_within left i k at)) ∙ at)
        where
          by : (b : Bool) → nat_eq i p ≡ b → slice_get keys (cond b (length left) i) ≡ Some k → (r : Record) × (get slab k ≡ Some r) × (k ≡ key → ⊥) × ((moved r).place ≡ i)
          by true same f =
              let e = eqb-true i p same in
              let lt = slice_get_within left i k at in
              let r = record_at (length left) k f in (
                r.0,
                r.1,
                λ is_key. let one = one_place (length left) p k f (at_p ∙ ap Some (sym is_key)) in omega (arith, one, e, lt),
                ap (λ (b : Bool). cond b p r.0.place) (eq-eqb r.0.place (length left) r.2) ∙ sym e,
              )
          by false differ f =
              let lt = slice_get_within left i k at in
              let r = record_at i k f in (
                r.0,
                r.1,
                λ is_key. true≢false (sym (eq-eqb i p (one_place i p k f (at_p ∙ ap Some (sym is_key)))) ∙ differ),
                ap (λ (b : Bool). cond b p r.0.place) (off r.0.place (length left) (λ last. let e = r.2 in omega (arith, last, e, lt))) ∙ r.2,
              )

      abbrev gone : List (Option ℕ)
      gone = set table r0.wait.txn None

      mine : (k : ℕ) (r : Record) → get slab k ≡ Some r → r.wait.txn ≡ r0.wait.txn → k ≡ key
      mine k r at same = are.apart k key r r0 at record_p same

      pub taken : slab_len new + 1 ≡ slab_len slab → AreStored new left gone
      taken less = record {
        number = let e = are.number in omega (arith, less, e, fewer);
        stored = λ i k at. let r = left_at i k at in ap (option_map (λ (q : Record). q.place)) (still k r.0 r.2 r.1) ∙ ap Some r.3;
        kept = λ k r at.
            let q = was_there k r at in
            ap (λ (o : Record). slice_get left o.place) (sym q.3) ∙ place_now k q.0 q.1 q.2;
        own = λ t k at.
            elim (cases_eq t r0.wait.txn) [
              | inl same ↦ absurd (none-some k (set_there table r0.wait.txn None (Some k) (sym (ap (slice_get gone) same) ∙ at)))
              | inr other ↦
                  let r = mapped (λ (q : Record). q.wait.txn) (get slab k) t (are.own t k (sym (set_other table r0.wait.txn t None other) ∙ at)) in
                  let differs : k ≡ key → ⊥ = λ is_key. other (sym r.2 ∙ ap (λ (q : Record). q.wait.txn) (same_Some r.0 r0 (sym r.1 ∙ ap (get slab) is_key ∙ record_p))) in
                  ap (option_map (λ (q : Record). q.wait.txn)) (still k r.0 differs r.1) ∙ ap Some r.2
            ];
        found = λ k r at within.
            let q = was_there k r at in
            let txn = ap (λ (o : Record). o.wait.txn) q.3 in
            let long = length-set table r0.wait.txn None in
            set_other table r0.wait.txn r.wait.txn None (λ same. q.2 (mine k q.0 q.1 (txn ∙ same)))
            ∙ ap (slice_get table) (sym txn) ∙ are.found k q.0 q.1 (omega (arith, txn, within, long));
        apart = λ j k q r at also same.
            let one = was_there j q at in
            let other = was_there k r also in
            are.apart j k one.0 other.0 one.1 other.1 (ap (λ (o : Record). o.wait.txn) one.3 ∙ same ∙ sym (ap (λ (o : Record). o.wait.txn) other.3));
      }
        where
          place_now : (k : ℕ) (r : Record) → get slab k ≡ Some r → (k ≡ key → ⊥) → slice_get left (moved r).place ≡ Some k
          place_now k r at other =
              let within = slice_get_within keys r.place k (are.kept k r at) in
              let elsewhere : r.place ≡ p → ⊥ = λ same. other (same_Some k key (sym (are.kept k r at) ∙ ap (slice_get keys) same ∙ at_p)) in
              elim (cases_eq r.place (length left)) [
                | inl last ↦
                    let less : p < length left = elim (cases_lt p (length left)) [
                      | inl less ↦ less
                      | inr le ↦ absurd (elsewhere (omega (arith, last, le, within_p, fewer)))
                    ] in
                    ap (λ (b : Bool). slice_get left (cond b p r.place)) (eq-eqb r.place (length left) last) ∙ to_place k (ap (slice_get keys) (sym last) ∙ are.kept k r at) less
                | inr first ↦
                    let less : r.place < length left = elim (cases_lt r.place (length left)) [
                      | inl less ↦ less
                      | inr le ↦ absurd (first (omega (arith, le, within, fewer)))
                    ] in
                    ap (λ (b : Bool). slice_get left (cond b p r.place)) (off r.place (length left) first)
                    ∙ from r.place less ∙ ap (λ (b : Bool). slice_get keys (cond b (length left) r.place)) (off r.place p elsewhere) ∙ are.kept k r at
              ]

      pub waits_taken : IsTaken p (waits_under slab keys) (waits_under new left)
      waits_taken = record {
        len = let a = length_map (wait_under new) left in let b = length_map (wait_under slab) keys in omega (arith, a, b, fewer);
        from = λ i within. let a = length_map (wait_under new) left in each i (omega (arith, within, a));
      }
        where
          each : (i : ℕ) → i < length left → slice_get (waits_under new left) i ≡ slice_get (waits_under slab keys) (cond (nat_eq i p) (length (waits_under new left)) i)
          each i within = by (slice_get left i) refl
            where
              by : (o : Option ℕ) → slice_get left i ≡ o → slice_get (waits_under new left) i ≡ slice_get (waits_under slab keys) (cond (nat_eq i p) (length (waits_under new left)) i)
              by None e = let past = none_within left i within e in absurd past
              by (Some k) e =
                  let r = left_at i k e in
                  let old = sym (from i within) ∙ e in
                  get-map (wait_under new) left i k e
                  ∙ ap Some (wait_is new k (moved r.0) (still k r.0 r.2 r.1) ∙ sym (wait_is slab k r.0 r.1))
                  ∙ sym (get-map (wait_under slab) keys (cond (nat_eq i p) (length left) i) k old)
                  ∙ ap (λ (n : ℕ). slice_get (waits_under slab keys) (cond (nat_eq i p) n i)) (sym (length_map (wait_under new) left))

-- ---- the last in the place of another

pub swapped : (keys left : List ℕ) (p : ℕ) → length left + 1 ≡ length keys
    → (((d : ℕ) → p + 1 < length keys → get_or left p d ≡ get_or keys (length keys - 1) d) × ((k d : ℕ) → k ≢ p → k + 1 < length keys → get_or left k d ≡ get_or keys k d))
    → (i : ℕ) → i < length left → slice_get left i ≡ slice_get keys (cond (nat_eq i p) (length left) i)
swapped keys left p fewer indexed i within =
    elim (cases_eq i p) [
      | inl same ↦
          let last : length keys - 1 ≡ length left = omega (arith, fewer) in
          slice_get-get_or left i 0 within
          ∙ ap Some (ap (λ (j : ℕ). get_or left j 0) same ∙ indexed.0 0 (omega (arith, same, within, fewer)) ∙ ap (λ (j : ℕ). get_or keys j 0) last)
          ∙ sym (slice_get-get_or keys (length left) 0 (omega (arith, fewer)))
          ∙ ap (λ (b : Bool). slice_get keys (cond b (length left) i)) (sym (eq-eqb i p same))
      | inr other ↦
          slice_get-get_or left i 0 within
          ∙ ap Some (indexed.1 i 0 other (omega (arith, within, fewer)))
          ∙ sym (slice_get-get_or keys i 0 (omega (arith, within, fewer)))
          ∙ ap (λ (b : Bool). slice_get keys (cond b (length left) i)) (sym (off i p other))
    ]

-- ---- the room

-- the table may be made while nobody waits
pub stored_made : (slab new : Slab Record) (keys : List ℕ) (table made : List (Option ℕ)) → AreStored slab keys table → ((k : ℕ) → get new k ≡ get slab k) → slab_len new ≡ slab_len slab
    → (0 < length table → made ≡ table) → (length table ≡ 0 → (t k : ℕ) → slice_get made t ≡ Some (Some k) → ⊥) → (0 < length keys → 0 < length table) → AreStored new keys made
stored_made slab new keys table made are gets len kept none covered = record {
  number = len ∙ are.number;
  stored = λ i k at. ap (option_map (λ (r : Record). r.place)) (gets k) ∙ are.stored i k at;
  kept = λ k r at. are.kept k r (sym (gets k) ∙ at);
  own = λ t k at.
      elim (cases_lt 0 (length table)) [
        | inl some ↦ ap (option_map (λ (r : Record). r.wait.txn)) (gets k) ∙ are.own t k (ap (λ (ts : List (Option ℕ)). slice_get ts t) (sym (kept some)) ∙ at)
        | inr le ↦ absurd (none (omega (arith, le)) t k at)
      ];
  found = λ k r at within.
      let was = sym (gets k) ∙ at in
      let place = slice_get_within keys r.place k (are.kept k r was) in
      let same = kept (covered (omega (arith, place))) in
      ap (λ (ts : List (Option ℕ)). slice_get ts r.wait.txn) same ∙ are.found k r was (subst (λ (ts : List (Option ℕ)). r.wait.txn < length ts) same within);
  apart = λ j k q r at also same. are.apart j k q r (sym (gets j) ∙ at) (sym (gets k) ∙ also) same;
}

pub waits_kept : (slab new : Slab Record) (keys : List ℕ) → ((k : ℕ) → get new k ≡ get slab k) → waits_under new keys ≡ waits_under slab keys
waits_kept slab new [] gets = refl
waits_kept slab new (k ∷ keys) gets =
    ap (λ (w : Wait). w ∷ waits_under new keys) (ap (λ (o : Option Record). unwrap_or (option_map (λ (q : Record). q.wait) o) no_wait) (gets k))
    ∙ ap (λ (ws : List Wait). wait_under slab k ∷ ws) (waits_kept slab new keys gets)

pub at_place : (slab : Slab Record) (keys : List ℕ) (p key : ℕ) → p < length (waits_under slab keys) → key ≡ get_or keys p key → slice_get keys p ≡ Some key
at_place slab keys p key within is = let long = length_map (wait_under slab) keys in slice_get_read keys (length keys) p key refl (omega (arith, long, within)) is

-- the key at a place was taken out, and its record and what the table had of it
pub taken_out : (slab : Slab Record) (keys : List ℕ) (table : List (Option ℕ)) → AreStored slab keys table → (p key : ℕ) (r : Record) → p < length (waits_under slab keys) → key ≡ get_or keys p key
    → get slab key ≡ Some r → (left : List ℕ) (n : ℕ) → n ≡ length keys → length left + 1 ≡ n
    → (((d : ℕ) → p + 1 < n → get_or left p d ≡ get_or keys (n - 1) d) × ((k d : ℕ) → k ≢ p → k + 1 < n → get_or left k d ≡ get_or keys k d))
    → (mid new : Slab Record) → Updates slab mid key None
    → ((k : ℕ) (w : Wait) (q : ℕ) → slice_get left p ≡ Some k → get mid k ≡ Some (record { wait = w; place = q }) → get new k ≡ Some (record { wait = w; place = p }))
    → ((k : ℕ) → slice_get left p ≢ Some k → get new k ≡ get mid k)
    → slab_len new + 1 ≡ slab_len slab
    → AreStored new left (set table r.wait.txn None) × IsTaken p (waits_under slab keys) (waits_under new left)
taken_out slab keys table are p key r within value record_p left n long fewer indexed mid new removed moves keeps less =
    let at_p = at_place slab keys p key within value in
    let shorter : length left + 1 ≡ length keys = fewer ∙ long in
    let from = swapped keys left p shorter (subst (λ (m : ℕ). ((d : ℕ) → p + 1 < m → get_or left p d ≡ get_or keys (m - 1) d) × ((k d : ℕ) → k ≢ p → k + 1 < m → get_or left k d ≡ get_or keys k d)) long indexed) in (
      taken slab keys table are p key r at_p record_p left shorter from mid new removed moves keeps less,
      waits_taken slab keys table are p key r at_p record_p left shorter from mid new removed moves keeps,
    )

pub key_last : (slab : Slab Record) (keys : List ℕ) (table : List (Option ℕ)) → AreStored slab keys table → (p key : ℕ) (r : Record) → p < length (waits_under slab keys) → key ≡ get_or keys p key
    → get slab key ≡ Some r → (left : List ℕ) (n : ℕ) → n ≡ length keys → length left + 1 ≡ n
    → (((d : ℕ) → p + 1 < n → get_or left p d ≡ get_or keys (n - 1) d) × ((k d : ℕ) → k ≢ p → k + 1 < n → get_or left k d ≡ get_or keys k d))
    → (mid : Slab Record) → Updates slab mid key None → (o : Option ℕ) → slice_get left p ≡ o → IfSome o (λ k. is_some (get mid k) ≡ true)
key_last slab keys table are p key r within value record_p left n long fewer indexed mid removed None e = tt
key_last slab keys table are p key r within value record_p left n long fewer indexed mid removed (Some k) e =
    let at_p = at_place slab keys p key within value in
    let shorter : length left + 1 ≡ length keys = fewer ∙ long in
    let from = swapped keys left p shorter (subst (λ (m : ℕ). ((d : ℕ) → p + 1 < m → get_or left p d ≡ get_or keys (m - 1) d) × ((k d : ℕ) → k ≢ p → k + 1 < m → get_or left k d ≡ get_or keys k d)) long indexed) in
    last_there slab keys table are p key r at_p record_p left shorter from mid removed k e

-- ---- looked for

module _ (slab : Slab Record) (table : List (Option ℕ)) (told : AreInTable slab table) (t : ℕ) where
  under_key : (k : ℕ) → slice_get table t ≡ Some (Some k) → (r : Record) × (get slab k ≡ Some r) × (r.wait.txn ≡ t)
  under_key k at = mapped (λ (r : Record). r.wait.txn) (get slab k) t (told.own t k at)

  pub there : (k : ℕ) → slice_get table t ≡ Some (Some k) → (o : Option Record) → o ≡ get slab k → IfSome o (λ r. (j : ℕ) × (get slab j ≡ Some r) × (r.wait.txn ≡ t))
  there k at None e = tt
  there k at (Some r) e = let q = under_key k at in (k, sym e, ap (λ (x : Record). x.wait.txn) (same_Some r q.0 (e ∙ q.1)) ∙ q.2)

  pub never_none : {X : Type 0} (P : Type 0) (f : X → Record) (k : ℕ) → slice_get table t ≡ Some (Some k) → (o : Option X) → option_map f o ≡ get slab k → IfNone o P
  never_none P f k at None e = let q = under_key k at in absurd (none-some q.0 (e ∙ q.1))
  never_none P f k at (Some x) e = tt

  pub absent : slice_get table t ≡ Some None → (k : ℕ) (r : Record) → get slab k ≡ Some r → r.wait.txn ≡ t → ⊥
  absent at k r is same =
      let within = slice_get_within table t None at in
      none-some k (same_Some None (Some k) (sym at ∙ ap (slice_get table) (sym same) ∙ told.found k r is (omega (arith, same, within))))

module _ (slab : Slab Record) (keys : List ℕ) (table : List (Option ℕ)) (are : AreStored slab keys table) (t : ℕ) where
  pub found_some : (o : Option Record) → IfSome o (λ r. (k : ℕ) × (get slab k ≡ Some r) × (r.wait.txn ≡ t)) → IfSome o (λ r. (slice_get (waits_under slab keys) r.place ≡ Some r.wait) × (r.wait.txn ≡ t))
  found_some None e = tt
  found_some (Some r) e = (stands slab keys table are e.0 r e.1, e.2)

  pub found_none : {X : Type 0} (o : Option X) → IfNone o ((k : ℕ) (r : Record) → get slab k ≡ Some r → r.wait.txn ≢ t) → IfNone o (wait_in (waits_under slab keys) t ≡ None)
  found_none None e = nobody slab keys table are t e
  found_none (Some x) e = tt

-- Waits in a list, at most one of a transaction.
use Rattle.std.proofs.Common.{◌≡◌, ℕ, zero, suc, nat_eq, Bool, true, false, cond, ◌+◌, ◌<◌, ◌≤◌, length, List, [], ◌∷◌, ◌++◌, Option, Some, None, is_some, inl, inr, refl, sym, ap, ◌∙◌, true≢false, arith}
use Rattle.std.specs.Prelude.{slice_get, IfSome}
use Rattle.std.proofs.lemmas.Bool.{cases_eq, cases_lt, eqb-true, eq-eqb}
use Rattle.std.proofs.lemmas.Option.{none-some, same_Some, slice_get_within}
use Rattle.txn_tree.specs.States.{States}
use Rattle.wait_cycles.specs.declared.waits.Wait.{Wait}
use Rattle.wait_cycles.specs.Waiting.{AreOnce, IsTaken, is_under, is_under_in, wait_in}

abbrev pub AreApart : List Wait → Type 0
AreApart ws = (i j : ℕ) (v w : Wait) → slice_get ws i ≡ Some v → slice_get ws j ≡ Some w → v.txn ≡ w.txn → i ≡ j

pub off : (a b : ℕ) → (a ≡ b → ⊥) → nat_eq a b ≡ false
off a b differ = by (nat_eq a b) refl
  where
    by : (c : Bool) → nat_eq a b ≡ c → c ≡ false
    by true e = absurd (differ (eqb-true a b e))
    by false e = refl

-- ---- found in a list

-- the wait that is found stands at a place
pub place_of : (ws : List Wait) (t : ℕ) (w : Wait) → wait_in ws t ≡ Some w → (i : ℕ) × (slice_get ws i ≡ Some w) × (w.txn ≡ t)
place_of [] t w e = absurd (none-some w e)
place_of (x ∷ ws) t w e = by (place_of ws t w) (nat_eq x.txn t) refl e
  where
    by : (wait_in ws t ≡ Some w → (i : ℕ) × (slice_get ws i ≡ Some w) × (w.txn ≡ t)) → (b : Bool) → nat_eq x.txn t ≡ b → cond b (Some x) (wait_in ws t) ≡ Some w → (i : ℕ) × (slice_get (x ∷ ws) i ≡ Some w) × (w.txn ≡ t)
    by later true same f = (0, f, sym (ap (λ (y : Wait). y.txn) (same_Some x w f)) ∙ eqb-true x.txn t same)
    by later false differ f = let p = later f in (suc p.0, p.1, p.2)

-- each that stands at a place is found
pub found_at : (ws : List Wait) → AreApart ws → (i : ℕ) (w : Wait) → slice_get ws i ≡ Some w → wait_in ws w.txn ≡ Some w
found_at [] apart i w at = absurd (none-some w at)
found_at (x ∷ ws) apart zero w at = ap (λ (b : Bool). cond b (Some x) (wait_in ws w.txn)) (eq-eqb x.txn w.txn (ap (λ (y : Wait). y.txn) (same_Some x w at))) ∙ at
found_at (x ∷ ws) apart (suc i) w at =
    ap (λ (b : Bool). cond b (Some x) (wait_in ws w.txn)) (off x.txn w.txn (λ same. absurd (omega (arith, apart zero (suc i) x w refl at same))))
    ∙ found_at ws (λ j k u v one other same. let e = apart (suc j) (suc k) u v one other same in omega (arith, e)) i w at

pub found_of : (ws : List Wait) → AreApart ws → (t i : ℕ) (w : Wait) → slice_get ws i ≡ Some w → w.txn ≡ t → wait_in ws t ≡ Some w
found_of ws apart t i w at same = ap (wait_in ws) (sym same) ∙ found_at ws apart i w at

-- nobody is found who stands nowhere
pub none_of : (ws : List Wait) (t : ℕ) → ((i : ℕ) (w : Wait) → slice_get ws i ≡ Some w → w.txn ≡ t → ⊥) → wait_in ws t ≡ None
none_of ws t nowhere = by (wait_in ws t) refl
  where
    by : (o : Option Wait) → wait_in ws t ≡ o → o ≡ None
    by None e = refl
    by (Some w) e = let p = place_of ws t w e in absurd (nowhere p.0 w p.1 p.2)

pub once : (ws : List Wait) (room : ℕ) → AreApart ws → AreOnce (record { waits = ws; room = room })
once ws room apart = record { apart = apart; all = λ t w e. let p = place_of ws t w e in (p.0, p.1) }

-- ---- one more

pub added : (ws : List Wait) (x : Wait) → wait_in ws x.txn ≡ None → (u : ℕ) → wait_in (ws ++ x ∷ []) u ≡ cond (nat_eq x.txn u) (Some x) (wait_in ws u)
added [] x none u = refl
added (y ∷ ws) x none u = by (λ f. added ws x f u) (nat_eq y.txn x.txn) refl none
  where
    by : (wait_in ws x.txn ≡ None → wait_in (ws ++ x ∷ []) u ≡ cond (nat_eq x.txn u) (Some x) (wait_in ws u)) → (b : Bool) → nat_eq y.txn x.txn ≡ b → cond b (Some y) (wait_in ws x.txn) ≡ None
        → cond (nat_eq y.txn u) (Some y) (wait_in (ws ++ x ∷ []) u) ≡ cond (nat_eq x.txn u) (Some x) (cond (nat_eq y.txn u) (Some y) (wait_in ws u))
    by later true same f = absurd (none-some y (sym f))
    by later false differ f = ap (λ (o : Option Wait). cond (nat_eq y.txn u) (Some y) o) (later f) ∙ swapped (nat_eq y.txn u) (nat_eq x.txn u) refl refl
      where
        swapped : (a b : Bool) → nat_eq y.txn u ≡ a → nat_eq x.txn u ≡ b
            → cond a (Some y) (cond b (Some x) (wait_in ws u)) ≡ cond b (Some x) (cond a (Some y) (wait_in ws u))
        swapped true true e g = absurd (true≢false (sym (eq-eqb y.txn x.txn (eqb-true y.txn u e ∙ sym (eqb-true x.txn u g))) ∙ differ))
        swapped true false e g = refl
        swapped false b e g = refl

-- ---- one less

module _ (old new : List Wait) (p : ℕ) (v : Wait) (apart : AreApart old) (apart_new : AreApart new) (taken : IsTaken p old new) (at : slice_get old p ≡ Some v) where
  -- where one stands that is left
  was_at : (i : ℕ) (w : Wait) → slice_get new i ≡ Some w → (j : ℕ) × (slice_get old j ≡ Some w) × (j ≡ p → ⊥)
  was_at i w there = by (nat_eq i p) refl (sym (taken.from i (slice_get_within new i w there)) ∙ there)
    where
      by : (b : Bool) → nat_eq i p ≡ b → slice_get old (cond b (length new) i) ≡ Some w → (j : ℕ) × (slice_get old j ≡ Some w) × (j ≡ p → ⊥)
      by true here f = (length new, f, λ same. let e = eqb-true i p here in let lt = slice_get_within new i w there in omega (arith, e, lt, same))
      by false differ f = (i, f, λ same. true≢false (sym (eq-eqb i p same) ∙ differ))

  -- where one stands now
  is_at : (j : ℕ) (w : Wait) → slice_get old j ≡ Some w → (j ≡ p → ⊥) → (i : ℕ) × (slice_get new i ≡ Some w)
  is_at j w there other = by (nat_eq j (length new)) refl
    where
      lt : j < length old
      lt = slice_get_within old j w there

      here : p < length old
      here = slice_get_within old p v at

      by : (b : Bool) → nat_eq j (length new) ≡ b → (i : ℕ) × (slice_get new i ≡ Some w)
      by true last =
          let e = eqb-true j (length new) last in
          let less : p < length new = elim (cases_lt p (length new)) [ inl less ↦ less | inr le ↦ absurd (other (omega (arith, le, e, lt, here, taken.len))) ] in
          (p, taken.from p less ∙ ap (λ (b : Bool). slice_get old (cond b (length new) p)) (eq-eqb p p refl) ∙ ap (slice_get old) (sym e) ∙ there)
      by false first =
          let less : j < length new = elim (cases_lt j (length new)) [ inl less ↦ less | inr le ↦ absurd (true≢false (sym (eq-eqb j (length new) (omega (arith, le, lt, taken.len))) ∙ first)) ] in
          (j, taken.from j less ∙ ap (λ (b : Bool). slice_get old (cond b (length new) j)) (off j p other) ∙ there)

  -- it is no longer found, and all others are
  pub without : (u : ℕ) → wait_in new u ≡ cond (nat_eq v.txn u) None (wait_in old u)
  without u = by (nat_eq v.txn u) refl
    where
      gone : v.txn ≡ u → (i : ℕ) (w : Wait) → slice_get new i ≡ Some w → w.txn ≡ u → ⊥
      gone mine i w there same = let was = was_at i w there in was.2 (apart was.0 p w v was.1 at (same ∙ sym mine))

      left : (nat_eq v.txn u ≡ false) → (o : Option Wait) → wait_in old u ≡ o → wait_in new u ≡ o
      left differ None e = none_of new u (λ i w there same. let was = was_at i w there in none-some w (sym e ∙ found_of old apart u was.0 w was.1 same))
      left differ (Some w) e =
          let there = place_of old u w e in
          let other : there.0 ≡ p → ⊥ = λ here.
          let same = same_Some v w (sym at ∙ ap (slice_get old) (sym here) ∙ there.1) in
          true≢false (sym (eq-eqb v.txn u (ap (λ (x : Wait). x.txn) same ∙ there.2)) ∙ differ) in
          let now = is_at there.0 w there.1 other in
          found_of new apart_new u now.0 w now.1 there.2

      by : (b : Bool) → nat_eq v.txn u ≡ b → wait_in new u ≡ cond b None (wait_in old u)
      by true mine = none_of new u (gone (eqb-true v.txn u mine))
      by false differ = left differ (wait_in old u) refl

  -- those that stood behind the place still pass, as does the last
  pub behind : (test : Wait → Bool) → ((i : ℕ) (w : Wait) → p < i → slice_get old i ≡ Some w → test w ≡ false) → (i : ℕ) (w : Wait) → p ≤ i → slice_get new i ≡ Some w → test w ≡ false
  behind test fails i w past there = by (nat_eq i p) refl (sym (taken.from i (slice_get_within new i w there)) ∙ there)
    where
      by : (b : Bool) → nat_eq i p ≡ b → slice_get old (cond b (length new) i) ≡ Some w → test w ≡ false
      by true here f = let e = eqb-true i p here in let lt = slice_get_within new i w there in fails (length new) w (omega (arith, e, lt)) f
      by false differ f =
          let other : i ≡ p → ⊥ = λ same. true≢false (sym (eq-eqb i p same) ∙ differ) in
          elim (cases_lt p i) [
            | inl less ↦ fails i w less f
            | inr le ↦ absurd (other (omega (arith, le, past)))
          ]

-- each that is met is the wait of its transaction
pub met : (ws : List Wait) → AreApart ws → (i : ℕ) (o : Option Wait) → o ≡ slice_get ws i → IfSome o (λ w. wait_in ws w.txn ≡ Some w)
met ws apart i None e = tt
met ws apart i (Some w) e = found_at ws apart i w (sym e)

-- ---- those that pass are taken out, from the last on

-- those that stand from the place on do not pass, and only such as pass are gone
pub record AreLeft (test : ℕ → Bool) (place : ℕ) (old new : List Wait) : Type 0 where
  pub kept : (u : ℕ) → test u ≡ false → wait_in new u ≡ wait_in old u
  pub fail : (i : ℕ) (w : Wait) → place ≤ i → slice_get new i ≡ Some w → test w.txn ≡ false
  pub len : length new ≤ length old
  pub same : length new ≡ length old → new ≡ old

module _ (test : ℕ → Bool) (old : List Wait) where
  pub all_left : AreLeft test (length old) old old
  all_left = record {
    kept = λ u e. refl;
    fail = λ i w past at. let within = slice_get_within old i w at in absurd (omega (arith, past, within));
    len = omega arith;
    same = λ e. refl;
  }

  module _ (now : List Wait) (place : ℕ) (left : AreLeft test place old now) (p : ℕ) (next : p + 1 ≡ place) where
    -- it does not pass
    pub left_there : ((w : Wait) → slice_get now p ≡ Some w → test w.txn ≡ false) → AreLeft test p old now
    left_there fails = record {
      kept = left.kept;
      fail = λ i w past at.
          elim (cases_eq p i) [
            | inl here ↦ fails w (ap (slice_get now) here ∙ at)
            | inr other ↦ left.fail i w (omega (arith, past, other, next)) at
          ];
      len = left.len;
      same = left.same;
    }

    -- it passes, and is taken out
    pub left_taken : (new : List Wait) (v : Wait) → AreApart now → AreApart new → IsTaken p now new → slice_get now p ≡ Some v → test v.txn ≡ true → AreLeft test p old new
    left_taken new v apart apart_new taken at passes = record {
      kept = λ u fails.
          without now new p v apart apart_new taken at u
          ∙ ap (λ (b : Bool). cond b None (wait_in now u)) (off v.txn u (λ e. true≢false (sym passes ∙ ap test e ∙ fails)))
          ∙ left.kept u fails;
      fail = behind now new p v apart apart_new taken at (λ w. test w.txn) (λ i w less there. left.fail i w (omega (arith, less, next)) there);
      len = let a = left.len in let b = taken.len in omega (arith, a, b);
      same = λ e. let a = left.len in let b = taken.len in absurd (omega (arith, a, b, e));
    }

  -- at last all that pass are gone
  module _ (new : List Wait) (left : AreLeft test 0 old new) where
    pub none_passes : (u : ℕ) → wait_in new u ≡ cond (test u) None (wait_in old u)
    none_passes u = by (test u) refl (wait_in new u) refl
      where
        by : (b : Bool) → test u ≡ b → (o : Option Wait) → wait_in new u ≡ o → o ≡ cond b None (wait_in old u)
        by true passes None e = refl
        by true passes (Some w) e =
            let p = place_of new u w e in
            absurd (true≢false (sym passes ∙ ap test (sym p.2) ∙ left.fail p.0 w (omega arith) p.1))
        by false fails o e = sym e ∙ left.kept u fails

    pub one_fewer : (u : ℕ) → test u ≡ true → is_some (wait_in old u) ≡ true → length new < length old
    one_fewer u passes some =
        elim (cases_lt (length new) (length old)) [
          | inl less ↦ less
          | inr le ↦ let most = left.len in absurd (by (left.same (omega (arith, le, most))) (wait_in old u) refl some)
        ]
      where
        by : new ≡ old → (o : Option Wait) → wait_in old u ≡ o → is_some o ≡ true → ⊥
        by same None e some = true≢false (sym some)
        by same (Some w) e some =
            let p = place_of old u w e in
            true≢false (sym passes ∙ ap test (sym p.2) ∙ left.fail p.0 w (omega arith) (ap (λ (ws : List Wait). slice_get ws p.0) same ∙ p.1))

pub under_there : (tree : States) (t : ℕ) (o : Option Wait) → is_under_in tree t o ≡ true → (w : Wait) × (o ≡ Some w) × (is_under tree t w.txn ≡ true)
under_there tree t None e = absurd (true≢false (sym e))
under_there tree t (Some w) e = (w, refl, e)

pub not_under : (tree : States) (t : ℕ) (o : Option Wait) → is_under_in tree t o ≡ false → (w : Wait) → o ≡ Some w → is_under tree t w.txn ≡ false
not_under tree t None e w is = absurd (none-some w is)
not_under tree t (Some v) e w is = ap (λ (x : Wait). is_under tree t x.txn) (sym (same_Some v w is)) ∙ e

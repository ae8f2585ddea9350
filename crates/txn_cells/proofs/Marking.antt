-- The marks of those at a key whose content stands out, as all are gone through, and as one of them is put in, set and taken out.
use Rattle.std.proofs.Common.{◌≡◌, ◌<◌, ◌≤◌, ◌+◌, ◌++◌, ℕ, Bool, true, false, cond, not, nat_eq, ◌&&◌, ◌||◌, filter, inl, inr, List, [], ◌∷◌, length, get_or, take, Option, Some, None, unwrap_or, is_some, append-nil, refl, sym, ap, subst, ◌∙◌, arith}
use Rattle.std.specs.Prelude.{Result, Ok, Err, OnOk}
use Rattle.std.specs.List.{list_any}
use Rattle.std.specs.List.Sorted.{IsStrictlyIncreasing}
use Rattle.std.specs.Map.{keys_of, lookup}
use Rattle.std.proofs.lemmas.Bool.{and_from, and_parts, eq-eqb, eqb-true, false≢true, or_cases, or_left, or_right}
use Rattle.std.proofs.lemmas.List.Elements.{filter_more}
use Rattle.std.proofs.lemmas.List.Kept.{IsStrictlyIncreasing-filter}
use Rattle.std.proofs.lemmas.Map.Entries.{length-keys_of}
use Rattle.std.proofs.lemmas.Map.Views.{any-filter_same}
use Rattle.txn_cells.specs.Kept.{AreMarked, HasMarks, Held, IsChangedAt, content_of, holds, stands}
use Rattle.txn_cells.proofs.ByKey.{any-without, one_fits}
use Rattle.txn_cells.proofs.Holding.{changed_content, put_contents, put_holds, set_holds, taken_holds}
use Rattle.txn_cells.proofs.Puts.{on_number}
use Rattle.txn_cells.proofs.Reserving.{found_by_key}

-- whoever has what stands out has a place
pub has_place : {V : Type 0} (outstanding : V → Bool) (held : Held V) (u : ℕ) → stands outstanding (content_of held u) ≡ true → holds held u ≡ true
has_place outstanding held u = by (lookup (nat_eq u) held)
  where
    by : (o : Option (Option _)) → stands outstanding (unwrap_or o None) ≡ true → is_some o ≡ true
    by None e = absurd (false≢true e)
    by (Some c) e = refl

module _ {V : Type 0} (outstanding : V → Bool) (held : Held V) where
  -- ---- all are gone through

  -- one after the other
  pub marks_more : (ns : List ℕ) (i n : ℕ) (b : Bool) → i < length ns → n ≡ get_or ns i n → b ≡ stands outstanding (content_of held n)
      → filter (λ u. stands outstanding (content_of held u)) (take (i + 1) ns)
      ≡ cond b (filter (λ u. stands outstanding (content_of held u)) (take i ns) ++ n ∷ []) (filter (λ u. stands outstanding (content_of held u)) (take i ns))
  marks_more ns i n b less number is =
      let p : ℕ → Bool = λ u. stands outstanding (content_of held u) in
      filter_more p ns i n less
      ∙ ap (λ (m : ℕ). filter p (take i ns) ++ cond (p m) (m ∷ []) []) (sym number)
      ∙ ap (λ (a : Bool). filter p (take i ns) ++ cond a (n ∷ []) []) (sym is)
      ∙ pushed b (filter p (take i ns)) n
    where
      pushed : (a : Bool) (xs : List ℕ) (x : ℕ) → xs ++ cond a (x ∷ []) [] ≡ cond a (xs ++ x ∷ []) xs
      pushed true xs x = refl
      pushed false xs x = append-nil xs

  pub any-marks : (ns : List ℕ) (u : ℕ) → list_any (nat_eq u) (filter (λ v. stands outstanding (content_of held v)) ns) ≡ (stands outstanding (content_of held u) && list_any (nat_eq u) ns)
  any-marks ns u =
      any-filter_same (nat_eq u) (λ v. stands outstanding (content_of held v)) (stands outstanding (content_of held u))
      (λ k same_number. ap (λ (v : ℕ). stands outstanding (content_of held v)) (sym (eqb-true u k same_number))) ns

  pub marks_made : (marked : List ℕ) (room : ℕ) → IsStrictlyIncreasing marked
      → ((u : ℕ) → list_any (nat_eq u) marked ≡ (stands outstanding (content_of held u) && holds held u)) → length held < room → HasMarks outstanding held marked room
  marks_made marked room rising each more = record {
    rising = rising;
    within = λ u e. (and_parts (stands outstanding (content_of held u)) (holds held u) (sym (each u) ∙ e)).1;
    fits = omega (arith, more);
    all = λ u e. each u ∙ and_from (stands outstanding (content_of held u)) (holds held u) e (has_place outstanding held u e);
  }

module _ {V : Type 0} (outstanding : V → Bool) (old new : Held V) (marked : List ℕ) (room : ℕ) (marks : HasMarks outstanding old marked room) (t : ℕ) where
  -- ---- an empty place is put in

  pub marks_put : IsChangedAt old new t (Some None) → holds old t ≡ false → length new ≤ room → HasMarks outstanding new marked room
  marks_put changed fresh fits = record {
    rising = marks.rising;
    within = λ u e. put_holds old new t changed u ∙ or_right (nat_eq t u) (holds old u) (marks.within u e);
    fits = fits;
    all = λ u e. marks.all u (ap (stands outstanding) (sym (put_contents old new t changed u fresh)) ∙ e);
  }

  -- ---- one is set

  module _ (there : holds old t ≡ true) where
    -- there is room to mark it
    pub room_to_mark : list_any (nat_eq t) marked ≡ false → length marked < room
    room_to_mark fresh =
        let less = one_fits marked (keys_of old) t marks.rising (λ u e. sym (found_by_key (nat_eq u) old) ∙ marks.within u e) (sym (found_by_key (nat_eq t) old) ∙ there) fresh in
        omega (arith, less, length-keys_of old, marks.fits)

    module _ (c : Option V) (changed : IsChangedAt old new t (Some c)) (fits : length new ≤ length old) where
      -- what stands out is marked
      set_all : (more : List ℕ) → ((u : ℕ) → list_any (nat_eq u) marked ≡ true → list_any (nat_eq u) more ≡ true)
          → (stands outstanding c ≡ true → list_any (nat_eq t) more ≡ true) → AreMarked outstanding new more
      set_all more kept here u e =
          on_number t u (λ b. stands outstanding (cond b c (content_of old u)) ≡ true → list_any (nat_eq u) more ≡ true)
          (λ mine f. subst (λ (v : ℕ). list_any (nat_eq v) more ≡ true) mine (here f))
          (λ _ f. kept u (marks.all u f))
          (ap (stands outstanding) (sym (changed_content old new t (Some c) changed u)) ∙ e)

      pub marks_with : (more : List ℕ) (capacity : ℕ) → room ≤ capacity → IsStrictlyIncreasing more → ((u : ℕ) → list_any (nat_eq u) more ≡ (nat_eq t u || list_any (nat_eq u) marked))
          → HasMarks outstanding new more capacity
      marks_with more capacity le rising each = record {
        rising = rising;
        within = λ u e.
            set_holds old new t c changed there u
            ∙ elim (or_cases (nat_eq t u) (list_any (nat_eq u) marked) (sym (each u) ∙ e)) [
              | inl same ↦ subst (λ (v : ℕ). holds old v ≡ true) (eqb-true t u same) there
              | inr before ↦ marks.within u before
            ];
        fits = omega (arith, marks.fits, le, fits);
        all = set_all more
            (λ u f. each u ∙ or_right (nat_eq t u) (list_any (nat_eq u) marked) f)
            (λ _. each t ∙ or_left (nat_eq t t) (list_any (nat_eq t) marked) (eq-eqb t t refl));
      }

      pub marks_still : stands outstanding c ≡ false → HasMarks outstanding new marked room
      marks_still plain = record {
        rising = marks.rising;
        within = λ u e. set_holds old new t c changed there u ∙ marks.within u e;
        fits = omega (arith, marks.fits, fits);
        all = set_all marked (λ u f. f) (λ on. absurd (false≢true (sym plain ∙ on)));
      }

  -- ---- one is taken out

  pub marks_left : IsChangedAt old new t None → length new ≤ length old → HasMarks outstanding new (filter (λ v. not (nat_eq v t)) marked) room
  marks_left changed fits = record {
    rising = IsStrictlyIncreasing-filter (λ v. not (nat_eq v t)) marked marks.rising;
    within = λ u e.
        let parts = and_parts (not (nat_eq t u)) (list_any (nat_eq u) marked) (sym (any-without marked t u) ∙ e) in
        taken_holds old new t changed u ∙ and_from (not (nat_eq t u)) (holds old u) parts.0 (marks.within u parts.1);
    fits = omega (arith, marks.fits, fits);
    all = λ u e.
        any-without marked t u
        ∙ on_number t u (λ b. stands outstanding (cond b None (content_of old u)) ≡ true → (not b && list_any (nat_eq u) marked) ≡ true)
        (λ _ f. absurd (false≢true f))
        (λ _ f. marks.all u f)
        (ap (stands outstanding) (sym (changed_content old new t None changed u)) ∙ e);
  }

-- at the exit with what three facts of a success give
pub all_on_ok : {A E P Q R S : Type 0} (r : Result A E) → (P → Q → R → S) → OnOk r P → OnOk r Q → OnOk r R → OnOk r S
all_on_ok (Ok x) f p q s = f p q s
all_on_ok (Err e) f p q s = tt

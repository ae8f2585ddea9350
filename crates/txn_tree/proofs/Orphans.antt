-- Orphans: whoever has an aborted ancestor. The parent of whoever is live and no orphan is so too, also after a begin and an end.
use Rattle.std.proofs.Common.{◌≡◌, ℕ, zero, suc, ◌<◌, Bool, true, false, not, ◌&&◌, ◌||◌, cond, nat_le, List, [], ◌∷◌, length, Option, Some, None, is_some, unwrap_or, option_map, inl, inr, refl, sym, ap, subst, ◌∙◌, true≢false, arith}
use Rattle.std.specs.Prelude.{slice_get}
use Rattle.std.specs.Map.{lookup}
use Rattle.std.proofs.lemmas.Bool.{false≢true, and_parts, and_from, not-true}
use Rattle.txn_names.specs.Path.{Path, path_eq, is_front, parent, top_of}
use Rattle.txn_names.proofs.Exports.{same_path, path_eq-from, parent-cons, length-parent, front_cases}
use Rattle.txn_tree.specs.declared.status.Status.{Status}
use Rattle.txn_tree.specs.declared.status.Status.TheVariants.{Absent, Live, Committed, Aborted}
use Rattle.txn_tree.specs.States.{States, names, status_in, is_absent, is_live, is_committed, is_aborted}
use Rattle.txn_tree.specs.Asked.{ended_by_abort, has_aborted_in, is_absent_in, is_active_in, is_live_in, is_orphan_in, has_committed_in, top_aborted_in, live_children_of}
use Rattle.txn_tree.specs.Causes.{cause_at_begin}
use Rattle.serial_spec.specs.History.{or_else}
use Rattle.serial_spec.specs.Allowed.{most_transactions}
use Rattle.serial_spec.specs.Causes.{when}
use Rattle.serial_spec.specs.declared.entry.Refusal.TheVariants.{Used, NoParent, Orphan, Full}
use Rattle.txn_tree.specs.Numbered.{IsUpward, is_active_at, is_active_named, is_below_orphan, is_below_orphan_named}
use Rattle.txn_tree.proofs.Counts.{count_has, count_none}
use Rattle.txn_tree.proofs.Told.{row_place}

-- ---- whether a front of a path passes

abbrev pub has_front : (Path → Bool) → Path → Bool
has_front passes t = is_some (top_of passes t)

mapped : (l : List ℕ) (o : Option Path) → is_some (option_map (λ u. l ∷ u) o) ≡ is_some o
mapped l None = refl
mapped l (Some u) = refl

front_first : (passes : Path → Bool) (l : List ℕ) (ls : Path) → has_front passes (l ∷ ls) ≡ (passes (l ∷ []) || has_front (λ u. passes (l ∷ u)) ls)
front_first passes l ls = by (passes (l ∷ []))
  where
    by : (b : Bool) → is_some (cond b (Some (l ∷ [])) (option_map (λ u. l ∷ u) (top_of (λ u. passes (l ∷ u)) ls))) ≡ (b || has_front (λ u. passes (l ∷ u)) ls)
    by true = refl
    by false = mapped l (top_of (λ u. passes (l ∷ u)) ls)

-- a front of a path is the path or a front of its parent
pub front_last : (passes : Path → Bool) (l : List ℕ) (ls : Path) → has_front passes (l ∷ ls) ≡ (has_front passes (parent (l ∷ ls)) || passes (l ∷ ls))
front_last passes l [] = front_first passes l [] ∙ by (passes (l ∷ []))
  where
    by : (b : Bool) → (b || false) ≡ b
    by true = refl
    by false = refl
front_last passes l (m ∷ ms) =
    front_first passes l (m ∷ ms)
    ∙ ap (λ b. passes (l ∷ []) || b) (front_last (λ u. passes (l ∷ u)) m ms)
    ∙ by (passes (l ∷ [])) (has_front (λ u. passes (l ∷ u)) (parent (m ∷ ms))) (passes (l ∷ m ∷ ms))
    ∙ ap (λ b. b || passes (l ∷ m ∷ ms)) (sym (front_first passes l (parent (m ∷ ms))) ∙ ap (has_front passes) (sym (parent-cons l m ms)))
  where
    by : (a b c : Bool) → (a || (b || c)) ≡ ((a || b) || c)
    by true b c = refl
    by false b c = refl

-- more fronts pass where more pass
pub front_more : (p q : Path → Bool) → ((u : Path) → p u ≡ true → q u ≡ true) → (t : Path) → has_front p t ≡ true → has_front q t ≡ true
front_more p q f [] e = absurd (false≢true e)
front_more p q f (l ∷ ls) e =
    front_first q l ls ∙ by (p (l ∷ [])) (q (l ∷ [])) (has_front (λ u. p (l ∷ u)) ls) (f (l ∷ [])) (front_more (λ u. p (l ∷ u)) (λ u. q (l ∷ u)) (λ u. f (l ∷ u)) ls) (sym (front_first p l ls) ∙ e)
  where
    by : (a b c : Bool) → (a ≡ true → b ≡ true) → (c ≡ true → has_front (λ u. q (l ∷ u)) ls ≡ true) → (a || c) ≡ true → (b || has_front (λ u. q (l ∷ u)) ls) ≡ true
    by a true c g h k = refl
    by true false c g h k = absurd (false≢true (g refl))
    by false false c g h k = h k

-- ---- who is active

pub active_parts : (tree : States) (u : Path) → is_active_in tree u ≡ true → (is_live_in tree u ≡ true) × (is_orphan_in tree u ≡ false)
active_parts tree u e = let w = and_parts (is_live_in tree u) (not (is_orphan_in tree u)) e in (w.0, not-true (is_orphan_in tree u) w.1)

pub active_from : (tree : States) (u : Path) → is_live_in tree u ≡ true → is_orphan_in tree u ≡ false → is_active_in tree u ≡ true
active_from tree u e f = and_from (is_live_in tree u) (not (is_orphan_in tree u)) e (ap (λ b. not b) f)

-- a live child of one that is no orphan is none
pub child_active : (tree : States) (u : Path) → is_live_in tree u ≡ true → is_orphan_in tree (parent u) ≡ false → is_active_in tree u ≡ true
child_active tree [] live upright = refl
child_active tree (l ∷ ls) live upright =
    active_from tree (l ∷ ls) live (front_last (has_aborted_in tree) l ls ∙ ap (λ b. b || has_aborted_in tree (l ∷ ls)) upright ∙ by (status_in tree (l ∷ ls)) live)
  where
    by : (s : Status) → is_live s ≡ true → (false || is_aborted s) ≡ false
    by Live e = refl
    by Aborted e = absurd (false≢true e)
    by s e = absurd (false≢true cc)

-- the parent of one that is no orphan is none
pub parent_upright : (tree : States) (u : Path) → is_orphan_in tree u ≡ false → is_orphan_in tree (parent u) ≡ false
parent_upright tree [] e = e
parent_upright tree (l ∷ ls) e = by (is_orphan_in tree (parent (l ∷ ls))) (sym (front_last (has_aborted_in tree) l ls) ∙ e)
  where
    by : (b : Bool) → (b || has_aborted_in tree (l ∷ ls)) ≡ false → b ≡ false
    by true f = absurd (true≢false f)
    by false f = refl

own_orphan : (tree : States) (u : Path) → path_eq [] u ≡ false → has_aborted_in tree u ≡ true → is_orphan_in tree u ≡ true
own_orphan tree [] some e = absurd (true≢false some)
own_orphan tree (l ∷ ls) some e = front_last (has_aborted_in tree) l ls ∙ right (is_orphan_in tree (parent (l ∷ ls))) (has_aborted_in tree (l ∷ ls)) e
  where
    right : (a b : Bool) → b ≡ true → (a || b) ≡ true
    right true b f = refl
    right false b f = f

-- whoever has begun, has not committed and is no orphan is active
pub begun_active : (tree : States) (u : Path) → is_absent_in tree u ≡ false → has_committed_in tree u ≡ false → is_orphan_in tree u ≡ false → is_active_in tree u ≡ true
begun_active tree [] begun going upright = refl
begun_active tree (l ∷ ls) begun going upright = active_from tree (l ∷ ls) (by (status_in tree (l ∷ ls)) refl begun going) upright
  where
    by : (s : Status) → status_in tree (l ∷ ls) ≡ s → is_absent s ≡ false → is_committed s ≡ false → is_live s ≡ true
    by Absent q e f = absurd (true≢false e)
    by Live q e f = refl
    by Committed q e f = absurd (true≢false f)
    by Aborted q e f = absurd (true≢false (sym (own_orphan tree (l ∷ ls) refl (ap is_aborted q)) ∙ upright))

-- a begin is below an active one
pub begins_below_active : (tree : States) (t : Path) → cause_at_begin tree t ≡ None → is_active_in tree (parent t) ≡ true
begins_below_active tree t e =
    let w = by (is_absent_in tree t) (is_absent_in tree (parent t)) (top_aborted_in tree (parent t)) (has_committed_in tree (parent t)) (nat_le most_transactions (length tree)) e in
    begun_active tree (parent t) w.0 w.2 w.1
  where
    by : (a b : Bool) (o : Option Path) (d f : Bool)
        → or_else (when (not a) Used) (or_else (when b NoParent) (or_else (option_map (λ p. Orphan p) o) (or_else (when d NoParent) (when f Full)))) ≡ None
        → (b ≡ false) × (is_some o ≡ false) × (d ≡ false)
    by true false None false f g = (refl, refl, refl)
    by true false None true f g = absurd (true≢false (ap is_some g))
    by true false (Some p) d f g = absurd (true≢false (ap is_some g))
    by true true o d f g = absurd (true≢false (ap is_some g))
    by false b o d f g = absurd (true≢false (ap is_some g))

pub below_active : (tree : States) (n : ℕ) → is_active_at tree n ≡ true → is_below_orphan tree n ≡ false
below_active tree n = by (slice_get (names tree) n)
  where
    by : (o : Option Path) → is_active_named tree o ≡ true → is_below_orphan_named tree o ≡ false
    by None e = refl
    by (Some t) e = parent_upright tree t (active_parts tree t e).1

module _ (tree : States) (upward : IsUpward tree) where
  -- whoever is above an active one is active
  above_active : (k : ℕ) (d u : Path) → length u < k → is_front d u ≡ true → is_active_in tree u ≡ true → is_active_in tree d ≡ true
  above_active zero d u small f e = absurd (omega (arith, small))
  above_active (suc k) [] [] small f e = e
  above_active (suc k) (x ∷ xs) [] small f e = absurd (false≢true f)
  above_active (suc k) d (l ∷ ls) small f e =
      elim (front_cases d (l ∷ ls) f) [
        | inl same ↦ subst (λ (p : Path). is_active_in tree p ≡ true) (sym same) e
        | inr above ↦ above_active k d (parent (l ∷ ls)) (omega (arith, small, length-parent (l ∷ ls))) above (upward (l ∷ ls) e)
      ]

  -- below one that is not active nobody is
  pub none_to_end : (d : Path) → is_active_in tree d ≡ false → ended_by_abort tree d ≡ 0
  none_to_end d quiet = count_none (λ u. is_front d u && is_active_in tree u) (names tree) (λ n u at. by u (is_front d u) (is_active_in tree u) refl refl)
    where
      by : (u : Path) (a b : Bool) → is_front d u ≡ a → is_active_in tree u ≡ b → (a && b) ≡ false
      by u true true f e = absurd (true≢false (sym (above_active (suc (length u)) d u (omega arith) f e) ∙ quiet))
      by u true false f e = refl
      by u false b f e = refl

-- after a begin
module _ (tree next : States) (t : Path) (begun : (u : Path) → status_in next u ≡ cond (path_eq t u) Live (status_in tree u)) (absent : is_absent_in tree t ≡ true) where
  same_aborted : (u : Path) → has_aborted_in next u ≡ true → has_aborted_in tree u ≡ true
  same_aborted u e = by (path_eq t u) (sym (ap is_aborted (begun u)) ∙ e)
    where
      by : (b : Bool) → is_aborted (cond b Live (status_in tree u)) ≡ true → is_aborted (status_in tree u) ≡ true
      by true f = absurd (false≢true f)
      by false f = f

  -- an orphan afterwards was one before
  same_orphans : (u : Path) → is_orphan_in tree u ≡ false → is_orphan_in next u ≡ false
  same_orphans u e = by (is_orphan_in next u) refl
    where
      by : (b : Bool) → is_orphan_in next u ≡ b → b ≡ false
      by true f = absurd (true≢false (sym (front_more (has_aborted_in next) (has_aborted_in tree) same_aborted u f) ∙ e))
      by false f = refl

  still_aborted : (u : Path) → has_aborted_in tree u ≡ true → has_aborted_in next u ≡ true
  still_aborted u e = ap is_aborted (begun u) ∙ by (path_eq t u) refl
    where
      no_longer : (s : Status) → is_absent s ≡ true → is_aborted s ≡ true → ⊥
      no_longer Absent f g = false≢true g
      no_longer Aborted f g = false≢true f
      no_longer Live f g = false≢true g
      no_longer Committed f g = false≢true g

      by : (b : Bool) → path_eq t u ≡ b → is_aborted (cond b Live (status_in tree u)) ≡ true
      by true f = absurd (no_longer (status_in tree u) (ap (is_absent_in tree) (sym (same_path t u f)) ∙ absent) e)
      by false f = e

  kept_active : (u : Path) → is_active_in tree u ≡ true → is_active_in next u ≡ true
  kept_active u e =
      let w = active_parts tree u e in
      active_from next u (ap is_live (begun u) ∙ by (path_eq t u) w.0) (same_orphans u w.1)
    where
      by : (b : Bool) → is_live (status_in tree u) ≡ true → is_live (cond b Live (status_in tree u)) ≡ true
      by true f = refl
      by false f = f

  was_active : (u : Path) → path_eq t u ≡ false → is_active_in next u ≡ true → is_active_in tree u ≡ true
  was_active u other e =
      let w = active_parts next u e in
      active_from tree u (sym (ap is_live (begun u ∙ ap (λ b. cond b Live (status_in tree u)) other)) ∙ w.0) (by (is_orphan_in tree u) refl w.1)
    where
      by : (b : Bool) → is_orphan_in tree u ≡ b → is_orphan_in next u ≡ false → b ≡ false
      by true f g = absurd (true≢false (sym (front_more (has_aborted_in tree) (has_aborted_in next) still_aborted u f) ∙ g))
      by false f g = refl

  pub upward_begun : IsUpward tree → is_active_in tree (parent t) ≡ true → IsUpward next
  upward_begun upward parent_active u e = by (path_eq t u) refl
    where
      by : (b : Bool) → path_eq t u ≡ b → is_active_in next (parent u) ≡ true
      by true f = kept_active (parent u) (subst (λ (p : Path). is_active_in tree (parent p) ≡ true) (same_path t u f) parent_active)
      by false f = kept_active (parent u) (upward u (was_active u f e))

-- after an end
module _ (tree next : States) (t : Path) (to : Status) (ends : (u : Path) → status_in next u ≡ cond (path_eq t u) to (status_in tree u))
    (lived : status_in tree t ≡ Live) (over : is_live to ≡ false) (lone : is_aborted to ≡ false → live_children_of tree t ≡ 0) (some : path_eq [] t ≡ false) where
  aborted_still : (u : Path) → has_aborted_in tree u ≡ true → has_aborted_in next u ≡ true
  aborted_still u e = ap is_aborted (ends u) ∙ by (path_eq t u) refl
    where
      by : (b : Bool) → path_eq t u ≡ b → is_aborted (cond b to (status_in tree u)) ≡ true
      by true f = absurd (false≢true (sym (ap is_aborted (ap (status_in tree) (sym (same_path t u f)) ∙ lived)) ∙ e))
      by false f = e

  orphans_still : (u : Path) → is_orphan_in next u ≡ false → is_orphan_in tree u ≡ false
  orphans_still u e = by (is_orphan_in tree u) refl
    where
      by : (b : Bool) → is_orphan_in tree u ≡ b → b ≡ false
      by true f = absurd (true≢false (sym (front_more (has_aborted_in tree) (has_aborted_in next) aborted_still u f) ∙ e))
      by false f = refl

  -- whoever is live afterwards is not t, and was live
  lived_too : (u : Path) → is_live_in next u ≡ true → is_live_in tree u ≡ true
  lived_too u e = by (path_eq t u) (sym (ap is_live (ends u)) ∙ e)
    where
      by : (b : Bool) → is_live (cond b to (status_in tree u)) ≡ true → is_live (status_in tree u) ≡ true
      by true f = absurd (true≢false (sym f ∙ over))
      by false f = f

  orphan_too : is_aborted to ≡ true → is_orphan_in next t ≡ true
  orphan_too e = own_orphan next t some (ap is_aborted (ends t ∙ ap (λ b. cond b to (status_in tree t)) (path_eq-from t t refl)) ∙ e)

  -- a live child is counted
  no_live_child : (u : Path) → is_live_in tree u ≡ true → path_eq t (parent u) ≡ true → live_children_of tree t ≡ 0 → ⊥
  no_live_child [] live up none = true≢false (sym (path_eq-from [] t (sym (same_path t [] up))) ∙ some)
  no_live_child (l ∷ ls) live up none =
      let w = row_place tree (l ∷ ls) (by (lookup (path_eq (l ∷ ls)) tree) live) in
      count_has (λ u. path_eq (parent u) t && is_live_in tree u) (names tree) w.0 (l ∷ ls) w.1
      (and_from (path_eq (parent (l ∷ ls)) t) (is_live_in tree (l ∷ ls)) (path_eq-from (parent (l ∷ ls)) t (sym (same_path t (parent (l ∷ ls)) up))) live) none
    where
      by : (o : Option Status) → is_live (unwrap_or o Absent) ≡ true → is_some o ≡ true
      by None e = absurd (false≢true e)
      by (Some s) e = refl

  pub upward_ended : IsUpward tree → IsUpward next
  upward_ended upward u e =
      let w = active_parts next u e in
      let was = active_from tree u (lived_too u w.0) (orphans_still u w.1) in
      let above = active_parts tree (parent u) (upward u was) in
      let upright = parent_upright next u w.1 in
      active_from next (parent u) (ap is_live (ends (parent u)) ∙ by (path_eq t (parent u)) refl above.0 upright (lived_too u w.0)) upright
    where
      by_end : (b : Bool) → is_aborted to ≡ b → path_eq t (parent u) ≡ true → is_orphan_in next (parent u) ≡ false → is_live_in tree u ≡ true → is_live to ≡ true
      by_end true f up upright live = absurd (true≢false (sym (ap (is_orphan_in next) (sym (same_path t (parent u) up)) ∙ orphan_too f) ∙ upright))
      by_end false f up upright live = absurd (no_live_child u live up (lone f))

      by : (b : Bool) → path_eq t (parent u) ≡ b → is_live_in tree (parent u) ≡ true → is_orphan_in next (parent u) ≡ false → is_live_in tree u ≡ true → is_live (cond b to (status_in tree (parent u))) ≡ true
      by true up live upright own = by_end (is_aborted to) refl up upright own
      by false up live upright own = live

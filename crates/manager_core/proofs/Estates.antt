-- What an entry does to the estate: to locks and to what was left alike.
use Rattle.std.proofs.Common.{◌≡◌, ℕ, ℤ, Bool, true, false, cond, ◌&&◌, nat_eq, List, [], ◌∷◌, ◌++◌, Option, None, refl, sym, ap, ◌∙◌}
use Rattle.std.specs.Prelude.{slice_get}
use Rattle.txn_names.specs.Path.{path_eq, parent}
use Rattle.txn_tree.specs.States.{States, names}
use Rattle.txn_tree.specs.Asked.{is_name, IsNumberOf}
use Rattle.txn_cells.specs.Cells.{is_it}
use Rattle.lock_table.specs.declared.modes.Modes.{Modes}
use Rattle.lock_table.specs.Inherited.{free, whole, with_held, with_retained}
use Rattle.inherit.specs.LocksAndVersions.{LocksAndVersions, IsSame}
use Rattle.inherit.specs.Steps.{HasGoneUp}
use Rattle.serial_spec.specs.declared.mode.Mode.{Mode}
use Rattle.serial_spec.specs.declared.target.Asked.{Asked}
use Rattle.serial_spec.specs.declared.target.Target.{Target}
use Rattle.serial_spec.specs.Targets.{kind_of, only, target, target_eq}
use Rattle.serial_spec.specs.declared.operation.Reply.{Reply}
use Rattle.serial_spec.specs.declared.entry.Entry.{Entry}
use Rattle.serial_spec.specs.History.{Name, History, Effect, Begins, Accesses, Commits, Aborts, Nothing, effect, or_else}
use Rattle.serial_spec.specs.Items.{Items}
use Rattle.serial_spec.specs.Locks.{mode_of, greater, held, retained, foot, own_footprint, block_footprint}
use Rattle.serial_spec.specs.Values.{last_left, leaves_at}
use Rattle.serial_spec.specs.Rows.{Rows}
use Rattle.serial_spec.specs.Legal.{AreAllowed}
use Rattle.txn_history.specs.Steps.{held_next, retained_next, left_next}
use Rattle.txn_history.proofs.Exports.{locks_after, left_after, foot_is_greater, nothing_before}
use Rattle.manager_core.specs.Kept.{IsEstateOf, content_of, lock_at, left_at}
use Rattle.manager_core.specs.Tables.{Tabled, AbortsIn, AccessesIn, IsParentNumber, is_below}
use Rattle.manager_core.proofs.Contents.{IsTold, value_next, content_nothing, content_raised, content_merged, content_dropped, content_begun}

-- ---- both are told by the entries

-- what an access does to its transaction's lock of a target, and to what it left at a key
abbrev raise : Target → Asked → Reply → Modes → Modes
raise s a r m = cond (target_eq (target a) s) (with_held m (mode_of (kind_of a))) m

abbrev leave : List ℕ → Asked → Reply → Option (Option ℤ) → Option (Option ℤ)
leave k a r v = or_else (leaves_at a r k) v

abbrev retain : Modes → Modes → Modes
retain child own = with_retained own (whole child)

told_modes : (s : Target) → IsTold free (lock_at s) (raise s) retain
told_modes s = record {
  next = λ e h u. (λ i. record { held = (locks_after e h u s).0 i; retained = (locks_after e h u s).1 i }) ∙ by h u (effect e);
  empty = λ rows h allowed l ls none.
      ap (λ (xs : Items). record { held = own_footprint (only s) xs; retained = block_footprint (only s) xs }) (nothing_before rows h allowed l ls none);
}
  where
    held_so : (b c : Bool) (m x y : Mode) → ◌≡◌ {A = Modes} (record { held = cond (b && c) (greater m x) x; retained = y })
        (cond b (cond c (with_held (record { held = x; retained = y }) m) (record { held = x; retained = y })) (record { held = x; retained = y }))
    held_so true true m x y = refl
    held_so true false m x y = refl
    held_so false c m x y = refl

    retained_so : (b : Bool) (m x y : Mode) → ◌≡◌ {A = Modes} (record { held = x; retained = cond b (greater m y) y }) (cond b (with_retained (record { held = x; retained = y }) m) (record { held = x; retained = y }))
    retained_so true m x y = refl
    retained_so false m x y = refl

    by : (h : History) (u : Name) (x : Effect)
        → ◌≡◌ {A = Modes} (record { held = held_next x u s (held h u s); retained = retained_next x u s (λ t. foot h t s) (retained h u s) }) (value_next (raise s) retain x u (lock_at s h) (lock_at s h u))
    by h u (Begins t) = refl
    by h u (Accesses t a r) = held_so (path_eq t u) (target_eq (target a) s) (mode_of (kind_of a)) (held h u s) (retained h u s)
    by h u (Commits t) =
        retained_so (path_eq (parent t) u) (foot h t s) (held h u s) (retained h u s)
        ∙ ap (λ m. cond (path_eq (parent t) u) (with_retained (lock_at s h u) m) (lock_at s h u)) (foot_is_greater h t s)
    by h u (Aborts t) = refl
    by h u Nothing = refl

told_left : (k : List ℕ) → IsTold None (left_at k) (leave k) or_else
told_left k = record {
  next = λ e h u. left_after e h u k ∙ by h u (effect e);
  empty = λ rows h allowed l ls none. ap (λ (xs : Items). last_left xs k) (nothing_before rows h allowed l ls none);
}
  where
    by : (h : History) (u : Name) (x : Effect) → left_next x u k (λ t. left_at k h t) (left_at k h u) ≡ value_next (leave k) or_else x u (left_at k h) (left_at k h u)
    by h u (Begins t) = refl
    by h u (Accesses t a r) = refl
    by h u (Commits t) = refl
    by h u (Aborts t) = refl
    by h u Nothing = refl

nested : {X : Type 0} (b c : Bool) (x y : X) → cond (b && c) x y ≡ cond b (cond c x y) y
nested true c x y = refl
nested false c x y = refl

-- ---- what each entry does

-- with other room it is the same
pub estate_roomy : (h : History) (tree : States) (old new : LocksAndVersions) → IsEstateOf h tree old → IsSame old new → IsEstateOf h tree new
estate_roomy h tree old new is same = record {
  modes = λ n k. same.modes n k ∙ is.modes n k;
  left = λ n k. same.left n k ∙ is.left n k;
}

module _ (rows : Rows) (e : Entry) (h : History) (allowed : AreAllowed rows (e ∷ h)) where
  -- an entry that does nothing
  pub estate_nothing : (tree : States) (estate : LocksAndVersions) → IsEstateOf h tree estate → effect e ≡ Nothing → IsEstateOf (e ∷ h) tree estate
  estate_nothing tree estate is does = record {
    modes = λ n k. is.modes n k ∙ content_nothing free (lock_at k) (raise k) retain (told_modes k) rows e h allowed (slice_get (names tree) n) does;
    left = λ n k. is.left n k ∙ content_nothing None (left_at k) (leave k) or_else (told_left k) rows e h allowed (slice_get (names tree) n) does;
  }

  -- an access that was answered
  pub estate_accessed : (old new : Tabled) (t : Name) (a : Asked) (r : Reply) → IsEstateOf h old.tree old.estate → effect e ≡ Accesses t a r
      → AccessesIn old new t a r → IsEstateOf (e ∷ h) old.tree new.estate
  estate_accessed old new t a r is does has = record {
    modes = λ n s.
        has.modes n s
        ∙ nested (is_name (slice_get (names old.tree) n) t) (target_eq (target a) s) _ _
        ∙ ap (λ m. cond (is_name (slice_get (names old.tree) n) t) (raise s a r m) m) (is.modes n s)
        ∙ content_raised free (lock_at s) (raise s) retain (told_modes s) rows e h allowed t a r does (slice_get (names old.tree) n);
    left = λ n k.
        has.left n k
        ∙ ap (λ v. cond (is_name (slice_get (names old.tree) n) t) (leave k a r v) v) (is.left n k)
        ∙ content_raised None (left_at k) (leave k) or_else (told_left k) rows e h allowed t a r does (slice_get (names old.tree) n);
  }

  -- a commit
  pub estate_gone_up : (old_tree tree : States) (old new : LocksAndVersions) (t : Name) (child : ℕ) (above : Option ℕ) → IsEstateOf h old_tree old → effect e ≡ Commits t
      → names tree ≡ names old_tree → IsNumberOf old_tree t child → IsParentNumber old_tree t above → HasGoneUp old new child above → IsEstateOf (e ∷ h) tree new
  estate_gone_up old_tree tree old new t child above is does same number above_is up = record {
    modes = λ n k.
        up.modes n k
        ∙ (λ i. cond (nat_eq child n) free (cond (is_it above n) (with_retained (is.modes n k i) (whole (is.modes child k i))) (is.modes n k i)))
        ∙ content_merged free (lock_at k) (raise k) retain (told_modes k) rows e h allowed old_tree t child above n does number above_is
        ∙ ap (λ xs. content_of free (lock_at k) (e ∷ h) (slice_get xs n)) (sym same);
    left = λ n k.
        up.left n k
        ∙ (λ i. cond (nat_eq child n) None (cond (is_it above n) (or_else (is.left child k i) (is.left n k i)) (is.left n k i)))
        ∙ content_merged None (left_at k) (leave k) or_else (told_left k) rows e h allowed old_tree t child above n does number above_is
        ∙ ap (λ xs. content_of None (left_at k) (e ∷ h) (slice_get xs n)) (sym same);
  }

  -- an abort
  pub estate_dropped : (old new : Tabled) (t : Name) → IsEstateOf h old.tree old.estate → effect e ≡ Aborts t
      → AbortsIn old new t → IsEstateOf (e ∷ h) new.tree new.estate
  estate_dropped old new t is does aborts = record {
    modes = λ n k.
        aborts.modes n k
        ∙ ap (λ m. cond (is_below (slice_get (names old.tree) n) t) free m) (is.modes n k)
        ∙ content_dropped free (lock_at k) (raise k) retain (told_modes k) rows e h allowed t does (slice_get (names old.tree) n)
        ∙ ap (λ xs. content_of free (lock_at k) (e ∷ h) (slice_get xs n)) (sym aborts.same_names);
    left = λ n k.
        aborts.left n k
        ∙ ap (λ v. cond (is_below (slice_get (names old.tree) n) t) None v) (is.left n k)
        ∙ content_dropped None (left_at k) (leave k) or_else (told_left k) rows e h allowed t does (slice_get (names old.tree) n)
        ∙ ap (λ xs. content_of None (left_at k) (e ∷ h) (slice_get xs n)) (sym aborts.same_names);
  }

  -- a begin
  pub estate_begun : (old new : States) (estate : LocksAndVersions) (t : Name) → IsEstateOf h old estate → effect e ≡ Begins t
      → names new ≡ names old ++ t ∷ [] → IsEstateOf (e ∷ h) new estate
  estate_begun old new estate t is does more = record {
    modes = λ n k.
        is.modes n k
        ∙ content_begun free (lock_at k) (raise k) retain (told_modes k) rows e h allowed t does (names old) n
        ∙ ap (λ xs. content_of free (lock_at k) (e ∷ h) (slice_get xs n)) (sym more);
    left = λ n k.
        is.left n k
        ∙ content_begun None (left_at k) (leave k) or_else (told_left k) rows e h allowed t does (names old) n
        ∙ ap (λ xs. content_of None (left_at k) (e ∷ h) (slice_get xs n)) (sym more);
  }

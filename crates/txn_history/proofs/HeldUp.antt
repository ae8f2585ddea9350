-- A line that is held up stays so by an entry of another line, unless that may be what it waits for: locks only rise until a
-- transaction ends.
use Rattle.std.proofs.Common.{◌≡◌, ◌<◌, ℕ, Bool, true, false, not, cond, ◌&&◌, ◌||◌, nat_le, ◌∷◌, length, Option, Some, is_some, refl, sym, ap, ◌∙◌}
use Rattle.std.proofs.Common.{None as Nothing}
use Rattle.std.proofs.lemmas.Bool.{false≢true, true≢false, and_parts, and_right, false_from_ne_true, lt-leb, not-true, or_right}
use Rattle.std.specs.List.{list_any}
use Rattle.txn_names.specs.Path.{label_eq, path_eq, top_of}
use Rattle.txn_names.proofs.Exports.{on_test}
use Rattle.serial_spec.specs.declared.event.Event.{Event}
use Rattle.serial_spec.specs.declared.event.Event.TheVariants.{Begin, Access, Sum, Commit, Abort, After}
use Rattle.serial_spec.specs.declared.event.When.{When}
use Rattle.serial_spec.specs.declared.event.When.TheVariants.{Begun, Done as Ended}
use Rattle.serial_spec.specs.declared.entry.By.TheVariants.{Line}
use Rattle.serial_spec.specs.declared.entry.Answer.{Answer}
use Rattle.serial_spec.specs.declared.entry.Answer.TheVariants.{Done, Waits}
use Rattle.serial_spec.specs.declared.entry.Entry.{Entry}
use Rattle.serial_spec.specs.declared.entry.Refusal.TheVariants.{Full, Waiting}
use Rattle.serial_spec.specs.declared.mode.Mode.{Mode}
use Rattle.serial_spec.specs.declared.mode.Mode.TheVariants as mode
use Rattle.serial_spec.specs.declared.operation.Kind.{Kind}
use Rattle.serial_spec.specs.declared.operation.Reply.{Reply}
use Rattle.serial_spec.specs.declared.operation.Reply.TheVariants.{Ok}
use Rattle.serial_spec.specs.declared.target.Asked.{Asked}
use Rattle.serial_spec.specs.declared.target.Asked.TheVariants.{At, Over}
use Rattle.serial_spec.specs.Targets.{Region, kind_of, meeting, target}
use Rattle.serial_spec.specs.History.{Name, History, Effect, Begins, Accesses, Commits, Aborts, Nothing as NoEffect, Status, Absent, Live, Committed, Aborted, effect, has_aborted, has_begun, is_abort, is_active, is_begin, is_committed, is_live_status, is_orphan, status, top_aborted}
use Rattle.serial_spec.specs.Items.{Access as Accessed, Items, items, with_item}
use Rattle.serial_spec.specs.Locks.{conflicts, footprint, greater, is_blocked, is_blocker, mode_of}
use Rattle.serial_spec.specs.Rows.{Rows}
use Rattle.serial_spec.specs.Waits.{accesses, is_waits, same_line, wait_of}
use Rattle.serial_spec.specs.Allowed.{answer_to_access, cause_at_access, cause_at_end, has_come, has_waited, is_full_for, is_other_line, known, most_keys, waits_elsewhere}
use Rattle.serial_spec.specs.Causes.{when}
use Rattle.serial_spec.specs.Legal.{AreAllowed}
use Rattle.txn_history.specs.Steps.{acts_next, sets_status, unless_by}
use Rattle.txn_history.specs.Turns.{HeldUpLasts, is_end, may_free}
use Rattle.txn_history.proofs.Tests.{clash}
use Rattle.txn_history.proofs.Activity.{active_acts, acts_active}
use Rattle.txn_history.proofs.Begun.{any_begun, some_begun}
use Rattle.txn_history.proofs.Blockers.{blocks_from, blocks_to}
use Rattle.txn_history.proofs.Causes.{acts_at_end, neither}
use Rattle.txn_history.proofs.NextLines.{no_refusal, not_come}
use Rattle.txn_history.proofs.OpenWaits.{acts_waiting, same_back}
use Rattle.txn_history.proofs.OwnLines.{same_is}
use Rattle.txn_history.proofs.Parked.{nothing_more}
use Rattle.txn_history.proofs.Statuses.{active_after, status_after, wait_after}
use Rattle.txn_history.proofs.Waiting.{may_wait}

-- ---- an effect that ends nobody

acts_still : (x : Effect) (t : Name) (b : Bool) → is_end x ≡ false → b ≡ true → acts_next x t b ≡ true
acts_still (Begins u) t b n a = or_right (path_eq u t) b a
acts_still (Accesses u asked r) t b n a = a
acts_still (Commits u) t b n a = absurd (true≢false n)
acts_still (Aborts u) t b n a = absurd (true≢false n)
acts_still NoEffect t b n a = a

-- a mode that was raised keeps out whom it kept out
raised : (m n : Mode) (x : Kind) → conflicts n x ≡ true → conflicts (greater m n) x ≡ true
raised mode.None n x c = c
raised mode.Read mode.None x c = absurd (false≢true c)
raised mode.Read mode.Read x c = c
raised mode.Read mode.Write x c = c
raised mode.Write n x c = refl

conflicts_still : (x : Effect) (b : Name) (own : Name → Items) (k : Region) (y : Kind) → is_end x ≡ false → conflicts (footprint k (own b)) y ≡ true
    → conflicts (footprint k (with_item b x own)) y ≡ true
conflicts_still (Begins u) b own k y n c = c
conflicts_still (Accesses u asked r) b own k y n c =
    on_test (path_eq u b) (λ v. conflicts (footprint k (cond v (Accessed asked r (own b)) (own b))) y ≡ true)
    (λ _. on_test (k (target asked)) (λ v. conflicts (cond v (greater (mode_of (kind_of asked)) (footprint k (own b))) (footprint k (own b))) y ≡ true)
    (λ _. raised (mode_of (kind_of asked)) (footprint k (own b)) y c) (λ _. c))
    (λ _. c)
conflicts_still (Commits u) b own k y n c = absurd (true≢false n)
conflicts_still (Aborts u) b own k y n c = absurd (true≢false n)
conflicts_still NoEffect b own k y n c = c

-- ---- what keeps an access from its answer

none_of : {X : Type 0} (x : Option X) → is_some x ≡ false → x ≡ Nothing
none_of Nothing e = refl
none_of (Some y) e = absurd (true≢false e)

not_committed : (s : Status) → is_live_status s ≡ true → is_committed s ≡ false
not_committed Absent e = refl
not_committed Live e = refl
not_committed Committed e = absurd (false≢true e)
not_committed Aborted e = refl

-- whoever has begun and acts is refused no end
no_end : (h : History) (t : Name) → has_begun h t ≡ true → is_active h t ≡ true → cause_at_end h t ≡ Nothing
no_end h t begun acts =
    let p = and_parts (is_live_status (status h t)) (not (is_orphan h t)) acts in
    rw (begun, none_of (top_aborted h t) (not-true (is_orphan h t) p.1), not_committed (status h t) p.0) refl

-- an access without an answer is blocked, and its line has waited
kept_blocked : (b w : Bool) (r : Reply) → cond b (cond w Nothing (Some Waits)) (Some (Done r)) ≡ Nothing → (b ≡ true) × (w ≡ true)
kept_blocked true true r e = (refl, refl)
kept_blocked true false r e = cc
kept_blocked false w r e = cc

waits_is : (a : Answer) → is_waits a ≡ true → a ≡ Waits
waits_is Waits e = refl
waits_is a e = absurd (false≢true e)

-- ---- one entry

module _ (rows : Rows) (e : Entry) (h : History) (allowed : AreAllowed rows (e ∷ h)) where
  -- while few keys are known no access makes one too many
  no_room : length (known rows (e ∷ h)) < most_keys → (a : Asked) → is_full_for rows (e ∷ h) a ≡ false
  no_room few (Over g) = refl
  no_room few (At k o) = and_right (not (list_any (label_eq k) (known rows (e ∷ h)))) (nat_le most_keys (length (known rows (e ∷ h)))) (lt-leb _ _ few)

  module _ (none : is_end (effect e) ≡ false) where
    active_still : (t : Name) → is_active h t ≡ true → is_active (e ∷ h) t ≡ true
    active_still t a = active_after rows e h allowed t ∙ acts_still (effect e) t (is_active h t) none a

    blocked_still : (t : Name) (a : Asked) → is_blocked h t a ≡ true → is_blocked (e ∷ h) t a ≡ true
    blocked_still t a blocked =
        let b = some_begun (is_blocker h t a) h blocked in
        let was = blocks_from h t a b.0 b.2 in
        any_begun (is_blocker (e ∷ h) t a) b.0 (e ∷ h) (or_right (is_begin b.0 (effect e)) (has_begun h b.0) b.1)
        (blocks_to (e ∷ h) t a b.0 (record {
          acts = active_acts (e ∷ h) b.0 (active_still b.0 (acts_active h b.0 was.acts));
          beside = was.beside;
          conflict = conflicts_still (effect e) b.0 (items h) (meeting (target a)) (kind_of a) none was.conflict;
        }))

    module _ (t : Name) (w : Entry) (waits : wait_of h t ≡ Some w) (apart : same_line w.by e.by ≡ false) where
      acts : is_active h t ≡ true
      acts = acts_waiting h t (ap is_some waits)

      -- the entry is no new wait of a transaction that waits by another line
      not_new : (is_waits e.answer && accesses t e.event) ≡ false
      not_new = false_from_ne_true _ (λ new. none_such new)
        where
          none_such : (is_waits e.answer && accesses t e.event) ≡ true → ⊥
          none_such new =
              let p = and_parts (is_waits e.answer) (accesses t e.event) new in
              let own = may_wait rows h e.by e.event (rw (← waits_is e.answer p.0) allowed.1) t p.1 in
              true≢false (sym (ap (is_other_line e.by) waits ∙ ap not apart) ∙ own.alone)

      wait_still : wait_of (e ∷ h) t ≡ Some w
      wait_still =
          wait_after rows e h allowed t
          ∙ ap (λ b. cond b (cond (is_waits e.answer && accesses t e.event) (Some e) (unless_by e.by (wait_of h t))) Nothing) (active_still t acts)
          ∙ ap (λ b. cond b (Some e) (unless_by e.by (wait_of h t))) not_new
          ∙ ap (unless_by e.by) waits
          ∙ ap (λ b. cond b Nothing (Some w)) apart

    -- so an access stays without an answer
    access_lasts : (s l : ℕ) (t : Name) (a : Asked) (w : Entry) → wait_of h t ≡ Some w → same_line w.by (Line s l) ≡ true → same_line e.by (Line s l) ≡ false
        → length (known rows (e ∷ h)) < most_keys → answer_to_access rows h (Line s l) t a ≡ Nothing → answer_to_access rows (e ∷ h) (Line s l) t a ≡ Nothing
    access_lasts s l t a w waits own other few no_answer =
        let p = no_refusal (cause_at_access rows h (Line s l) t a) _ no_answer in
        let ends = acts_at_end h t (neither _ _ p.0).0 in
        let kept = kept_blocked (is_blocked h t a) (has_waited h (Line s l)) _ p.1 in
        let active : is_active h t ≡ true = acts_active h t ends.1 in
        let still : wait_of (e ∷ h) t ≡ Some w = wait_still t w waits apart in
        nothing_more (cause_at_end (e ∷ h) t) (when (waits_elsewhere (e ∷ h) (Line s l) t) Waiting) (when (is_full_for rows (e ∷ h) a) Full)
        (is_blocked (e ∷ h) t a) (has_waited (e ∷ h) (Line s l)) _
        (no_end (e ∷ h) t (or_right (is_begin t (effect e)) (has_begun h t) ends.0) (active_still t active))
        (ap (λ x. when (is_other_line (Line s l) x) Waiting) still ∙ ap (λ b. when (not b) Waiting) own)
        (ap (λ b. when b Full) (no_room few a))
        (blocked_still t a kept.0)
        (or_right (same_line e.by (Line s l) && is_waits e.answer) (has_waited h (Line s l)) kept.1)
      where
        apart : same_line w.by e.by ≡ false
        apart = false_from_ne_true _ (λ (same : same_line w.by e.by ≡ true).
            clash (same_back s l e.by (rw (← same_is w.by s l own) same)) other)

  -- what a condition waits for has not come
  come_same : (x : Effect) → effect e ≡ x → (t : Name) (w : When) → may_free x (After t w) ≡ false → has_come (e ∷ h) t w ≡ has_come h t w
  come_same (Begins u) does t w n = absurd (true≢false n)
  come_same (Commits u) does t w n = absurd (true≢false n)
  come_same (Aborts u) does t w n = absurd (true≢false n)
  come_same (Accesses u a r) does t Begun n = ap (λ y. is_begin t y || has_begun h t) does
  come_same NoEffect does t Begun n = ap (λ y. is_begin t y || has_begun h t) does
  come_same (Accesses u a r) does t Ended n =
      let begun : has_begun (e ∷ h) t ≡ has_begun h t = ap (λ y. is_begin t y || has_begun h t) does in
      let state : status (e ∷ h) t ≡ status h t = status_after rows e h allowed t ∙ ap (λ y. sets_status y t (status h t)) does in
      let orphan : is_orphan (e ∷ h) t ≡ is_orphan h t = ap (λ y. is_some (top_of (λ v. is_abort v y || has_aborted h v) t)) does in
      λ i. begun i && (is_committed (state i) || orphan i)
  come_same NoEffect does t Ended n =
      let begun : has_begun (e ∷ h) t ≡ has_begun h t = ap (λ y. is_begin t y || has_begun h t) does in
      let state : status (e ∷ h) t ≡ status h t = status_after rows e h allowed t ∙ ap (λ y. sets_status y t (status h t)) does in
      let orphan : is_orphan (e ∷ h) t ≡ is_orphan h t = ap (λ y. is_some (top_of (λ v. is_abort v y || has_aborted h v) t)) does in
      λ i. begun i && (is_committed (state i) || orphan i)

-- ---- a line

-- what is not freed by an entry that ends nobody
no_ends : (x : Effect) (event : Event) → may_free x event ≡ false → is_end x ≡ false
no_ends (Begins u) event n = refl
no_ends (Accesses u asked r) event n = refl
no_ends (Commits u) event n = n
no_ends (Aborts u) event n = n
no_ends NoEffect event n = refl

pub held_up_lasts : HeldUpLasts
held_up_lasts rows e h allowed s l (Access t k o) other free few (w, waits, own, is) none =
    access_lasts rows e h allowed (no_ends (effect e) (Access t k o) free) s l t (At k o) w waits own other few none
held_up_lasts rows e h allowed s l (Sum t g) other free few (w, waits, own, is) none =
    access_lasts rows e h allowed (no_ends (effect e) (Sum t g) free) s l t (Over g) w waits own other few none
held_up_lasts rows e h allowed s l (After t w) other free few can none =
    ap (λ b. cond b (Some (Done Ok)) Nothing) (come_same rows e h allowed (effect e) refl t w free ∙ not_come (has_come h t w) none)
held_up_lasts rows e h allowed s l (Begin t) other free few can none = absurd can
held_up_lasts rows e h allowed s l (Commit t) other free few can none = absurd can
held_up_lasts rows e h allowed s l (Abort t) other free few can none = absurd can

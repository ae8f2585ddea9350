-- Sessions whose lines wait at one key wait on by each entry that aborts nobody, and a write there of one of them keeps the others out.
use Rattle.std.proofs.Common.{◌≡◌, ◌<◌, ℕ, suc, Bool, true, false, not, cond, ◌&&◌, nat_le, eqb, List, [], ◌∷◌, length, slice_get, find, Option, Some, is_some, refl, sym, ap, ap₂, subst, ◌∙◌, arith}
use Rattle.std.proofs.Common.{None as Nothing}
use Rattle.std.proofs.lemmas.Bool.{false≢true, true≢false, and_parts, and_from, and_right, eqb-true, false_from_ne_true, lt-leb, ne_eqb, not_from_false, not-true, or_left, or_right}
use Rattle.std.specs.List.{list_any}
use Rattle.txn_names.specs.Path.{is_front, label_eq, path_eq}
use Rattle.txn_names.proofs.Exports.{label_eq_self, on_test, path_eq_self, same_label, same_path}
use Rattle.serial_spec.specs.declared.event.Event.{Event}
use Rattle.serial_spec.specs.declared.event.Event.TheVariants.{Begin, Access, Sum, Commit, Abort, After}
use Rattle.serial_spec.specs.declared.entry.By.{By}
use Rattle.serial_spec.specs.declared.entry.By.TheVariants.{Line, Victim, Close}
use Rattle.serial_spec.specs.declared.entry.Answer.{Answer}
use Rattle.serial_spec.specs.declared.entry.Answer.TheVariants.{Done, Waits, Refused}
use Rattle.serial_spec.specs.declared.entry.Entry.{Entry}
use Rattle.serial_spec.specs.declared.entry.Refusal.{Refusal}
use Rattle.serial_spec.specs.declared.entry.Refusal.TheVariants.{Full, Waiting}
use Rattle.serial_spec.specs.declared.mode.Mode.{Mode}
use Rattle.serial_spec.specs.declared.operation.Kind.{Kind}
use Rattle.serial_spec.specs.declared.operation.Kind.TheVariants.{Read, Write}
use Rattle.serial_spec.specs.declared.operation.Op.{Op}
use Rattle.serial_spec.specs.declared.operation.Reply.{Reply}
use Rattle.serial_spec.specs.declared.operation.Reply.TheVariants.{Ok}
use Rattle.serial_spec.specs.declared.target.Asked.{Asked}
use Rattle.serial_spec.specs.declared.target.Asked.TheVariants.{At, Over}
use Rattle.serial_spec.specs.declared.target.Target.TheVariants.{Key}
use Rattle.serial_spec.specs.Causes.{when}
use Rattle.serial_spec.specs.History.{Name, History, Status, Absent, Live, Committed, Aborted, effect, effect_of, has_begun, is_active, is_begin, is_committed, is_live_status, is_orphan, or_else, status, top_aborted}
use Rattle.serial_spec.specs.Items.{Access as Accessed, items}
use Rattle.serial_spec.specs.Locks.{conflicts, footprint, greater, is_blocked, is_blocker, mode_of, reach}
use Rattle.serial_spec.specs.Operations.{kind}
use Rattle.serial_spec.specs.Rows.{Rows}
use Rattle.serial_spec.specs.Targets.{meeting}
use Rattle.serial_spec.specs.Waits.{accesses, is_waits, open_waits, same_line, wait_of}
use Rattle.serial_spec.specs.Allowed.{Allowed, answer, cause_at_access, cause_at_end, has_waited, is_full_for, is_other_line, is_write, known, most_keys, refused_or, waits_elsewhere}
use Rattle.serial_spec.specs.Interleaving.{Session, lines_of, answered, next_event, next_line}
use Rattle.serial_spec.specs.Legal.{AreAllowed}
use Rattle.txn_history.specs.Lines.{IsWaitOf}
use Rattle.txn_history.specs.Steps.{acts_next, unless_by}
use Rattle.txn_history.proofs.Exports.{active_after, acts_at_end, alone_at_commit, any_begun, before_each, clash, done_not_refused, line_self, neither, not_refused, not_when, other_session, wait_after, wait_holds}
use Rattle.interleavings.specs.declared.crowd.Crowd.{Crowd}
use Rattle.interleavings.specs.Crowds.{IsCrowdAt, IsSameCrowd, WaitsIn, is_abort, is_write_at}
use Rattle.interleavings.specs.Turning.{IsDue, can_go_on, has_answer}
use Rattle.interleavings.proofs.Attempts.{other_answered, own_waits}
use Rattle.interleavings.proofs.Numbers.{unsome}

-- a crowd of the same key and depth
pub moved : (ss : List Session) (h : History) (c c2 : Crowd) (u : ℕ) → IsSameCrowd c c2 → WaitsIn ss h c u → WaitsIn ss h c2 u
moved ss h c c2 u same w = record {
  txn = w.txn;
  key = w.key;
  op = w.op;
  at = record { key = same.key ∙ w.at.key; depth = same.depth ∙ w.at.depth };
  event = w.event;
  begun = w.begun;
  waited = w.waited;
  waits = w.waits;
}

-- ---- names and lines

-- of two names of one depth neither stands above the other
same_depth : (t u : Name) → is_front t u ≡ true → length t ≡ length u → t ≡ u
same_depth [] [] front e = refl
same_depth [] (y ∷ ys) front e = absurd (omega (arith, e))
same_depth (x ∷ xs) [] front e = absurd (false≢true front)
same_depth (x ∷ xs) (y ∷ ys) front e =
    let p = and_parts (label_eq x y) (is_front xs ys) front in
    ap₂ ◌∷◌ (same_label x y p.0) (same_depth xs ys p.1 (omega (arith, e)))

same_is : (a : By) (s l : ℕ) → same_line a (Line s l) ≡ true → a ≡ Line s l
same_is (Line u m) s l e =
    let p = and_parts (eqb u s) (eqb m l) e in
    ap (λ x. Line x m) (eqb-true u s p.0) ∙ ap (Line s) (eqb-true m l p.1)
same_is Victim s l e = cc
same_is Close s l e = cc

-- a line of one session is none of another
apart : (a : By) (u m s l : ℕ) → (u ≡ s → ⊥) → same_line a (Line u m) ≡ true → same_line a (Line s l) ≡ false
apart a u m s l other own = ap (λ b. same_line b (Line s l)) (same_is a u m own) ∙ other_session u s m l (ne_eqb u s other)

not_a_refusal : (r : Refusal) → Waits ≡ Refused r → ⊥
not_a_refusal r e = cc

-- whoever waits acts
waiting_acts : (h : History) (t : Name) (w : Entry) → wait_of h t ≡ Some w → is_active h t ≡ true
waiting_acts h t w waits = by (is_active h t) refl
  where
    by : (b : Bool) → is_active h t ≡ b → is_active h t ≡ true
    by true is = is
    by false is = absurd (false≢true (ap is_some (sym (ap (λ b. cond b (find (λ v. accesses t v.event) (open_waits h)) Nothing) is) ∙ waits)))

-- ---- an entry of session s, while a transaction waits by a line of session u

module _ (rows : Rows) (h : History) (allowed : AreAllowed rows h) (s l u m : ℕ) (other : u ≡ s → ⊥) (t : Name) (w : Entry) (waits : wait_of h t ≡ Some w)
    (line : same_line w.by (Line u m) ≡ true) where
  -- the line of s is another than the one by which it waits
  elsewhere : waits_elsewhere h (Line s l) t ≡ true
  elsewhere = ap (is_other_line (Line s l)) waits ∙ ap not (apart w.by u m s l other line)

  no_commit : (v : Name) → Allowed rows h (Line s l) (Commit v) (Done Ok) → path_eq v t ≡ true → ⊥
  no_commit v may same =
      let none = (not_refused _ _ (Done Ok) (done_not_refused Ok) may).0 in
      let alone : waits_elsewhere h (Line s l) t ≡ false = subst (λ (x : Name). waits_elsewhere h (Line s l) x ≡ false) (same_path v t same) (alone_at_commit h (Line s l) v none) in
      true≢false (sym elsewhere ∙ alone)

  no_wait : (v : Name) (a : Asked) → cause_at_access rows h (Line s l) v a ≡ Nothing → path_eq v t ≡ true → ⊥
  no_wait v a none same =
      let alone : waits_elsewhere h (Line s l) v ≡ false = not_when _ _ (neither _ _ (neither _ _ none).1).0 in
      true≢false (sym elsewhere ∙ subst (λ (x : Name). waits_elsewhere h (Line s l) x ≡ false) (same_path v t same) alone)

  still_acts : (e : Event) (a : Answer) → Allowed rows h (Line s l) e a → is_abort e ≡ false → acts_next (effect_of e a) t (is_active h t) ≡ true
  still_acts (Begin v) (Done Ok) may n = or_right (path_eq v t) (is_active h t) (waiting_acts h t w waits)
  still_acts (Access v k o) (Done r) may n = waiting_acts h t w waits
  still_acts (Sum v g) (Done r) may n = waiting_acts h t w waits
  still_acts (Commit v) (Done Ok) may n =
      on_test (path_eq v t) (λ b. (not b && is_active h t) ≡ true) (λ same. absurd (no_commit v may same)) (λ _. waiting_acts h t w waits)
  still_acts (Abort v) a may n = absurd (true≢false n)
  still_acts e a may n = waiting_acts h t w waits

  -- the entry is no new wait of it
  not_new : (e : Event) (a : Answer) → Allowed rows h (Line s l) e a → (is_waits a && accesses t e) ≡ false
  not_new (Access v k o) Waits may = false_from_ne_true _ (λ same. no_wait v (At k o) (not_refused _ _ Waits not_a_refusal may).0 same)
  not_new (Sum v g) Waits may = false_from_ne_true _ (λ same. no_wait v (Over g) (not_refused _ _ Waits not_a_refusal may).0 same)
  not_new (Begin v) Waits may = refl
  not_new (Commit v) Waits may = refl
  not_new (Abort v) Waits may = refl
  not_new (After v x) Waits may = refl
  not_new e a may = refl

  wait_still : (e : Event) (a : Answer) → Allowed rows h (Line s l) e a → is_abort e ≡ false → wait_of (record { by = Line s l; event = e; answer = a } ∷ h) t ≡ Some w
  wait_still e a may n =
      let own : Entry = record { by = Line s l; event = e; answer = a } in
      wait_after rows own h (allowed, may) t
      ∙ ap (λ b. cond b (cond (is_waits a && accesses t e) (Some own) (unless_by (Line s l) (wait_of h t))) Nothing)
      (active_after rows own h (allowed, may) t ∙ still_acts e a may n)
      ∙ ap (λ b. cond b (Some own) (unless_by (Line s l) (wait_of h t))) (not_new e a may)
      ∙ ap (unless_by (Line s l)) waits
      ∙ ap (λ b. cond b Nothing (Some w)) (apart w.by u m s l other line)

-- the same of an access that waits
wait_on : (rows : Rows) (h : History) (allowed : AreAllowed rows h) (s l u m : ℕ) → (u ≡ s → ⊥) → (t : Name) (k : List ℕ) (o : Op) (e : Event) (a : Answer)
    → Allowed rows h (Line s l) e a → is_abort e ≡ false → IsWaitOf h (Line u m) (Access t k o)
    → IsWaitOf (record { by = Line s l; event = e; answer = a } ∷ h) (Line u m) (Access t k o)
wait_on rows h allowed s l u m other t k o e a may n (w, waits, line, is) = (w, wait_still rows h allowed s l u m other t w waits line e a may n, line, is)

-- ---- whoever is of a crowd

module _ (rows : Rows) (ss : List Session) (h : History) (allowed : AreAllowed rows h) (s l : ℕ) (e : Event) (a : Answer) (may : Allowed rows h (Line s l) e a) where
  abbrev own : Entry
  own = record { by = Line s l; event = e; answer = a }

  same_count : (u : ℕ) → (u ≡ s → ⊥) → answered (own ∷ h) u ≡ answered h u
  same_count u other = other_answered h s l u e a other

  -- waits on by an entry of another session that aborts nobody
  pub waits_on : is_abort e ≡ false → (c : Crowd) (u : ℕ) → (u ≡ s → ⊥) → WaitsIn ss h c u → WaitsIn ss (own ∷ h) c u
  waits_on n c u other w = record {
    txn = w.txn;
    key = w.key;
    op = w.op;
    at = w.at;
    event = ap (λ x. slice_get (lines_of (slice_get ss u)) x) (same_count u other) ∙ w.event;
    begun = or_right (is_begin w.txn (effect own)) (has_begun h w.txn) w.begun;
    waited =
        ap (λ x. has_waited (own ∷ h) (Line u (suc x))) (same_count u other)
        ∙ or_right (same_line (Line s l) (next_line h u) && is_waits a) (has_waited h (next_line h u)) w.waited;
    waits = subst (λ x. IsWaitOf (own ∷ h) (Line u (suc x)) (Access w.txn w.key w.op)) (sym (same_count u other))
        (wait_on rows h allowed s l u (suc (answered h u)) other w.txn w.key w.op e a may n w.waits);
  }

-- ---- whoever begins to wait at a key

module _ (rows : Rows) (ss : List Session) (h : History) (s l : ℕ) (t : Name) (k : List ℕ) (o : Op) (due : IsDue ss h s l (Access t k o))
    (may : Allowed rows h (Line s l) (Access t k o) Waits) where
  abbrev new_wait : Entry
  new_wait = record { by = Line s l; event = Access t k o; answer = Waits }

  own_count : answered (new_wait ∷ h) s ≡ answered h s
  own_count = own_waits h s l (Access t k o) Waits refl

  own_line : next_line (new_wait ∷ h) s ≡ Line s l
  own_line = ap (λ x. Line s (suc x)) own_count ∙ ap (Line s) (sym due.number)

  own_event : next_event ss (new_wait ∷ h) s ≡ Some (Access t k o)
  own_event = ap (λ x. slice_get (lines_of (slice_get ss s)) x) own_count ∙ due.event

  holds : (wait_of (new_wait ∷ h) t ≡ Some new_wait) × (answer rows (new_wait ∷ h) (Line s l) (Access t k o) ≡ Nothing)
  holds = wait_holds rows new_wait h s l t (At k o) refl may

  -- is of the crowd that waits there
  pub joins : (c : Crowd) → IsCrowdAt c k (length t) → WaitsIn ss (new_wait ∷ h) c s
  joins c at = record {
    txn = t;
    key = k;
    op = o;
    at = at;
    event = own_event;
    begun = or_right (is_begin t (effect new_wait)) (has_begun h t) (acts_at_end h t (neither _ _ (not_refused _ _ Waits not_a_refusal may).0).0).0;
    waited =
        ap (has_waited (new_wait ∷ h)) own_line
        ∙ or_left (same_line (Line s l) (Line s l) && true) (has_waited h (Line s l)) (and_from _ _ (line_self s l) refl);
    waits = subst (λ b. IsWaitOf (new_wait ∷ h) b (Access t k o)) (sym own_line) (new_wait, holds.0, line_self s l, refl);
  }

  -- and cannot go on
  pub parks : can_go_on rows ss (new_wait ∷ h) s ≡ false
  parks = ap (has_answer rows (new_wait ∷ h) s) own_event ∙ ap (λ b. is_some (answer rows (new_wait ∷ h) b (Access t k o))) own_line ∙ ap is_some holds.1

-- ---- a write at a key

none_of : {X : Type 0} (x : Option X) → is_some x ≡ false → x ≡ Nothing
none_of Nothing e = refl
none_of (Some y) e = absurd (true≢false e)

not_committed : (s : Status) → is_live_status s ≡ true → is_committed s ≡ false
not_committed Absent e = refl
not_committed Live e = refl
not_committed Committed e = absurd (false≢true e)
not_committed Aborted e = refl

-- whoever has begun and acts is refused no end
no_end : (h : History) (t : Name) → has_begun h t ≡ true → is_active h t ≡ true → cause_at_end h t ≡ Nothing
no_end h t begun acts =
    let p = and_parts (is_live_status (status h t)) (not (is_orphan h t)) acts in
    rw (begun, none_of (top_aborted h t) (not-true (is_orphan h t) p.1), not_committed (status h t) p.0) refl

-- with its cause, its block and its wait known an access has no answer
nothing_more : (c x y : Option Refusal) (b w : Bool) (r : Reply) → c ≡ Nothing → x ≡ Nothing → y ≡ Nothing → b ≡ true → w ≡ true
    → refused_or (or_else c (or_else x y)) (cond b (cond w Nothing (Some Waits)) (Some (Done r))) ≡ Nothing
nothing_more c x y b w r c_none x_none y_none blocked waited = rw (c_none, x_none, y_none, blocked, waited) refl

written : (y : Kind) (m : Mode) (x : Kind) → is_write y ≡ true → conflicts (greater (mode_of y) m) x ≡ true
written Write m x writes = refl
written Read m x writes = absurd (false≢true writes)

module _ (rows : Rows) (h : History) (allowed : AreAllowed rows h) (s l : ℕ) (t : Name) (k : List ℕ) (o : Op) (r : Reply)
    (may : Allowed rows h (Line s l) (Access t k o) (Done r)) (writes : is_write (kind o) ≡ true) where
  abbrev write : Entry
  write = record { by = Line s l; event = Access t k o; answer = Done r }

  conflict : (x : Kind) → conflicts (reach (write ∷ h) t (Key k)) x ≡ true
  conflict x =
      let before = footprint (meeting (Key k)) (items h t) in
      ap (λ b. conflicts (footprint (meeting (Key k)) (cond b (Accessed (At k o) r (items h t)) (items h t))) x) (path_eq_self t)
      ∙ ap (λ b. conflicts (cond b (greater (mode_of (kind o)) before) before) x) (label_eq_self k)
      ∙ written (kind o) before x writes

  blocks : (u : Name) (p : Op) → has_begun h t ≡ true → is_front t u ≡ false → is_blocked (write ∷ h) u (At k p) ≡ true
  blocks u p begun beside =
      any_begun (is_blocker (write ∷ h) u (At k p)) t (write ∷ h) (or_right (is_begin t (effect write)) (has_begun h t) begun)
      (and_from _ _ (active_after rows write h (allowed, may) t ∙ before_each rows write h (allowed, may))
      (and_from _ _ (not_from_false (is_front t u) beside) (conflict (kind p))))

  -- an access there that waits beside it has no answer
  kept_out : (u : ℕ) (m : ℕ) (v : Name) (p : Op) → has_begun h t ≡ true → is_front t v ≡ false → has_begun (write ∷ h) v ≡ true → has_waited (write ∷ h) (Line u m) ≡ true
      → length (known rows (write ∷ h)) < most_keys → IsWaitOf (write ∷ h) (Line u m) (Access v k p) → answer rows (write ∷ h) (Line u m) (Access v k p) ≡ Nothing
  kept_out u m v p begun beside started waited few (w, waits, line, is) =
      nothing_more (cause_at_end (write ∷ h) v) (when (waits_elsewhere (write ∷ h) (Line u m) v) Waiting) (when (is_full_for rows (write ∷ h) (At k p)) Full)
      (is_blocked (write ∷ h) v (At k p)) (has_waited (write ∷ h) (Line u m)) _
      (no_end (write ∷ h) v started (waiting_acts (write ∷ h) v w waits))
      (ap (λ x. when (is_other_line (Line u m) x) Waiting) waits ∙ ap (λ b. when (not b) Waiting) line)
      (ap (λ b. when b Full) (and_right (not (list_any (label_eq k) (known rows (write ∷ h)))) (nat_le most_keys (length (known rows (write ∷ h)))) (lt-leb _ _ few)))
      (blocks v p begun beside)
      waited

-- two that wait by lines of two sessions are two
two : (h : History) (s l u m : ℕ) → (u ≡ s → ⊥) → (t v : Name) (k q : List ℕ) (o p : Op) → IsWaitOf h (Line s l) (Access t k o) → IsWaitOf h (Line u m) (Access v q p) → t ≡ v → ⊥
two h s l u m other t v k q o p (w, waits, line, is) (x, waits2, line2, is2) same =
    let one : w ≡ x = unsome w x (sym waits ∙ ap (wait_of h) same ∙ waits2) in
    clash (ap (λ (y : Entry). same_line y.by (Line s l)) (sym one) ∙ line) (apart x.by u m s l other line2)

module _ (rows : Rows) (ss : List Session) (h : History) (allowed : AreAllowed rows h) (s l : ℕ) (e : Event) (a : Answer) (may : Allowed rows h (Line s l) e a)
    (due : next_event ss h s ≡ Some e) (c : Crowd) (writer : WaitsIn ss h c s) (u : ℕ) (waiter : WaitsIn ss h c u) (other : u ≡ s → ⊥) where
  abbrev t : Name
  t = writer.txn

  abbrev k : List ℕ
  k = writer.key

  abbrev made : Reply → Entry
  made r = record { by = Line s l; event = Access t k writer.op; answer = Done r }

  event_is : e ≡ Access t k writer.op
  event_is = unsome e (Access t k writer.op) (sym due ∙ writer.event)

  key_is : k ≡ waiter.key
  key_is = unsome k waiter.key (sym writer.at.key ∙ waiter.at.key)

  beside : is_front t waiter.txn ≡ false
  beside = false_from_ne_true _ (λ front.
      two h s (suc (answered h s)) u (suc (answered h u)) other t waiter.txn k waiter.key writer.op waiter.op writer.waits waiter.waits
      (same_depth t waiter.txn front (sym writer.at.depth ∙ waiter.at.depth)))

  module _ (r : Reply) (granted : Allowed rows h (Line s l) (Access t k writer.op) (Done r)) (writes : is_write (kind writer.op) ≡ true) where
    after : WaitsIn ss (made r ∷ h) c u
    after = waits_on rows ss h allowed s l (Access t k writer.op) (Done r) granted refl c u other waiter

    out_there : length (known rows (made r ∷ h)) < most_keys → can_go_on rows ss (made r ∷ h) u ≡ false
    unfolding after waits_on
    out_there few =
        ap (has_answer rows (made r ∷ h) u) after.event
        ∙ ap is_some (subst (λ (q : List ℕ). answer rows (made r ∷ h) (next_line (made r ∷ h) u) (Access waiter.txn q waiter.op) ≡ Nothing) key_is
        (kept_out rows h allowed s l t k writer.op r granted writes u (suc (answered (made r ∷ h) u)) waiter.txn waiter.op writer.begun beside after.begun after.waited few
        (subst (λ (q : List ℕ). IsWaitOf (made r ∷ h) (next_line (made r ∷ h) u) (Access waiter.txn q waiter.op)) (sym key_is) after.waits)))

  -- so one of a crowd cannot go on where another of it has written its key
  pub passed_over : (r : Reply) → a ≡ Done r → is_write_at e ≡ true → length (known rows (record { by = Line s l; event = e; answer = a } ∷ h)) < most_keys
      → can_go_on rows ss (record { by = Line s l; event = e; answer = a } ∷ h) u ≡ false
  passed_over r done writes few =
      let entry_is : record { by = Line s l; event = e; answer = a } ≡ made r = (λ i. record { by = Line s l; event = event_is i; answer = done i }) in
      subst (λ (x : Entry). can_go_on rows ss (x ∷ h) u ≡ false) (sym entry_is)
      (out_there r (subst (λ (x : Event). Allowed rows h (Line s l) x (Done r)) event_is (subst (λ (x : Answer). Allowed rows h (Line s l) e x) done may))
      (ap is_write_at (sym event_is) ∙ writes) (subst (λ (x : Entry). length (known rows (x ∷ h)) < most_keys) entry_is few))

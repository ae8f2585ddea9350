-- Where the verdict is yes, the bytes are a report whose committed top-level transactions are a serial run.
use Rattle.std.proofs.Common.{◌≡◌, ℕ, ℤ, zero, suc, ◌<◌, ◌≤◌, ◌+◌, List, [], ◌∷◌, ◌++◌, length, map, true, false, Bool, cond, not, nat_eq, Option, Some, None, Result, Ok, Err, refl, sym, ap, ap₂, ◌∙◌, subst, arith, ⊎_elim, length-take-le, ◌-◌}
use Rattle.std.specs.Prelude.{◌||◌, ◌&&◌, codes, is_none, is_some, nat_lt}
use Rattle.std.specs.List.{list_any}
use Rattle.std.specs.Option.{ok_or}
use Rattle.std.specs.Ordering.{int_eq}
use Rattle.std.specs.Str.{bytes_eq}
use Rattle.std.proofs.lemmas.Bool.{and_parts, eqb-true, not-true, true≢false}
use Rattle.std.specs.Cmp.Lexicographic.{slice_cmp}
use Rattle.std.specs.Ordering.{is_lt, nat_cmp}
use Rattle.std.specs.declared.cmp.Ordering.{Ordering}
use Rattle.std.specs.declared.cmp.Ordering.TheVariants.{Less, Equal, Greater}
use Rattle.std.proofs.lemmas.Bool.Decides.{Decides-int_eq, nat_tests}
use Rattle.txn_names.specs.Path.{label_eq, parent}
use Rattle.txn_names.proofs.Exports.{on_test, same_label}
use Rattle.serial_spec.specs.declared.limits.TheConstants.{MOST_ROWS, MOST_SESSIONS}
use Rattle.serial_spec.specs.declared.entry.By.TheVariants as by
use Rattle.serial_spec.specs.declared.entry.Answer.{Answer}
use Rattle.serial_spec.specs.declared.entry.Answer.TheVariants.{Done, Waits, Stuck, Refused}
use Rattle.serial_spec.specs.declared.entry.Entry.{Entry}
use Rattle.serial_spec.specs.declared.event.Event.{Event}
use Rattle.serial_spec.specs.declared.event.Event.TheVariants.{Begin, Access, Sum, Commit, Abort, After}
use Rattle.serial_spec.specs.declared.operation.Reply.TheVariants as reply
use Rattle.serial_spec.specs.History.{History, Name, Status, Absent, Live, Committed, Aborted, effect, effect_of, begun, has_aborted, has_begun, has_committed, is_committed, is_live, is_live_status, is_orphan, or_else, status, top_aborted}
use Rattle.serial_spec.specs.Legal.{first_live, is_top_level}
use Rattle.serial_spec.specs.Interleaving.{answered}
use Rattle.serial_spec.specs.Places.{is_below}
use Rattle.line_language.specs.Printing.{spelled_event}
use Rattle.serial_spec.specs.Rows.{IsRising, Rows, value_in}
use Rattle.serial_spec.specs.Waits.{is_waits}
use Rattle.serial_spec.proofs.Exports.{above_all}
use Rattle.line_language.specs.Events.{IsEvent}
use Rattle.line_language.specs.Words.{cut_at}
use Rattle.line_language.proofs.Exports.{bind_ok, is_word, pick, entries_read_back}
use Rattle.txn_history.proofs.Exports.{none_begun, status_committed, top_by_parent}
use Rattle.line_language.specs.Entries.{IsReportEntry}
use Rattle.line_language.specs.Reading.{entry_of, row_of}
use Rattle.line_language.specs.declared.entry.ReportEntry.{ReportEntry}
use Rattle.line_language.specs.declared.entry.ReportEntry.TheVariants as told
use Rattle.report_check.specs.Laws.{AreInOrder, IsInOrder, IsServed, YesIsSound}
use Rattle.report_check.specs.Passing.{Part, Start, Opening, Entries, Final, Ended, Read, at_part, entry_in, entry_next, final_next, goes_on, has_ended, is_close, is_in_time, is_next, is_past, may_add_row, may_close, may_do, may_end, may_follow, middle_next, next, next_at, none_waits, opening_next, read, read_from, session_of, unread, waiting, with_entry, with_opening, with_row}
use Rattle.report_check.specs.Serving.{map_behind}
use Rattle.report_check.specs.Verdicts.{IsJudged, IsRun, compared, first_wrong, same_row, served}
use Rattle.report_check.specs.declared.verdict.Verdict.TheVariants.{Yes, No}
use Rattle.report_check.proofs.Few.{IsFew, few_at, few_begins, few_entry, few_opening, few_row, few_unread}
use Rattle.report_check.proofs.Grown.{IsGrown, IsNamed, grown_more, grown_none}
use Rattle.report_check.proofs.Served.{accesses_are_items}
use Rattle.report_check.proofs.Spelled.{no_read, read_is_report, same_ok, some_read, was_some}

-- ---- rows

below : (a b : List ℕ) → is_below a b ≡ true → slice_cmp nat_cmp a b ≡ Less
below a b h = by (slice_cmp nat_cmp a b) h
  where
    by : (o : Ordering) → is_lt o ≡ true → o ≡ Less
    by Less e = refl
    by Equal e = cc
    by Greater e = cc

rising_more : (rows : Rows) (r : List ℕ × ℤ) → IsRising rows → is_past rows r.0 ≡ true → IsRising (rows ++ r ∷ [])
rising_more [] r rising past = (tt, tt)
rising_more (a ∷ []) r rising past = ((below a.0 r.0 past, tt), (tt, tt))
rising_more (a ∷ b ∷ rows) r rising past =
    let rest = rising_more (b ∷ rows) r rising.1 past in
    ((rising.0.0, above_all a.0 b.0 (map (λ q. q.0) (rows ++ r ∷ [])) rising.0.0 rest.0), rest)

-- ---- what holds of what was read so far

pub record IsKept (r : Read) : Type 0 where
  pub grown : IsGrown r.history
  pub order : AreInOrder r.history
  pub rows : IsRising r.opening
  pub last : IsRising r.table
  pub few : IsFew r

-- behind the line `table` no top-level transaction is live, and no line waits
abbrev IsOver : Part → Read → Type 0
IsOver Start r = Unit {0}
IsOver Opening r = Unit {0}
IsOver Entries r = Unit {0}
IsOver Final r = may_end r ≡ true
IsOver Ended r = may_end r ≡ true

record IsHeld (r : Read) : Type 0 where
  kept : IsKept r
  over : IsOver r.part r

-- an entry that may follow is in order
order_line : (h : History) (s n : ℕ) (e : Event) (a : Answer) → is_in_time h (by.Line s n) ≡ true → is_next h (by.Line s n) e a ≡ true → IsInOrder h (by.Line s n) e a
order_line h s n e a time next =
    let p = and_parts (nat_lt s MOST_SESSIONS && nat_eq n (suc (answered h s))) (goes_on (waiting h s) e a) next in
    let q = and_parts (nat_lt s MOST_SESSIONS) (nat_eq n (suc (answered h s))) p.0 in
    (eqb-true n (suc (answered h s)) q.1, answers p.1, not-true (list_any (λ x. is_close x.by) h) time)
  where
    answers : goes_on (waiting h s) e a ≡ true → (w : Event) → waiting h s ≡ Some w → (spelled_event w ≡ spelled_event e) × (is_waits a ≡ false)
    answers goes w is =
        let t = and_parts (bytes_eq (spelled_event w) (spelled_event e)) (not (is_waits a)) (ap (λ o. goes_on o e a) (sym is) ∙ goes) in
        (is_word (spelled_event w) (spelled_event e) t.0, not-true (is_waits a) t.1)

order_by : (h : History) (labels : List (List ℕ)) (x : ReportEntry) → let f = entry_in labels x in is_in_time h f.by ≡ true → is_next h f.by f.event f.answer ≡ true → may_close f.by f.event ≡ true → IsInOrder h f.by f.event f.answer
order_by h labels (told.Line l n e a) time next close = order_line h (session_of labels l) n e a time next
order_by h labels (told.Victim t) time next close = not-true (list_any (λ x. is_close x.by) h) time
order_by h labels (told.Close t) time next close = close

named_event : (e : Event) (a : Answer) → IsEvent e → IsNamed (effect_of e a)
named_event (Begin t) (Done reply.Ok) h = h.some
named_event (Begin t) (Done (reply.Value v)) h = tt
named_event (Begin t) (Done reply.Absent) h = tt
named_event (Begin t) (Done (reply.New v)) h = tt
named_event (Begin t) (Done reply.Overflow) h = tt
named_event (Begin t) Waits h = tt
named_event (Begin t) Stuck h = tt
named_event (Begin t) (Refused r) h = tt
named_event (Access t k o) (Done r) h = tt
named_event (Access t k o) Waits h = tt
named_event (Access t k o) Stuck h = tt
named_event (Access t k o) (Refused r) h = tt
named_event (Sum t g) (Done r) h = tt
named_event (Sum t g) Waits h = tt
named_event (Sum t g) Stuck h = tt
named_event (Sum t g) (Refused r) h = tt
named_event (Commit t) (Done reply.Ok) h = h.some
named_event (Commit t) (Done (reply.Value v)) h = tt
named_event (Commit t) (Done reply.Absent) h = tt
named_event (Commit t) (Done (reply.New v)) h = tt
named_event (Commit t) (Done reply.Overflow) h = tt
named_event (Commit t) Waits h = tt
named_event (Commit t) Stuck h = tt
named_event (Commit t) (Refused r) h = tt
named_event (Abort t) (Done reply.Ok) h = tt
named_event (Abort t) (Done (reply.Value v)) h = tt
named_event (Abort t) (Done reply.Absent) h = tt
named_event (Abort t) (Done (reply.New v)) h = tt
named_event (Abort t) (Done reply.Overflow) h = tt
named_event (Abort t) Waits h = tt
named_event (Abort t) Stuck h = tt
named_event (Abort t) (Refused r) h = tt
named_event (After t w) (Done r) h = tt
named_event (After t w) Waits h = tt
named_event (After t w) Stuck h = tt
named_event (After t w) (Refused r) h = tt

named_entry : (labels : List (List ℕ)) (x : ReportEntry) → IsReportEntry x → IsNamed (effect (entry_in labels x))
named_entry labels (told.Line l n e a) h = named_event e a h.event
named_entry labels (told.Victim t) h = tt
named_entry labels (told.Close t) h = tt

-- ---- one line more

entry_held : (r s : Read) (p : List ℕ) (o : Option ReportEntry) → IsKept r → entry_of p ≡ o → entry_next r o ≡ Some s → IsHeld s
entry_held r s p None k e h = no_read s h
entry_held r s p (Some x) k e h =
    pick (may_follow r.history (entry_in r.labels x)) (Some (with_entry r x)) None (Some s) h
    (λ may same.
    let f : Entry = entry_in r.labels x in
    let front = and_parts (is_in_time r.history f.by && is_next r.history f.by f.event f.answer && may_do r.history (effect f)) (may_close f.by f.event) may in
    let done = and_parts (is_in_time r.history f.by && is_next r.history f.by f.event f.answer) (may_do r.history (effect f)) front.0 in
    let turn = and_parts (is_in_time r.history f.by) (is_next r.history f.by f.event f.answer) done.0 in
    subst IsHeld (some_read (with_entry r x) s same)
    (record {
      kept = record {
        grown = grown_more r.history f k.grown done.1 (named_entry r.labels x ((entries_read_back p x).0 e).0);
        order = (k.order, order_by r.history r.labels x turn.0 turn.1 front.1);
        rows = k.rows;
        last = k.last;
        few = few_entry r x turn.1 (few_begins r.history (effect f) done.1 k.few.begins) k.few;
      };
      over = tt;
    }))
    (λ _ none. no_read s none)

moved_on : (q : Part) (r : Read) → IsKept r → IsOver q r → IsHeld (at_part q r)
moved_on Start r k over = record { kept = record { grown = k.grown; order = k.order; rows = k.rows; last = k.last; few = few_at Start r k.few }; over = tt }
moved_on Opening r k over = record { kept = record { grown = k.grown; order = k.order; rows = k.rows; last = k.last; few = few_at Opening r k.few }; over = tt }
moved_on Entries r k over = record { kept = record { grown = k.grown; order = k.order; rows = k.rows; last = k.last; few = few_at Entries r k.few }; over = tt }
moved_on Final r k over = record { kept = record { grown = k.grown; order = k.order; rows = k.rows; last = k.last; few = few_at Final r k.few }; over = over }
moved_on Ended r k over = record { kept = record { grown = k.grown; order = k.order; rows = k.rows; last = k.last; few = few_at Ended r k.few }; over = over }

middle_held : (r s : Read) (p : List ℕ) → IsKept r → middle_next r p ≡ Some s → IsHeld s
middle_held r s p k h =
    pick (bytes_eq p (codes "table")) (cond (may_end r) (Some (at_part Final r)) None) (entry_next r (entry_of p)) (Some s) h
    (λ _ h2. pick (may_end r) (Some (at_part Final r)) None (Some s) h2
    (λ may same. subst IsHeld (some_read (at_part Final r) s same) (moved_on Final r k may))
    (λ _ none. no_read s none))
    (λ _ h2. entry_held r s p (entry_of p) k refl h2)

opening_held : (r s : Read) (p : List ℕ) (o : Option (List ℕ × ℤ)) → IsKept r → opening_next r p o ≡ Some s → IsHeld s
opening_held r s p None k h = middle_held r s p k h
opening_held r s p (Some row) k h =
    pick (may_add_row r.opening row.0) (Some (with_opening r row)) None (Some s) h
    (λ may same. subst IsHeld (some_read (with_opening r row) s same)
    (record {
      kept = record {
        grown = k.grown;
        order = k.order;
        rows = rising_more r.opening row k.rows (and_parts (nat_lt (length r.opening) MOST_ROWS) (is_past r.opening row.0) may).1;
        last = k.last;
        few = few_opening r row may k.few;
      };
      over = tt;
    }))
    (λ _ none. no_read s none)

final_held : (r s : Read) (o : Option (List ℕ × ℤ)) → IsKept r → may_end r ≡ true → final_next r o ≡ Some s → IsHeld s
final_held r s None k over h = no_read s h
final_held r s (Some row) k over h =
    pick (may_add_row r.table row.0) (Some (with_row r row)) None (Some s) h
    (λ may same. subst IsHeld (some_read (with_row r row) s same) (record { kept = record { grown = k.grown; order = k.order; rows = k.rows; last = rising_more r.table row k.last (and_parts (nat_lt (length r.table) MOST_ROWS) (is_past r.table row.0) may).1; few = few_row r row may k.few }; over = over }))
    (λ _ none. no_read s none)

held_at : (q : Part) (r s : Read) (p : List ℕ) → IsKept r → IsOver q r → next_at q r p ≡ Some s → IsHeld s
held_at Start r s p k over h =
    pick (bytes_eq p (codes "open")) (Some (at_part Opening r)) None (Some s) h
    (λ _ same. subst IsHeld (some_read (at_part Opening r) s same) (moved_on Opening r k tt)) (λ _ none. no_read s none)
held_at Opening r s p k over h = opening_held r s p (row_of p) k h
held_at Entries r s p k over h = middle_held r s p k h
held_at Final r s p k over h =
    pick (bytes_eq p (codes "end")) (Some (at_part Ended r)) (final_next r (row_of p)) (Some s) h
    (λ _ same. subst IsHeld (some_read (at_part Ended r) s same) (moved_on Ended r k over)) (λ _ h2. final_held r s (row_of p) k over h2)
held_at Ended r s p k over h = no_read s h

-- ---- all lines

pub record IsDone (s : Read) : Type 0 where
  pub kept : IsKept s
  pub over : may_end s ≡ true

ended_over : (q : Part) (r : Read) → has_ended q ≡ true → IsOver q r → may_end r ≡ true
ended_over Start r e over = cc
ended_over Opening r e over = cc
ended_over Entries r e over = cc
ended_over Final r e over = over
ended_over Ended r e over = over

done_from : (n : ℕ) (r s : Read) (ps : List (List ℕ)) → IsHeld r → read_from n r ps ≡ Ok s → IsDone s
done_from n r s [] held h = cc
done_from n r s (p ∷ []) held h =
    pick _ (Ok r) (Err n) (Ok s) h
    (λ b same. subst IsDone (same_ok r s same) (record { kept = held.kept; over = ended_over r.part r (and_parts _ _ b).1 held.over }))
    (λ _ no2. cc)
done_from n r s (p ∷ q ∷ ps) held h =
    let m = bind_ok (ok_or (next r p) n) (λ more. read_from (n + 1) more (q ∷ ps)) s h in
    done_from (n + 1) m.0 s (q ∷ ps) (held_at r.part r m.0 p held.kept held.over (was_some (next r p) n m.0 m.1)) m.2

pub read_done : (bs : List ℕ) (s : Read) → read bs ≡ Ok s → IsDone s
read_done bs s h = done_from 1 unread s (cut_at 10 bs) (record { kept = record { grown = grown_none; order = tt; rows = tt; last = tt; few = few_unread }; over = tt }) h

was_none : {X : Type 0} (o : Option X) → is_none o ≡ true → o ≡ None
was_none None h = refl
was_none (Some t) h = cc

none_at : (h : History) (n s : ℕ) → none_waits h n ≡ true → s < n → waiting h s ≡ None
none_at h zero s all below = absurd (omega (arith, below))
none_at h (suc n) s all below =
    let p = and_parts (is_none (waiting h n)) (none_waits h n) all in
    on_test (nat_eq s n) (λ _. waiting h s ≡ None) (λ e. ap (waiting h) (eqb-true s n e) ∙ was_none (waiting h n) p.0)
    (λ e. none_at h n s p.1 (differs s n e below))
  where
    differs : (x y : ℕ) → nat_eq x y ≡ false → x < suc y → x < y
    differs x y e lt = grind (arith, nat_tests)

-- ---- who has committed

live_none : (h : History) (ts : List Name) → first_live h ts ≡ None → list_any (λ t. is_top_level t && is_live h t) ts ≡ false
live_none h [] e = refl
live_none h (t ∷ ts) e = by (live_none h ts) (first_live h ts) refl (is_top_level t && is_live h t) refl e
  where
    by : (first_live h ts ≡ None → list_any (λ t. is_top_level t && is_live h t) ts ≡ false) → (o : Option Name) → first_live h ts ≡ o → (b : Bool) → (is_top_level t && is_live h t) ≡ b → or_else o (cond b (Some t) None) ≡ None
        → ((is_top_level t && is_live h t) || list_any (λ t. is_top_level t && is_live h t) ts) ≡ false
    by more (Some u) f b k e = cc
    by more None f true k e = cc
    by more None f false k e = ap₂ (λ x y. x || y) k (more f)

abbrev status_by : Bool → Bool → Bool → Status
status_by b a c = cond b (cond a Aborted (cond c Committed Live)) Absent

-- by its own begin, commit and abort
committed_by : (b a c : Bool) → b ≡ true → a ≡ false → is_live_status (status_by b a c) ≡ false → is_committed (status_by b a c) ≡ true
committed_by true false true hb ha hl = refl
committed_by true false false hb ha hl = absurd (true≢false hl)
committed_by true true c hb ha hl = absurd (true≢false ha)
committed_by false a c hb ha hl = absurd (true≢false (sym hb))

orphan_parts : (p : Option Name) (b : Bool) (t : Name) → is_some (or_else p (cond b (Some t) None)) ≡ false → (is_some p ≡ false) × (b ≡ false)
orphan_parts (Some u) b t h = absurd (true≢false h)
orphan_parts None true t h = absurd (true≢false h)
orphan_parts None false t h = (refl, refl)

-- nobody above is aborted, nor is it itself
no_orphan : (h : History) (l : List ℕ) (ls : Name) → is_orphan h (l ∷ ls) ≡ false → (is_orphan h (parent (l ∷ ls)) ≡ false) × (has_aborted h (l ∷ ls) ≡ false)
no_orphan h l ls e = orphan_parts (top_aborted h (parent (l ∷ ls))) (has_aborted h (l ∷ ls)) (l ∷ ls) (sym (ap is_some (top_by_parent h l ls)) ∙ e)

parent_length : (l m : List ℕ) (ls : Name) → length (parent (l ∷ m ∷ ls)) ≡ suc (length ls)
parent_length l m ls =
    let all : length (l ∷ m ∷ ls) ≡ suc (suc (length ls)) = refl in
    length-take-le (length (l ∷ m ∷ ls) - 1) (l ∷ m ∷ ls) (omega (arith, all)) ∙ omega (arith, all)

has_parent : (l m : List ℕ) (ls : Name) → parent (l ∷ m ∷ ls) ≡ [] → ⊥
has_parent l m ls e = absurd (omega (arith, ap length e, parent_length l m ls))

all_committed : (h : History) → IsGrown h → first_live h (begun h) ≡ None → (n : ℕ) (t : Name) → length t ≤ n → has_begun h t ≡ true → is_orphan h t ≡ false → is_committed (status h t) ≡ true
all_committed h g over n [] le b o = absurd (true≢false (sym b ∙ g.rootless))
all_committed h g over n (l ∷ []) le b o =
    let dead = none_begun (λ t. is_top_level t && is_live h t) (l ∷ []) h (live_none h (begun h) over) b in
    committed_by (has_begun h (l ∷ [])) (has_aborted h (l ∷ [])) (has_committed h (l ∷ [])) b (no_orphan h l [] o).1 dead
all_committed h g over zero (l ∷ m ∷ ls) le b o = absurd (omega (arith, le))
all_committed h g over (suc n) (l ∷ m ∷ ls) le b o =
    let no = no_orphan h l (m ∷ ls) o in
    let above : has_begun h (parent (l ∷ m ∷ ls)) ≡ true = ⊎_elim (λ (r : parent (l ∷ m ∷ ls) ≡ []). absurd (has_parent l m ls r)) (λ (k : has_begun h (parent (l ∷ m ∷ ls)) ≡ true). k) (g.down l (m ∷ ls) b) in
    let done : has_committed h (parent (l ∷ m ∷ ls)) ≡ true =
    committed_name (parent (l ∷ m ∷ ls)) (has_parent l m ls) (all_committed h g over n (parent (l ∷ m ∷ ls)) (omega (arith, le, parent_length l m ls)) above no.0) in
    committed_by (has_begun h (l ∷ m ∷ ls)) (has_aborted h (l ∷ m ∷ ls)) (has_committed h (l ∷ m ∷ ls)) b no.1 (g.closed l (m ∷ ls) b done)
  where
    committed_name : (t : Name) → (t ≡ [] → ⊥) → is_committed (status h t) ≡ true → has_committed h t ≡ true
    committed_name [] some e = absurd (some refl)
    committed_name (k ∷ ks) some e = status_committed h k ks e

-- ---- the table

pub same_row_is : (a b : List ℕ × ℤ) → same_row a b ≡ true → a ≡ b
same_row_is a b e =
    let p = and_parts (label_eq a.0 b.0) (int_eq a.1 b.1) e in
    ap₂ (λ k v. (k, v)) (same_label a.0 b.0 p.0) ((Decides-int_eq a.1 b.1).0 p.1)

same_rows : (n : ℕ) (xs ys : Rows) → Yes ≡ compared n xs ys → xs ≡ ys
same_rows n [] [] h = refl
same_rows n [] (y ∷ ys) h = cc
same_rows n (x ∷ xs) [] h = cc
same_rows n (x ∷ xs) (y ∷ ys) h =
    pick (same_row x y) (compared (suc n) xs ys) (No n) Yes (sym h)
    (λ e more.
    ap₂ (λ (r : List ℕ × ℤ) rs. r ∷ rs) (same_row_is x y e) (same_rows (suc n) xs ys (sym more)))
    (λ _ no2. cc)

-- ---- all together

sound_run : (bs : List ℕ) (r : Read) (o : Option ℕ) → read bs ≡ Ok r → first_wrong r ≡ o → IsRun r o Yes → IsServed bs
sound_run bs r (Some n) e w v = cc
sound_run bs r None e w v =
    let done = read_done bs r e in
    let over = and_parts (is_none (first_live r.history (begun r.history))) (none_waits r.history (length r.labels)) done.over in
    let ended = was_none (first_live r.history (begun r.history)) over.0 in
    let law = accesses_are_items (1 + length r.opening) r.history [] (value_in r.opening) in
    let same = same_rows _ r.table v.due v.verdict in
    let table : value_in r.table ≡ map_behind (value_in r.opening) (served r) = ap value_in same ∙ v.left in
    record {
      opening = r.opening;
      labels = r.labels;
      history = r.history;
      table = r.table;
      bytes = read_is_report bs r e;
      few_rows = done.kept.few.opening;
      few_left = done.kept.few.table;
      few_sessions = done.kept.few.labels;
      few_begun = done.kept.few.begins;
      rising = done.kept.rows;
      rising_left = subst IsRising (sym same) v.rising;
      in_order = done.kept.order;
      answered_all = λ s below. none_at r.history (length r.labels) s over.1 below;
      ended = ended;
      runs = (law.1.0 w, sym law.0 ∙ sym table);
      below = done.kept.grown.down;
      committed = λ t b o. all_committed r.history done.kept.grown ended (length t) t (omega arith) b o;
    }

sound_by : (bs : List ℕ) (j : Result Read ℕ) → read bs ≡ j → IsJudged j Yes → IsServed bs
sound_by bs (Err n) e v = cc
sound_by bs (Ok r) e v = sound_run bs r (first_wrong r) e refl v

pub yes_is_sound : YesIsSound
yes_is_sound bs v = sound_by bs (read bs) refl v

-- What was read is what the lines spell: each line that is read adds itself to the text of the report so far.
use Rattle.std.proofs.Common.{◌≡◌, ℕ, ℤ, ◌<◌, ◌≤◌, ◌+◌, List, [], ◌∷◌, ◌++◌, length, true, cond, get_or, Option, Some, None, Result, Ok, Err, refl, sym, ap, ap₂, ◌∙◌, subst, arith, append_assoc, append-nil, length-append}
use Rattle.std.specs.Prelude.{codes, decimal, position, is_some, slice_get, unwrap_or}
use Rattle.std.specs.List.{AllByRecursion, join_with_byte}
use Rattle.std.specs.Option.{ok_or}
use Rattle.std.specs.Str.{bytes_eq}
use Rattle.std.proofs.Math.ListN.{get_or-append}
use Rattle.std.proofs.Math.Seq.{get_or-append_seam}
use Rattle.std.proofs.lemmas.Bool.{and_parts, eqb-true}
use Rattle.std.proofs.lemmas.Option.{unwrap_or-slice_get}
use Rattle.std.proofs.lemmas.List.Quantifiers.{position-Some}
use Rattle.txn_names.specs.Path.{label_eq}
use Rattle.txn_names.proofs.Exports.{same_label}
use Rattle.serial_spec.specs.declared.entry.By.{By}
use Rattle.serial_spec.specs.declared.entry.By.TheVariants as by
use Rattle.serial_spec.specs.declared.entry.Entry.{Entry}
use Rattle.serial_spec.specs.History.{History}
use Rattle.line_language.specs.Printing.{spelled_answer, spelled_event, spelled_number}
use Rattle.line_language.specs.Report.{line, report, spelled_entry, spelled_history, spelled_rows}
use Rattle.serial_spec.specs.Rows.{Rows}
use Rattle.line_language.specs.Words.{cut_at}
use Rattle.line_language.proofs.Exports.{joined_cut, bind_ok, is_word, pick, entries_read_back, rows_read_back}
use Rattle.line_language.specs.Entries.{spelled_report_entry}
use Rattle.line_language.specs.Reading.{entry_of, row_of}
use Rattle.line_language.specs.declared.entry.ReportEntry.{ReportEntry}
use Rattle.line_language.specs.declared.entry.ReportEntry.TheVariants as told
use Rattle.report_check.specs.Passing.{Part, Start, Opening, Entries, Final, Ended, Read, at_part, entry_in, entry_next, final_next, has_ended, labels_after, may_add_row, may_end, may_follow, middle_next, next, next_at, opening_next, read, read_from, unread, with_entry, with_label, with_opening, with_row}

-- ---- the text so far

abbrev base : Read → List ℕ
base r = line (codes "open") ++ spelled_rows r.opening ++ spelled_history r.labels r.history

abbrev pub so_far : Part → Read → List ℕ
so_far Start r = []
so_far Opening r = base r
so_far Entries r = base r
so_far Final r = base r ++ line (codes "table") ++ spelled_rows r.table
so_far Ended r = base r ++ line (codes "table") ++ spelled_rows r.table ++ line (codes "end")

-- what is not read yet
abbrev IsBlank : Part → Read → Type 0
IsBlank Start r = (r.opening ≡ []) × (r.history ≡ []) × (r.table ≡ [])
IsBlank Opening r = (r.history ≡ []) × (r.table ≡ [])
IsBlank Entries r = r.table ≡ []
IsBlank Final r = Unit {0}
IsBlank Ended r = Unit {0}

abbrev IsWithin : ℕ → By → Type 0
IsWithin n (by.Line s l) = s < n
IsWithin n by.Victim = Unit {0}
IsWithin n by.Close = Unit {0}

abbrev AreWithin : ℕ → History → Type 0
AreWithin n h = AllByRecursion (λ e. IsWithin n e.by) h

record IsStep (q : Part) (r : Read) (p : List ℕ) (s : Read) : Type 0 where
  blank : IsBlank s.part s
  within : AreWithin (length s.labels) s.history
  text : so_far s.part s ≡ so_far q r ++ line p

-- ---- rows

rows_more : (rows : Rows) (row : List ℕ × ℤ) → spelled_rows (rows ++ row ∷ []) ≡ spelled_rows rows ++ line (row.0 ++ codes "=" ++ spelled_number row.1)
rows_more [] row = append-nil (line (row.0 ++ codes "=" ++ spelled_number row.1))
rows_more (r ∷ rows) row =
    ap (λ z. line (r.0 ++ codes "=" ++ spelled_number r.1) ++ z) (rows_more rows row)
    ∙ sym (append_assoc (line (r.0 ++ codes "=" ++ spelled_number r.1)) (spelled_rows rows) (line (row.0 ++ codes "=" ++ spelled_number row.1)))

-- ---- labels

stays : (labels more : List (List ℕ)) (s : ℕ) → s < length labels → unwrap_or (slice_get (labels ++ more) s) [] ≡ unwrap_or (slice_get labels s) []
stays labels more s h =
    unwrap_or-slice_get (labels ++ more) s [] ∙ get_or-append labels more [] s h ∙ sym (unwrap_or-slice_get labels s [])

entry_stays : (labels more : List (List ℕ)) (e : Entry) (b : By) → IsWithin (length labels) b → spelled_entry (labels ++ more) b e.event e.answer ≡ spelled_entry labels b e.event e.answer
entry_stays labels more e (by.Line s n) h =
    ap (λ l. l ++ codes " " ++ decimal n ++ codes " " ++ spelled_event e.event ++ codes " -> " ++ spelled_answer e.answer) (stays labels more s h)
entry_stays labels more e by.Victim h = refl
entry_stays labels more e by.Close h = refl

history_stays : (labels more : List (List ℕ)) (h : History) → AreWithin (length labels) h → spelled_history (labels ++ more) h ≡ spelled_history labels h
history_stays labels more [] w = refl
history_stays labels more (e ∷ h) w = ap₂ (λ a b. a ++ line b) (history_stays labels more h w.1) (entry_stays labels more e e.by w.0)

within_more : (m n : ℕ) (h : History) → m ≤ n → AreWithin m h → AreWithin n h
within_more m n [] le w = tt
within_more m n (e ∷ h) le w = (one e.by w.0, within_more m n h le w.1)
  where
    one : (b : By) → IsWithin m b → IsWithin n b
    one (by.Line s l) lt = omega (arith, lt, le)
    one by.Victim lt = tt
    one by.Close lt = tt

-- the labels with this one, its number among them, and that it stands there
record IsLabelled (labels : List (List ℕ)) (l : List ℕ) (new : List (List ℕ)) (s : ℕ) : Type 0 where
  more : List (List ℕ)
  kept : new ≡ labels ++ more
  within : s < length new
  found : unwrap_or (slice_get new s) [] ≡ l

labelled : (labels : List (List ℕ)) (l : List ℕ) (o : Option ℕ) → position (label_eq l) labels ≡ o
    → IsLabelled labels l (cond (is_some o) labels (labels ++ l ∷ [])) (unwrap_or o (length labels))
labelled labels l (Some s) e =
    let p = position-Some (label_eq l) labels s [] e in
    record { more = []; kept = sym (append-nil labels); within = p.0; found = unwrap_or-slice_get labels s [] ∙ sym (same_label l (get_or labels s []) p.1) }
labelled labels l None e = record {
  more = l ∷ [];
  kept = refl;
  within = omega (arith, length-append labels (l ∷ []));
  found = unwrap_or-slice_get (labels ++ l ∷ []) (length labels) [] ∙ get_or-append_seam labels l [] [];
}

-- ---- an entry

record IsAdded (r : Read) (x : ReportEntry) : Type 0 where
  within : AreWithin (length (labels_after r.labels x)) (entry_in r.labels x ∷ r.history)
  history : spelled_history (labels_after r.labels x) r.history ≡ spelled_history r.labels r.history
  entry : spelled_entry (labels_after r.labels x) (entry_in r.labels x).by (entry_in r.labels x).event (entry_in r.labels x).answer ≡ spelled_report_entry x

added : (r : Read) (x : ReportEntry) → AreWithin (length r.labels) r.history → IsAdded r x
added r (told.Line l n e a) w =
    let is = labelled r.labels l (position (label_eq l) r.labels) refl in
    let grows : length r.labels ≤ length (with_label r.labels l) = omega (arith, ap length is.kept, length-append r.labels is.more) in
    record {
      within = (is.within, within_more (length r.labels) (length (with_label r.labels l)) r.history grows w);
      history = ap (λ ls. spelled_history ls r.history) is.kept ∙ history_stays r.labels is.more r.history w;
      entry = ap (λ b. b ++ codes " " ++ decimal n ++ codes " " ++ spelled_event e ++ codes " -> " ++ spelled_answer a) is.found;
    }
added r (told.Victim t) w = record { within = (tt, w); history = refl; entry = refl }
added r (told.Close t) w = record { within = (tt, w); history = refl; entry = refl }

entry_text : (r : Read) (x : ReportEntry) (p : List ℕ) → IsAdded r x → p ≡ spelled_report_entry x → base (with_entry r x) ≡ base r ++ line p
entry_text r x p is e =
    ap₂ (λ h b. (line (codes "open") ++ spelled_rows r.opening) ++ (h ++ line b)) is.history (is.entry ∙ sym e)
    ∙ sym (append_assoc (line (codes "open") ++ spelled_rows r.opening) (spelled_history r.labels r.history) (line p))

pub no_read : {P : Type 0} (s : Read) → None ≡ Some s → P
no_read s h = cc

pub some_read : (r s : Read) → Some r ≡ Some s → r ≡ s
some_read r s h = cc

entry_step : (q : Part) (r s : Read) (p : List ℕ) (o : Option ReportEntry) → so_far q r ≡ base r → r.table ≡ [] → AreWithin (length r.labels) r.history
    → entry_of p ≡ o → entry_next r o ≡ Some s → IsStep q r p s
entry_step q r s p None at blank w e h = no_read s h
entry_step q r s p (Some x) at blank w e h =
    let is = added r x w in
    pick (may_follow r.history (entry_in r.labels x)) (Some (with_entry r x)) None (Some s) h
    (λ _ same. subst (IsStep q r p) (some_read (with_entry r x) s same)
    (record { blank = blank; within = is.within; text = entry_text r x p is ((entries_read_back p x).0 e).1 ∙ ap (λ z. z ++ line p) (sym at) }))
    (λ _ none. no_read s none)

middle_step : (q : Part) (r s : Read) (p : List ℕ) → so_far q r ≡ base r → r.table ≡ [] → AreWithin (length r.labels) r.history
    → middle_next r p ≡ Some s → IsStep q r p s
middle_step q r s p at blank w h =
    pick (bytes_eq p (codes "table")) (cond (may_end r) (Some (at_part Final r)) None) (entry_next r (entry_of p)) (Some s) h
    (λ is h2. pick (may_end r) (Some (at_part Final r)) None (Some s) h2
    (λ _ same. subst (IsStep q r p) (some_read (at_part Final r) s same)
    (record {
      blank = tt;
      within = w;
      text = ap (λ rows. (base r ++ line (codes "table")) ++ spelled_rows rows) blank ∙ append-nil (base r ++ line (codes "table"))
          ∙ ap₂ (λ a b. a ++ line b) (sym at) (sym (is_word p _ is));
    }))
    (λ _ none. no_read s none))
    (λ _ h2. entry_step q r s p (entry_of p) at blank w refl h2)

-- ---- each part

opening_text : (r : Read) (row : List ℕ × ℤ) (p : List ℕ) → r.history ≡ [] → p ≡ row.0 ++ codes "=" ++ spelled_number row.1 → base (with_opening r row) ≡ base r ++ line p
opening_text r row p none e =
    let o : List ℕ = line (codes "open") in
    ap (λ h. (o ++ spelled_rows (r.opening ++ row ∷ [])) ++ spelled_history r.labels h) none
    ∙ append-nil (o ++ spelled_rows (r.opening ++ row ∷ []))
    ∙ ap (λ z. o ++ z) (rows_more r.opening row)
    ∙ sym (append_assoc o (spelled_rows r.opening) (line (row.0 ++ codes "=" ++ spelled_number row.1)))
    ∙ ap₂ (λ a b. a ++ line b)
    (sym (append-nil (o ++ spelled_rows r.opening)) ∙ ap (λ h. (o ++ spelled_rows r.opening) ++ spelled_history r.labels h) (sym none)) (sym e)

opening_step : (r s : Read) (p : List ℕ) (o : Option (List ℕ × ℤ)) → r.history ≡ [] → r.table ≡ [] → AreWithin (length r.labels) r.history
    → row_of p ≡ o → opening_next r p o ≡ Some s → IsStep Opening r p s
opening_step r s p None none blank w e h = middle_step Opening r s p refl blank w h
opening_step r s p (Some row) none blank w e h =
    pick (may_add_row r.opening row.0) (Some (with_opening r row)) None (Some s) h
    (λ _ same. subst (IsStep Opening r p) (some_read (with_opening r row) s same)
    (record { blank = (none, blank); within = w; text = opening_text r row p none ((rows_read_back p row.0 row.1).0 e).2 }))
    (λ _ no2. no_read s no2)

final_step : (r s : Read) (p : List ℕ) (o : Option (List ℕ × ℤ)) → AreWithin (length r.labels) r.history → row_of p ≡ o → final_next r o ≡ Some s → IsStep Final r p s
final_step r s p None w e h = no_read s h
final_step r s p (Some row) w e h =
    let t : List ℕ = base r ++ line (codes "table") in
    pick (may_add_row r.table row.0) (Some (with_row r row)) None (Some s) h
    (λ _ same. subst (IsStep Final r p) (some_read (with_row r row) s same)
    (record {
      blank = tt;
      within = w;
      text = ap (λ z. t ++ z) (rows_more r.table row)
          ∙ sym (append_assoc t (spelled_rows r.table) (line (row.0 ++ codes "=" ++ spelled_number row.1)))
          ∙ ap (λ b. (t ++ spelled_rows r.table) ++ line b) (sym ((rows_read_back p row.0 row.1).0 e).2);
    }))
    (λ _ no2. no_read s no2)

step_at : (q : Part) (r s : Read) (p : List ℕ) → IsBlank q r → AreWithin (length r.labels) r.history → next_at q r p ≡ Some s → IsStep q r p s
step_at Start r s p blank w h =
    pick (bytes_eq p (codes "open")) (Some (at_part Opening r)) None (Some s) h
    (λ is same. subst (IsStep Start r p) (some_read (at_part Opening r) s same)
    (record {
      blank = (blank.1, blank.2);
      within = w;
      text = ap₂ (λ rows g. (line (codes "open") ++ spelled_rows rows) ++ spelled_history r.labels g) blank.0 blank.1 ∙ ap line (sym (is_word p _ is));
    }))
    (λ _ none. no_read s none)
step_at Opening r s p blank w h = opening_step r s p (row_of p) blank.0 blank.1 w refl h
step_at Entries r s p blank w h = middle_step Entries r s p refl blank w h
step_at Final r s p blank w h =
    pick (bytes_eq p (codes "end")) (Some (at_part Ended r)) (final_next r (row_of p)) (Some s) h
    (λ is same. subst (IsStep Final r p) (some_read (at_part Ended r) s same)
    (record { blank = tt; within = w; text = ap (λ b. (base r ++ line (codes "table") ++ spelled_rows r.table) ++ line b) (sym (is_word p _ is)) }))
    (λ _ h2. final_step r s p (row_of p) w refl h2)
step_at Ended r s p blank w h = no_read s h

-- ---- all lines

ended_is : (q : Part) → has_ended q ≡ true → q ≡ Ended
ended_is Start h = cc
ended_is Opening h = cc
ended_is Entries h = cc
ended_is Final h = cc
ended_is Ended h = refl

nothing : (p : List ℕ) → length p ≡ 0 → p ≡ []
nothing [] h = refl
nothing (b ∷ p) h = absurd (omega (arith, h))

pub same_ok : (r s : Read) → ◌≡◌ {A = Result Read ℕ} (Ok r) (Ok s) → r ≡ s
same_ok r s h = cc

pub was_some : (o : Option Read) (n : ℕ) (r : Read) → ok_or o n ≡ Ok r → o ≡ Some r
was_some (Some q) n r h = cc
was_some None n r h = cc

all_from : (n : ℕ) (r s : Read) (ps : List (List ℕ)) → IsBlank r.part r → AreWithin (length r.labels) r.history → read_from n r ps ≡ Ok s
    → so_far r.part r ++ join_with_byte 10 ps ≡ report s.opening s.labels s.history s.table
all_from n r s [] blank w h = cc
all_from n r s (p ∷ []) blank w h =
    pick _ (Ok r) (Err n) (Ok s) h
    (λ b same. let t = and_parts _ _ b in
    ap₂ (λ q z. so_far q r ++ z) (ended_is r.part t.1) (nothing p (eqb-true (length p) 0 t.0))
    ∙ append-nil (so_far Ended r) ∙ ap (λ q. so_far Ended q) (same_ok r s same))
    (λ _ no2. cc)
all_from n r s (p ∷ q ∷ ps) blank w h =
    let m = bind_ok (ok_or (next r p) n) (λ more. read_from (n + 1) more (q ∷ ps)) s h in
    let is = step_at r.part r m.0 p blank w (was_some (next r p) n m.0 m.1) in
    ap (λ z. so_far r.part r ++ z) (sym (append_assoc p (10 ∷ []) (join_with_byte 10 (q ∷ ps))))
    ∙ sym (append_assoc (so_far r.part r) (line p) (join_with_byte 10 (q ∷ ps)))
    ∙ ap (λ z. z ++ join_with_byte 10 (q ∷ ps)) (sym is.text)
    ∙ all_from (n + 1) m.0 s (q ∷ ps) is.blank is.within m.2

-- bytes that are read are the report of what was read
pub read_is_report : (bs : List ℕ) (s : Read) → read bs ≡ Ok s → bs ≡ report s.opening s.labels s.history s.table
read_is_report bs s h = sym (joined_cut 10 bs) ∙ all_from 1 unread s (cut_at 10 bs) (refl, refl, refl) tt h

-- The bytes of a report, cut at their line feeds.
use Rattle.std.proofs.Common.{◌≡◌, ℕ, List, [], ◌∷◌, ◌++◌, not, nat_eq, refl, sym, ap, ◌∙◌, arith, append_assoc, append-nil}
use Rattle.std.specs.Prelude.{codes, decimal, map}
use Rattle.std.specs.List.{AllByRecursion, list_all}
use Rattle.std.proofs.lemmas.Bool.{and_parts}
use Rattle.txn_names.specs.Text.{IsName, is_label_byte, spelled_name}
use Rattle.serial_spec.specs.declared.entry.Answer.{Answer}
use Rattle.serial_spec.specs.declared.entry.Answer.TheVariants.{Done, Refused}
use Rattle.serial_spec.specs.declared.entry.Refusal.TheVariants.{Orphan}
use Rattle.serial_spec.specs.declared.event.Event.TheVariants.{Abort}
use Rattle.serial_spec.specs.declared.operation.Reply.TheVariants.{Value, New}
use Rattle.serial_spec.specs.History.{History}
use Rattle.line_language.specs.Printing.{spelled_answer, spelled_event, spelled_number}
use Rattle.line_language.specs.Report.{line, report, spelled_entry, spelled_history, spelled_rows}
use Rattle.serial_spec.specs.Rows.{Rows}
use Rattle.line_language.specs.Words.{cut_at}
use Rattle.line_language.proofs.Exports.{Lacks, Lacks-append, Lacks-from_all, cut_behind, decimal_lacks, event_lacks, line_feed}
use Rattle.line_language.specs.Entries.{IsAnswer, IsReportEntry, spelled_report_entry}
use Rattle.line_language.specs.declared.entry.ReportEntry.{ReportEntry}
use Rattle.line_language.specs.declared.entry.ReportEntry.TheVariants.{Line, Victim, Close}
use Rattle.report_laws.specs.Whole.{IsRow}
use Rattle.report_laws.proofs.Reading.{number_lacks, row_lacks, row_text}

-- ---- lines, each with its end

abbrev pub joined : List (List ℕ) → List ℕ
joined [] = []
joined (p ∷ ps) = line p ++ joined ps

pub cut_lines : (ps : List (List ℕ)) → AllByRecursion (Lacks 10) ps → cut_at 10 (joined ps) ≡ ps ++ [] ∷ []
cut_lines [] all = refl
cut_lines (p ∷ ps) all =
    ap (cut_at 10) (append_assoc p (10 ∷ []) (joined ps)) ∙ cut_behind 10 p (joined ps) all.0 ∙ ap (λ qs. p ∷ qs) (cut_lines ps all.1)

joined_both : (ps qs : List (List ℕ)) (a b : List ℕ) → joined ps ≡ a → joined qs ≡ b → joined (ps ++ qs) ≡ a ++ b
joined_both [] qs a b first second = second ∙ ap (λ z. z ++ b) first
joined_both (p ∷ ps) qs a b first second =
    ap (λ z. line p ++ z) (joined_both ps qs (joined ps) b refl second) ∙ sym (append_assoc (line p) (joined ps) b) ∙ ap (λ z. z ++ b) first

joined_one : (p : List ℕ) → joined (p ∷ []) ≡ line p
joined_one p = append-nil (line p)

rows_joined : (rows : Rows) → joined (map row_text rows) ≡ spelled_rows rows
rows_joined [] = refl
rows_joined (r ∷ rows) = ap (λ z. line (row_text r) ++ z) (rows_joined rows)

abbrev pub entry_texts : List (List ℕ) → History → List (List ℕ)
entry_texts labels [] = []
entry_texts labels (e ∷ h) = entry_texts labels h ++ spelled_entry labels e.by e.event e.answer ∷ []

entries_joined : (labels : List (List ℕ)) (h : History) → joined (entry_texts labels h) ≡ spelled_history labels h
entries_joined labels [] = refl
entries_joined labels (e ∷ h) = joined_both (entry_texts labels h) _ _ _ (entries_joined labels h) (joined_one (spelled_entry labels e.by e.event e.answer))

abbrev pub report_lines : Rows → List (List ℕ) → History → Rows → List (List ℕ)
report_lines opening labels h table =
    ((((codes "open" ∷ [] ++ map row_text opening) ++ entry_texts labels h) ++ codes "table" ∷ []) ++ map row_text table) ++ codes "end" ∷ []

pub report_joined : (opening : Rows) (labels : List (List ℕ)) (h : History) (table : Rows) → joined (report_lines opening labels h table) ≡ report opening labels h table
report_joined opening labels h table =
    joined_both ((((codes "open" ∷ [] ++ map row_text opening) ++ entry_texts labels h) ++ codes "table" ∷ []) ++ map row_text table) (codes "end" ∷ []) _ _
    (joined_both (((codes "open" ∷ [] ++ map row_text opening) ++ entry_texts labels h) ++ codes "table" ∷ []) (map row_text table) _ _
    (joined_both ((codes "open" ∷ [] ++ map row_text opening) ++ entry_texts labels h) (codes "table" ∷ []) _ _
    (joined_both (codes "open" ∷ [] ++ map row_text opening) (entry_texts labels h) _ _
    (joined_both (codes "open" ∷ []) (map row_text opening) _ _ (joined_one (codes "open")) (rows_joined opening)) (entries_joined labels h))
    (joined_one (codes "table"))) (rows_joined table)) (joined_one (codes "end"))

-- ---- no line has a line feed

all_both : {X : Type 0} (P : X → Type 0) (xs ys : List X) → AllByRecursion P xs → AllByRecursion P ys → AllByRecursion P (xs ++ ys)
all_both P [] ys a b = b
all_both P (x ∷ xs) ys a b = (a.0, all_both P xs ys a.1 b)

Lacks-right : (c : ℕ) (xs ys : List ℕ) → Lacks c (xs ++ ys) → Lacks c ys
Lacks-right c [] ys h = h
Lacks-right c (x ∷ xs) ys h = Lacks-right c xs ys (and_parts (not (nat_eq x c)) (list_all (λ b. not (nat_eq b c)) (xs ++ ys)) h).1

name_lacks : (t : List (List ℕ)) → IsName t → Lacks 10 (spelled_name t)
name_lacks t is = Lacks-right 10 (codes "abort ") (spelled_name t) (event_lacks (Abort t) is)

answer_lacks : (a : Answer) → IsAnswer a → Lacks 10 (spelled_answer a)
answer_lacks (Done (Value v)) is = Lacks-append 10 (codes "value ") (spelled_number v) refl (number_lacks 10 line_feed v is)
answer_lacks (Done (New v)) is = Lacks-append 10 (codes "new ") (spelled_number v) refl (number_lacks 10 line_feed v is)
answer_lacks (Refused (Orphan t)) is = Lacks-append 10 (codes "orphan ") (spelled_name t) refl (name_lacks t is)
answer_lacks a is = refl

pub entry_lacks : (x : ReportEntry) → IsReportEntry x → Lacks 10 (spelled_report_entry x)
entry_lacks (Line l n e a) is =
    Lacks-append 10 (((((l ++ codes " ") ++ decimal n) ++ codes " ") ++ spelled_event e) ++ codes " -> ") (spelled_answer a)
    (Lacks-append 10 ((((l ++ codes " ") ++ decimal n) ++ codes " ") ++ spelled_event e) (codes " -> ")
    (Lacks-append 10 (((l ++ codes " ") ++ decimal n) ++ codes " ") (spelled_event e)
    (Lacks-append 10 ((l ++ codes " ") ++ decimal n) (codes " ")
    (Lacks-append 10 (l ++ codes " ") (decimal n) (Lacks-append 10 l (codes " ") (Lacks-from_all 10 is_label_byte refl l is.label.plain) refl)
    (decimal_lacks 10 line_feed n (omega (arith, is.last)))) refl) (event_lacks e is.event)) refl) (answer_lacks a is.answer)
entry_lacks (Victim t) is = Lacks-append 10 (codes "* victim ") (spelled_name t) refl (name_lacks t is)
entry_lacks (Close t) is = Lacks-append 10 (codes "* close ") (spelled_name t) refl (name_lacks t is)

rows_lack : (rows : Rows) → AllByRecursion IsRow rows → AllByRecursion (Lacks 10) (map row_text rows)
rows_lack [] all = tt
rows_lack (r ∷ rows) all = (row_lacks 10 line_feed refl r.0 r.1 all.0.key all.0.value, rows_lack rows all.1)

-- the text of each entry lacks it
abbrev pub EntriesLack : List (List ℕ) → History → Type 0
EntriesLack labels h = AllByRecursion (λ e. Lacks 10 (spelled_entry labels e.by e.event e.answer)) h

entries_lack : (labels : List (List ℕ)) (h : History) → EntriesLack labels h → AllByRecursion (Lacks 10) (entry_texts labels h)
entries_lack labels [] all = tt
entries_lack labels (e ∷ h) all = all_both (Lacks 10) (entry_texts labels h) _ (entries_lack labels h all.1) (all.0, tt)

pub lines_lack : (opening : Rows) (labels : List (List ℕ)) (h : History) (table : Rows) → AllByRecursion IsRow opening → EntriesLack labels h → AllByRecursion IsRow table
    → AllByRecursion (Lacks 10) (report_lines opening labels h table)
lines_lack opening labels h table first entries last =
    all_both (Lacks 10) ((((codes "open" ∷ [] ++ map row_text opening) ++ entry_texts labels h) ++ codes "table" ∷ []) ++ map row_text table) (codes "end" ∷ [])
    (all_both (Lacks 10) (((codes "open" ∷ [] ++ map row_text opening) ++ entry_texts labels h) ++ codes "table" ∷ []) (map row_text table)
    (all_both (Lacks 10) ((codes "open" ∷ [] ++ map row_text opening) ++ entry_texts labels h) (codes "table" ∷ [])
    (all_both (Lacks 10) (codes "open" ∷ [] ++ map row_text opening) (entry_texts labels h) (refl, rows_lack opening first) (entries_lack labels h entries)) (refl, tt))
    (rows_lack table last)) (refl, tt)

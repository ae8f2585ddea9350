-- An entry is read exactly where the bytes spell it.
use Rattle.std.proofs.Common.{◌≡◌, ℕ, ℤ, pos, negsuc, zero, suc, ◌-◌, ◌≤◌, ◌^◌, List, [], ◌∷◌, ◌++◌, length, take, drop, true, false, Bool, cond, nat_eq, Some, None, Ok, refl, sym, ap, ap₂, ◌∙◌, subst, arith, append_assoc, length-append}
use Rattle.std.specs.Prelude.{codes, decimal, nat_le, ◌&&◌}
use Rattle.std.specs.List.{list_all}
use Rattle.std.specs.Result.{result_ok}
use Rattle.std.specs.Str.{bytes_eq}
use Rattle.std.proofs.lemmas.Bool.{and_parts, eqb-true, le-leb, leb-true, lt-ltb, true≢false}
use Rattle.std.proofs.Math.Seq.{drop-append_seam, take-append_seam}
use Rattle.txn_names.specs.Path.{Path}
use Rattle.txn_names.specs.Text.{IsLabel, IsName, is_label_byte, spelled_name}
use Rattle.txn_names.specs.Reading.{label_of, name_of}
use Rattle.txn_names.proofs.Exports.{name_of-spelled, read_is_name}
use Rattle.serial_spec.specs.declared.limits.TheConstants.{MOST_LINES}
use Rattle.serial_spec.specs.declared.entry.Answer.{Answer}
use Rattle.serial_spec.specs.declared.event.Event.{Event}
use Rattle.serial_spec.specs.Operations.{is_i64}
use Rattle.line_language.specs.Printing.{spelled_answer, spelled_event, spelled_number}
use Rattle.line_language.specs.Commands.{event_of}
use Rattle.line_language.specs.Numbers.{number_of}
use Rattle.line_language.specs.Words.{before, behind}
use Rattle.line_language.proofs.Bytes.{Lacks, Lacks-append, Lacks-from_all}
use Rattle.line_language.proofs.ReadBack.{lines_read_back, numbers_read_back}
use Rattle.line_language.proofs.Reading.{is_word, pick}
use Rattle.line_language.proofs.Spelled.{IsGap, decimal_lacks, event_lacks_gap, space}
use Rattle.line_language.specs.Answers.{may_answer}
use Rattle.line_language.specs.Laws.{EntriesReadBack}
use Rattle.line_language.specs.Entries.{IsReportEntry, IsTold, spelled_report_entry}
use Rattle.line_language.specs.Reading.{abort_by, abort_of, answer_of, before_dash, behind_space, count_of, entry_of, line_entry_of, sides_of, star_entry_of, told_of}
use Rattle.line_language.specs.declared.entry.ReportEntry.{ReportEntry}
use Rattle.line_language.specs.declared.entry.ReportEntry.TheVariants.{Line, Victim, Close}
use Rattle.line_language.proofs.Answering.{answer_again, answer_reads}
use Rattle.line_language.proofs.Parts.{before_next, bind_some, label_is, label_read, parted, same_some, was_ok}

-- ---- both sides of the arrow

dash_by : (bs text : List ℕ) (t : Bool) → bytes_eq (drop (length bs - 2) bs) (codes " -") ≡ t → cond t (Some (take (length bs - 2) bs)) None ≡ Some text → bs ≡ text ++ codes " -"
dash_by bs text true e h = take_drop (length bs - 2) bs ∙ ap₂ (λ xs ys. xs ++ ys) (same_some _ text h) (is_word _ _ e)
  where
    take_drop : (n : ℕ) (xs : List ℕ) → xs ≡ take n xs ++ drop n xs
    take_drop zero xs = refl
    take_drop (suc n) [] = refl
    take_drop (suc n) (x ∷ xs) = ap (λ ys. x ∷ ys) (take_drop n xs)
dash_by bs text false e h = cc

dash_reads : (bs text : List ℕ) → before_dash bs ≡ Some text → bs ≡ text ++ codes " -"
dash_reads bs text h = dash_by bs text (bytes_eq (drop (length bs - 2) bs) (codes " -")) refl h

space_reads : (bs rest : List ℕ) → behind_space bs ≡ Some rest → bs ≡ 32 ∷ rest
space_reads [] rest h = cc
space_reads (b ∷ bs) rest h =
    pick (nat_eq b 32) (Some bs) None (Some rest) h
    (λ e same. ap₂ (λ (c : ℕ) ys. c ∷ ys) (eqb-true b 32 e) (same_some bs rest same))
    (λ _ e. absurd (none e))
  where
    none : None ≡ Some rest → ⊥
    none e = cc

sides_parts : (bs r text answer : List ℕ) → behind 62 bs ≡ Some r → before 62 bs ≡ text ++ codes " -" → r ≡ 32 ∷ answer → bs ≡ text ++ codes " -> " ++ answer
sides_parts bs r text answer h front back =
    parted 62 bs r h ∙ ap (λ w. w ++ 62 ∷ r) front ∙ ap (λ w. (text ++ codes " -") ++ 62 ∷ w) back ∙ append_assoc text (codes " -") (62 ∷ 32 ∷ answer) ∙ sym (append_assoc text (codes " -> ") answer)

sides_from : (bs r u v : List ℕ) (s : List ℕ × List ℕ) → before_dash (before 62 bs) ≡ Some u → behind 62 bs ≡ Some r → behind_space r ≡ Some v → ◌≡◌ {A = List ℕ × List ℕ} (u, v) s
    → bs ≡ s.0 ++ codes " -> " ++ s.1
sides_from bs r u v s text h answer same =
    subst (λ (p : List ℕ × List ℕ). bs ≡ p.0 ++ codes " -> " ++ p.1) same (sides_parts bs r u v h (dash_reads (before 62 bs) u text) (space_reads r v answer))

sides_read : (bs : List ℕ) (s : List ℕ × List ℕ) → sides_of bs ≡ Some s → bs ≡ s.0 ++ codes " -> " ++ s.1
sides_read bs s h =
    let t = bind_some (before_dash (before 62 bs)) _ s h in
    let r = bind_some (behind 62 bs) _ s t.2 in
    let a = bind_some (behind_space r.0) _ s r.2 in
    sides_from bs r.0 t.0 a.0 s t.1 r.1 a.1 (same_some (t.0, a.0) s a.2)

-- ---- the parts of an entry

count_reads : (z : ℤ) (n : ℕ) → count_of z ≡ Some n → (1 ≤ n) × (n ≤ MOST_LINES) × (z ≡ pos n)
count_reads (pos m) n h =
    pick (nat_le 1 m && nat_le m MOST_LINES) (Some m) None (Some n) h
    (λ e same. let p = and_parts (nat_le 1 m) (nat_le m MOST_LINES) e in
    subst (λ k. (1 ≤ k) × (k ≤ MOST_LINES) × (pos m ≡ pos k)) (same_some m n same) (leb-true 1 m p.0, leb-true m MOST_LINES p.1, refl))
    (λ _ e. absurd (none e))
  where
    none : None ≡ Some n → ⊥
    none e = cc
count_reads (negsuc m) n h = cc

abort_reads : (w : List ℕ) (t : Path) (x : ReportEntry) → IsName t → abort_by w t ≡ Some x → IsReportEntry x × (codes "* " ++ w ++ 32 ∷ spelled_name t ≡ spelled_report_entry x)
abort_reads w t x is h =
    pick (bytes_eq w (codes "victim")) (Some (Victim t)) (cond (bytes_eq w (codes "close")) (Some (Close t)) None) (Some x) h
    (λ b e. subst (λ y. IsReportEntry y × (codes "* " ++ w ++ 32 ∷ spelled_name t ≡ spelled_report_entry y)) (same_some (Victim t) x e)
    (is, ap (λ v. codes "* " ++ v ++ 32 ∷ spelled_name t) (is_word w _ b)))
    (λ _ h2. pick (bytes_eq w (codes "close")) (Some (Close t)) None (Some x) h2
    (λ b e. subst (λ y. IsReportEntry y × (codes "* " ++ w ++ 32 ∷ spelled_name t ≡ spelled_report_entry y)) (same_some (Close t) x e)
    (is, ap (λ v. codes "* " ++ v ++ 32 ∷ spelled_name t) (is_word w _ b)))
    (λ _ e. absurd (none e)))
  where
    none : None ≡ Some x → ⊥
    none e = cc

-- ---- a line's entry

gathered : (l d e a : List ℕ) → l ++ 32 ∷ (d ++ 32 ∷ (e ++ codes " -> " ++ a)) ≡ l ++ codes " " ++ d ++ codes " " ++ e ++ codes " -> " ++ a
gathered l d e a =
    sym (append_assoc (l ++ codes " " ++ d ++ codes " " ++ e) (codes " -> ") a
    ∙ append_assoc (l ++ codes " " ++ d ++ codes " ") e (codes " -> " ++ a)
    ∙ append_assoc (l ++ codes " " ++ d) (codes " ") (e ++ (codes " -> " ++ a))
    ∙ append_assoc (l ++ codes " ") d (32 ∷ (e ++ (codes " -> " ++ a)))
    ∙ append_assoc l (codes " ") (d ++ 32 ∷ (e ++ (codes " -> " ++ a)))
    ∙ ap (λ w. l ++ 32 ∷ (d ++ 32 ∷ w)) (sym (append_assoc e (codes " -> ") a)))

abbrev IsRead : List ℕ → ReportEntry → Type 0
IsRead bs x = IsReportEntry x × (bs ≡ spelled_report_entry x)

told_from : (l : List ℕ) (n : ℕ) (bs text answer : List ℕ) (e : Event) (a : Answer) (x : ReportEntry)
    → IsLabel l → 1 ≤ n → n ≤ MOST_LINES → bs ≡ text ++ codes " -> " ++ answer → event_of text ≡ Ok e → answer_of answer ≡ Some a
    → cond (may_answer e a) (Some (Line l n e a)) None ≡ Some x → IsRead (l ++ 32 ∷ (decimal n ++ 32 ∷ bs)) x
told_from l n bs text answer e a x label first last all event reply h =
    let is_event = (lines_read_back text e).0 event in
    let is_answer = answer_reads answer a reply in
    pick (may_answer e a) (Some (Line l n e a)) None (Some x) h
    (λ fits same. subst (IsRead (l ++ 32 ∷ (decimal n ++ 32 ∷ bs))) (same_some (Line l n e a) x same) (
      record { label = label; first = first; last = last; event = is_event.0; answer = is_answer.0; fits = fits },
      ap (λ w. l ++ 32 ∷ (decimal n ++ 32 ∷ w)) (all ∙ ap₂ (λ u v. u ++ codes " -> " ++ v) is_event.1 is_answer.1)
          ∙ gathered l (decimal n) (spelled_event e) (spelled_answer a),
    ))
    (λ _ e. absurd (none e))
  where
    none : None ≡ Some x → ⊥
    none e = cc

told_reads : (l : List ℕ) (n : ℕ) (bs : List ℕ) (x : ReportEntry) → IsLabel l → 1 ≤ n → n ≤ MOST_LINES → told_of l n bs ≡ Some x
    → IsRead (l ++ 32 ∷ (decimal n ++ 32 ∷ bs)) x
told_reads l n bs x label first last h =
    let s = bind_some (sides_of bs) _ x h in
    let e = bind_some (result_ok (event_of s.0.0)) _ x s.2 in
    let a = bind_some (answer_of s.0.1) _ x e.2 in
    told_from l n bs s.0.0 s.0.1 e.0 a.0 x label first last (sides_read bs s.0 s.1) (was_ok _ e.0 e.1) a.1 a.2

-- the label and the number stand before what is told
placed : (bs r t l d : List ℕ) → behind 32 bs ≡ Some r → before 32 bs ≡ l → behind 32 r ≡ Some t → before 32 r ≡ d → bs ≡ l ++ 32 ∷ (d ++ 32 ∷ t)
placed bs r t l d rest label more number =
    parted 32 bs r rest ∙ ap₂ (λ u v. u ++ 32 ∷ v) label (parted 32 r t more ∙ ap (λ u. u ++ 32 ∷ t) number)

line_from : (bs r t l : List ℕ) (z : ℤ) (n : ℕ) (x : ReportEntry) → label_of (before 32 bs) ≡ Ok l → behind 32 bs ≡ Some r → number_of (before 32 r) ≡ Some z
    → count_of z ≡ Some n → behind 32 r ≡ Some t → told_of l n t ≡ Some x → IsRead bs x
line_from bs r t l z n x label rest number count more h =
    let is_label = label_is (before 32 bs) l label in
    let counted = count_reads z n count in
    let is_number : before 32 r ≡ decimal n = ((numbers_read_back (before 32 r) z).0 number).1 ∙ ap spelled_number counted.2 in
    subst (λ w. IsRead w x) (sym (placed bs r t l (decimal n) rest is_label.1 more is_number))
    (told_reads l n t x is_label.0 counted.0 counted.1 h)

line_reads : (bs : List ℕ) (x : ReportEntry) → line_entry_of bs ≡ Some x → IsRead bs x
line_reads bs x h =
    let l = bind_some (result_ok (label_of (before 32 bs))) _ x h in
    let r = bind_some (behind 32 bs) _ x l.2 in
    let z = bind_some (number_of (before 32 r.0)) _ x r.2 in
    let n = bind_some (count_of z.0) _ x z.2 in
    let t = bind_some (behind 32 r.0) _ x n.2 in
    line_from bs r.0 t.0 l.0 z.0 n.0 x (was_ok _ l.0 l.1) r.1 z.1 n.1 t.1 t.2

-- ---- a victim, or one of the close

star_from : (bs r s w : List ℕ) (t : Path) (x : ReportEntry) → before 32 bs ≡ codes "*" → behind 32 bs ≡ Some r → behind 32 r ≡ Some s → before 32 r ≡ w
    → name_of s ≡ Ok t → abort_by w t ≡ Some x → IsRead bs x
star_from bs r s w t x star rest more who name h =
    let is_name = read_is_name s t name in
    let is = abort_reads w t x is_name.0 h in
    (is.0, placed bs r s (codes "*") w rest star more who ∙ ap (λ v. codes "*" ++ 32 ∷ (w ++ 32 ∷ v)) is_name.1 ∙ is.1)

star_reads : (bs : List ℕ) (x : ReportEntry) → before 32 bs ≡ codes "*" → star_entry_of bs ≡ Some x → IsRead bs x
star_reads bs x star h =
    let r = bind_some (behind 32 bs) abort_of x h in
    let s = bind_some (behind 32 r.0) _ x r.2 in
    let t = bind_some (result_ok (name_of s.0)) _ x s.2 in
    star_from bs r.0 s.0 (before 32 r.0) t.0 x star r.1 s.1 refl (was_ok _ t.0 t.1) t.2

entry_reads : (bs : List ℕ) (x : ReportEntry) → entry_of bs ≡ Some x → IsRead bs x
entry_reads bs x h =
    pick (bytes_eq (before 32 bs) (codes "*")) (star_entry_of bs) (line_entry_of bs) (Some x) h
    (λ b e. star_reads bs x (is_word _ _ b) e) (λ _ e. line_reads bs x e)

-- ---- what is spelled is read

arrow_gap : IsGap 62
arrow_gap = record { label = refl; name = refl; key = refl; digit = refl }

dash_again : (text : List ℕ) → before_dash (text ++ codes " -") ≡ Some text
dash_again text =
    let short : length (text ++ codes " -") - 2 ≡ length text = omega (arith, length-append text (codes " -")) in
    rw short (rw (drop-append_seam text (codes " -")) (ap Some (take-append_seam text (codes " -"))))

sides_again : (text answer : List ℕ) → Lacks 62 text → sides_of (text ++ codes " -> " ++ answer) ≡ Some (text, answer)
sides_again text answer h =
    let p = before_next 62 (text ++ codes " -") (32 ∷ answer) (Lacks-append 62 text (codes " -") h refl) in
    let same : text ++ codes " -> " ++ answer ≡ (text ++ codes " -") ++ 62 ∷ 32 ∷ answer =
    append_assoc text (codes " -> ") answer ∙ sym (append_assoc text (codes " -") (62 ∷ 32 ∷ answer)) in
    rw same (rw (p.0, p.1, dash_again text) refl)

count_again : (n : ℕ) → 1 ≤ n → n ≤ MOST_LINES → count_of (pos n) ≡ Some n
count_again n first last = rw (le-leb 1 n first, le-leb n MOST_LINES last) refl

told_again : (l : List ℕ) (n : ℕ) (e : Event) (a : Answer) → IsTold l n e a → told_of l n (spelled_event e ++ codes " -> " ++ spelled_answer a) ≡ Some (Line l n e a)
told_again l n e a h =
    rw (sides_again (spelled_event e) (spelled_answer a) (event_lacks_gap 62 arrow_gap refl e h.event))
    (rw ((lines_read_back (spelled_event e) e).1 (h.event, refl), answer_again a h.answer, h.fits) refl)

label_lacks_space : (l : List ℕ) → IsLabel l → Lacks 32 l
label_lacks_space l h = Lacks-from_all 32 is_label_byte refl l h.plain

small : (n : ℕ) → n ≤ MOST_LINES → is_i64 (pos n) ≡ true
small n h = lt-ltb n (2 ^ 63) (omega (arith, h))

line_again : (l : List ℕ) (n : ℕ) (e : Event) (a : Answer) → IsTold l n e a → line_entry_of (spelled_report_entry (Line l n e a)) ≡ Some (Line l n e a)
line_again l n e a h =
    let t : List ℕ = spelled_event e ++ codes " -> " ++ spelled_answer a in
    let front = before_next 32 l (decimal n ++ 32 ∷ t) (label_lacks_space l h.label) in
    let more = before_next 32 (decimal n) t (decimal_lacks 32 space n (omega (arith, h.last))) in
    let number : number_of (decimal n) ≡ Some (pos n) = (numbers_read_back (decimal n) (pos n)).1 (small n h.last, refl) in
    rw (sym (gathered l (decimal n) (spelled_event e) (spelled_answer a)))
    (rw (front.0, front.1, label_read l h.label) (rw (more.0, more.1, number, count_again n h.first h.last) (told_again l n e a h)))

-- a label is no star
no_star : (l : List ℕ) → IsLabel l → bytes_eq l (codes "*") ≡ false
no_star l h = by (bytes_eq l (codes "*")) refl
  where
    by : (t : Bool) → bytes_eq l (codes "*") ≡ t → t ≡ false
    by true e = let star = subst (λ w. list_all is_label_byte w ≡ true) (is_word l (codes "*") e) h.plain in absurd (true≢false (sym star))
    by false e = refl

name_again : (t : Path) → IsName t → result_ok (name_of (spelled_name t)) ≡ Some t
name_again t h = ap result_ok (name_of-spelled t h)

entry_again : (x : ReportEntry) → IsReportEntry x → entry_of (spelled_report_entry x) ≡ Some x
entry_again (Line l n e a) h =
    let front = before_next 32 l (decimal n ++ 32 ∷ (spelled_event e ++ codes " -> " ++ spelled_answer a)) (label_lacks_space l h.label) in
    let first : before 32 (spelled_report_entry (Line l n e a)) ≡ l = ap (before 32) (sym (gathered l (decimal n) (spelled_event e) (spelled_answer a))) ∙ front.0 in
    let other : bytes_eq (before 32 (spelled_report_entry (Line l n e a))) (codes "*") ≡ false = ap (λ w. bytes_eq w (codes "*")) first ∙ no_star l h.label in
    rw other (line_again l n e a h)
entry_again (Victim t) h = rw (name_again t h) refl
entry_again (Close t) h = rw (name_again t h) refl

pub entries_read_back : EntriesReadBack
entries_read_back bs x = (entry_reads bs x, λ h. ap entry_of h.1 ∙ entry_again x h.0)

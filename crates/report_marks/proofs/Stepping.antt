-- What is kept of a report, one line later.
use Rattle.std.proofs.Common.{◌≡◌, ℕ, ℤ, suc, ◌+◌, ◌<◌, ◌^◌, Bool, true, false, cond, ◌&&◌, List, [], ◌∷◌, ◌++◌, length, Option, Some, None, unwrap_or, is_some, Result, Ok, Err, refl, sym, ap, subst, ◌∙◌, true≢false, arith, length-append}
use Rattle.std.specs.Prelude.{codes, nat_eq, IfOk}
use Rattle.std.specs.Option.{ok_or}
use Rattle.std.specs.Str.{bytes_eq}
use Rattle.txn_names.specs.Path.{Path}
use Rattle.serial_spec.specs.Interleaving.{closing, victim}
use Rattle.line_language.specs.Steps.{◌>>=◌}
use Rattle.line_language.specs.Words.{cut_at}
use Rattle.line_language.proofs.Exports.{cut_some, pick}
use Rattle.line_language.specs.Reading.{entry_of, row_of}
use Rattle.line_language.specs.declared.entry.ReportEntry.{ReportEntry}
use Rattle.line_language.specs.declared.entry.ReportEntry.TheVariants as told
use Rattle.report_check.specs.Passing.{Part, Start, Opening, Entries, Final, Ended, Read, at_part, entry_in, entry_next, final_next, has_ended, labels_after, may_add_row, may_end, may_follow, middle_next, next, next_at, opening_next, read_from, session_of, with_entry, with_label, with_opening, with_row}
use Rattle.report_marks.specs.Marks.{abort_deed, deed_of, mark_of, marks, names, with_begun}
use Rattle.report_marks.specs.Noted.{IsNoted, IsUnderWay, NotesAbort, NotesEntry, NotesLine, Reaches, stage_of}
use Rattle.report_marks.specs.declared.deeds.Doer.{Doer}
use Rattle.report_marks.specs.declared.deeds.Doer.TheVariants as doer
use Rattle.report_marks.specs.declared.deeds.Mark.{Mark}
use Rattle.report_marks.specs.declared.noting.Notes.{Notes}
use Rattle.report_marks.specs.declared.noting.Stage.{Stage}
use Rattle.report_marks.specs.declared.noting.Stage.TheVariants as stage

pub same_read : (r s : Read) → Some r ≡ Some s → r ≡ s
same_read r s e = ap (λ o. unwrap_or o r) e

pub no_read : {P : Type 0} (s : Read) → ◌≡◌ {A = Option Read} None (Some s) → P
no_read s e = absurd (true≢false (sym (ap is_some e)))

-- where this was read, and is kept, reading reaches it
pub reached : (x s : Read) (g : Stage) (notes : Notes) → IsNoted x notes → g ≡ stage_of x.part → Some x ≡ Some s → IsNoted s notes × (g ≡ stage_of s.part)
reached x s g notes noted stage e = subst (λ (z : Read). IsNoted z notes × (g ≡ stage_of z.part)) (same_read x s e) (noted, stage)

-- a line that tells nothing of the entries
pub quiet : (r : Read) (p : Part) (notes : Notes) → IsNoted r notes → IsNoted (at_part p r) notes
quiet r p notes noted = record { labels = noted.labels; names = noted.names; marks = noted.marks; rows = noted.rows }

pub noted_entry : (r : Read) (x : ReportEntry) (old new : Notes) → IsNoted r old → NotesEntry old x new → IsNoted (with_entry r x) new
noted_entry r (told.Line l n e a) old new noted more =
    let ts : new.names.keys ≡ with_begun (names r.history) e a = more.names ∙ ap (λ us. with_begun us e a) noted.names in
    record {
      labels = more.labels ∙ ap (λ ls. with_label ls l) noted.labels;
      names = ts;
      marks = more.marks ∙ (λ i. noted.marks i ++ record { by = doer.Session (session_of (noted.labels i) l); deed = deed_of (ts i) e a } ∷ []);
      rows = more.rows ∙ noted.rows;
    }
noted_entry r (told.Victim t) old new noted more = record {
  labels = more.labels ∙ noted.labels;
  names = more.names ∙ noted.names;
  marks = more.marks ∙ (λ i. noted.marks i ++ mark_of (noted.names i) (victim t) ∷ []);
  rows = more.rows ∙ noted.rows;
}
noted_entry r (told.Close t) old new noted more = record {
  labels = more.labels ∙ noted.labels;
  names = more.names ∙ noted.names;
  marks = more.marks ∙ (λ i. noted.marks i ++ mark_of (noted.names i) (closing t) ∷ []);
  rows = more.rows ∙ noted.rows;
}

-- ---- the line `table`, or an entry

pub middle_table : (r : Read) (bs : List ℕ) (notes : Notes) → IsNoted r notes → bytes_eq bs (codes "table") ≡ true → Reaches (middle_next r bs) stage.Behind notes
middle_table r bs notes noted is s e =
    pick (may_end r) (Some (at_part Final r)) None (Some s) (sym (ap (λ b. cond b (cond (may_end r) (Some (at_part Final r)) None) (entry_next r (entry_of bs))) is) ∙ e)
    (λ _ f. reached (at_part Final r) s stage.Behind notes (quiet r Final notes noted) refl f) (λ _ f. no_read s f)

pub middle_entry : (r : Read) (bs : List ℕ) (x : ReportEntry) (old new : Notes) → IsNoted r old → bytes_eq bs (codes "table") ≡ false → entry_of bs ≡ Some x → NotesEntry old x new
    → Reaches (middle_next r bs) stage.Entries new
middle_entry r bs x old new noted isnt read more s e =
    pick (may_follow r.history (entry_in r.labels x)) (Some (with_entry r x)) None (Some s)
    (sym (ap (λ b. cond b (cond (may_end r) (Some (at_part Final r)) None) (entry_next r (entry_of bs))) isnt ∙ ap (entry_next r) read) ∙ e)
    (λ _ f. reached (with_entry r x) s stage.Entries new (noted_entry r x old new noted more) refl f) (λ _ f. no_read s f)

pub middle_none : (r : Read) (bs : List ℕ) (new : Notes) → bytes_eq bs (codes "table") ≡ false → entry_of bs ≡ None → Reaches (middle_next r bs) stage.Entries new
middle_none r bs new isnt read s e =
    no_read s (sym (ap (λ b. cond b (cond (may_end r) (Some (at_part Final r)) None) (entry_next r (entry_of bs))) isnt ∙ ap (entry_next r) read) ∙ e)

-- ---- a line of each part

pub on_ok : {A E : Type 0} (x : Result A E) {P Q : A → Type 0} → IfOk x P → ((a : A) → P a → Q a) → IfOk x Q
on_ok (Ok a) is also = also a is
on_ok (Err e) is also = is

pub at_start : (p : Part) → stage.Start ≡ stage_of p → p ≡ Start
at_start Start e = refl
at_start Opening e = cc
at_start Entries e = cc
at_start Final e = cc
at_start Ended e = cc

pub at_rows : (p : Part) → stage.Rows ≡ stage_of p → p ≡ Opening
at_rows Start e = cc
at_rows Opening e = refl
at_rows Entries e = cc
at_rows Final e = cc
at_rows Ended e = cc

pub at_entries : (p : Part) → stage.Entries ≡ stage_of p → p ≡ Entries
at_entries Start e = cc
at_entries Opening e = cc
at_entries Entries e = refl
at_entries Final e = cc
at_entries Ended e = cc

-- behind the entries nothing more is told of them
behind_row : (r s : Read) (o : Option (List ℕ × ℤ)) (x : Notes) → IsNoted r x → final_next r o ≡ Some s → IsNoted s x × (stage.Behind ≡ stage_of s.part)
behind_row r s None x noted e = no_read s e
behind_row r s (Some row) x noted e =
    pick (may_add_row r.table row.0) (Some (with_row r row)) None (Some s) e
    (λ _ f. reached (with_row r row) s stage.Behind x (record { labels = noted.labels; names = noted.names; marks = noted.marks; rows = noted.rows }) refl f) (λ _ f. no_read s f)

behind_at : (p : Part) (r s : Read) (bs : List ℕ) (x : Notes) → stage.Behind ≡ stage_of p → IsNoted r x → next_at p r bs ≡ Some s → IsNoted s x × (stage.Behind ≡ stage_of s.part)
behind_at Start r s bs x at noted e = cc
behind_at Opening r s bs x at noted e = cc
behind_at Entries r s bs x at noted e = cc
behind_at Final r s bs x at noted e =
    pick (bytes_eq bs (codes "end")) (Some (at_part Ended r)) (final_next r (row_of bs)) (Some s) e
    (λ _ f. reached (at_part Ended r) s stage.Behind x (quiet r Ended x noted) refl f) (λ _ f. behind_row r s (row_of bs) x noted f)
behind_at Ended r s bs x at noted e = no_read s e

pub noted_behind : (r : Read) (bs : List ℕ) (x : Notes) → IsNoted r x → stage.Behind ≡ stage_of r.part → Reaches (next r bs) stage.Behind x
noted_behind r bs x noted at s e = behind_at r.part r s bs x at noted e

pub reaches_along : (o p : Option Read) (g : Stage) (x : Notes) → p ≡ o → Reaches o g x → Reaches p g x
reaches_along o p g x same reaches s e = reaches s (sym same ∙ e)

-- ---- line by line

abbrev then : ℕ → Option Read → List ℕ → List (List ℕ) → Result Read ℕ
then n None q qs = Err n
then n (Some x) q qs = read_from (n + 1) x (q ∷ qs)

read_then : (n : ℕ) (q : List ℕ) (qs : List (List ℕ)) (o : Option Read) → (ok_or o n >>= (λ more. read_from (n + 1) more (q ∷ qs))) ≡ then n o q qs
read_then n q qs None = refl
read_then n q qs (Some y) = refl

no_fault : {P : Type 0} (n : ℕ) (r : Read) → ◌≡◌ {A = Result Read ℕ} (Err n) (Ok r) → P
no_fault n r e = cc

pub way_next : (whole : Read) (rest line more : List ℕ) (g k : Stage) (x y : Notes) → IsUnderWay whole rest g x → cut_at 10 rest ≡ line ∷ cut_at 10 more
    → ((r : Read) → IsNoted r x → g ≡ stage_of r.part → Reaches (next r line) k y) → IsUnderWay whole more k y
way_next whole rest line more g k x y way parts step =
    let some = cut_some 10 more in
    by some.0 some.1 some.2 (next way.so_far line) refl
  where
    by : (q : List ℕ) (qs : List (List ℕ)) → cut_at 10 more ≡ q ∷ qs → (o : Option Read) → next way.so_far line ≡ o → IsUnderWay whole more k y
    by q qs cut o is =
        let goes : then way.line o q qs ≡ Ok whole =
        sym (ap (read_from way.line way.so_far) (parts ∙ ap (λ ps. line ∷ ps) cut) ∙ ap (λ z. ok_or z way.line >>= (λ s. read_from (way.line + 1) s (q ∷ qs))) is ∙ read_then way.line q qs o) ∙ way.goes_on in
        at o is goes
      where
        at : (o : Option Read) → next way.so_far line ≡ o → then way.line o q qs ≡ Ok whole → IsUnderWay whole more k y
        at None is goes = no_fault way.line whole goes
        at (Some s) is goes =
            let there = step way.so_far way.noted way.stage s is in
            record { line = way.line + 1; so_far = s; goes_on = ap (read_from (way.line + 1) s) cut ∙ goes; noted = there.0; stage = there.1 }

pub way_last : (whole : Read) (rest line : List ℕ) (g : Stage) (x : Notes) → IsUnderWay whole rest g x → cut_at 10 rest ≡ line ∷ [] → IsNoted whole x
way_last whole rest line g x way parts =
    pick (nat_eq (length line) 0 && has_ended way.so_far.part) (Ok way.so_far) (Err way.line) (Ok whole) (sym (ap (read_from way.line way.so_far) parts) ∙ way.goes_on)
    (λ _ e. let same : way.so_far ≡ whole = cc in subst (λ (z : Read). IsNoted z x) same way.noted) (λ _ e. no_fault way.line whole e)

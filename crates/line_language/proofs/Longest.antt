-- How long lines are.
use Rattle.std.proofs.Common.{◌≡◌, ℕ, ℤ, pos, negsuc, suc, ◌^◌, ◌<◌, ◌≤◌, List, ◌∷◌, ◌++◌, length, true, Option, Some, None, ap, arith, lit<, length-append}
use Rattle.std.specs.Prelude.{codes, decimal, IfSome}
use Rattle.std.specs.List.{join_with_byte}
use Rattle.std.proofs.lemmas.Bool.{ltb-true}
use Rattle.std.proofs.lemmas.Fmt.{length-decimal-le}
use Rattle.txn_names.specs.Path.{Path}
use Rattle.txn_names.specs.Text.{IsName, IsKey, spelled_name}
use Rattle.txn_names.proofs.Exports.{length-name}
use Rattle.serial_spec.specs.Operations.{is_i64}
use Rattle.serial_spec.specs.declared.operation.Reply.TheVariants.{Value, New}
use Rattle.serial_spec.specs.declared.entry.Refusal.TheVariants.{Orphan}
use Rattle.serial_spec.specs.declared.entry.Answer.{Answer}
use Rattle.serial_spec.specs.declared.entry.Answer.TheVariants.{Done, Refused}
use Rattle.serial_spec.specs.declared.event.When.{When}
use Rattle.serial_spec.specs.declared.event.When.TheVariants.{Begun, Done as Ended}
use Rattle.serial_spec.specs.declared.event.Event.{Event}
use Rattle.serial_spec.specs.declared.event.Event.TheVariants.{Begin, Access, Sum, Commit, Abort, After}
use Rattle.line_language.specs.declared.lengths.TheConstants.{MOST_ANSWER, MOST_COMMAND, MOST_ENTRY, MOST_NUMBER, MOST_WORD}
use Rattle.line_language.specs.declared.entry.ReportEntry.{ReportEntry}
use Rattle.line_language.specs.declared.entry.ReportEntry.TheVariants as told
use Rattle.line_language.specs.Entries.{IsAnswer, IsReportEntry, spelled_report_entry}
use Rattle.line_language.specs.Events.{IsEvent}
use Rattle.line_language.specs.Printing.{spelled_answer, spelled_event, spelled_number, spelled_when}
use Rattle.line_language.specs.Verbs.{operand, word}
use Rattle.line_language.proofs.Operations.{word_length}
use Rattle.line_language.proofs.Reading.{access_operands, words_of, joined_words}

pub length-number : (v : ℤ) → is_i64 v ≡ true → length (spelled_number v) ≤ MOST_NUMBER
length-number (pos n) h =
    let small : n < 2 ^ 63 = ltb-true n (2 ^ 63) h in
    omega (arith, length-decimal-le 19 n (lit< tt) (omega arith) (omega arith))
length-number (negsuc n) h =
    let small : n < 2 ^ 63 = ltb-true n (2 ^ 63) h in
    omega (arith, length-decimal-le 19 (suc n) (lit< tt) (omega arith) (omega arith))

length-when : (t : When) → length (spelled_when t) ≤ 5
length-when Begun = omega arith
length-when Ended = omega arith

-- ---- commands

access_short : (w : List ℕ) (n : Path) (k : List ℕ) (m : Option ℤ) → length w ≤ MOST_WORD → IsName n → IsKey k → IfSome m (λ v. is_i64 v ≡ true)
    → length (join_with_byte 32 (w ∷ access_operands n k m)) ≤ MOST_COMMAND
access_short w n k None e name key h = omega (arith, e, length-name n name, key.short, length-append {A = ℕ})
access_short w n k (Some v) e name key h = omega (arith, e, length-name n name, key.short, length-number v h, length-append {A = ℕ})

joined_short : (e : Event) → IsEvent e → length (join_with_byte 32 (words_of e)) ≤ MOST_COMMAND
joined_short (Begin n) h = omega (arith, length-name n h)
joined_short (Access n k o) h = access_short (word o) n k (operand o) (word_length o) h.0 h.1 h.2
joined_short (Sum n g) h = omega (arith, length-name n h.0, h.1.short, length-append {A = ℕ})
joined_short (Commit n) h = omega (arith, length-name n h)
joined_short (Abort n) h = omega (arith, length-name n h)
joined_short (After n t) h = omega (arith, length-name n h, length-when t, length-append {A = ℕ})

pub event_short : (e : Event) → IsEvent e → length (spelled_event e) ≤ MOST_COMMAND
event_short e h = omega (arith, joined_short e h, ap (λ (bs : List ℕ). length bs) (joined_words e))

-- ---- answers and entries

answer_short : (a : Answer) → IsAnswer a → length (spelled_answer a) ≤ MOST_ANSWER
answer_short (Done (Value v)) h = omega (arith, length-number v h)
answer_short (Done (New v)) h = omega (arith, length-number v h)
answer_short (Refused (Orphan t)) h = omega (arith, length-name t h)
answer_short a h = omega arith

pub entry_short : (x : ReportEntry) → IsReportEntry x → length (spelled_report_entry x) ≤ MOST_ENTRY
entry_short (told.Line l n e a) h =
    let digits : length (decimal n) ≤ 4 = length-decimal-le 4 n (lit< tt) (omega arith) (omega (arith, h.last)) in
    omega (
      arith,
      h.label.short,
      digits,
      event_short e h.event,
      answer_short a h.answer,
      length-append {A = ℕ} (l ++ codes " " ++ decimal n ++ codes " " ++ spelled_event e ++ codes " -> ") (spelled_answer a),
      length-append {A = ℕ} (l ++ codes " " ++ decimal n ++ codes " " ++ spelled_event e) (codes " -> "),
      length-append {A = ℕ} (l ++ codes " " ++ decimal n ++ codes " ") (spelled_event e),
      length-append {A = ℕ} (l ++ codes " " ++ decimal n) (codes " "),
      length-append {A = ℕ} (l ++ codes " ") (decimal n),
      length-append {A = ℕ} l (codes " "),
    )
entry_short (told.Victim t) h = omega (arith, length-name t h, length-append {A = ℕ} (codes "* victim ") (spelled_name t))
entry_short (told.Close t) h = omega (arith, length-name t h, length-append {A = ℕ} (codes "* close ") (spelled_name t))

-- The bytes of every report have the verdict yes: each of the three passes finds nothing.
use Rattle.std.proofs.Common.{◌≡◌, ℕ, zero, suc, ◌<◌, ◌≤◌, ◌⊎◌, inl, inr, List, [], ◌∷◌, ◌++◌, append-nil, length, true, Option, Some, None, Result, Ok, refl, sym, ap, ap₂, ◌∙◌, subst, arith}
use Rattle.std.specs.Prelude.{codes, is_none}
use Rattle.std.specs.List.{AllByRecursion}
use Rattle.std.proofs.lemmas.Bool.{and_from}
use Rattle.std.proofs.lemmas.Option.{unwrap_or-slice_get}
use Rattle.serial_spec.specs.declared.limits.TheConstants.{MOST_SESSIONS}
use Rattle.serial_spec.specs.declared.entry.By.{By}
use Rattle.serial_spec.specs.declared.entry.By.TheVariants as by
use Rattle.serial_spec.specs.declared.entry.Answer.{Answer}
use Rattle.serial_spec.specs.declared.entry.Entry.{Entry}
use Rattle.serial_spec.specs.declared.event.Event.{Event}
use Rattle.serial_spec.specs.History.{History, Name}
use Rattle.serial_spec.specs.Items.{Items, items}
use Rattle.serial_spec.specs.Legal.{AreAllowed, Legal}
use Rattle.serial_spec.specs.Interleaving.{IsFinished, IsInterleaving, Session}
use Rattle.line_language.specs.Report.{report, spelled_entry}
use Rattle.serial_spec.specs.Rows.{Rows, value_in}
use Rattle.serial_spec.specs.Serial.{Runs}
use Rattle.session_text.specs.Grammar.{IsText}
use Rattle.line_language.specs.Words.{cut_at}
use Rattle.line_language.proofs.Exports.{Lacks, entries_read_back}
use Rattle.txn_history.proofs.Exports.{legal_allowed}
use Rattle.line_language.specs.Entries.{IsReportEntry}
use Rattle.line_language.specs.declared.entry.ReportEntry.{ReportEntry}
use Rattle.line_language.specs.declared.entry.ReportEntry.TheVariants as told
use Rattle.report_check.specs.Passing.{Part, Opening, Entries, Final, Ended, Read, at_part, entry_in, may_end, may_follow, none_waits, read, read_from, session_of, unread, waiting}
use Rattle.report_check.specs.Verdicts.{HasVerdict}
use Rattle.report_check.specs.declared.verdict.Verdict.TheVariants.{Yes}
use Rattle.report_check.proofs.Exports.{served_is_accepted}
use Rattle.report_laws.specs.Laws.{AnswersMayStand, EveryReportIsAccepted, ReportsTellTheSame, entries_told, told_by}
use Rattle.report_laws.specs.Whole.{IsRow, IsWhole}
use Rattle.report_laws.proofs.Answers.{allowed_fits}
use Rattle.report_laws.proofs.Entries.{events_are, label_in, labels_of, told_is, told_spelled}
use Rattle.report_laws.proofs.Following.{IsFound, IsOwn, all_found, alone, follows, in_sessions, managed, named, named_few, numbered, told_entry}
use Rattle.report_laws.proofs.Lines.{EntriesLack, cut_lines, entry_lacks, entry_texts, lines_lack, report_joined, report_lines}
use Rattle.report_laws.proofs.Reading.{IsMiddle, Leads, end_leads, entry_leads, final_leads, leads_both, leads_none, leads_one, opened, opening_leads, table_leads, with_table}
use Rattle.report_laws.proofs.Renamed.{Holds, first_same, items_same, moved, moved_entry, renamed, waiting_same, waits_or_numbered}
use Rattle.report_laws.proofs.Turns.{waits_next}
use Rattle.report_laws.proofs.Values.{HasRows, after_rows, all_rows, items_ops, rows_have}

-- the entries come behind the opening rows
abbrev part_of : History → Part
part_of [] = Opening
part_of (e ∷ h) = Entries

middle : (h : History) → IsMiddle (part_of h)
middle [] = tt
middle (e ∷ h) = tt

module _ (opening : Rows) (ss : List Session) (text : IsText ss) (has : HasRows (value_in opening)) (all : List (List ℕ)) (few : length all ≤ MOST_SESSIONS) where
  abbrev ls : List (List ℕ)
  ls = labels_of ss

  abbrev at : ℕ → ℕ
  at s = session_of all (label_in ls s)

  -- what is read behind these entries
  abbrev entered : History → Read
  entered h = record { part = part_of h; opening = opening; labels = named ls h; history = renamed at h; table = [] }

  owned : (h : History) (b : By) → AllByRecursion (λ e. Holds (λ s. s < length ss) e.by) h → AllByRecursion (λ e. Holds (IsFound all ls) e.by) h
      → Holds (λ s. s < length ss) b → Holds (IsFound all ls) b → Holds (IsOwn at h) b
  owned h (by.Line s n) others found within is = record { alone = alone all ss text.apart s within is h others found; small = omega (arith, is.0, few) }
  owned h by.Victim others found within is = tt
  owned h by.Close others found within is = tt

  -- one entry more
  entry_more : (h : History) (e : Entry) (more : List (List ℕ)) → all ≡ named ls (e ∷ h) ++ more → Legal opening (e ∷ h) → IsInterleaving opening ss (e ∷ h)
      → Leads (entered h) (spelled_entry ls e.by e.event e.answer ∷ []) (entered (e ∷ h))
  entry_more h e more is legal turns =
      let n = numbered all (named ls h) more ls e.by e.event e.answer is in
      let allowed = legal_allowed opening (e ∷ h) legal in
      let within = in_sessions opening ss (e ∷ h) text turns in
      let own = owned h e.by within.1 (all_found all ls h n.more n.kept) within.0 n.found in
      let x : ReportEntry = told_by ls e.by e.event e.answer in
      let told : IsReportEntry x = told_is opening ss h e.by e.event e.answer text (events_are opening ss h text allowed.0 turns.0) has allowed turns.1 in
      let same : entry_in (named ls h) x ≡ moved_entry at e = told_entry (named ls h) ls at e.by e.event e.answer n.entry (managed opening h e.by e.event e.answer allowed.1) in
      let may : may_follow (renamed at h) (entry_in (named ls h) x) ≡ true =
      ap (may_follow (renamed at h)) same ∙ follows opening ss at h legal.0 turns.0 e.by e.event e.answer legal turns.1 own in
      subst (Leads (entered h) (spelled_entry ls e.by e.event e.answer ∷ [])) (ap (λ y. record { part = Entries; opening = opening; labels = named ls (e ∷ h); history = y ∷ renamed at h; table = [] }) same)
      (entry_leads (entered h) (spelled_entry ls e.by e.event e.answer) x (middle h)
      ((entries_read_back (spelled_entry ls e.by e.event e.answer) x).1 (told, told_spelled ls e.by e.event e.answer)) may)

  entries_lead : (h : History) (more : List (List ℕ)) → all ≡ named ls h ++ more → Legal opening h → IsInterleaving opening ss h → Leads (opened opening) (entry_texts ls h) (entered h)
  entries_lead [] more is legal turns = leads_none (opened opening)
  entries_lead (e ∷ h) more is legal turns =
      let n = numbered all (named ls h) more ls e.by e.event e.answer is in
      leads_both (opened opening) (entered h) (entered (e ∷ h)) (entry_texts ls h) (spelled_entry ls e.by e.event e.answer ∷ [])
      (entries_lead h n.more n.kept legal.0 turns.0) (entry_more h e more is legal turns)

  texts_lack : (h : History) → AreAllowed opening h → IsInterleaving opening ss h → EntriesLack ls h
  texts_lack [] allowed turns = tt
  texts_lack (e ∷ h) allowed turns =
      let told = told_is opening ss h e.by e.event e.answer text (events_are opening ss h text allowed.0 turns.0) has allowed turns.1 in
      (subst (Lacks 10) (sym (told_spelled ls e.by e.event e.answer)) (entry_lacks (told_by ls e.by e.event e.answer) told), texts_lack h allowed.0 turns.0)

  -- ---- the end of the entries

  module _ (h : History) (turns : IsInterleaving opening ss h) (finished : IsFinished ss h) (found : AllByRecursion (λ e. Holds (IsFound all ls) e.by) h) where
    none_by : (s : ℕ) (o : Option Event) → waiting h s ≡ o → o ≡ None
    none_by s None is = refl
    none_by s (Some w) is = let next = (waits_next opening ss h s w turns is).next in let none = finished.answered s in cc

    abbrev IsSession : ℕ → Type 0
    IsSession s = (s < length ss) × IsFound all ls s

    both : (b : By) → Holds (λ s. s < length ss) b → Holds (IsFound all ls) b → Holds IsSession b
    both (by.Line s n) a f = (a, f)
    both by.Victim a f = tt
    both by.Close a f = tt

    are_sessions : (g : History) → AllByRecursion (λ e. Holds (λ s. s < length ss) e.by) g → AllByRecursion (λ e. Holds (IsFound all ls) e.by) g → AllByRecursion (λ e. Holds IsSession e.by) g
    are_sessions [] a f = tt
    are_sessions (e ∷ g) a f = (both e.by a.0 f.0, are_sessions g a.1 f.1)

    no_wait : (k : ℕ) → waiting (renamed at h) k ≡ None
    no_wait k = by_number (waits_or_numbered at IsSession k h (are_sessions h (in_sessions opening ss h text turns) found))
      where
        by_number : (waiting (renamed at h) k ≡ None) ⊎ ((s : ℕ) × (k ≡ at s) × IsSession s) → waiting (renamed at h) k ≡ None
        by_number (inl none) = none
        by_number (inr s) =
            ap (waiting (renamed at h)) s.1 ∙ waiting_same at s.0 h (alone all ss text.apart s.0 s.2.0 s.2.1 h (in_sessions opening ss h text turns) found)
            ∙ none_by s.0 (waiting h s.0) refl

    none_of : (n : ℕ) → none_waits (renamed at h) n ≡ true
    none_of zero = refl
    none_of (suc n) = and_from _ _ (ap is_none (no_wait n)) (none_of n)

    ends : may_end (entered h) ≡ true
    ends = and_from _ _ (ap is_none (first_same at h ∙ finished.closed)) (none_of (length (named ls h)))

-- ---- all together

module _ (opening table : Rows) (labels : List (List ℕ)) (h : History) (w : IsWhole opening labels h table) where
  abbrev all : List (List ℕ)
  all = named (labels_of w.sessions) h

  few : length all ≤ MOST_SESSIONS
  few = omega (arith, named_few w.sessions h (in_sessions opening w.sessions h w.text w.in_turn), w.text.few)

  has : HasRows (value_in opening)
  has = rows_have opening w.rows

  allowed : AreAllowed opening h
  allowed = legal_allowed opening h w.legal

  -- what is read behind the entries, and behind the last line
  abbrev after_entries : Read
  after_entries = entered opening w.sessions w.text has all few h

  abbrev whole : Read
  whole = at_part Ended (with_table after_entries table)

  -- the final rows are rows
  table_rows : AllByRecursion IsRow table
  table_rows =
      all_rows table w.last.rising
      (subst HasRows w.runs.1 (after_rows (value_in opening) (items h []) (items_ops h (events_are opening w.sessions h w.text allowed w.in_turn) []) has))

  lines_lead : Leads unread (report_lines opening (labels_of w.sessions) h table) whole
  lines_lead =
      let ls : List (List ℕ) = labels_of w.sessions in
      let found = all_found all ls h [] (sym (append-nil all)) in
      let opens = leads_one unread (opened []) (codes "open") refl in
      let rows = opening_leads [] opening w.rows w.first.rising w.first.few in
      let entries = entries_lead opening w.sessions w.text has all few h [] (sym (append-nil all)) w.legal w.in_turn in
      let middle_line = table_leads after_entries (middle h) (ends opening w.sessions w.text has all few h w.in_turn w.finished found) in
      let final = final_leads after_entries [] table table_rows w.last.rising w.last.few in
      let end = end_leads (with_table after_entries table) refl in
      leads_both unread (with_table after_entries table) whole _ _
      (leads_both unread (at_part Final after_entries) (with_table after_entries table) _ _
      (leads_both unread after_entries (at_part Final after_entries) _ _
      (leads_both unread (opened opening) after_entries _ _ (leads_both unread (opened []) (opened opening) _ _ opens rows) entries)
      middle_line) final) end

  bytes_read : read (report opening (labels_of w.sessions) h table) ≡ Ok whole
  bytes_read =
      let ls : List (List ℕ) = labels_of w.sessions in
      let lines = lines_lack opening ls h table w.rows (texts_lack opening w.sessions w.text has all few h allowed w.in_turn) table_rows in
      let last = lines_lead.goes 1 ([] ∷ []) (omega arith) in
      ap (λ bs. read_from 1 unread (cut_at 10 bs)) (sym (report_joined opening ls h table)) ∙ ap (read_from 1 unread) (cut_lines (report_lines opening ls h table) lines) ∙ last.1

  runs : Runs (value_in opening) (items whole.history []) (value_in table)
  runs = subst (λ (own : Name → Items). Runs (value_in opening) (own []) (value_in table)) (sym (items_same (λ s. session_of all (label_in (labels_of w.sessions) s)) h)) w.runs

pub every_report_is_accepted : EveryReportIsAccepted
every_report_is_accepted opening labels h table w =
    subst (λ ls. HasVerdict (report opening ls h table) Yes) (sym w.labelled)
    (served_is_accepted (report opening (labels_of w.sessions) h table) (whole opening table labels h w) (bytes_read opening table labels h w) (runs opening table labels h w))

pub answers_may_stand : AnswersMayStand
answers_may_stand rows h s n e a all events allowed may =
    let fit = allowed_fits rows h allowed (rows_have rows all) events (by.Line s n) e a may in
    (fit.fits, fit.answer)

-- ---- what reports of the same bytes tell

-- by the numbers of the labels as they are named, it is told the same
one_told : (all labels : List (List ℕ)) (b : By) (e : Event) (a : Answer) → Holds (IsFound all labels) b
    → told_by all (moved (λ s. session_of all (label_in labels s)) b) e a ≡ told_by labels b e a
one_told all labels (by.Line s n) e a found = ap (λ l. told.Line l n e a) (unwrap_or-slice_get all (session_of all (label_in labels s)) [] ∙ found.1)
one_told all labels by.Victim e a found = refl
one_told all labels by.Close e a found = refl

told_renamed : (all labels : List (List ℕ)) (h : History) → AllByRecursion (λ e. Holds (IsFound all labels) e.by) h
    → entries_told all (renamed (λ s. session_of all (label_in labels s)) h) ≡ entries_told labels h
told_renamed all labels [] found = refl
told_renamed all labels (e ∷ h) found = ap₂ (λ (x : ReportEntry) xs. x ∷ xs) (one_told all labels e.by e.event e.answer found.0) (told_renamed all labels h found.1)

told_whole : (opening table : Rows) (labels : List (List ℕ)) (h : History) (w : IsWhole opening labels h table)
    → entries_told (whole opening table labels h w).labels (whole opening table labels h w).history ≡ entries_told labels h
told_whole opening table labels h w =
    let all : List (List ℕ) = named (labels_of w.sessions) h in
    told_renamed all (labels_of w.sessions) h (all_found all (labels_of w.sessions) h [] (sym (append-nil all))) ∙ ap (λ ls. entries_told ls h) (sym w.labelled)

same_read : (r s : Read) → ◌≡◌ {A = Result Read ℕ} (Ok r) (Ok s) → r ≡ s
same_read r s e = cc

pub reports_tell_the_same : ReportsTellTheSame
reports_tell_the_same opening opening2 labels labels2 h h2 table table2 w w2 same =
    let bytes = ap (λ ls. report opening ls h table) (sym w.labelled) ∙ same ∙ ap (λ ls. report opening2 ls h2 table2) w2.labelled in
    let one = same_read _ _ (sym (bytes_read opening table labels h w) ∙ ap read bytes ∙ bytes_read opening2 table2 labels2 h2 w2) in
    (ap (λ (r : Read). r.opening) one, sym (told_whole opening table labels h w) ∙ ap (λ (r : Read). entries_told r.labels r.history) one ∙ told_whole opening2 table2 labels2 h2 w2, ap (λ (r : Read). r.table) one)

-- What is written of a run that goes on.
use Rattle.std.proofs.Common.{◌≡◌, ℕ, ◌≤◌, ◌-◌, inl, inr, List, [], ◌∷◌, ◌++◌, length, take, drop, reverse, refl, sym, ap, subst, ◌∙◌, arith, append_assoc, append-nil, length-append, length-take-le, take-append-drop}
use Rattle.std.proofs.lemmas.List.{length-reverse, reverse-append}
use Rattle.std.specs.Prelude.{codes}
use Rattle.serial_spec.specs.declared.entry.Entry.{Entry}
use Rattle.serial_spec.specs.History.{History}
use Rattle.serial_spec.specs.Interleaving.{IsInterleaving}
use Rattle.line_language.specs.Report.{line, spelled_entry, spelled_history, spelled_rows}
use Rattle.serial_spec.specs.Rows.{Rows}
use Rattle.durable_top.specs.declared.store.TopStore.{Ghosts}
use Rattle.growing_sessions.specs.Growing.{Extends, labels_in}
use Rattle.growing_sessions.proofs.Exports.{history_reads_same}
use Rattle.interleavings.specs.Attempts.{GoesOn}
use Rattle.interleavings.specs.Scheduled.{Goes, RunsOut}
use Rattle.run_reports.specs.Told.{Told}
use Rattle.interleavings.specs.Trails.{Trail}
use Rattle.interleavings.specs.Turning.{Turning}
use Rattle.interleavings.proofs.Exports.{goes_still, trail_more}
use Rattle.report_text.specs.Lines.{ending_text, opening_text}
use Rattle.report_text.specs.Lines.{spelled_report}
use Rattle.live_runs.specs.Hearing.{begun_of}
use Rattle.live_runs.specs.Showing.{entries_behind}

-- ---- entries

take_first : (xs ys : List Entry) → take (length xs) (xs ++ ys) ≡ xs
take_first [] ys = refl
take_first (x ∷ xs) ys = ap (λ zs. x ∷ zs) (take_first xs ys)

-- behind those that were there stand those that came later
behind_later : (later h : History) → entries_behind (length h) (later ++ h) ≡ later
behind_later later h =
    let count : length (later ++ h) - length h ≡ length later = omega (arith, length-append {A = Entry} later h) in
    ap (λ n. take n (later ++ h)) count ∙ take_first later h

-- and of a list of which the oldest stands first they are its rest
behind_drop : (items : List Entry) (n : ℕ) → n ≤ length items → reverse (drop n items) ≡ entries_behind n (reverse items)
behind_drop items n within =
    let parts : reverse items ≡ reverse (drop n items) ++ reverse (take n items) =
    ap reverse (sym (take-append-drop n items)) ∙ reverse-append (take n items) (drop n items) in
    let count : length (reverse (take n items)) ≡ n = length-reverse (take n items) ∙ length-take-le n items within in
    sym (behind_later (reverse (drop n items)) (reverse (take n items)))
    ∙ ap (λ m. entries_behind m (reverse (drop n items) ++ reverse (take n items))) count
    ∙ ap (entries_behind n) (sym parts)

pub behind_told : (labels ls : List (List ℕ)) (items : List Entry) (h : History) (n : ℕ) → ls ≡ labels → reverse items ≡ h → n ≤ length h
    → spelled_history ls (reverse (drop n items)) ≡ spelled_history labels (entries_behind n h)
behind_told labels ls items h n same is within =
    let count : length h ≡ length items = sym (ap (λ (x : History). length x) is) ∙ length-reverse items in
    ap (λ (x : List (List ℕ)). spelled_history x (reverse (drop n items))) same
    ∙ ap (spelled_history labels) (behind_drop items n (omega (arith, within, count)) ∙ ap (entries_behind n) is)

-- a trail leads to a history that has the entries from which it began
pub trail_later : {S : Type 0} (g : Ghosts S) (rows : Rows) (h0 : History) (s0 : S) (h : History) (s : S) → Trail g rows h0 s0 h s
    → (later : History) × (h ≡ later ++ h0)
trail_later g rows h0 s0 [] s (hs, ss) = ([], hs)
trail_later g rows h0 s0 (e ∷ h) s (inl (hs, ss)) = ([], hs)
trail_later g rows h0 s0 (e ∷ h) s (inr (before, trail, asks)) =
    let more = trail_later g rows h0 s0 h before trail in
    (e ∷ more.0, ap (λ x. e ∷ x) more.1)

-- ---- their lines

spelled_more : (labels : List (List ℕ)) (later h : History) → spelled_history labels (later ++ h) ≡ spelled_history labels h ++ spelled_history labels later
spelled_more labels [] h = sym (append-nil (spelled_history labels h))
spelled_more labels (e ∷ later) h =
    ap (λ z. z ++ line (spelled_entry labels e.by e.event e.answer)) (spelled_more labels later h)
    ∙ append_assoc (spelled_history labels h) (spelled_history labels later) (line (spelled_entry labels e.by e.event e.answer))

-- what sessions that went on and grew have more of their report
module _ {S : Type 0} (g : Ghosts S) (old new : Turning S) (on : GoesOn g old.core new.core) where
  abbrev later : History
  later = (trail_later g old.core.rows old.core.history old.core.store new.core.history new.core.store on.trail).0

  later_is : new.core.history ≡ later ++ old.core.history
  later_is = (trail_later g old.core.rows old.core.history old.core.store new.core.history new.core.store on.trail).1

  pub as_many : length old.core.history ≤ length new.core.history
  as_many = omega (arith, ap (λ (h : History). length h) later_is, length-append {A = Entry} later old.core.history)

  pub begun_grown : Extends old.sessions new.sessions → IsInterleaving old.core.rows old.sessions old.core.history
      → begun_of new ≡ begun_of old ++ spelled_history (labels_in new.sessions) (entries_behind (length old.core.history) new.core.history)
  begun_grown grows turn =
      let labels : List (List ℕ) = labels_in new.sessions in
      let before : List ℕ = spelled_history (labels_in old.sessions) old.core.history in
      let behind : entries_behind (length old.core.history) new.core.history ≡ later =
      ap (entries_behind (length old.core.history)) later_is ∙ behind_later later old.core.history in
      ap (λ (r : Rows). opening_text r ++ spelled_history labels new.core.history) on.rows
      ∙ ap (λ (h : History). opening_text old.core.rows ++ spelled_history labels h) later_is
      ∙ ap (λ bs. opening_text old.core.rows ++ bs)
      (spelled_more labels later old.core.history
      ∙ ap (λ bs. bs ++ spelled_history labels later) (history_reads_same old.core.rows old.sessions new.sessions old.core.history grows turn))
      ∙ sym (append_assoc (opening_text old.core.rows) before (spelled_history labels later))
      ∙ ap (λ (h : History). begun_of old ++ spelled_history labels h) (sym behind)

-- what the report of a run has more than what was written before its end
module _ {S : Type 0} (g : Ghosts S) (old : Turning S) (told : Told) (left : S) (run : RunsOut g [] old told left) where
  pub went : Goes g old run.last
  went = goes_still g old run.whole.between run.last run.whole.list.goes run.whole.all.goes

  pub end_trail : Trail g old.core.rows old.core.history old.core.store told.history left
  end_trail =
      trail_more g old.core.rows old.core.history old.core.store run.last.core.history run.last.core.store told.history left went.on.trail
      (subst (λ x. Trail g x run.last.core.history run.last.core.store told.history left) went.on.rows run.closed.trail)

  end_later : (later : History) × (told.history ≡ later ++ old.core.history)
  end_later = trail_later g old.core.rows old.core.history old.core.store told.history left end_trail

  pub as_many_told : length old.core.history ≤ length told.history
  as_many_told = omega (arith, ap (λ (h : History). length h) end_later.1, length-append {A = Entry} end_later.0 old.core.history)

  pub opening_is : told.opening ≡ old.core.rows
  opening_is = run.closed.opening ∙ went.on.rows

  pub labels_are : told.labels ≡ labels_in old.sessions
  labels_are = run.closed.labels ∙ ap labels_in went.sessions

  pub report_grown : spelled_report told ≡ begun_of old ++ (spelled_history told.labels (entries_behind (length old.core.history) told.history) ++ ending_text told.table)
  report_grown =
      let start : List ℕ = opening_text told.opening in
      let t : List ℕ = line (codes "table") in
      let f : List ℕ = spelled_rows told.table in
      let e : List ℕ = line (codes "end") in
      let entries : List ℕ = spelled_history told.labels told.history in
      let more : List ℕ = spelled_history told.labels (entries_behind (length old.core.history) told.history) in
      let behind : entries_behind (length old.core.history) told.history ≡ end_later.0 =
      ap (entries_behind (length old.core.history)) end_later.1 ∙ behind_later end_later.0 old.core.history in
      let parts : entries ≡ spelled_history told.labels old.core.history ++ more =
      ap (spelled_history told.labels) end_later.1
      ∙ spelled_more told.labels end_later.0 old.core.history
      ∙ ap (λ (h : History). spelled_history told.labels old.core.history ++ spelled_history told.labels h) (sym behind) in
      let begun : start ++ spelled_history told.labels old.core.history ≡ begun_of old =
      ap (λ (r : Rows). opening_text r ++ spelled_history told.labels old.core.history) opening_is
      ∙ ap (λ (ls : List (List ℕ)). opening_text old.core.rows ++ spelled_history ls old.core.history) labels_are in
      ap (λ x. x ++ e) (append_assoc (start ++ entries) t f)
      ∙ append_assoc (start ++ entries) (t ++ f) e
      ∙ ap (λ x. start ++ x ++ (t ++ f ++ e)) parts
      ∙ ap (λ x. x ++ (t ++ f ++ e)) (sym (append_assoc start (spelled_history told.labels old.core.history) more))
      ∙ append_assoc (start ++ spelled_history told.labels old.core.history) more (t ++ f ++ e)
      ∙ ap (λ x. x ++ (more ++ (t ++ f ++ e))) begun

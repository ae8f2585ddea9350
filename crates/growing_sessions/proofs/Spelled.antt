-- What was written stays right.
use Rattle.std.proofs.Common.{◌≡◌, ℕ, List, [], ◌∷◌, ◌++◌, slice_get, codes, Option, Some, None, refl, sym, ap, ◌∙◌, append_assoc}
use Rattle.std.proofs.lemmas.Option.{none-some, slice_get-map}
use Rattle.serial_spec.specs.declared.entry.By.{By}
use Rattle.serial_spec.specs.declared.entry.By.TheVariants.{Line, Victim, Close}
use Rattle.serial_spec.specs.declared.event.Event.{Event}
use Rattle.serial_spec.specs.declared.entry.Answer.{Answer}
use Rattle.serial_spec.specs.History.{History}
use Rattle.serial_spec.specs.Rows.{Rows}
use Rattle.serial_spec.specs.Interleaving.{Session, lines_of, answered, IsInTurn, IsInterleaving}
use Rattle.line_language.specs.Report.{line, spelled_rows, spelled_entry, spelled_history}
use Rattle.growing_sessions.specs.Growing.{Extends, labels_in, HistoryReadsSame, ReportBegins}

-- a session that has a line is there, and so has a label
label_there : (ss : List Session) (s n : ℕ) (e : Event) → slice_get (lines_of (slice_get ss s)) n ≡ Some e → (l : List ℕ) × (slice_get (labels_in ss) s ≡ Some l)
label_there ss s n e at = by (slice_get ss s) refl
  where
    by : (x : Option Session) → slice_get ss s ≡ x → (l : List ℕ) × (slice_get (labels_in ss) s ≡ Some l)
    by None is = absurd (none-some e (sym (ap (λ x. slice_get (lines_of x) n) is) ∙ at))
    by (Some x) is = (x.label, slice_get-map (λ (y : Session). y.label) ss s ∙ ap (λ (y : Option Session). option_label y) is)
      where
        option_label : Option Session → Option (List ℕ)
        option_label None = None
        option_label (Some y) = Some y.label

module _ (rows : Rows) (ss more : List Session) (grows : Extends ss more) where
  entry_same : (h : History) (by : By) (e : Event) (a : Answer) → IsInTurn rows ss h by e a
      → spelled_entry (labels_in more) by e a ≡ spelled_entry (labels_in ss) by e a
  entry_same h (Line s l) e a turn =
      let there = label_there ss s (answered h s) e turn.1 in
      rw (there.1, grows.labels s there.0 there.1) refl
  entry_same h Victim e a turn = refl
  entry_same h Close e a turn = refl

  history_same : (h : History) → IsInterleaving rows ss h → spelled_history (labels_in more) h ≡ spelled_history (labels_in ss) h
  history_same [] turn = refl
  history_same (e ∷ h) turn = rw (history_same h turn.0, entry_same h e.by e.event e.answer turn.1) refl

pub history_reads_same : HistoryReadsSame
history_reads_same rows ss more h grows turn = history_same rows ss more grows h turn

-- the later entries come behind
later_behind : (labels : List (List ℕ)) (later h : History) → (rest : List ℕ) × (spelled_history labels (later ++ h) ≡ spelled_history labels h ++ rest)
later_behind labels [] h = ([], sym (append-nil (spelled_history labels h)))
  where
    append-nil : {X : Type 0} (xs : List X) → xs ++ [] ≡ xs
    append-nil [] = refl
    append-nil (x ∷ xs) = ap (λ ys. x ∷ ys) (append-nil xs)
later_behind labels (e ∷ later) h =
    let before = later_behind labels later h in
    let own : List ℕ = line (spelled_entry labels e.by e.event e.answer) in
    (before.0 ++ own, ap (λ bs. bs ++ own) before.1 ∙ append_assoc (spelled_history labels h) before.0 own)

regroup : (a c d t u e : List ℕ) → (((a ++ (c ++ d)) ++ t) ++ u) ++ e ≡ (a ++ c) ++ (((d ++ t) ++ u) ++ e)
regroup a c d t u e =
    ap (λ x. ((x ++ t) ++ u) ++ e) (sym (append_assoc a c d))
    ∙ ap (λ x. (x ++ u) ++ e) (append_assoc (a ++ c) d t)
    ∙ ap (λ x. x ++ e) (append_assoc (a ++ c) (d ++ t) u)
    ∙ append_assoc (a ++ c) ((d ++ t) ++ u) e

pub report_begins : ReportBegins
report_begins rows ss more h later table grows turn =
    let start : List ℕ = line (codes "open") ++ spelled_rows rows in
    let behind = later_behind (labels_in more) later h in
    let between : List ℕ = line (codes "table") in
    let end : List ℕ = line (codes "end") in
    let same = history_same rows ss more grows h turn in (
      ((behind.0 ++ between) ++ spelled_rows table) ++ end,
      ap (λ bs. (((start ++ bs) ++ between) ++ spelled_rows table) ++ end) (behind.1 ∙ ap (λ bs. bs ++ behind.0) same)
          ∙ regroup start (spelled_history (labels_in ss) h) behind.0 between (spelled_rows table) end,
    )

-- What a verdict says, as statements.
use Rattle.std.specs.Prelude.{◌≡◌, ◌<◌, ◌≤◌, ◌==◌, ◌↔◌, ◌⊎◌, ℕ, suc, IsTrue, IsFalse, List, [], ◌∷◌, ◌++◌, length, Some, None, Ok, Err}
use Rattle.std.specs.List.{AllByRecursion, list_any}
use Rattle.txn_names.specs.Path.{parent}
use Rattle.serial_spec.specs.declared.entry.By.{By}
use Rattle.serial_spec.specs.declared.entry.By.TheVariants as by
use Rattle.serial_spec.specs.declared.entry.Answer.{Answer}
use Rattle.serial_spec.specs.declared.event.Event.{Event}
use Rattle.serial_spec.specs.declared.event.Event.TheVariants.{Abort}
use Rattle.serial_spec.specs.History.{History, Name, begun, has_begun, is_committed, is_orphan, status}
use Rattle.serial_spec.specs.Interleaving.{answered}
use Rattle.serial_spec.specs.Items.{items}
use Rattle.serial_spec.specs.Legal.{first_live, is_top_level}
use Rattle.line_language.specs.Printing.{spelled_event}
use Rattle.line_language.specs.Report.{line, report}
use Rattle.serial_spec.specs.Rows.{IsRising, Rows, value_in}
use Rattle.serial_spec.specs.Serial.{Map, Replies, Runs, map_after}
use Rattle.serial_spec.specs.Waits.{is_waits}
use Rattle.report_check.specs.Passing.{Read, is_close, read, waiting}
use Rattle.report_check.specs.Serving.{accesses_of, least, map_behind, wrong_lines}
use Rattle.report_check.specs.Verdicts.{HasVerdict}
use Rattle.report_check.specs.declared.verdict.Verdict.{Verdict}
use Rattle.report_check.specs.declared.verdict.Verdict.TheVariants.{Yes, No}

-- bytes have one verdict
abbrev pub VerdictsAgree : Type 0
VerdictsAgree = (bs : List ℕ) (v w : Verdict) → HasVerdict bs v → HasVerdict bs w → v ≡ w

-- the accesses of a transaction, wherever the entries begin, lead where its items lead, and none is
-- wrong exactly if the items are a serial run
abbrev pub AccessesAreItems : Type 0
AccessesAreItems =
    (n : ℕ) (h : History) (t : Name) (m : Map)
    → (map_behind m (accesses_of n h t) ≡ map_after m (items h t))
    × ((least (wrong_lines m (accesses_of n h t)) ≡ None) ↔ Replies m (items h t))

-- the entry stands behind none of the close
abbrev pub IsEarly : History → Type 0
IsEarly h = IsFalse (list_any (λ x. is_close x.by) h)

-- the abort of a top-level transaction
abbrev pub IsTopAbort : Event → Type 0
IsTopAbort (Abort t) = IsTrue (is_top_level t)
IsTopAbort e = ⊥

-- The entry of a session is of its next line, and where that line waits it is the answer to the
-- same text. Entries of the close stand last, and each aborts a top-level transaction
abbrev pub IsInOrder : History → By → Event → Answer → Type 0
IsInOrder h (by.Line s n) e a =
    (n ≡ suc (answered h s))
    × ((w : Event) → waiting h s ≡ Some w → (spelled_event w ≡ spelled_event e)
    × IsFalse (is_waits a))
    × IsEarly h
IsInOrder h by.Victim e a = IsEarly h
IsInOrder h by.Close e a = IsTopAbort e

abbrev pub AreInOrder : History → Type 0
AreInOrder [] = Unit {0}
AreInOrder (x ∷ h) = AreInOrder h × IsInOrder h x.by x.event x.answer

-- the bytes are a report: its committed top-level transactions are a serial run from the opening
-- rows to the final ones; whoever began did so below the root or below one that had begun, and has
-- committed if no ancestor was aborted, so that its ancestors have committed too
pub record IsServed (bs : List ℕ) : Type 0 where
  pub opening : Rows
  pub labels : List (List ℕ)
  pub history : History
  pub table : Rows
  pub bytes : bs ≡ report opening labels history table
  -- so many rows, sessions and transactions may a report have
  pub few_rows : length opening ≤ 4096
  pub few_left : length table ≤ 4096
  pub few_sessions : length labels ≤ 64
  pub few_begun : length (begun history) ≤ 16384
  -- both tables stand in byte order
  pub rising : IsRising opening
  pub rising_left : IsRising table
  -- each session's lines stand in order, each answered once, and none waits at the end, nor is a
  -- top-level transaction live
  pub in_order : AreInOrder history
  pub answered_all : (s : ℕ) → s < length labels → waiting history s ≡ None
  pub ended : first_live history (begun history) ≡ None
  pub runs : Runs (value_in opening) (items history []) (value_in table)
  pub below : (l : List ℕ) (ls : Name) → IsTrue (has_begun history (l ∷ ls))
      → (parent (l ∷ ls) ≡ []) ⊎ IsTrue (has_begun history (parent (l ∷ ls)))
  pub committed : (t : Name) → IsTrue (has_begun history t) → IsFalse (is_orphan history t)
      → IsTrue (is_committed (status history t))

abbrev pub YesIsSound : Type 0
YesIsSound = (bs : List ℕ) → HasVerdict bs Yes → IsServed bs

-- lines, each with its end
abbrev pub ended_lines : List (List ℕ) → List ℕ
ended_lines [] = []
ended_lines (p ∷ ps) = line p ++ ended_lines ps

-- a fault that the first pass finds in these lines is there whatever stands behind them
abbrev pub FaultsStay : Type 0
FaultsStay =
    (ps : List (List ℕ)) (rest other : List ℕ) (n : ℕ)
    → AllByRecursion (λ p. IsFalse (list_any (λ b. b == 10) p)) ps
    → read (ended_lines ps ++ rest) ≡ Err n → n ≤ length ps
    → HasVerdict (ended_lines ps ++ other) (No n)

-- what the first pass reads is accepted if a serial run leads from the opening rows to the final
-- ones
abbrev pub ServedIsAccepted : Type 0
ServedIsAccepted =
    (bs : List ℕ) (r : Read) → read bs ≡ Ok r
    → Runs (value_in r.opening) (items r.history []) (value_in r.table) → HasVerdict bs Yes

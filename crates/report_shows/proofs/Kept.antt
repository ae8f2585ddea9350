-- What is shown of a report, from what was kept of it.
use Rattle.std.proofs.Common.{◌≡◌, ℕ, Bool, List, length, reverse, Result, Ok, Err, refl, ap, ◌∙◌}
use Rattle.serial_spec.specs.History.{Name}
use Rattle.report_check.specs.Passing.{Read, read}
use Rattle.report_check.specs.Verdicts.{HasVerdict, IsJudged}
use Rattle.report_check.specs.declared.verdict.Verdict.TheVariants.{No, Yes}
use Rattle.report_marks.specs.Marks.{marks, names}
use Rattle.report_marks.specs.Noted.{IsNoted}
use Rattle.report_marks.specs.declared.deeds.Mark.{Mark}
use Rattle.report_marks.specs.declared.noting.Notes.{Notes}
use Rattle.report_trees.specs.Telling.{waits_in}
use Rattle.report_trees.specs.Trees.{tree_of}
use Rattle.report_trees.specs.declared.telling.Wait.{Wait}
use Rattle.report_trees.specs.declared.outcomes.Shown.{Shown}
use Rattle.tree_lines.specs.Shows.{spelled_show}
use Rattle.tree_lines.specs.declared.lining.Choice.{Choice}
use Rattle.tree_pictures.specs.Picture.{parts_of}
use Rattle.report_shows.specs.Shown.{IsDrawing, IsShow, is_all_done, shown_in}

-- bytes with the verdict yes were read
pub yes_read : (bs : List ℕ) → HasVerdict bs Yes → (r : Read) × (read bs ≡ Ok r)
yes_read bs judged = by (read bs) refl judged
  where
    by : (o : Result Read ℕ) → read bs ≡ o → IsJudged o Yes → (r : Read) × (read bs ≡ Ok r)
    by (Ok r) e is = (r, e)
    by (Err n) e is = absurd (cc)

module _ (bs : List ℕ) (x : Notes) (ss : List Shown) (noted : (r : Read) → read bs ≡ Ok r → IsNoted r x)
    (tree : ss ≡ tree_of x.names.keys x.marks.items) (judged : HasVerdict bs Yes) where
  abbrev told : Read
  told = (yes_read bs judged).0

  kept : IsNoted told x
  kept = noted told (yes_read bs judged).1

  ss_is : ss ≡ shown_in told
  ss_is = tree ∙ ap (λ (ts : List Name). tree_of ts x.marks.items) kept.names
      ∙ ap (λ (ms : List Mark). tree_of (names told.history) ms) kept.marks

  pub shown_so : (c : Choice) (lines : List ℕ) (done : Bool) → lines ≡ spelled_show c x.names.keys ss x.marks.items
      → done ≡ is_all_done ss x.marks.items → IsShow c bs lines done
  shown_so c lines done same all = record {
    told = told;
    reads = (yes_read bs judged).1;
    spelled = same ∙ ap (λ (ts : List Name). spelled_show c ts ss x.marks.items) kept.names
        ∙ ap (λ (s : List Shown). spelled_show c (names told.history) s x.marks.items) ss_is
        ∙ ap (λ (ms : List Mark). spelled_show c (names told.history) (shown_in told) ms) kept.marks;
    done = all ∙ ap (λ (s : List Shown). is_all_done s x.marks.items) ss_is
        ∙ ap (λ (ms : List Mark). is_all_done (shown_in told) ms) kept.marks;
  }

  pub drawn_so : (ws : List Wait) (picture : List ℕ) → ws ≡ reverse (waits_in 0 x.marks.items)
      → picture ≡ parts_of x.names.keys x.rows x.marks.items ss ws → IsDrawing bs picture
  drawn_so ws picture waits same = record {
    told = told;
    reads = (yes_read bs judged).1;
    drawn = same ∙ ap (λ (ts : List Name). parts_of ts x.rows x.marks.items ss ws) kept.names
        ∙ ap (λ (n : ℕ). parts_of (names told.history) n x.marks.items ss ws) kept.rows
        ∙ ap (λ (s : List Shown). parts_of (names told.history) (length told.opening) x.marks.items s ws) ss_is
        ∙ ap (λ (vs : List Wait). parts_of (names told.history) (length told.opening) x.marks.items (shown_in told) vs) waits
        ∙ ap (λ (ms : List Mark). parts_of (names told.history) (length told.opening) ms (shown_in told) (reverse (waits_in 0 ms))) kept.marks;
  }

-- The end of a live run, of which something was shown before.
use Rattle.std.proofs.Common.{◌≡◌, ℕ, List, [], ◌++◌, length, sym, ap, ◌∙◌}
use Rattle.txn_bytes.specs.Written.{Writer}
use Rattle.line_language.specs.Report.{spelled_history}
use Rattle.durable_top.specs.declared.store.TopStore.{Ghosts}
use Rattle.run_reports.specs.Reports.{IsReport}
use Rattle.interleavings.specs.Scheduled.{RunsOut}
use Rattle.run_reports.specs.Told.{Told}
use Rattle.interleavings.specs.Turning.{Turning}
use Rattle.report_text.specs.Lines.{ending_text}
use Rattle.report_text.specs.Lines.{spelled_report}
use Rattle.live_runs.specs.Hearing.{begun_of}
use Rattle.live_runs.specs.Living.{Finishes, IsUnshownEnd}
use Rattle.live_runs.specs.Showing.{IsShown, IsUnshown, entries_behind}
use Rattle.live_runs.proofs.Shown.{report_grown}

module _ {S W : Type 0} (g : Ghosts S) (w : Writer W) (old : Turning S) (told : Told) (left : S) (run : RunsOut g [] old told left) (report : IsReport told)
    (out_old out_new : W) (n : ℕ) (count : n ≡ length old.core.history) where
  abbrev rest : List ℕ
  rest = spelled_history told.labels (entries_behind n told.history) ++ ending_text told.table

  grown : spelled_report told ≡ begun_of old ++ rest
  grown =
      report_grown g old told left run
      ∙ ap (λ m. begun_of old ++ (spelled_history told.labels (entries_behind m told.history) ++ ending_text told.table)) (sym count)

  pub finishes : IsShown w out_old out_new rest → Finishes g w old left out_old out_new
  finishes shown = record { told = told; run = run; report = report; more = rest; grown = grown; shown = shown }

  pub unfinished : IsUnshown w out_old out_new rest → IsUnshownEnd g w old out_old out_new left
  unfinished unshown = record { told = told; run = run; report = report; more = rest; grown = grown; unshown = unshown }

-- What a sound manager whose top-level transactions have ended has to report.
use Rattle.std.proofs.Common.{ℕ, ◌≤◌, List, [], ◌∷◌, length, sym}
use Rattle.std.specs.Prelude.{IsFalse}
use Rattle.std.specs.List.{AllByRecursion}
use Rattle.serial_spec.specs.History.{is_live}
use Rattle.serial_spec.specs.Rows.{IsRising}
use Rattle.txn_history.proofs.Exports.{finished_correctness, table_correctness, table_few, legal_allowed}
use Rattle.durable_top.specs.declared.store.TopStore.{Ghosts}
use Rattle.manager_core.specs.State.{State}
use Rattle.manager_core.specs.Opening.{most_rows}
use Rattle.manager_core.specs.Sound.{IsSound}
use Rattle.run_reports.specs.Reports.{IsOfSessions, IsReport, IsRow}

pub reported : {S : Type 0} (g : Ghosts S) (m : State S) (labels : List (List ℕ)) → IsSound g m → length m.rows ≤ most_rows → IsRising m.table → AllByRecursion IsRow m.rows
    → IsOfSessions (record { opening = m.rows; labels = labels; history = m.history; table = m.table }) → ((l : List ℕ) → IsFalse (is_live m.history (l ∷ [])))
    → IsReport (record { opening = m.rows; labels = labels; history = m.history; table = m.table })
reported g m labels sound few in_order rows of_sessions ended =
    let allowed = legal_allowed m.rows m.history sound.legal in
    record {
      of_sessions = of_sessions;
      few = few;
      few_left = table_few m.rows m.history allowed few m.table in_order sound.stored;
      rising = sound.rising;
      in_order = in_order;
      rows = rows;
      legal = sound.legal;
      quiet = sound.quiet;
      right = sound.right;
      served = λ t b n. let all = finished_correctness m.rows m.history allowed ended t b n in (all.0, all.1);
      runs = ((table_correctness m.rows m.history allowed).0, λ i k. sym (sound.stored k) i);
    }

-- What callers are told of the manager, from what its type keeps.
use Rattle.std.proofs.Common.{◌≡◌, ◌∷◌, false, cond, zero-add, refl, sym, ap, subst, ◌∙◌}
use Rattle.std.proofs.lemmas.List.Sums.{sum_by-cons}
use Rattle.serial_spec.specs.declared.entry.By.{By}
use Rattle.serial_spec.specs.declared.event.Event.{Event}
use Rattle.serial_spec.specs.declared.entry.Answer.{Answer}
use Rattle.serial_spec.specs.declared.entry.Entry.{Entry}
use Rattle.serial_spec.specs.Rows.{Rows, value_in}
use Rattle.serial_spec.specs.History.{History, effect_of}
use Rattle.txn_history.proofs.Exports.{table_correctness, serial_correctness}
use Rattle.durable_top.specs.declared.store.TopStore.{Ghosts}
use Rattle.manager_core.specs.declared.manager.AtOpening.{AtOpening}
use Rattle.manager_core.specs.declared.outcome.Came.TheVariants as came
use Rattle.manager_core.specs.declared.outcome.Outcome.{Outcome}
use Rattle.manager_core.specs.declared.outcome.Outcome.TheVariants as outcome
use Rattle.manager_core.specs.Outcomes.{came_of}
use Rattle.manager_core.specs.State.{State, entry}
use Rattle.manager_core.specs.Kept.{IsSettled}
use Rattle.manager_core.specs.StoredNumbers.{commits_top}
use Rattle.durable_top.specs.Numbered.{entries_in}
use Rattle.manager_core.proofs.StoredNumbers.{numbered_next}
use Rattle.manager_core.specs.Tables.{Tabled, rows_in}
use Rattle.manager_core.specs.Sound.{is_store_refusal, IsBacked, IsSound}

-- ---- what came

-- an outcome that came to a wait is one
pub waits_of : (o : Outcome) → came_of o ≡ came.Waits → o ≡ outcome.Waits
waits_of (outcome.Done r) e = cc
waits_of outcome.Waits e = refl
waits_of (outcome.Refused f) e = cc

-- all that callers are told
pub sound : {S : Type 0} (g : Ghosts S) (m : State S) (tables : Tabled) → IsSettled g m.rows m.history tables m.opened m.store → m.table ≡ rows_in tables → IsSound g m
sound g m tables settled table =
    let kept = settled.kept in
    record {
      rising = kept.rising;
      legal = settled.legal;
      quiet = settled.quiet;
      right = serial_correctness m.rows m.history kept.allowed;
      root = (table_correctness m.rows m.history kept.allowed).0;
      stored = λ k. ap (λ (rs : Rows). value_in rs k) table ∙ kept.are.current k;
      backed = subst (λ (rs : Rows). IsBacked g m.history rs m.opened m.store) (sym table) kept.backed;
    }

-- an entry that commits no top-level transaction and is no refusal of the store
pub backed_next : {S : Type 0} (g : Ghosts S) (h : History) (table : Rows) (opened : AtOpening) (store : S) (by : By) (event : Event) (answer : Answer)
    → IsBacked g h table opened store → commits_top (effect_of event answer) ≡ false → is_store_refusal answer ≡ false → IsBacked g (entry by event answer ∷ h) table opened store
backed_next g h table opened store by event answer backed below other = record {
  same = backed.same;
  numbered = λ trusted. numbered_next (entries_in opened.given.items) (entry by event answer) h (g.numbered store) below (backed.numbered trusted);
  refusals = rw (sum_by-cons (λ (e : Entry). cond (is_store_refusal e.answer) 1 0) (entry by event answer) h, other) (rw zero-add backed.refusals);
}

-- A report that was written, a writer that then keeps it, and the end of a run.
use Rattle.std.proofs.Common.{◌≡◌, ◌≤◌, ℕ, List, Option, Some, sym, subst, inl, inr, arith}
use Rattle.std.specs.Prelude.{◌≢◌, Result, Ok, Err, IfErr, IfOk, IsNone}
use Rattle.std.specs.Io.KnownBytes.{Keeps}
use Rattle.txn_bytes.specs.Written.{Writer}
use Rattle.txn_bytes.proofs.Exports.{kept}
use Rattle.durable_top.specs.declared.store.TopStore.{Ghosts}
use Rattle.report_text.specs.Lines.{spelled_report}
use Rattle.program_words.specs.Faults.{IsSaid, spelled_fault}
use Rattle.program_words.specs.Tellings.{Accounts, HasFaultLine, IsFlushed, IsUnflushed}
use Rattle.program_words.specs.declared.fault.Fault.TheVariants.{CannotWrite}
use Rattle.session_runs.specs.Faults.{told}
use Rattle.session_runs.specs.Ways.{Way}
use Rattle.session_runs.specs.Replays.{HasReplayCause, IsReplayed, IsUnwritten}
use Rattle.session_runs.specs.Tellings.{IsAnswered, IsFaulted}
use Rattle.session_runs.specs.Printing.{IsMissed, IsPrinted}
use Rattle.session_runs.specs.declared.replay.ReplayFault.{ReplayFault}

-- a writer that keeps what it got after the whole report
pub replayed_kept : {S : Type 0} (g : Ghosts S) (old mid new : Option (List ℕ)) (text : List ℕ) (way : Way) (store left : S) → IsReplayed g old mid text way store left → Keeps mid new → IsReplayed g old new text way store left
replayed_kept g old mid new text way store left h k = record { told = h.told; holds = h.holds; written = kept old mid new (spelled_report h.told) h.written k; accepted = h.accepted }

-- the end of a run that gave its store back
pub printed : {S : Type 0} (g : Ghosts S) (old mid new : Option (List ℕ)) (text : List ℕ) (way : Way) (store back : S) (left : Option S)
    → IsReplayed g old mid text way store back → Keeps mid new → left ≡ Some back → IsPrinted g old new text way store left
printed {S} g old mid new text way store back left h k is =
    subst (λ (l : Option S). IsPrinted g old new text way store l) (sym is) (replayed_kept g old mid new text way store back h k)

-- the end of a run that was done
pub done : {S W : Type 0} (g : Ghosts S) (contents : W → Option (List ℕ)) (old mid new : W) (text : List ℕ) (way : Way) (store : S) (status : ℕ) (left : Option S) (ran : Result S ReplayFault)
    → IfOk ran (λ back. IsReplayed g (contents old) (contents mid) text way store back)
    → IfOk ran (λ back. left ≡ Some back)
    → IfOk ran (λ back. Keeps (contents mid) (contents new))
    → IfErr ran (λ fault. (status ≡ 1) × IsNone left)
    → status ≡ 0 → IsPrinted g (contents old) (contents new) text way store left
done g contents old mid new text way store status left (Ok back) replayed is kept dropped status_is = printed g (contents old) (contents mid) (contents new) text way store back left replayed kept is
done g contents old mid new text way store status left (Err fault) replayed is kept dropped status_is = absurd (omega (arith, dropped.0, status_is))

module _ {S W E : Type 0} (g : Ghosts S) (w : Writer W) (e : Writer E) (old mid new : W) (err_old err_new : E) (text : List ℕ) (way : Way) (store : S) (status : ℕ) (left : Option S) where
  -- the end of a run that was not done
  pub missed : (ran : Result S ReplayFault)
      → IfOk ran (λ back. IsReplayed g (w.contents old) (w.contents mid) text way store back)
      → IfErr ran (λ fault. HasReplayCause g (w.contents old) (w.contents mid) text way store fault)
      → IfErr ran (λ fault. IsAnswered w mid fault)
      → IfErr ran (λ fault. IsUnwritten fault → mid ≡ old)
      → IfOk ran (λ back. left ≡ Some back)
      → IfOk ran (λ back. Keeps (w.contents mid) (w.contents new))
      → IfErr ran (λ fault. (status ≡ 1) × IsNone left)
      → IfErr ran (λ fault. new ≡ mid)
      → IfOk ran (λ back. status ≢ 0 → IsUnflushed w e new err_old err_new)
      → IfErr ran (λ fault. IsSaid e err_old err_new (spelled_fault (told fault)))
      → status ≢ 0 → IsMissed g w e old new err_old err_new text way store left
  missed (Ok back) replayed cause answered before is kept dropped same unflushed said undone =
      inr (printed g (w.contents old) (w.contents mid) (w.contents new) text way store back left replayed kept is, unflushed undone)
  missed (Err fault) replayed cause answered before is kept dropped same unflushed said undone = inl (
    dropped.1,
    record {
      fault = fault;
      cause = subst (λ x. HasReplayCause g (w.contents old) (w.contents x) text way store fault) (sym same) cause;
      answered = subst (λ x. IsAnswered w x fault) (sym same) answered;
      unwritten = λ none. subst (λ (x : W). x ≡ old) (sym same) (before none);
      said = said;
    },
  )

module _ {S W E : Type 0} (g : Ghosts S) (w : Writer W) (e : Writer E) (old new : W) (err_old err_new : E) (text : List ℕ) (way : Way) (store : S) (left : Option S) where
  fault_line : IsMissed g w e old new err_old err_new text way store left → HasFaultLine e err_old err_new
  fault_line (inl (none, f)) = record { fault = told f.fault; said = f.said }
  fault_line (inr (is, u)) = record { fault = CannotWrite; said = u.said }

  -- the status of a run accounts for its writers
  pub run_accounts : (status : ℕ) → (status ≡ 0 → IsFlushed w new (Ok tt)) → (status ≡ 0 → err_new ≡ err_old)
      → (status ≢ 0 → IsMissed g w e old new err_old err_new text way store left)
      → status ≤ 1 → Accounts w e new err_old err_new status
  run_accounts status passed silent undone bound = record {
    passed = passed;
    silent = silent;
    failed = λ is. fault_line (undone (λ zero_is. absurd (omega (arith, is, zero_is))));
    misused = λ is. absurd (omega (arith, is, bound));
  }

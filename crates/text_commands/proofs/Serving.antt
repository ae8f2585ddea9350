-- What each way through the program comes to, by its exit status.
use Rattle.std.proofs.Common.{◌≡◌, ◌≤◌, ◌⊎◌, ℕ, List, Option, Result, Ok, Bor, inl, inr, refl, subst, sym, arith}
use Rattle.std.specs.Prelude.{String, codes, drop}
use Rattle.std.specs.declared.io.ErrorKind.{ErrorKind}
use Rattle.std.specs.declared.io.ErrorKind.TheVariants.{OutOfMemory}
use Rattle.std.specs.declared.vec.IntoIter.{IntoIter}
use Rattle.std.specs.Vec.Iter.{into_iter_items}
use Rattle.line_language.specs.Report.{line}
use Rattle.program_words.specs.Faults.{IsSaid, spelled_fault}
use Rattle.program_words.specs.Tellings.{Accounts, HasUsageLine}
use Rattle.program_words.specs.declared.fault.Fault.TheVariants.{NoMemory}
use Rattle.program_words.proofs.Exports.{fault_accounts, misuse_accounts}
use Rattle.text_commands.specs.Outcomes.{Replays, ReplaysNot}
use Rattle.tx_machine.specs.Worlds.{State, World, state}
use Rattle.command_line.specs.Tasks.{AskedBy, Asks}
use Rattle.asked_tasks.specs.Given.{AskedIn, line_of_no_words, status_of_no_words}
use Rattle.command_line.specs.declared.task.Task.{Task}
use Rattle.command_line.specs.declared.task.Task.TheVariants.{Alone}
use Rattle.command_line.specs.declared.task.Solo.TheVariants.{Replay}
use Rattle.asked_tasks.specs.Refused.{IsRefused, WantsNoReplay}
use Rattle.text_commands.specs.Served.{Serves}

module _ {H T P N W E : Type 0} (o : World H T P N W E) (Asked : Task → Type 0) (host : H) (out : W)
    (err_old err_new : E) (status : ℕ) where
  -- memory ran out before the words were read
  pub unstarted : IsSaid o.err err_old err_new (spelled_fault NoMemory) → status ≡ 1
      → Serves o (state host out err_old) (state host out err_new) Asked status
  unstarted said is = record {
    done = λ done. absurd (omega (arith, is, done));
    failed = λ _. inr (record { unasked = refl; unwritten = refl; said = said });
    misused = λ misused. absurd (omega (arith, is, misused));
    unwanted = λ misused. absurd (omega (arith, is, misused));
    accounts = fault_accounts o.out o.err out err_old err_new NoMemory status said is;
    bounded = omega (arith, is);
  }

  -- the words ask for no replay
  pub misread : WantsNoReplay Asked → (text : List ℕ) → IsSaid o.err err_old err_new (line text)
      → status ≡ 2 → Serves o (state host out err_old) (state host out err_new) Asked status
  misread none text said is = record {
    done = λ done. absurd (omega (arith, is, done));
    failed = λ failed. absurd (omega (arith, is, failed));
    misused = λ _. (refl, refl);
    unwanted = λ _. none;
    accounts = misuse_accounts o.out o.err out err_old err_new text status said is;
    bounded = omega (arith, is);
  }

  -- they come to nothing
  pub refused : IsRefused o.err err_old err_new (WantsNoReplay Asked) status
      → Serves o (state host out err_old) (state host out err_new) Asked status
  refused r = by r.bounded
    where
      by : (status ≡ 1) ⊎ (status ≡ 2) → Serves o (state host out err_old) (state host out err_new) Asked status
      by (inl is) = unstarted (r.failed is) is
      by (inr is) =
          let usage : HasUsageLine o.err err_old err_new = r.misused (λ one. absurd (omega (arith, is, one))) in
          misread (r.unwanted is) usage.text usage.said is

  -- the system gives no arguments
  pub no_words : WantsNoReplay Asked → (why : ErrorKind) → IsSaid o.err err_old err_new (line_of_no_words why)
      → status ≡ status_of_no_words why → Serves o (state host out err_old) (state host out err_new) Asked status
  no_words none OutOfMemory said is = unstarted said is
  no_words none why said is = misread none (codes "tx: the command line is not text") said is

-- the same of texts that are those of words
pub refused_of : {H T P N W E : Type 0} (o : World H T P N W E) (texts words : List (List ℕ)) → texts ≡ words → (host : H) (out : W)
    (err_old err_new : E) (status : ℕ) → IsRefused o.err err_old err_new (WantsNoReplay (Asks texts)) status
    → Serves o (state host out err_old) (state host out err_new) (Asks words) status
refused_of o texts words same host out err_old err_new status r =
    subst (λ (ws : List (List ℕ)). Serves o (state host out err_old) (state host out err_new) (Asks ws) status) same
    (refused o (Asks texts) host out err_old err_new status r)

module _ {H T P N W E : Type 0} (o : World H T P N W E) (Asked : Task → Type 0)
    (before after : State H W E) (status : ℕ) where
  -- a replay
  pub replayed : (file : Bor (List ℕ)) (list database : Option (Bor (List ℕ)))
      → Asked (Alone (Replay file list database))
      → (status ≡ 0 → Replays o before after file.now list database)
      → (status ≡ 1 → ReplaysNot o before after file.now list database)
      → Accounts o.out o.err after.out before.err after.err status → status ≤ 1
      → Serves o before after Asked status
  replayed file list database asked done failed accounts bounded = record {
    done = λ is. record { file = file; list = list; database = database; asked = asked; so = done is };
    failed = λ is. inl (record { file = file; list = list; database = database; asked = asked; so = failed is });
    misused = λ is. absurd (omega (arith, is, bounded));
    unwanted = λ is. absurd (omega (arith, is, bounded));
    accounts = accounts;
    bounded = omega (arith, bounded);
  }

-- the system says what the arguments are
pub served_in : {H T P N W E Y Z F : Type 0} (o : World H T P N W E) (before after : State H W E) (status : ℕ)
    (args : Result (IntoIter (String Z) Y) F) (given : IntoIter (String Z) Y) (shown : List (String Z)) → args ≡ Ok given
    → shown ≡ drop 1 (into_iter_items given) → Serves o before after (AskedBy shown) status
    → Serves o before after (AskedIn args) status
served_in {H} {T} {P} {N} {W} {E} {Y} {Z} {F} o before after status args given shown is same served =
    subst (λ (r : Result (IntoIter (String Z) Y) F). Serves o before after (AskedIn r) status) (sym is)
    (subst (λ (ws : List (String Z)). Serves o before after (AskedBy ws) status) same served)

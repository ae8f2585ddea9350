-- What each way through the program comes to, by its exit status.
use Rattle.std.proofs.Common.{◌≡◌, ◌≤◌, ◌⊎◌, ℕ, List, Option, Result, Ok, Bor, inl, inr, refl, subst, sym, arith}
use Rattle.std.specs.Prelude.{◌≢◌, IsNone, String, codes, drop}
use Rattle.std.specs.declared.io.ErrorKind.{ErrorKind}
use Rattle.std.specs.declared.io.ErrorKind.TheVariants.{OutOfMemory}
use Rattle.std.specs.declared.vec.IntoIter.{IntoIter}
use Rattle.std.specs.Vec.Iter.{into_iter_items}
use Rattle.std.specs.Option.{option_copied}
use Rattle.line_language.specs.Report.{line}
use Rattle.txn_bytes.specs.Sources.{Reader}
use Rattle.program_words.specs.Faults.{IsSaid, spelled_fault}
use Rattle.program_words.specs.Tellings.{Accounts, HasUsageLine}
use Rattle.program_words.specs.declared.fault.Fault.TheVariants.{NoMemory}
use Rattle.program_words.proofs.Exports.{fault_accounts, misuse_accounts}
use Rattle.session_runs.specs.Ways.{ByWorkers}
use Rattle.text_commands.specs.Outcomes.{Misses, Prints}
use Rattle.tx_machine.specs.Worlds.{State, World, state}
use Rattle.command_line.specs.Tasks.{AskedBy}
use Rattle.asked_tasks.specs.Given.{AskedIn, line_of_no_words, status_of_no_words}
use Rattle.command_line.specs.declared.task.Solo.{Solo}
use Rattle.worker_runs.specs.Workers.{workers_of}
use Rattle.command_line.specs.declared.task.Task.{Task}
use Rattle.command_line.specs.declared.task.Task.TheVariants.{Alone, Run}
use Rattle.asked_tasks.specs.Refused.{IsRefused}
use Rattle.command_line.specs.Tasks.{Asks}
use Rattle.command_line.proofs.Exports as words
use Rattle.tx_program.specs.Programs.{AccountsForAlone, AccountsForTask, ForTask, IsDoneAlone, IsMiscounted, IsUndoneAlone, Serves, WantsNoTask}

-- what is said of the two writers by a command that is not live
pub for_alone : {A B C : Type 0} → A ⊎ B → A ⊎ (B ⊎ C)
for_alone (inl a) = inl a
for_alone (inr b) = inr (inl b)

module _ {H T P N I W E : Type 0} (o : World H T P N W E) (r : Reader I) (Asked : Task → Type 0) (host : H) (out : W)
    (err_old err_new : E) (input : I) (status : ℕ) where
  -- memory ran out before the words were read
  pub unstarted : IsSaid o.err err_old err_new (spelled_fault NoMemory) → status ≡ 1
      → Serves o r (state host out err_old) (state host out err_new) input input Asked status
  unstarted said is = record {
    done = λ done. absurd (omega (arith, is, done));
    failed = λ _. inr (record { unasked = refl; unwritten = refl; unread = refl; said = said });
    misused = λ misused. absurd (omega (arith, is, misused));
    unwanted = λ misused. absurd (omega (arith, is, misused));
    miscounted = λ _. inr (record { unasked = refl; unwritten = refl; unread = refl; said = said });
    accounts = inr (inl (fault_accounts o.out o.err out err_old err_new NoMemory status said is));
    bounded = omega (arith, is);
  }

  -- the words are no command line
  pub misread : WantsNoTask Asked → (text : List ℕ) → IsSaid o.err err_old err_new (line text) → status ≡ 2
      → Serves o r (state host out err_old) (state host out err_new) input input Asked status
  misread none text said is = record {
    done = λ done. absurd (omega (arith, is, done));
    failed = λ failed. absurd (omega (arith, is, failed));
    misused = λ _. (refl, refl, refl);
    unwanted = λ _. inl none;
    miscounted = λ _. inl is;
    accounts = inr (inl (misuse_accounts o.out o.err out err_old err_new text status said is));
    bounded = omega (arith, is);
  }

  -- they come to nothing
  pub refused : IsRefused o.err err_old err_new (WantsNoTask Asked) status
      → Serves o r (state host out err_old) (state host out err_new) input input Asked status
  refused told = by told.bounded
    where
      by : (status ≡ 1) ⊎ (status ≡ 2) → Serves o r (state host out err_old) (state host out err_new) input input Asked status
      by (inl is) = unstarted (told.failed is) is
      by (inr is) =
          let usage : HasUsageLine o.err err_old err_new = told.misused (λ one. absurd (omega (arith, is, one))) in
          misread (told.unwanted is) usage.text usage.said is

  -- the system gives no arguments
  pub no_words : WantsNoTask Asked → (why : ErrorKind) → IsSaid o.err err_old err_new (line_of_no_words why)
      → status ≡ status_of_no_words why → Serves o r (state host out err_old) (state host out err_new) input input Asked status
  no_words none OutOfMemory said is = unstarted said is
  no_words none why said is = misread none (codes "tx: the command line is not text") said is

-- the same of texts that are those of words
pub refused_of : {H T P N I W E : Type 0} (o : World H T P N W E) (r : Reader I) (texts words : List (List ℕ)) → texts ≡ words
    → (host : H) (out : W) (err_old err_new : E) (input : I) (status : ℕ)
    → IsRefused o.err err_old err_new (WantsNoTask (Asks texts)) status
    → Serves o r (state host out err_old) (state host out err_new) input input (Asks words) status
refused_of o r texts words same host out err_old err_new input status told =
    subst (λ (ws : List (List ℕ)). Serves o r (state host out err_old) (state host out err_new) input input (Asks ws) status) same
    (refused o r (Asks texts) host out err_old err_new input status told)

module _ {H T P N I W E : Type 0} (o : World H T P N W E) (r : Reader I) (Asked : Task → Type 0)
    (before after : State H W E) (in_old in_new : I) (status : ℕ) where
  -- a run by workers
  pub by_workers : (file : Bor (List ℕ)) (workers database : Option (Bor (List ℕ)))
      → Asked (Run file workers database) → in_new ≡ in_old
      → (status ≡ 0 → Prints o before after file.now ByWorkers database)
      → (status ≡ 1 → Misses o before after file.now ByWorkers database)
      → (status ≡ 2 → IsNone (workers_of (option_copied workers)))
      → (ForTask Asked IsMiscounted → status ≡ 2)
      → (status ≡ 2 → (after.host ≡ before.host) × (after.out ≡ before.out))
      → Accounts o.out o.err after.out before.err after.err status → status ≤ 2
      → Serves o r before after in_old in_new Asked status
  by_workers file workers database asked same done failed miscounted counted unasked accounts bounded = record {
    done = λ is. record { task = Run file workers database; asked = asked; so = (done is, same) };
    failed = λ is. inl (record { task = Run file workers database; asked = asked; so = (failed is, same) });
    misused = λ is. let u = unasked is in (u.0, same, u.1);
    unwanted = λ is. inr (record { task = Run file workers database; asked = asked; so = miscounted is });
    miscounted = λ it. inl (counted it);
    accounts = inr (inl accounts);
    bounded = bounded;
  }

  -- how a command that waits for nobody accounts for the two writers
  for_task : (solo : Solo) → Asked (Alone solo) → AccountsForAlone o r before after in_old in_new solo status
      → AccountsForTask o r before after in_old in_new Asked status
  for_task solo asked (inl (is, condemned)) =
      inl (is, record { task = Alone solo; asked = asked; so = condemned })
  for_task solo asked (inr (inl accounts)) = inr (inl accounts)
  for_task solo asked (inr (inr lived)) = inr (inr (record { task = Alone solo; asked = asked; so = lived }))

  -- such a command
  pub by_one : (solo : Solo) → Asked (Alone solo) → (ForTask Asked IsMiscounted → ⊥) → (status ≡ 0 → IsDoneAlone o r before after in_old in_new solo)
      → (status ≡ 1 → IsUndoneAlone o r before after in_old in_new solo)
      → AccountsForAlone o r before after in_old in_new solo status → status ≤ 1
      → Serves o r before after in_old in_new Asked status
  by_one solo asked counted done failed accounts bounded = record {
    done = λ is. record { task = Alone solo; asked = asked; so = done is };
    failed = λ is. inl (record { task = Alone solo; asked = asked; so = failed is });
    misused = λ is. absurd (omega (arith, is, bounded));
    unwanted = λ is. absurd (omega (arith, is, bounded));
    miscounted = λ it. absurd (counted it);
    accounts = for_task solo asked accounts;
    bounded = omega (arith, bounded);
  }

-- where words ask for a run by a wrong number of workers, each run that they ask for is by that word
pub miscounts : (ws : List (List ℕ)) (file : Bor (List ℕ)) (workers database : Option (Bor (List ℕ))) → Asks ws (Run file workers database)
    → ForTask (Asks ws) IsMiscounted → IsNone (workers_of (option_copied workers))
miscounts ws file workers database asks it = by it.task it.asked it.so
  where
    by : (t : Task) → Asks ws t → IsMiscounted t → IsNone (workers_of (option_copied workers))
    by (Run other count path) runs none =
        subst (λ word. IsNone (workers_of word)) (words.one_count ws file workers database asks other count path runs) none
    by (Alone solo) runs none = absurd none

-- where one thread is to do something, no run by a wrong number is asked for
pub counts : (ws : List (List ℕ)) (solo : Solo) → Asks ws (Alone solo) → ForTask (Asks ws) IsMiscounted → ⊥
counts ws solo asks it = by it.task it.asked it.so
  where
    by : (t : Task) → Asks ws t → IsMiscounted t → ⊥
    by (Run file workers database) runs none = words.alone_asked ws solo asks file workers database runs
    by (Alone other) runs none = none

-- the system says what the arguments are
pub served_in : {H T P N I W E Y Z F : Type 0} (o : World H T P N W E) (r : Reader I) (before after : State H W E)
    (in_old in_new : I) (status : ℕ) (args : Result (IntoIter (String Z) Y) F) (given : IntoIter (String Z) Y)
    (shown : List (String Z)) → args ≡ Ok given → shown ≡ drop 1 (into_iter_items given)
    → Serves o r before after in_old in_new (AskedBy shown) status
    → Serves o r before after in_old in_new (AskedIn args) status
served_in {H} {T} {P} {N} {I} {W} {E} {Y} {Z} {F} o r before after in_old in_new status args given shown is same served =
    subst (λ (x : Result (IntoIter (String Z) Y) F). Serves o r before after in_old in_new (AskedIn x) status) (sym is)
    (subst (λ (ws : List (String Z)). Serves o r before after in_old in_new (AskedBy ws) status) same served)

-- What the exit status of a run of a text says of what was read, of the output, of the store and
-- of the error writer.
use Rattle.std.specs.Prelude.{◌≡◌, ◌⊎◌, ℕ, List, Option, IsNone}
use Rattle.std.specs.Borrow.{Bor}
use Rattle.std.specs.Option.{option_copied}
use Rattle.program_words.specs.Faults.{IsSaid, spelled_fault}
use Rattle.program_words.specs.Schedules.{attempts_of}
use Rattle.program_words.specs.declared.fault.Fault.TheVariants.{NoMemory}
use Rattle.session_runs.specs.Ways.{Way, Scheduled}
use Rattle.session_runs.specs.Printing.{IsPrinted, IsMissed}
use Rattle.tx_machine.specs.Begun.{HasNotBegun}
use Rattle.tx_machine.specs.Runs.{HasRun, IsUntouched}
use Rattle.tx_machine.specs.Worlds.{State, World}

module _ {H T P N W E : Type 0} (o : World H T P N W E) (before after : State H W E) where
  -- the whole report of a run of this file's text in this way, over the database that is named, or
  -- else over a store without rows
  abbrev pub Prints : List ℕ → Way → Option (Bor (List ℕ)) → Type 0
  Prints file way database = HasRun o before after file (option_copied database)
      (λ text store left. IsPrinted o.store (o.out.contents before.out)
      (o.out.contents after.out) text way store left)

  -- such a run was missed; or nothing was run, and nothing was asked of the output
  abbrev pub Misses : List ℕ → Way → Option (Bor (List ℕ)) → Type 0
  Misses file way database =
      HasRun o before after file (option_copied database)
      (λ text store left. IsMissed o.store o.out o.err before.out after.out
      before.err after.err text way store left)
      ⊎ IsUntouched before.out after.out
      (HasNotBegun o.host o.file o.err before.host after.host before.err after.err file
      (option_copied database))

  -- ---- a replay, by the exit status

  -- the whole report of a run by this list, and then in rounds
  abbrev pub Replays : List ℕ → Option (Bor (List ℕ)) → Option (Bor (List ℕ)) → Type 0
  Replays file list database =
      Prints file (Scheduled (attempts_of (option_copied list))) database

  -- There was a list, and memory ran out while it was read. Nothing was asked of the surroundings
  -- or of the output
  pub record HasUnreadList (list : Option (List ℕ)) : Type 0 where
    pub listed : IsNone list → ⊥
    pub unasked : after.host ≡ before.host
    pub same : after.out ≡ before.out
    pub said : IsSaid o.err before.err after.err (spelled_fault NoMemory)

  -- such a run was missed, or its list was not read
  abbrev pub ReplaysNot : List ℕ → Option (Bor (List ℕ)) → Option (Bor (List ℕ)) → Type 0
  ReplaysNot file list database =
      Misses file (Scheduled (attempts_of (option_copied list))) database
      ⊎ HasUnreadList (option_copied list)

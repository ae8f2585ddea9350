-- What a call in a transaction says, by what its parts say.
use Rattle.std.proofs.Common.{ℕ, List, Result, Ok, Err, OnOk}
use Rattle.std.specs.Prelude.{IsTrue}
use Rattle.std.proofs.lemmas.Result.{IfErr-weaker}
use Rattle.sqlite.specs.declared.error.Error.{Error}
use Rattle.sqlite.specs.Order.{Row as Values}
use Rattle.sqlite.specs.Store.{Ghosts}
use Rattle.sqlite.specs.Held.{Held, state}
use Rattle.sqlite.specs.State.{Survives}
use Rattle.sql_store.specs.Asked.{Answers, Answered, RunsStatement}
use Rattle.sql_store.specs.Calls.{IfInside}
use Rattle.sql_store.specs.Faults.{IsCaused}
use Rattle.sql_store.specs.Inside.{Steps}
use Rattle.sql_store.proofs.Causes.{inside_caused, caused_later}
use Rattle.sql_store.proofs.Steps.{steps_by, steps_then, clean_before}

module _ {S : Type 0} (g : Ghosts S) where
  -- a call that succeeds, and one that fails
  pub did_so : {Did : Held S → Held S → Type 0} {Gave : Held S → Held S → Error → Type 0} {old new : Held S} → Steps (state g old) (state g new) → IfInside g old new (Did old new)
      → Answers g Did Gave old new (Ok tt)
  did_so steps did = record { steps = steps; cause = λ clean inside. tt; refused = λ clean inside. tt; asked = did }

  pub gave_so : {Did : Held S → Held S → Type 0} {Gave : Held S → Held S → Error → Type 0} {old new : Held S} {e : Error} → Steps (state g old) (state g new) → IfInside g old new (IsCaused (state g old) (state g new) e)
      → IfInside g old new (Gave old new e) → Answers g Did Gave old new (Err e)
  gave_so steps cause gave = record { steps = steps; cause = cause; refused = gave; asked = λ clean inside. tt }

  -- a statement that was executed, and one that gave an error
  pub ran : (text : List ℕ) (params : Values) (old new : Held S) (count : ℕ) → IfInside g old new (Answered g text params old new (Ok count)) → Survives (state g old) (state g new) (λ _. ⊥)
      → RunsStatement g text params old new (Ok tt)
  ran text params old new count runs survives = did_so (steps_by text params (state g old) (state g new) (Ok count) runs survives) (λ clean inside. (count, runs clean inside))

  pub failed : (text : List ℕ) (params : Values) (old new : Held S) (e : Error) → IfInside g old new (Answered g text params old new (Err e)) → Survives (state g old) (state g new) (λ _. ⊥)
      → RunsStatement g text params old new (Err e)
  failed text params old new e runs survives =
      gave_so (steps_by text params (state g old) (state g new) (Err e) runs survives) (λ clean inside. inside_caused text params (state g old) (state g new) e (runs clean inside)) runs

  -- a call behind something that left the transaction open
  pub answers_then : {Did Both : Held S → Held S → Type 0} {Gave Either : Held S → Held S → Error → Type 0} {a b c : Held S} {r : Result (Unit {0}) Error}
      → Steps (state g a) (state g b) → IfInside g a b (IsTrue (state g b).in_transaction)
      → IfInside g a b (OnOk r (Did b c) → OnOk r (Both a c)) → IfInside g a b ((e : Error) → Gave b c e → Either a c e) → Answers g Did Gave b c r → Answers g Both Either a c r
  answers_then {a = a} {b = b} {c = c} {r = r} first on did gave second =
      let was = clean_before (state g b) (state g c) second.steps.survives in
      record {
        steps = steps_then (state g a) (state g b) (state g c) first on second.steps;
        cause = λ clean inside. caused_later (state g a) (state g b) (state g c) r first.survives (was clean) second.steps.survives (second.cause clean (on (was clean) inside));
        refused = λ clean inside. IfErr-weaker r _ _ (gave (was clean) inside) (second.refused clean (on (was clean) inside));
        asked = λ clean inside. did (was clean) inside (second.asked clean (on (was clean) inside));
      }

  -- the same call by other words
  pub answers_as : {Did More : Held S → Held S → Type 0} {Gave Gives : Held S → Held S → Error → Type 0} {old new : Held S} {r : Result (Unit {0}) Error}
      → (OnOk r (Did old new) → OnOk r (More old new)) → ((e : Error) → Gave old new e → Gives old new e) → Answers g Did Gave old new r → Answers g More Gives old new r
  answers_as {r = r} did gave h = record {
    steps = h.steps;
    cause = h.cause;
    refused = λ clean inside. IfErr-weaker r _ _ gave (h.refused clean inside);
    asked = λ clean inside. did (h.asked clean inside);
  }

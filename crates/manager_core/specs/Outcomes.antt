-- An outcome as the history keeps it.
use Rattle.std.specs.Prelude.{◌≡◌, Bool, true, false, Option, Some, None}
use Rattle.serial_spec.specs.declared.entry.Refusal.{Refusal}
use Rattle.serial_spec.specs.declared.operation.Reply.TheVariants.{Ok}
use Rattle.serial_spec.specs.declared.entry.Answer.{Answer}
use Rattle.serial_spec.specs.declared.entry.Entry.{Entry}
use Rattle.serial_spec.specs.declared.entry.Answer.TheVariants as answer
use Rattle.serial_spec.specs.declared.entry.Refusal.TheVariants.{Store}
use Rattle.manager_core.specs.declared.outcome.Came.{Came}
use Rattle.manager_core.specs.declared.outcome.Came.TheVariants as came
use Rattle.manager_core.specs.declared.outcome.Outcome.{Outcome}
use Rattle.manager_core.specs.declared.outcome.Outcome.TheVariants.{Done, Waits, Refused}

abbrev pub answer_of : Outcome → Answer
answer_of (Done reply) = answer.Done reply
answer_of Waits = answer.Waits
answer_of (Refused refusal) = answer.Refused refusal

-- what came of the call, its reply and its cause left aside
abbrev pub came_of : Outcome → Came
came_of (Done reply) = came.Done
came_of Waits = came.Waits
came_of (Refused refusal) = came.Refused

-- the outcome came to this, and it is one of which this holds
pub record CameTo (came : Came) (Holds : Outcome → Type 0) : Type 0 where
  pub outcome : Outcome
  pub came_is : came ≡ came_of outcome
  pub holds : Holds outcome

-- the outcome is the one that the history keeps by this answer
abbrev pub Tells : Answer → Outcome → Type 0
Tells a told = (outcome : Outcome) → a ≡ answer_of outcome → told ≡ outcome

-- it is the one that it keeps by this entry
abbrev pub TellsEntry : Option Entry → Outcome → Type 0
TellsEntry o told = (e : Entry) → o ≡ Some e → Tells e.answer told

abbrev pub is_done : Outcome → Bool
is_done (Done reply) = true
is_done outcome = false

-- whether the outcome is one that the store decides between
abbrev pub is_of_store : Outcome → Bool
is_of_store (Done reply) = true
is_of_store (Refused Store) = true
is_of_store outcome = false

-- refused, or done where nothing refuses it
abbrev pub outcome_of : Option Refusal → Outcome
outcome_of (Some refusal) = Refused refusal
outcome_of None = Done Ok

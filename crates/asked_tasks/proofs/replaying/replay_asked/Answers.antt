use Rattle.std.proofs.Common.{subst}
use Rattle.command_line.specs.Tasks.{Asks}
use Rattle.command_line.specs.declared.task.Task.{Task}
use Rattle.command_line.proofs.Exports as words
use Rattle.asked_tasks.specs.Refused.{replay_usage, texts_of}
use Rattle.asked_tasks.proofs.Refusing.{told}
use Rattle.asked_tasks.proofs.replaying.replay_asked.Goals as goal

pub returns-in_default : goal.returns-in_default
returns-in_default g c =
    let a = c.in-Ok-Alone in
    let ws = texts_of c.args.words.now in
    record {
      asked = tt;
      untold = tt;
      refused = rw (← a.ensures.untold) (told _ _ _ _ _ (words.other_asked ws a.solo (subst (λ (t : Task). Asks ws t) a.field-0-is a.ensures.asked) c.in_default.not-Replay)
          replay_usage c.misuse.ensures.told c.misuse.ensures.status);
      usage = λ _ _. rw (← a.ensures.untold) c.misuse.ensures.told;
    }

pub returns-in-Ok-Run-clause-refused : goal.returns-in-Ok-Run-clause-refused
returns-in-Ok-Run-clause-refused g c =
    let a = c.in-Ok-Run in
    let ws = texts_of c.args.words.now in
    rw (← a.ensures.untold) (told _ _ _ _ _ (words.run_asked ws a.field-0-0 a.field-0-1 a.field-0-2 (subst (λ (t : Task). Asks ws t) a.field-0-is a.ensures.asked))
    replay_usage c.misuse-in-Ok-Run.ensures.told c.misuse-in-Ok-Run.ensures.status)

pub returns-in-Ok-Run-clause-usage : goal.returns-in-Ok-Run-clause-usage
returns-in-Ok-Run-clause-usage g c = λ _ _. rw (← c.in-Ok-Run.ensures.untold) c.misuse-in-Ok-Run.ensures.told

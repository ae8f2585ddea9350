use Rattle.std.proofs.Common.{◌≡◌, ◌∙◌, ℕ, List, ap, refl, subst}
use Rattle.command_line.specs.Tasks.{Asks}
use Rattle.command_line.specs.Words.{with_name}
use Rattle.command_line.specs.declared.task.Task.{Task}
use Rattle.command_line.specs.declared.task.Task.TheVariants.{Alone, Run}
use Rattle.asked_tasks.specs.Refused.{texts_of}
use Rattle.tx_program.proofs.Served.{by_one, by_workers, counts, miscounts, refused_of, unstarted}
use Rattle.tx_program.proofs.program.tx_main.Goals as goal

-- what is asked for by one name of the words is asked for by the other
asked_by : (texts words : List (List ℕ)) (found task : Task) → texts ≡ words → found ≡ task → Asks texts found → Asks words task
asked_by texts words found task same is asks =
    subst (λ (t : Task). Asks words t) is (subst (λ (ws : List (List ℕ)). Asks ws found) same asks)

pub returns-in_default : goal.returns-in_default
returns-in_default g c =
    unstarted _ _ _ c.args.host.now c.args.out.now c.args.err.now c.tell.new.err c.args.input.now
    c.tell.result c.tell.ensures.told c.tell.ensures.status

pub returns-in-Ok-Run : goal.returns-in-Ok-Run
returns-in-Ok-Run g c =
    let a = c.in-Ok-Run in
    let words : List (List ℕ) = with_name c.args.words.now in
    let asks : Asks words (Run a.file a.workers a.database) =
    asked_by (texts_of c.as_slice.result.now) words a.field-0 (Run a.file a.workers a.database)
    (ap texts_of c.as_slice.ensures.value ∙ c.in-Ok.ensures) a.field-0-is a.ensures.asked in
    rw (← a.ensures.untold)
    (by_workers _ _ _ _ _ _ _ c.run.result a.file a.workers a.database asks refl c.run.ensures.done c.run.ensures.failed
    c.run.ensures.misused.0 (λ it. c.run.ensures.misused.1 (miscounts words a.file a.workers a.database asks it))
    c.run.ensures.unasked c.run.ensures.accounts c.run.ensures.status)

pub returns-in-Ok-Alone : goal.returns-in-Ok-Alone
returns-in-Ok-Alone g c =
    let a = c.in-Ok-Alone in
    let words : List (List ℕ) = with_name c.args.words.now in
    let asks : Asks words (Alone a.solo) =
    asked_by (texts_of c.as_slice.result.now) words a.field-0 (Alone a.solo)
    (ap texts_of c.as_slice.ensures.value ∙ c.in-Ok.ensures) a.field-0-is a.ensures.asked in
    rw (← a.ensures.untold)
    (by_one _ _ _ _ _ _ _ c.perform.result a.solo asks (counts words a.solo asks) c.perform.ensures.done c.perform.ensures.failed
    c.perform.ensures.accounts c.perform.ensures.status)

pub returns : goal.returns
returns g c =
    let e = c.in-Err in
    refused_of _ _ (texts_of c.as_slice.result.now) (with_name c.args.words.now)
    (ap texts_of c.as_slice.ensures.value ∙ c.in-Ok.ensures) c.args.host.now c.args.out.now
    c.args.err.now c.task_asked.new.err c.args.input.now e.status e.ensures.refused

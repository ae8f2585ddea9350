use Rattle.std.proofs.Common.{◌≡◌, ◌∙◌, ℕ, List, ap, subst}
use Rattle.command_line.specs.Tasks.{Asks}
use Rattle.command_line.specs.Words.{with_name}
use Rattle.command_line.specs.declared.task.Solo.TheVariants.{Replay}
use Rattle.command_line.specs.declared.task.Task.TheVariants.{Alone}
use Rattle.asked_tasks.specs.Refused.{texts_of}
use Rattle.text_commands.proofs.Serving.{refused_of, replayed, unstarted}
use Rattle.text_commands.proofs.starting.serve.Goals as goal

pub returns-in_default : goal.returns-in_default
returns-in_default g c =
    unstarted _ _ c.args.host.now c.args.out.now c.args.err.now c.tell.new.err c.tell.result
    c.tell.ensures.told c.tell.ensures.status

pub returns-in-Ok-replay_asked : goal.returns-in-Ok-replay_asked
returns-in-Ok-replay_asked g c =
    let a = c.in-Ok-replay_asked in
    let r = a.asked in
    let same : texts_of c.as_slice.result.now ≡ with_name c.args.words.now =
    ap texts_of c.as_slice.ensures.value ∙ c.in-Ok.ensures in
    rw (← a.ensures.untold)
    (replayed _ _ _ _ c.replay.result r.file r.schedule r.database
    (subst (λ (ws : List (List ℕ)). Asks ws (Alone (Replay r.file r.schedule r.database))) same a.ensures.asked)
    c.replay.ensures.done c.replay.ensures.failed c.replay.ensures.accounts c.replay.ensures.status)

pub returns : goal.returns
returns g c =
    let e = c.in-Err in
    let same : texts_of c.as_slice.result.now ≡ with_name c.args.words.now =
    ap texts_of c.as_slice.ensures.value ∙ c.in-Ok.ensures in
    refused_of _ (texts_of c.as_slice.result.now) (with_name c.args.words.now) same c.args.host.now c.args.out.now
    c.args.err.now c.replay_asked.new.err e.status e.ensures.refused

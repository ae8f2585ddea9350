use Rattle.std.proofs.Common.{◌∙◌, inl}
use Rattle.program_words.specs.declared.fault.Fault.TheVariants.{NoMemory}
use Rattle.program_words.proofs.Exports.{fault_accounts}
use Rattle.text_commands.proofs.replaying.replay.Goals as goal

pub returns-in-Ok-clause-done : goal.returns-in-Ok-clause-done
returns-in-Ok-clause-done g c = λ is. rw (← (c.as_slice.ensures.value ∙ c.in-Ok.ensures.ok)) (c.replay_text.ensures.done is)

pub returns-in-Ok-clause-failed : goal.returns-in-Ok-clause-failed
returns-in-Ok-clause-failed g c = λ is. rw (← (c.as_slice.ensures.value ∙ c.in-Ok.ensures.ok)) (inl (c.replay_text.ensures.failed is))

pub returns-in-Err-clause-accounts : goal.returns-in-Err-clause-accounts
returns-in-Err-clause-accounts g c =
    fault_accounts _ _ c.args.out.now c.args.err.now c.tell.new.err
    NoMemory c.tell.result c.tell.ensures.told c.tell.ensures.status

use Rattle.std.proofs.Common.{◌∙◌}
use Rattle.std.specs.IoError.{error_kind}
use Rattle.tx_program.proofs.Served.{no_words, served_in, unstarted}
use Rattle.tx_program.proofs.starting.start.Goals as goal

pub returns-in-Err-clause-unread : goal.returns-in-Err-clause-unread
returns-in-Err-clause-unread g c = rw c.in-Err.is c.tell_no_words.ensures.said

pub returns-in-Err-clause-unread_status : goal.returns-in-Err-clause-unread_status
returns-in-Err-clause-unread_status g c = rw c.in-Err.is c.tell_no_words.ensures.status

pub returns-in-Err-clause-served : goal.returns-in-Err-clause-served
returns-in-Err-clause-served g c = rw c.in-Err.is
    (no_words _ _ _ c.args.host.now c.args.out.now c.args.err.now c.tell_no_words.new.err c.args.input.now c.tell_no_words.result
    (λ task asked. asked) (error_kind c.in-Err.why) c.tell_no_words.ensures.said c.tell_no_words.ensures.status)

pub returns-in-Ok-words_behind_name-clause-served : goal.returns-in-Ok-words_behind_name-clause-served
returns-in-Ok-words_behind_name-clause-served g c =
    served_in _ _ _ _ _ _ c.tx_main.result _ c.in-Ok.args c.as_slice.result.now c.in-Ok.is
    (c.as_slice.ensures.value ∙ c.in-Ok-words_behind_name.ensures) c.tx_main.ensures

pub returns-in-Err-words_behind_name-clause-served : goal.returns-in-Err-words_behind_name-clause-served
returns-in-Err-words_behind_name-clause-served g c =
    unstarted _ _ _ c.args.host.now c.args.out.now c.args.err.now c.tell.new.err c.args.input.now c.tell.result
    c.tell.ensures.told c.tell.ensures.status

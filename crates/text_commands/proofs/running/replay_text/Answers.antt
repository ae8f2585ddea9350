use Rattle.std.proofs.Common.{inl, inr, refl, arith}
use Rattle.std.specs.Prelude.{◌≢◌}
use Rattle.tx_machine.proofs.Exports.{ran}
use Rattle.text_commands.proofs.running.replay_text.Goals as goal

pub returns-in-Err-clause-failed : goal.returns-in-Err-clause-failed
returns-in-Err-clause-failed g c = λ is. inr (record { same = refl; cause = c.in-Err.ensures.err })

pub returns-clause-done : goal.returns-clause-done
returns-clause-done g c = λ is.
    ran _ _ _ c.begin.new.host _ _ _ c.as_slice.result.now c.in-Ok.begun.0.items c.in-Ok.begun.1
    c.replay_over-ended.result.left c.as_slice.ensures.value c.in-Ok.ensures.ok c.close_store.ensures
    (c.replay_over-ended.ensures.done is)

pub returns-clause-failed : goal.returns-clause-failed
returns-clause-failed g c = λ is.
    let undone : c.replay_over-ended.result.status ≢ 0 = λ zero_is. absurd (omega (arith, is, zero_is)) in
    rw (← c.in-Ok.ensures.silent) (inl (ran _ _ _ c.begin.new.host _ _ _ c.as_slice.result.now c.in-Ok.begun.0.items c.in-Ok.begun.1
    c.replay_over-ended.result.left c.as_slice.ensures.value c.in-Ok.ensures.ok c.close_store.ensures
    (c.replay_over-ended.ensures.undone undone)))

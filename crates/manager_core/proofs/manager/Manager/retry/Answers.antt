use Rattle.std.proofs.Common.{length, inl, inr, sym, ap, ◌∙◌}
use Rattle.manager_core.specs.Outcomes.{came_of}
use Rattle.manager_core.specs.State.{State}
use Rattle.manager_core.proofs.Entered.{told_is}
use Rattle.manager_core.proofs.Facts.{waits_of}
use Rattle.manager_core.proofs.manager.Manager.retry.Goals as goal
use Rattle.manager_core.proofs.manager.Manager.retry.Goals.{in-Waits, in_default}

pub returns-clause-ok : goal.returns-clause-ok
returns-clause-ok g c =
    let came = c.in_ok-ask_again.ensures.ok in
    let retried = came.holds in
    elim c.match-branch-2.branch [
      | in-Waits w ↦ rw (w.result-is, sym (waits_of came.outcome (sym came.came_is ∙ w.in-Waits.is))) retried
      | in_default w ↦
          elim retried.told [
            | inl all ↦
                let told = told_is c.args.self.now c.ask_again.new.self retried.wait.by retried.wait.event came.outcome all
                c.len-place.result (c.len-place.ensures ∙ ap (λ (s : State _). length s.history) c.self.view_is)
                c.self-2.inside.log.entries (ap (λ (s : State _). s.history) c.self-2.view_is) w.outcome_at.result w.outcome_at.ensures in
                rw (w.result-is, told) retried
            | inr on ↦ absurd (w.in_default.not-Waits (came.came_is ∙ ap came_of on.outcome_is))
          ]
    ]

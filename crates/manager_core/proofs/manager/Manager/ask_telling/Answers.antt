use Rattle.std.proofs.Common.{◌≡◌, length, sym, ap, ◌∙◌}
use Rattle.serial_spec.specs.History.{event_of}
use Rattle.manager_core.specs.Outcomes.{came_of}
use Rattle.manager_core.specs.State.{State}
use Rattle.manager_core.proofs.Entered.{told_is}
use Rattle.manager_core.proofs.manager.Manager.ask_telling.Given.{Over}
use Rattle.manager_core.proofs.manager.Manager.ask_telling.Goals as goal
use Rattle.manager_core.proofs.manager.Manager.ask_telling.Goals.{After-outcome_at}

-- the outcome that is told is that of the call
told : (g : Over) (c : After-outcome_at g) → c.outcome_at.result ≡ c.in_ok-ask.ensures.ok.outcome
told g c =
    let came = c.in_ok-ask.ensures.ok in
    told_is c.args.self.now c.ask.new.self c.args.by (event_of c.args.name.now c.args.asked.now) came.outcome came.holds
    c.len-place.result (c.len-place.ensures ∙ ap (λ (s : State _). length s.history) c.self.view_is)
    c.self-2.inside.log.entries (ap (λ (s : State _). s.history) c.self-2.view_is) c.outcome_at.result c.outcome_at.ensures

pub returns-clause-ok : goal.returns-clause-ok
returns-clause-ok g c = rw (told g (goal.at.returns-clause-ok g c).After-outcome_at) c.in_ok-ask.ensures.ok.holds

pub returns-clause-waits : goal.returns-clause-waits
returns-clause-waits g c waits =
    let came = c.in_ok-ask.ensures.ok in
    c.in_ok-ask.ensures.waits (came.came_is ∙ ap came_of (sym (told g (goal.at.returns-clause-waits g c).After-outcome_at) ∙ waits))

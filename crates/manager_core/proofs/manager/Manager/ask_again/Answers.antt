use Rattle.std.proofs.Common.{◌≡◌, is_some, Ok, refl, sym, ap, ◌∙◌}
use Rattle.manager_core.specs.Outcomes.{came_of}
use Rattle.manager_core.specs.declared.outcome.Came.{Came}
use Rattle.manager_core.specs.declared.outcome.Outcome.{Outcome}
use Rattle.manager_core.specs.declared.outcome.Outcome.TheVariants.{Done, Refused, Waits}
use Rattle.manager_core.specs.Calls.{Retried}
use Rattle.manager_core.proofs.Asking.{AskedAgain, IsSettledIn, again_answered, again_ended}
use Rattle.manager_core.proofs.Asking.{again_refused, again_waits, ended, reserved, seen}
use Rattle.manager_core.proofs.Asking.{settled_ready}
use Rattle.manager_core.proofs.Facts.{sound}
use Rattle.manager_core.proofs.Settled.{settled_roomy}
use Rattle.manager_core.proofs.Retrying.{retried, waiting_is, waits_on}
use Rattle.manager_core.proofs.Suspects.{settled_refused}
use Rattle.manager_core.proofs.WaitTables.{waits_as_access}
use Rattle.manager_core.proofs.manager.Manager.ask_again.Given.{Over}
use Rattle.manager_core.proofs.manager.Manager.ask_again.Goals as goal
use Rattle.manager_core.proofs.manager.Manager.ask_again.Goals.{In_ok-attempt}
use Rattle.manager_core.proofs.manager.Manager.ask_again.Goals.{in-Answered, in-Waits, in-Refused}

-- room was made for the step, and the tables were asked, for the access that waits
again : (g : Over) (c : In_ok-attempt g) → AskedAgain g.S.TopStore c.self.inside
    c.reserve_step.new.log c.reserve_step.new.tables c.ask_again.new.self
    c.reserve_step.new.breaker c.unwrap-by.result.0 c.args.name.now c.unwrap-by.result.1
    c.in_ok-attempt.attempt
again g c =
    let log = c.reserve_step.new.log in
    let room = c.in_ok-reserve_step.ensures.room in
    let asked = c.in_ok-attempt.ensures in
    let ready = settled_ready c.self.invariant c.reserve_step.ensures.made in
    let by = c.waiting_access.ensures log.rows log.entries ready.kept.are in
    record {
      reserved = reserved c.self.invariant c.reserve_step.ensures.made room;
      waiting = waiting_is log.rows log.entries ready.kept.allowed c.args.name.now _ _
          (sym by ∙ c.unwrap-by.ensures);
      comes = asked.comes;
      reaches = asked.reaches;
      waits = asked.waits;
      grown = asked.grown;
      marks = c.ask_again.ensures.marks;
    }

pub invariant_of-self : goal.invariant_of-self
invariant_of-self g c = settled_ready c.self.invariant c.reserve_step.ensures.made

pub unwrap-by-requires : goal.unwrap-by-requires
unwrap-by-requires g c =
    let log = c.reserve_step.new.log in
    let made = c.reserve_step.ensures.made in
    let are = (settled_ready c.self.invariant made).kept.are in
    let some = rw (← c.self.view_is, ← made.entries) at c.requires.waits in
    ap is_some (c.waiting_access.ensures log.rows log.entries are)
    ∙ waits_as_access log.entries c.args.name.now ∙ some

pub ask_again-requires-clause-are : goal.ask_again-requires-clause-are
ask_again-requires-clause-are g c =
    (settled_ready c.self.invariant c.reserve_step.ensures.made).kept.are

pub invariant_of-self-in_err-attempt : goal.invariant_of-self-in_err-attempt
invariant_of-self-in_err-attempt g c =
    let ready = settled_ready c.self.invariant c.reserve_step.ensures.made in
    settled_roomy _ _ _ _ _ _ ready _ c.in_err-attempt.ensures.err

pub settle_answered-requires : goal.settle_answered-requires
settle_answered-requires g c =
    let at = (goal.at.settle_answered-requires g c).In_ok-attempt in
    (again_answered (again g at) c.in-Answered.reply c.in-Answered.is).ready

pub refuse-requires-clause-are : goal.refuse-requires-clause-are
refuse-requires-clause-are g c =
    let at = (goal.at.refuse-requires-clause-are g c).In_ok-attempt in
    (again_refused (again g at) c.in-Refused.is).settled.kept.are

-- what each arm leaves
left : (g : Over) (c : goal.Joined-attempt g)
    → (came : Came) × (outcome : Outcome) × (c.match-attempt.result ≡ Ok came) × (came ≡ came_of outcome)
    × IsSettledIn g.S.TopStore c.match-attempt.self-inside
    × Retried (seen c.self.inside) (seen c.match-attempt.self-inside) c.args.name.now outcome
left g c =
    let again = again g (goal.at.returns-clause-ok g c).In_ok-attempt in
    let made = c.reserve_step.ensures.made in
    let is = rw made.entries at again.waiting in
    elim c.match-attempt.branch [
      | in-Answered w ↦
          let entered = again_answered again w.in-Answered.reply w.in-Answered.is in
          let all = ended entered w.settle_answered.ensures w.settle_answered.new.breaker in (
            _,
            Done w.in-Answered.reply,
            w.result-is,
            refl,
            rw w.self-inside-is all.settled,
            rw w.self-inside-is (retried _ _ c.args.name.now _ _ is _ all.answered),
          )
      | in-Waits w ↦
          let same = again_waits again w.in-Waits.is in
          let comes = rw (w.in-Waits.is, made.rows, made.entries) at again.comes in (
            _,
            Waits,
            w.result-is,
            refl,
            rw w.self-inside-is same.settled,
            rw (w.self-inside-is, made.rows, made.entries, same.table)
                (waits_on (seen c.self.inside) c.args.name.now _ _ is comes),
          )
      | in-Refused w ↦
          let end = w.end_wait.ensures in
          let told = w.refuse.ensures in
          let entered = again_ended again w.in-Refused.is told.refusal told.cause
          w.end_wait.new.self end.beside end.waits end.grown in
          let all = ended entered (settled_refused {last = w.refuse.new.log} c.args.name.now c.unwrap-by.result.1 entered.ready told.rows told.entries) c.reserve_step.new.breaker in (
            _,
            Refused told.refusal,
            w.result-is,
            refl,
            rw w.self-inside-is all.settled,
            rw w.self-inside-is (retried _ _ c.args.name.now _ _ is _ all.answered),
          )
    ]

pub invariant_of-self-2 : goal.invariant_of-self-2
invariant_of-self-2 g c = (left g c).4

pub returns-clause-ok : goal.returns-clause-ok
returns-clause-ok g c = let l = left g c in rw (← c.self.view_is) (rw (l.2) (record { outcome = l.1; came_is = l.3; holds = l.5 }))

pub returns-clause-sound : goal.returns-clause-sound
returns-clause-sound g c = let l = left g c in rw (l.2) (sound g.S.TopStore _ _ l.4 refl)

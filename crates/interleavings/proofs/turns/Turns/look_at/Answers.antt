use Rattle.std.proofs.Common.{sym, ap, ◌∙◌}
use Rattle.interleavings.specs.LeftOut.{is_after}
use Rattle.interleavings.specs.Turning.{has_answer}
use Rattle.interleavings.proofs.LeftOut.{one_idle, one_out}
use Rattle.interleavings.proofs.turns.Turns.look_at.Goals as goal

pub returns-in_default-clause-told : goal.returns-in_default-clause-told
returns-in_default-clause-told g c =
    let t = c.args.self.now in
    sym (ap (has_answer t.core.rows t.core.history c.args.session) c.in_default.ensures.none)

pub returns-in_default-clause-left : goal.returns-in_default-clause-left
returns-in_default-clause-left g c =
    let t = c.args.self.now in
    one_idle t.core.rows t.sessions t.core.history c.args.ready.now c.leave_idle.new.self c.args.session c.requires c.in_default.ensures.none
    c.leave_idle.ensures.out c.leave_idle.ensures.begins c.leave_idle.ensures.idle c.leave_idle.ensures.crowd

pub returns-clause-left : goal.returns-clause-left
returns-clause-left g c =
    let t = c.args.self.now in
    one_out t.core.rows t.sessions t.core.history c.args.ready.now c.leave_out.new.self c.args.session c.requires c.is_after.result
    (sym c.can_go_on.ensures ∙ c.if-can_go_on.false) (λ plain. ap is_after c.in-Some.ensures.some.event ∙ sym c.is_after.ensures ∙ plain)
    c.leave_out.ensures.out c.leave_out.ensures.begins c.leave_out.ensures.idle c.leave_out.ensures.crowd

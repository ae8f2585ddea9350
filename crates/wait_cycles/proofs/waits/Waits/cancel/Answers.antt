use Rattle.std.proofs.Common.{ℕ, nat_eq, cond, None, sym, ap, ◌∙◌}
use Rattle.wait_cycles.specs.Waiting.{wait_in}
use Rattle.wait_cycles.proofs.Listed.{without}
use Rattle.wait_cycles.proofs.waits.Waits.cancel.Goals as goal

pub returns-clause-waits : goal.returns-clause-waits
returns-clause-waits c u =
    let some = c.in-Some.ensures.some in
    let r = c.in-Some.record.now in
    let old = c.self.inside.records.waits in
    rw (c.sift.ensures, sym c.self.view_is) (
    without old c.take_out.new.records.waits r.place r.wait c.take_out.ensures.once.0.apart c.take_out.ensures.once.1.apart c.take_out.ensures.taken some.0 u
    ∙ ap (λ (t : ℕ). cond (nat_eq t u) None (wait_in old u)) some.1
    )

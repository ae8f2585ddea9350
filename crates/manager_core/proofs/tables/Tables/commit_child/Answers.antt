use Rattle.std.proofs.Common.{Some, refl}
use Rattle.manager_core.proofs.Looked.{gone_up_stays, seen_apart, seen_named}
use Rattle.manager_core.proofs.tables.Tables.commit_child.Goals as goal

pub returns : goal.returns
returns c =
    rw (← c.self.view_is)
    (λ t named.
    record {
      same_names = c.commit_at.ensures.names;
      status = c.commit_at.ensures.committed t named;
      marks = refl;
      up = c.commit_child.ensures;
      waits = refl;
    })

pub invariant_of-self : goal.invariant_of-self
invariant_of-self c =
    let m = c.self.inside in
    let new = c.commit_child.new.self.locks in
    let up = gone_up_stays m.tree m.estate.locks new c.args.child (Some c.args.parent) c.commit_child.ensures.modes in
    seen_named m.tree c.commit_at.new.self new m.waits.waits c.forget_under.new.self c.commit_at.ensures.names
    (seen_apart m.tree m.estate.locks new m.waits.waits m.waits.waits m.looks c.forget_under.new.self c.args.child up (λ n w apart is. is) c.forget_under.ensures c.self.invariant)

use Rattle.std.proofs.Common.{None, option_copied, ap, sym, ◌∙◌}
use Rattle.manager_core.proofs.Looked.{seen_ended, seen_unless}
use Rattle.manager_core.proofs.tables.Tables.end_wait.Goals as goal
use Rattle.manager_core.proofs.tables.Tables.end_wait.Goals.{in-Some, in_default}

pub invariant_of-self : goal.invariant_of-self
invariant_of-self c =
    let m = c.self.inside in
    let n = c.number_near-txn.result in
    elim c.match-of.branch [
      | in-Some w ↦
          let sets = rw w.self-inside-is at c.cancel.ensures.waits in
          rw w.self-inside-is
          (seen_ended m.tree m.estate.locks m.waits.waits c.cancel.new.self.waits n None sets m.looks w.forget.new.self w.in-Some.wait.now (sym w.in-Some.ensures) w.forget.ensures c.self.invariant)
      | in_default w ↦
          let sets = rw w.self-inside-is at c.cancel.ensures.waits in
          rw w.self-inside-is
          (seen_unless m.tree m.estate.locks m.waits.waits c.cancel.new.self.waits n None sets m.looks (sym c.of.ensures ∙ ap option_copied w.in_default.is) c.self.invariant)
    ]

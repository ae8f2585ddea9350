use Rattle.std.proofs.Common.{◌∙◌, ℕ, ap}
use Rattle.tree_pictures.specs.Scale.{product}
use Rattle.tree_pictures.proofs.Parts.{next_time, times_none}
use Rattle.tree_pictures.proofs.frame.put_times_to.Goals as goal

pub loop-tick-init : goal.loop-tick-init
loop-tick-init c = times_none c.args.scale.now c.args.out.now.items

pub loop-tick-preserved : goal.loop-tick-preserved
loop-tick-preserved c =
    let tick = c.loop-tick.tick in
    next_time c.args.scale.now c.args.out.now.items tick c.saturating_mul.result c.loop-tick.invariant c.in_ok-put_time_if.ensures (c.saturating_mul.ensures ∙ ap (λ (s : ℕ). product s tick) c.step_of-step.ensures)

use Rattle.std.proofs.Common.{take, get_or}
use Rattle.std.proofs.lemmas.Option.{slice_get-get_or}
use Rattle.serial_spec.proofs.Exports.{take_next}
use Rattle.interleavings.proofs.Schedules.{list_more, list_none}
use Rattle.interleavings.proofs.schedule.run_list.Goals as goal

pub loop-place-init : goal.loop-place-init
loop-place-init g c = list_none g.S.TopStore c.args.turns.now

pub loop-place-preserved : goal.loop-place-preserved
loop-place-preserved g c =
    let xs = c.args.schedule.now in
    let i = c.loop-place.place in
    rw (take_next xs i (get_or xs i 0) (slice_get-get_or xs i 0 c.loop-place-test.true))
    (list_more g.S.TopStore (take i xs) (get_or xs i 0) c.in_ok-step.field-0 c.args.turns.now c.loop-place.turns c.step.new.self c.loop-place.invariant c.in_ok-step.ensures.ok)

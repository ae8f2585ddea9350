use Rattle.std.proofs.Common.{◌∙◌, SFits, w64, ap, arith}
use Rattle.std.proofs.lemmas.Int.{to_z-of_z}
use Rattle.std.specs.Option.{option_map}
use Rattle.serial_spec.specs.Rows.{value_in}
use Rattle.serial_spec.specs.Serial.{put}
use Rattle.durable_top.proofs.Greatest.{renumbered_more}
use Rattle.durable_top.proofs.numbers.renumber.Goals as goal

pub loop-change-preserved : goal.loop-change-preserved
loop-change-preserved c =
    let fits : SFits w64 c.args.number = c.ranges.number in
    let d = c.change-item.result in
    let was = c.loop-change.invariant.1 in
    let before = simp to_z-of_z at was in
    let made = c.put_reserved.ensures.put in
    let here = simp to_z-of_z at made in (
      omega (arith, c.loop-change.invariant.0, c.put_reserved.ensures.room),
      simp to_z-of_z (here ∙ ap (λ m. put m d.key (option_map (λ _. c.args.number) d.value)) before ∙ renumbered_more c.args.number c.args.changes.now c.loop-change.change-index d (value_in c.args.numbers.now.entries) c.loop-change-test.true c.change-item.is),
    )

use Rattle.std.proofs.Common.{◌≡◌, ℕ, ◌+◌, List, drop, ◌∙◌, arith}
use Rattle.txn_names.specs.Path.{meet}
use Rattle.txn_names.specs.Reading.{pieces}
use Rattle.txn_names.proofs.Meets.{met_other, met_slash}
use Rattle.txn_names.proofs.name.Name.meet_depth.Goals as goal
use Rattle.txn_names.proofs.name.Name.meet_depth.Goals.{then-ours-at-eq47, else-ours-at-eq47}

pub loop-at-preserved : goal.loop-at-preserved
loop-at-preserved c =
    let xs : List ℕ = c.spelled-ours.result.now in
    let ys : List ℕ = c.spelled-theirs.result.now in
    let k : ℕ = c.loop-at.at in
    let i = c.loop-at.invariant in
    let rest : ℕ = meet (pieces (drop (k + 1) xs)) (pieces (drop (k + 1) ys)) in
    elim c.if-ours-at-eq47.branch [
      | then-ours-at-eq47 w ↦
          let step : meet (pieces (drop k xs)) (pieces (drop k ys)) ≡ 1 + rest = met_slash xs ys k c.loop-at-test.true c.if-at-theirs.true c.if-ours-at.true w.if-ours-at-eq47.true in
          record {
            ours = omega (arith, c.loop-at-test.true);
            theirs = omega (arith, c.if-at-theirs.true);
            few = omega (arith, i.few, w.met-is);
            told = i.told ∙ omega (arith, step, w.met-is);
          }
      | else-ours-at-eq47 w ↦
          let step : meet (pieces (drop k xs)) (pieces (drop k ys)) ≡ rest = met_other xs ys k c.loop-at-test.true c.if-at-theirs.true c.if-ours-at.true w.if-ours-at-eq47.false in
          record {
            ours = omega (arith, c.loop-at-test.true);
            theirs = omega (arith, c.if-at-theirs.true);
            few = omega (arith, i.few, w.met-is);
            told = i.told ∙ omega (arith, step, w.met-is);
          }
    ]

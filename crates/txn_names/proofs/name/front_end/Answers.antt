use Rattle.std.proofs.Common.{◌≡◌, ℕ, ◌-◌, ◌<◌, List, length, take, arith}
use Rattle.txn_names.specs.Reading.{pieces}
use Rattle.txn_names.proofs.Pieces.{fewer_at_slash, front_at_slash, past_first, same_before_other}
use Rattle.txn_names.proofs.name.front_end.Goals as goal

pub loop-left-preserved-then-bytes-end-eq47 : goal.loop-left-preserved-then-bytes-end-eq47
loop-left-preserved-then-bytes-end-eq47 c =
    let bs : List ℕ = c.args.bytes.now in
    let e : ℕ = c.loop-left.end in
    let l : ℕ = c.loop-left.left in
    let i = c.loop-left.invariant in
    let more : 1 < l = omega (arith, c.requires.some, c.loop-left-test.true) in
    let few : length (pieces (take (e - 1) bs)) ≡ l - 1 = fewer_at_slash bs e l i.within i.many more c.if-bytes-end-eq47.true in
    record {
      within = omega (arith, i.within);
      many = few;
      least = omega (arith, c.loop-left-test.true);
      front = λ same. front_at_slash bs e c.args.depth (past_first bs e (omega (arith, i.many, more))) i.within c.if-bytes-end-eq47.true (omega (arith, few, same));
    }

pub loop-left-preserved : goal.loop-left-preserved
loop-left-preserved c =
    let bs : List ℕ = c.args.bytes.now in
    let i = c.loop-left.invariant in
    let more : 1 < c.loop-left.left = omega (arith, c.requires.some, c.loop-left-test.true) in
    record {
      within = omega (arith, i.within);
      many = same_before_other bs c.loop-left.end c.loop-left.left i.within i.many more c.if-bytes-end-eq47.false;
      least = i.least;
      front = λ same. absurd (omega (arith, same, c.loop-left-test.true));
    }

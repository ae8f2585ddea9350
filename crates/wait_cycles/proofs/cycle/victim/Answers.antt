use Rattle.std.proofs.Common.{◌≡◌, ◌<◌, ◌≤◌, Some, sym, arith, rules}
use Rattle.std.specs.Prelude.{slice_get}
use Rattle.std.proofs.lemmas.Option.{slice_get_within}
use Rattle.wait_cycles.proofs.Lists.{item_at, member_at, place_of, greatest_next}
use Rattle.wait_cycles.proofs.cycle.victim.Goals as goal
use Rattle.wait_cycles.proofs.cycle.victim.Goals.{then-gt, else-gt}

pub loop-member-preserved : goal.loop-member-preserved
loop-member-preserved c =
    let i = c.loop-member.invariant in
    let members = c.members-members.result.now in
    let n = c.loop-member.member-index in
    let x = c.member-item.result in
    let at : slice_get members n ≡ Some x = item_at members n x c.loop-member-test.true c.member-item.is in
    elim c.if-gt.branch [
      | then-gt w ↦
          let more : c.loop-member.last < x = search rules in
          rw w.last-is (member_at x members n at, greatest_next members n x c.loop-member.last x at (omega (arith, more)) (omega arith) i.1)
      | else-gt w ↦
          let less : x ≤ c.loop-member.last = search rules in
          rw w.last-is (i.0, greatest_next members n x c.loop-member.last c.loop-member.last at (omega arith) less i.1)
    ]

pub returns : goal.returns
returns c =
    let i = c.loop-member.invariant in
    rw (sym c.members-members.ensures.members) (record {
      member = i.0;
      others = λ b e.
          let p = place_of b c.members-members.result.now e in
          let within = slice_get_within c.members-members.result.now p.0 b p.1 in
          i.1 p.0 b (omega (arith, within, c.loop-member-test.false)) p.1;
    })

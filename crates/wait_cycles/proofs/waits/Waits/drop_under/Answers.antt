use Rattle.std.proofs.Common.{◌≡◌, ◌+◌, ◌-◌, ℕ, sym, subst, ◌∙◌, arith}
use Rattle.std.specs.Prelude.{slice_get}
use Rattle.std.proofs.lemmas.Option.{slice_get_within}
use Rattle.wait_cycles.specs.Waiting.{is_under}
use Rattle.wait_cycles.proofs.Listed.{AreLeft, all_left, left_taken, left_there, none_passes, not_under, one_fewer, under_there}
use Rattle.wait_cycles.proofs.waits.Waits.drop_under.Goals as goal

pub loop-place-init : goal.loop-place-init
loop-place-init c =
    let old = c.self.inside.records.waits in
    let test = is_under c.args.tree.now c.args.txn in
    (subst (λ (n : ℕ). AreLeft test n old old) (sym c.len-place.ensures.len) (all_left test old), omega arith, c.self.invariant)

pub take_out-requires-clause-within : goal.take_out-requires-clause-within
take_out-requires-clause-within c =
    let w = under_there c.args.tree.now c.args.txn _ (sym c.is_under_at.ensures ∙ c.if-is_under_at.true) in
    slice_get_within _ _ w.0 w.1

pub loop-place-preserved : goal.loop-place-preserved
loop-place-preserved c =
    let i = c.loop-place.invariant in
    let tree = c.args.tree.now in
    let t = c.args.txn in
    let old = c.self.inside.records.waits in
    let now = c.loop-place.self-inside.records.waits in
    let p = c.loop-place.place - 1 in
    let next : p + 1 ≡ c.loop-place.place = omega arith in
    (left_there (is_under tree t) old now c.loop-place.place i.0 p next (not_under tree t (slice_get now p) (sym c.is_under_at.ensures ∙ c.if-is_under_at.false)), i.1, i.2)

pub loop-place-preserved-then-is_under_at : goal.loop-place-preserved-then-is_under_at
loop-place-preserved-then-is_under_at c =
    let i = c.loop-place.invariant in
    let tree = c.args.tree.now in
    let t = c.args.txn in
    let old = c.self.inside.records.waits in
    let now = c.loop-place.self-inside.records.waits in
    let p = c.loop-place.place - 1 in
    let next : p + 1 ≡ c.loop-place.place = omega arith in
    let w = under_there tree t (slice_get now p) (sym c.is_under_at.ensures ∙ c.if-is_under_at.true) in
    let once = c.take_out.ensures.once in
    let room = c.take_out.ensures.room in
    let more = i.1 in
    (left_taken (is_under tree t) old now c.loop-place.place i.0 p next c.take_out.new.records.waits w.0 once.0.apart once.1.apart c.take_out.ensures.taken w.1 w.2, omega (arith, room, more), c.take_out.ensures.marked)

pub returns-clause-waits : goal.returns-clause-waits
returns-clause-waits c =
    let left = c.loop-place.invariant.0 in
    let test = is_under c.args.tree.now c.args.txn in
    let old = c.self.inside.records.waits in
    let new = c.loop-place.self-inside.records.waits in
    let done : c.loop-place.place ≡ 0 = omega arith in
    rw (c.sift.ensures, sym c.self.view_is) (none_passes test old new (subst (λ (n : ℕ). AreLeft test n old new) done left))

pub returns-clause-len : goal.returns-clause-len
returns-clause-len c = rw (c.sift.ensures, sym c.self.view_is) c.loop-place.invariant.0.len

pub returns-clause-fewer : goal.returns-clause-fewer
returns-clause-fewer c =
    let left = c.loop-place.invariant.0 in
    let test = is_under c.args.tree.now c.args.txn in
    let old = c.self.inside.records.waits in
    let new = c.loop-place.self-inside.records.waits in
    let done : c.loop-place.place ≡ 0 = omega arith in
    rw (c.sift.ensures, sym c.self.view_is) (one_fewer test old new (subst (λ (n : ℕ). AreLeft test n old new) done left))

pub returns-clause-room : goal.returns-clause-room
returns-clause-room c = rw (c.sift.ensures, sym c.self.view_is) c.loop-place.invariant.1

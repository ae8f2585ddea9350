use Rattle.std.proofs.Common.{◌<◌, ℕ, List, Option, length, ap, sym, subst, arith}
use Rattle.slab.specs.Slab.{get, slab_len}
use Rattle.wait_cycles.proofs.Stored.{stored_made}
use Rattle.wait_cycles.proofs.records.Records.reserve.Goals as goal

pub invariant_of-self-in_err-make : goal.invariant_of-self-in_err-make
invariant_of-self-in_err-make c =
    let old = c.self.inside in
    let rest = c.reserve.ensures.rest_kept in
    let same = c.reserve-then-self-additional.ensures.items in
    let room = c.self.invariant.1 in
    let len = ap slab_len rest in
    let kept = c.make.ensures.kept in
    let more = c.reserve.ensures.capacity in
    let keys_more = c.reserve-then-self-additional.ensures.capacity in
    rw same (
      stored_made old.slab _ old.keys.items old.table.items _ c.self.invariant.0 (λ k. ap (λ s. get s k) rest) len kept c.make.ensures.none (λ some. room.made (omega (arith, some))),
      record {
        in_slab = omega (arith, len, more, room.in_slab);
        in_keys = omega (arith, keys_more, room.in_keys);
        made = λ some. let was = room.made some in subst (λ (ts : List (Option ℕ)). 0 < length ts) (sym (kept was)) was;
      },
    )

pub invariant_of-self-then-self-additional : goal.invariant_of-self-then-self-additional
invariant_of-self-then-self-additional c =
    let old = c.self.inside in
    let rest = c.reserve.ensures.rest_kept in
    let same = c.reserve-then-self-additional.ensures.items in
    let room = c.self.invariant.1 in
    let len = ap slab_len rest in
    let in_slab = c.in_ok-reserve.ensures.room in
    let in_keys = c.in_ok-reserve-2.ensures.ok in
    let long = c.reserve-then-self-additional.new.self.ok.0 in (
      rw same (stored_made old.slab _ old.keys.items old.table.items _ c.self.invariant.0 (λ k. ap (λ s. get s k) rest) len c.make.ensures.kept c.make.ensures.none (λ some. room.made (omega (arith, some)))),
      record {
        in_slab = in_slab;
        in_keys = omega (arith, in_keys, long);
        made = λ some. c.in_ok-make.ensures.ok;
      },
    )

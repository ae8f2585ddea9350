use Rattle.std.proofs.Common.{◌≡◌, ◌+◌, ℕ, length, is_some, None, sym, ap, ◌∙◌, refl, arith}
use Rattle.std.specs.Prelude.{slice_get}
use Rattle.std.proofs.lemmas.List.{length-set}
use Rattle.slab.specs.Slab.{slab_len}
use Rattle.wait_cycles.proofs.Listed.{once}
use Rattle.wait_cycles.proofs.Stored.{all_apart, at_place, key_last, record_at, taken_out}
use Rattle.wait_cycles.proofs.records.Records.take.Goals as goal

pub remove-record-requires : goal.remove-record-requires
remove-record-requires c =
    let old = c.self.inside in
    let place = at_place old.slab old.keys.items c.args.place c.swap_remove-key.result (rw (sym c.self.view_is) at c.requires) c.swap_remove-key.ensures.value in
    let r = record_at old.slab old.keys.items old.table.items c.self.invariant.0 c.args.place c.swap_remove-key.result place in
    ap is_some r.1

pub settle-requires : goal.settle-requires
settle-requires c =
    let old = c.self.inside in
    let left = c.swap_remove-key.new.self in
    let s = c.swap_remove-key.ensures in
    let fewer : length left.items + 1 ≡ old.keys.len = ap (λ (n : ℕ). n + 1) (sym left.ok.0) ∙ s.len in
    rw c.as_slice.ensures.value (
    key_last old.slab old.keys.items old.table.items c.self.invariant.0 c.args.place c.swap_remove-key.result c.remove-record.result (rw (sym c.self.view_is) at c.requires) s.value
    c.remove-record.ensures.value left.items old.keys.len old.keys.ok.0 fewer s.by_index c.remove-record.new.self c.remove-record.ensures.updates (slice_get left.items c.args.place) refl
    )

pub invariant_of-self : goal.invariant_of-self
invariant_of-self c =
    let old = c.self.inside in
    let left = c.swap_remove-key.new.self in
    let s = c.swap_remove-key.ensures in
    let r = c.remove-record.ensures in
    let same = c.as_slice.ensures.value in
    let fewer : length left.items + 1 ≡ old.keys.len = ap (λ (n : ℕ). n + 1) (sym left.ok.0) ∙ s.len in
    let less : slab_len c.settle.new.slab + 1 ≡ slab_len old.slab = ap (λ (n : ℕ). n + 1) c.settle.ensures.len ∙ r.len in
    let out = taken_out old.slab old.keys.items old.table.items c.self.invariant.0 c.args.place c.swap_remove-key.result c.remove-record.result (rw (sym c.self.view_is) at c.requires) s.value
    r.value left.items old.keys.len old.keys.ok.0 fewer s.by_index c.remove-record.new.self c.settle.new.slab r.updates (rw same at c.settle.ensures.moved) (rw same at c.settle.ensures.others) less in
    let room = c.self.invariant.1 in
    let capacity = s.capacity in
    let wide = length-set old.table.items c.remove-record.result.wait.txn None in
    rw c.put_key.ensures (
      out.0,
      record {
        in_slab = let in_slab = room.in_slab in let a = c.settle.ensures.capacity in let b = r.capacity in omega (arith, less, in_slab, a, b);
        in_keys = let in_keys = room.in_keys in let long = old.keys.ok.0 in omega (arith, fewer, in_keys, long, capacity);
        made = λ some. let long = old.keys.ok.0 in let was = room.made (omega (arith, some, fewer, long)) in omega (arith, was, wide);
      },
    )

pub returns-clause-taken : goal.returns-clause-taken
returns-clause-taken c =
    let old = c.self.inside in
    let left = c.swap_remove-key.new.self in
    let s = c.swap_remove-key.ensures in
    let r = c.remove-record.ensures in
    let same = c.as_slice.ensures.value in
    let fewer : length left.items + 1 ≡ old.keys.len = ap (λ (n : ℕ). n + 1) (sym left.ok.0) ∙ s.len in
    let less : slab_len c.settle.new.slab + 1 ≡ slab_len old.slab = ap (λ (n : ℕ). n + 1) c.settle.ensures.len ∙ r.len in
    let out = taken_out old.slab old.keys.items old.table.items c.self.invariant.0 c.args.place c.swap_remove-key.result c.remove-record.result (rw (sym c.self.view_is) at c.requires) s.value
    r.value left.items old.keys.len old.keys.ok.0 fewer s.by_index c.remove-record.new.self c.settle.new.slab r.updates (rw same at c.settle.ensures.moved) (rw same at c.settle.ensures.others) less in
    rw (sym c.self.view_is) out.1

pub returns-clause-once : goal.returns-clause-once
returns-clause-once c =
    let old = c.self.inside in
    let left = c.swap_remove-key.new.self in
    let s = c.swap_remove-key.ensures in
    let r = c.remove-record.ensures in
    let same = c.as_slice.ensures.value in
    let fewer : length left.items + 1 ≡ old.keys.len = ap (λ (n : ℕ). n + 1) (sym left.ok.0) ∙ s.len in
    let less : slab_len c.settle.new.slab + 1 ≡ slab_len old.slab = ap (λ (n : ℕ). n + 1) c.settle.ensures.len ∙ r.len in
    let out = taken_out old.slab old.keys.items old.table.items c.self.invariant.0 c.args.place c.swap_remove-key.result c.remove-record.result (rw (sym c.self.view_is) at c.requires) s.value
    r.value left.items old.keys.len old.keys.ok.0 fewer s.by_index c.remove-record.new.self c.settle.new.slab r.updates (rw same at c.settle.ensures.moved) (rw same at c.settle.ensures.others) less in
    (rw (sym c.self.view_is) (once _ _ (all_apart old.slab old.keys.items old.table.items c.self.invariant.0)), once _ _ (all_apart _ _ _ out.0))

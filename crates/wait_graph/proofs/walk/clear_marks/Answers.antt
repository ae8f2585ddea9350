use Rattle.std.proofs.Common.{◌+◌, false, length, ap, ◌∙◌, arith}
use Rattle.std.specs.Prelude.{slice_index_or}
use Rattle.std.proofs.lemmas.List.{length-append}
use Rattle.wait_graph.proofs.Walking.{none_pushed}
use Rattle.wait_graph.proofs.walk.clear_marks.Goals as goal

pub loop-init : goal.loop-init
loop-init c = record {
  none = λ place. ap (λ marks. slice_index_or marks place false) c.clear.ensures.items;
  len = ap length c.clear.ensures.items;
  capacity = omega arith;
}

pub push_reserved-requires : goal.push_reserved-requires
push_reserved-requires c = omega (arith, c.loop.marks.ok.0, c.loop.invariant.len, c.loop.invariant.capacity, c.loop-test.true, c.len-end.ensures.len, c.requires, c.clear.ensures.capacity)

pub loop-preserved : goal.loop-preserved
loop-preserved c = record {
  none = λ place. ap (λ marks. slice_index_or marks place false) c.push_reserved.ensures.items ∙ none_pushed c.loop.marks.items c.loop.invariant.none place;
  len = ap length c.push_reserved.ensures.items ∙ length-append c.loop.marks.items _ ∙ ap (λ n. n + 1) c.loop.invariant.len;
  capacity = omega (arith, c.loop.invariant.capacity, c.push_reserved.ensures.capacity);
}

pub returns-clause-none : goal.returns-clause-none
returns-clause-none c = c.loop.invariant.none

pub returns-clause-len : goal.returns-clause-len
returns-clause-len c = omega (arith, c.loop.invariant.len, c.loop-test.false, c.loop.auto.counter-end, c.len-end.ensures.len)

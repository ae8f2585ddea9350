use Rattle.std.proofs.Common.{length, ap, sym, ◌∙◌}
use Rattle.std.specs.List.{IsDistinct}
use Rattle.txn_cells.proofs.key_lists.KeyList.new.Goals as goal

pub invariant_of-result : goal.invariant_of-result
unfolding IsDistinct
invariant_of-result c = (rw c.new.ensures.items tt, ap length c.new-2.ensures.items ∙ sym (ap length c.new.ensures.items))

use Rattle.std.proofs.Common.{sym, ◌∙◌}
use Rattle.txn_tree.proofs.Climbing.{active_below_root, active_by_parent}
use Rattle.txn_tree.proofs.tree.Tree.is_active_at.Goals as goal

pub loop-above-preserved : goal.loop-above-preserved
loop-above-preserved c =
    c.loop-above.invariant
    ∙ active_by_parent c.args.self.now c.is_live_at.ensures.upward c.loop-above.above c.in-Some.parent
    (sym c.is_live_at.ensures.live ∙ c.loop-above-test.true) c.in-Some.ensures.named

pub returns-in-None : goal.returns-in-None
returns-in-None c =
    sym (c.loop-above.invariant
    ∙ active_below_root c.args.self.now c.loop-above.above (sym c.is_live_at.ensures.live ∙ c.loop-above-test.true)
    (sym c.in-None.ensures.some))

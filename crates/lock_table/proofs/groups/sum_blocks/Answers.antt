use Rattle.std.proofs.Common.{◌≤◌, length, sym, ◌∙◌, true≢false, arith, rules}
use Rattle.std.proofs.lemmas.Bool.{false≢true}
use Rattle.txn_names.proofs.Exports.{dot_behind}
use Rattle.lock_table.proofs.Bare.{no_sum_blocks}
use Rattle.lock_table.proofs.groups.sum_blocks.Goals as goal

pub returns : goal.returns
returns c = (
  λ e. absurd (false≢true e),
  λ b.
      let dot = dot_behind b.0 c.args.key.now 0 b.1 in
      let far : length c.args.key.now ≤ c.loop-place.place = search rules in
      absurd (true≢false (sym b.3 ∙ c.loop-place.invariant b.0 b.1 b.2 (omega (arith, dot.0, far)))),
)

pub returns-then-is_empty : goal.returns-then-is_empty
returns-then-is_empty c = (
  λ e. absurd (false≢true e),
  λ b. absurd (no_sum_blocks c.args.tree.now c.args.sums.now c.args.txn c.args.key.now (c.is_empty.ensures.0 c.if-is_empty.true) c.args.holder b),
)

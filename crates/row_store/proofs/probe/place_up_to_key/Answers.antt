use Rattle.std.proofs.Common.{not, is_gt, refl, ap, arith}
use Rattle.row_store.proofs.Firsts.{none_above}
use Rattle.row_store.proofs.probe.place_up_to_key.Goals as goal

pub returns-then-is_empty : goal.returns-then-is_empty
returns-then-is_empty c = record {
  within = omega arith;
  before = λ k h. ap (λ r. not (is_gt r)) (none_above c.args.order _ c.args.key.now (c.if-is_empty.ensures.0 refl));
  after = λ k h q. absurd (omega arith);
}

use Rattle.std.proofs.Common.{None, cond, refl, ap, ◌∙◌}
use Rattle.std.proofs.lemmas.Bool.{eq-eqb}
use Rattle.wait_cycles.specs.Waiting.{wait_of}
use Rattle.table_tests.proofs.tools.add_once.Goals as goal

pub add-requires : goal.add-requires
add-requires c =
    let t = c.args.wait.now.txn in
    c.cancel.ensures.waits t ∙ ap (λ b. cond b None (wait_of c.args.waits.now t)) (eq-eqb t t refl)

pub add_sum-requires : goal.add_sum-requires
add_sum-requires c =
    let t = c.args.wait.now.txn in
    c.cancel.ensures.waits t ∙ ap (λ b. cond b None (wait_of c.args.waits.now t)) (eq-eqb t t refl)

use Rattle.std.proofs.Common.{arith}
use Rattle.std.proofs.lemmas.Result.{IfOk-weaker, IfErr-weaker}
use Rattle.sqlite.specs.Held.{state}
use Rattle.sqlite.specs.State.{HasCleanDisk}
use Rattle.sql_store.proofs.load.fetch.Goals as goal

pub returns-clause-asked : goal.returns-clause-asked
returns-clause-asked g c clean =
    let was : HasCleanDisk (state g.S.Store c.probe.new.conn) = omega (arith, c.select.ensures.survives.clean, clean) in
    IfOk-weaker c.select.result _ _ (λ rows h. (c.probe.new.conn, c.in_ok-probe.ensures.open was, h)) (c.select.ensures.asked clean)

pub returns-clause-refused : goal.returns-clause-refused
returns-clause-refused g c clean =
    let was : HasCleanDisk (state g.S.Store c.probe.new.conn) = omega (arith, c.select.ensures.survives.clean, clean) in
    IfErr-weaker c.select.result _ _ (λ e h refused. (c.probe.new.conn, c.in_ok-probe.ensures.open was, h)) (c.select.ensures.refused clean)

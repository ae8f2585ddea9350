use Rattle.std.proofs.Common.{◌≡◌, ◌∙◌, sym, arith}
use Rattle.sqlite.specs.Held.{state}
use Rattle.sqlite.specs.State.{HasCleanDisk}
use Rattle.durable_top.specs.declared.store.StoreFault.TheVariants.{Failed}
use Rattle.sql_store.proofs.Causes.{failed_later}
use Rattle.sql_store.proofs.Spared.{spares_then}
use Rattle.sql_store.proofs.commit.commit_none.Goals as goal

pub returns-in-Err-clause-cause : goal.returns-in-Err-clause-cause
returns-in-Err-clause-cause g c clean is =
    let was : HasCleanDisk (state g.S.Store c.probe.new.conn) = omega (arith, c.settle.ensures.survives.clean, clean) in
    let failed : c.settle.result ≡ Failed = cc in
    failed_later g.S.Store c.args.conn.now c.probe.new.conn c.settle.new.conn _ _ c.fault_of.result c.probe.ensures.survives was c.settle.ensures.survives
    (λ told. c.in-Err.ensures.cause was (sym c.fault_of.ensures ∙ told)) (c.settle.ensures.cause clean failed)

pub returns-in-Err-clause-spared : goal.returns-in-Err-clause-spared
returns-in-Err-clause-spared g c clean settled =
    let was : HasCleanDisk (state g.S.Store c.probe.new.conn) =
    omega (arith, c.settle.ensures.survives.clean, clean) in
    spares_then _ _ _ settled (c.probe.ensures.spared was settled) (c.settle.ensures.spared clean)

use Rattle.std.proofs.Common.{[]}
use Rattle.std.proofs.lemmas.Result.{IfOk-weaker, IfErr-weaker}
use Rattle.sqlite.specs.Held.{state}
use Rattle.sql_store.proofs.Loads.{loads, same_commit, query_keeps, reads_only}
use Rattle.sql_store.proofs.Steps.{at_both, ok_from}
use Rattle.sql_store.specs.Load.{load_text}
use Rattle.sql_store.proofs.Causes.{query_caused}
use Rattle.sql_store.proofs.Spared.{same_spares, query_spares}
use Rattle.sql_store.proofs.Bare.{shown_same, load_mute}
use Rattle.sql_store.proofs.statements.select.Goals as goal

pub returns-clause-rows : goal.returns-clause-rows
returns-clause-rows g c clean has =
    IfOk-weaker c.query_all.result _ _ (λ rows h. loads (state g.S.Store c.args.conn.now) (state g.S.Store c.query_all.new.self) rows.items has h) (c.query_all.ensures.ok clean)

pub returns-clause-open : goal.returns-clause-open
returns-clause-open g c clean =
    ok_from c.query_all.result _ (λ rows h. shown_same load_text load_mute (state g.S.Store c.args.conn.now) (state g.S.Store c.query_all.new.self) rows.items h) (c.query_all.ensures.ok clean)

pub returns-clause-kept : goal.returns-clause-kept
returns-clause-kept g c clean =
    at_both c.query_all.result _ _ _ (λ rows h. same_commit (state g.S.Store c.args.conn.now) (state g.S.Store c.query_all.new.self) (shown_same load_text load_mute (state g.S.Store c.args.conn.now) (state g.S.Store c.query_all.new.self) rows.items h))
    (λ e h. query_keeps (state g.S.Store c.args.conn.now) (state g.S.Store c.query_all.new.self) load_text [] e h) (c.query_all.ensures.ok clean) (c.query_all.ensures.err clean)

pub returns-clause-survives : goal.returns-clause-survives
returns-clause-survives g c = reads_only (state g.S.Store c.args.conn.now) (state g.S.Store c.query_all.new.self) c.query_all.ensures.survives

pub returns-clause-cause : goal.returns-clause-cause
returns-clause-cause g c clean =
    IfErr-weaker c.query_all.result _ _ (λ e h. query_caused load_text [] (state g.S.Store c.args.conn.now) (state g.S.Store c.query_all.new.self) e h) (c.query_all.ensures.err clean)

pub returns-clause-spared : goal.returns-clause-spared
returns-clause-spared g c clean settled =
    at_both c.query_all.result _ _ _ (λ rows h. same_spares (state g.S.Store c.args.conn.now) (state g.S.Store c.query_all.new.self) (shown_same load_text load_mute (state g.S.Store c.args.conn.now) (state g.S.Store c.query_all.new.self) rows.items h))
    (λ e h. query_spares (state g.S.Store c.args.conn.now) (state g.S.Store c.query_all.new.self) load_text [] e settled h) (c.query_all.ensures.ok clean) (c.query_all.ensures.err clean)

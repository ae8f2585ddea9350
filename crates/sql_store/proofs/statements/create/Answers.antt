use Rattle.std.proofs.Common.{[], ◌≡◌, Err, rules}
use Rattle.sqlite.specs.Held.{state}
use Rattle.sql_store.proofs.Texts.{create_text}
use Rattle.sql_store.proofs.Steps.{on_by}
use Rattle.sql_store.proofs.Creates.{makes_new, new_again}
use Rattle.sql_store.proofs.Answering.{ran, failed}
use Rattle.sql_store.proofs.statements.create.Goals as goal

pub returns-clause-on : goal.returns-clause-on
returns-clause-on g c = on_by create_text [] (state g.S.Store c.args.tx.now.conn.now) (state g.S.Store c.execute.new.self.conn.now) c.in_ok-execute.field-0 c.in_ok-execute.ensures.runs

pub returns-clause-made : goal.returns-clause-made
returns-clause-made g c clean inside has = makes_new (state g.S.Store c.args.tx.now.conn.now) (state g.S.Store c.execute.new.self.conn.now) c.in_ok-execute.field-0 has (c.in_ok-execute.ensures.runs clean inside).0

pub returns-clause-both : goal.returns-clause-both
returns-clause-both g c clean inside has = (new_again (state g.S.Store c.args.tx.now.conn.now) (state g.S.Store c.execute.new.self.conn.now) c.in_ok-execute.field-0 has (c.in_ok-execute.ensures.runs clean inside).0).0.now_is

pub returns-clause-answers : goal.returns-clause-answers
returns-clause-answers g c = ran g.S.Store create_text [] c.args.tx.now.conn.now c.execute.new.self.conn.now c.in_ok-execute.field-0 c.in_ok-execute.ensures.runs c.execute.ensures.survives

pub returns-in_err-execute-clause-answers : goal.returns-in_err-execute-clause-answers
returns-in_err-execute-clause-answers g c =
    let e = c.in_err-execute.field-0.0 in
    let same : c.from_residual.result ≡ Err e = search rules in
    rw same (failed g.S.Store create_text [] c.args.tx.now.conn.now c.execute.new.self.conn.now e c.in_err-execute.ensures.runs c.execute.ensures.survives)

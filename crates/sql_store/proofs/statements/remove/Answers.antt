use Rattle.std.proofs.Common.{[], ◌∷◌, ◌≡◌, Err, rules}
use Rattle.sqlite.specs.declared.types.Value.TheVariants.{Text}
use Rattle.sqlite.specs.Held.{state}
use Rattle.sql_store.proofs.Texts.{delete_text}
use Rattle.sql_store.proofs.Deletes.{removes}
use Rattle.sql_store.proofs.Answering.{ran, failed}
use Rattle.sql_store.proofs.statements.remove.Goals as goal

pub returns-clause-made : goal.returns-clause-made
returns-clause-made g c clean inside =
    removes (state g.S.Store c.args.tx.now.conn.now) (state g.S.Store c.execute.new.self.conn.now) c.args.key.now c.in_ok-execute.field-0 (rw c.of_key.ensures at (c.in_ok-execute.ensures.runs clean inside))

pub returns-clause-answers : goal.returns-clause-answers
returns-clause-answers g c = ran g.S.Store delete_text (Text c.args.key.now ∷ []) c.args.tx.now.conn.now c.execute.new.self.conn.now c.in_ok-execute.field-0 (rw c.of_key.ensures at c.in_ok-execute.ensures.runs) c.execute.ensures.survives

pub returns-in_err-execute-clause-answers : goal.returns-in_err-execute-clause-answers
returns-in_err-execute-clause-answers g c =
    let e = c.in_err-execute.field-0.0 in
    let same : c.from_residual.result ≡ Err e = search rules in
    rw same (failed g.S.Store delete_text (Text c.args.key.now ∷ []) c.args.tx.now.conn.now c.execute.new.self.conn.now e (rw c.of_key.ensures at c.in_err-execute.ensures.runs) c.execute.ensures.survives)

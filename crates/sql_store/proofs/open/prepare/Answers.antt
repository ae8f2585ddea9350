use Rattle.std.proofs.Common.{◌≡◌, Err, inr, ap, subst, sym, ◌∙◌, arith, rules}
use Rattle.sqlite.specs.Effect.{Database}
use Rattle.sqlite.specs.Held.{state}
use Rattle.sqlite.specs.State.{HasCleanDisk}
use Rattle.durable_top.specs.declared.store.StoreFault.TheVariants.{Refused}
use Rattle.serial_spec.specs.Rows.{value_in}
use Rattle.sql_store.specs.Results.{IsOurSchema}
use Rattle.sql_store.proofs.Opens.{known_by}
use Rattle.sql_store.proofs.open.prepare.Goals as goal

pub returns-in-Ok-clause-empty : goal.returns-in-Ok-clause-empty
returns-in-Ok-clause-empty g c clean has =
    let it = c.in-Ok.ensures.opened clean in
    let settled = c.is_autocommit.ensures.settled (search rules) it.was_open in
    (it.opened.none (ap (λ (d : Database). d.schema) (sym settled) ∙ has)).1

pub returns-in-Err-clause-refused : goal.returns-in-Err-clause-refused
returns-in-Err-clause-refused g c clean is =
    let was : HasCleanDisk (state g.S.Store c.open_tables.new.conn) = omega (arith, c.settle.ensures.survives.clean, clean) in
    let refused : c.settle.result ≡ Refused = cc in
    inr (c.in-Err.ensures.refused was (ap Err (c.settle.ensures.refused clean refused).0))

pub returns-in-Ok-clause-counted : goal.returns-in-Ok-clause-counted
returns-in-Ok-clause-counted g c known clean open_now =
    let old = state g.S.Store c.args.conn.now in
    let it = c.in-Ok.ensures.opened clean in
    let settled : old.now ≡ old.committed = c.is_autocommit.ensures.settled (search rules) it.was_open in
    let schema = ap (λ (d : Database). d.schema) settled in
    (known_by old.committed (state g.S.Store c.open_tables.new.conn).committed c.is_empty-is_new.result c.is_ours-is_ours.result c.in-Ok.opened.is_apart (value_in c.in-Ok.opened.numbers.rows)
    (λ new. sym schema ∙ sym c.schema.ensures.value ∙ c.is_empty-is_new.ensures.none new)
    (λ ours. subst IsOurSchema (c.schema-2.ensures.value ∙ schema) (c.is_ours-is_ours.ensures.none ours))
    (c.in-Ok.ensures.found clean) it.opened (sym c.knows.ensures ∙ known)).1

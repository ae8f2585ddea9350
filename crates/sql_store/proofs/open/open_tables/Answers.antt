use Rattle.std.proofs.Common.{◌≡◌, Err, ap, subst, arith, rules}
use Rattle.std.specs.Prelude.{IsTrue}
use Rattle.sqlite.specs.Effect.{Database}
use Rattle.sqlite.specs.Held.{state}
use Rattle.sqlite.specs.State.{HasCleanDisk, Survives}
use Rattle.sqlite.proofs.StateLemmas.{survives_then}
use Rattle.sqlite.proofs.Callers.{survives_begin}
use Rattle.durable_top.specs.declared.store.StoreFault.TheVariants.{Refused}
use Rattle.serial_spec.specs.Rows.{value_in}
use Rattle.sql_store.specs.Asked.{OpensInside, Made}
use Rattle.sql_store.specs.Inside.{IsOpened}
use Rattle.sql_store.specs.Opening.{MayOpen}
use Rattle.sql_store.specs.Refusals.{CannotOpenInside}
use Rattle.sql_store.proofs.open.open_tables.Goals as goal

pub returns-in_err-opened-clause-refused : goal.returns-in_err-opened-clause-refused
returns-in_err-opened-clause-refused g c clean is =
    let e = c.in_err-opened.field-0.0 in
    let same : c.from_residual.result ≡ Err e = search rules in
    let told = rw same at is in
    let refused : e ≡ Refused = cc in
    let back : c.drop-tx.new.self.0 ≡ c.conn-1.given.0 = search rules in
    let sound : HasCleanDisk (state g.S.Store c.drop-tx.new.self.0) = rw back clean in
    let was : HasCleanDisk (state g.S.Store c.open_inside.new.tx.conn.now) = omega (arith, c.drop-tx.ensures.survives.clean, sound) in
    let inside : IsTrue (state g.S.Store c.transaction-tx.result.conn.now).in_transaction = search rules in
    subst (λ h. CannotOpenInside g.S.Store h) c.transaction-tx.ensures.begun (c.in_err-opened.ensures.refused was inside (ap Err refused))

pub returns-in-Ok-clause-made : goal.returns-in-Ok-clause-made
returns-in-Ok-clause-made g c clean =
    let old = c.args.conn.now in
    let last = c.open_inside.new.tx.conn.now in
    let same : c.commit.new.self.0 ≡ c.conn-2-1.given.0 = search rules in
    let sound : HasCleanDisk (state g.S.Store c.commit.new.self.0) = rw same clean in
    let was : HasCleanDisk (state g.S.Store last) = omega (arith, c.commit.ensures.survives.clean, sound) in
    let inside : IsTrue (state g.S.Store c.transaction-tx.result.conn.now).in_transaction = search rules in
    let numbers = value_in c.in_ok-opened.opened.numbers.rows in
    let whole : Made g.S.Store numbers old c.commit.new.self.0 = record {
      outside = c.requires.outside;
      last = last;
      inside = subst (λ h. OpensInside g.S.Store numbers h last) c.transaction-tx.ensures.begun (c.in_ok-opened.ensures.asked was inside);
      committed = (c.in-Ok.ensures.ok sound).1;
    } in
    subst (λ h. Made g.S.Store numbers old h) same whole

pub returns-in-Err-clause-survives : goal.returns-in-Err-clause-survives
returns-in-Err-clause-survives g c =
    let old = c.args.conn.now in
    let last = c.open_inside.new.tx.conn.now in
    let begun = c.transaction-tx.ensures.begun in
    let P = MayOpen (state g.S.Store old) in
    let inside : IsTrue (state g.S.Store c.transaction-tx.result.conn.now).in_transaction = search rules in
    let was_open = λ (clean : HasCleanDisk (state g.S.Store last)). rw begun at (c.in_ok-opened.ensures.on clean inside).1 in
    let opened = λ (clean : HasCleanDisk (state g.S.Store last)). rw begun at (c.in_ok-opened.ensures.opened clean inside) in
    let whole = survives_then (state g.S.Store old) (state g.S.Store last) (state g.S.Store c.commit.new.self.0) _ _ P (λ _ db none. absurd none)
    (λ clean db is.
    let was : HasCleanDisk (state g.S.Store last) = omega (arith, c.commit.ensures.survives.clean) in
    (was_open was, (state g.S.Store last).now, subst (λ (d : Database). IsOpened d (state g.S.Store last).now) (c.requires.settled (was_open was)) (opened was), is))
    (survives_begin g.S.Store old (state g.S.Store last) _ (rw begun at c.open_inside.ensures.steps.survives)) c.commit.ensures.survives in
    let same : c.commit.new.self.0 ≡ c.conn-2-1.given.0 = search rules in
    subst (λ h. Survives (state g.S.Store old) (state g.S.Store h) P) same whole

pub returns-in-Ok-clause-survives : goal.returns-in-Ok-clause-survives
returns-in-Ok-clause-survives g c =
    let old = c.args.conn.now in
    let last = c.open_inside.new.tx.conn.now in
    let begun = c.transaction-tx.ensures.begun in
    let P = MayOpen (state g.S.Store old) in
    let inside : IsTrue (state g.S.Store c.transaction-tx.result.conn.now).in_transaction = search rules in
    let was_open = λ (clean : HasCleanDisk (state g.S.Store last)). rw begun at (c.in_ok-opened.ensures.on clean inside).1 in
    let opened = λ (clean : HasCleanDisk (state g.S.Store last)). rw begun at (c.in_ok-opened.ensures.opened clean inside) in
    let whole = survives_then (state g.S.Store old) (state g.S.Store last) (state g.S.Store c.commit.new.self.0) _ _ P (λ _ db none. absurd none)
    (λ clean db is.
    let was : HasCleanDisk (state g.S.Store last) = omega (arith, c.commit.ensures.survives.clean) in
    (was_open was, (state g.S.Store last).now, subst (λ (d : Database). IsOpened d (state g.S.Store last).now) (c.requires.settled (was_open was)) (opened was), is))
    (survives_begin g.S.Store old (state g.S.Store last) _ (rw begun at c.open_inside.ensures.steps.survives)) c.commit.ensures.survives in
    let same : c.commit.new.self.0 ≡ c.conn-2-1.given.0 = search rules in
    subst (λ h. Survives (state g.S.Store old) (state g.S.Store h) P) same whole

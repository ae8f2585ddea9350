use Rattle.std.proofs.lemmas.Int.{to_z-of_z}
use Rattle.std.proofs.Common.{SFits, w64, ◌≡◌, refl, subst, arith, rules}
use Rattle.sqlite.specs.State.{HasCleanDisk, Survives}
use Rattle.sqlite.specs.Held.{state}
use Rattle.sqlite.proofs.StateLemmas.{survives_then}
use Rattle.sqlite.proofs.Callers.{survives_begin}
use Rattle.sql_store.specs.Table.{IsReady}
use Rattle.sql_store.specs.inner.Writes.{IsStored}
use Rattle.sql_store.proofs.Composed.{stored_by}
use Rattle.sql_store.proofs.Steps.{on_ok_then}
use Rattle.sql_store.specs.Asked.{Transacted}
use Rattle.sql_store.proofs.writes.commit_some.Goals as goal

pub returns-clause-survives : goal.returns-clause-survives
returns-clause-survives g c =
    let old = c.args.conn.now in
    let last = c.make_all.new.tx.conn.now in
    let begun = c.transaction-tx.ensures.begun in
    let P = IsStored c.args.number c.args.changes.now (state g.S.Store old) in
    let fits : SFits w64 c.args.number = c.ranges.number in
    let made = λ (clean : HasCleanDisk (state g.S.Store last)) (ready : IsReady (state g.S.Store old).now). let all = rw begun at (c.in_ok-make_all.ensures.made clean) ready in simp to_z-of_z at all in
    let opened = λ (clean : HasCleanDisk (state g.S.Store last)). rw begun at (c.in_ok-make_all.ensures.opened clean) c.requires.some in
    let whole = survives_then (state g.S.Store old) (state g.S.Store last) (state g.S.Store c.commit.new.self.0) _ _ P (λ _ db none. absurd none)
    (λ clean db is. stored_by c.args.number c.args.changes.now g.S.Store old last db (opened (omega (arith, c.commit.ensures.survives.clean))) c.requires.settled (made (omega (arith, c.commit.ensures.survives.clean))) is)
    (survives_begin g.S.Store old (state g.S.Store last) _ (rw begun at c.make_all.ensures.answers.steps.survives)) c.commit.ensures.survives in
    let same : c.commit.new.self.0 ≡ c.conn-2-1.given.0 = search rules in
    subst (λ h. Survives (state g.S.Store old) (state g.S.Store h) P) same whole

pub returns-clause-asked : goal.returns-clause-asked
returns-clause-asked g c clean =
    let old = c.args.conn.now in
    let last = c.make_all.new.tx.conn.now in
    let fits : SFits w64 c.args.number = c.ranges.number in
    let same : c.commit.new.self.0 ≡ c.conn-2-1.given.0 = search rules in
    let sound : HasCleanDisk (state g.S.Store c.commit.new.self.0) = rw same clean in
    let was : HasCleanDisk (state g.S.Store last) = omega (arith, c.commit.ensures.survives.clean, sound) in
    let all = rw c.transaction-tx.ensures.begun at (c.in_ok-make_all.ensures.answers.asked was) refl in
    on_ok_then c.commit.result (λ committed. let whole : Transacted g.S.Store c.args.number c.args.changes.now old c.commit.new.self.0 = record {
      outside = c.requires.outside;
      last = last;
      executed = simp to_z-of_z at all;
      committed = committed.1;
    } in subst (λ h. Transacted g.S.Store c.args.number c.args.changes.now old h) same whole) (c.commit.ensures.ok sound)

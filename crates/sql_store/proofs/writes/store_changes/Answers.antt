use Rattle.std.proofs.lemmas.Int.{to_z-of_z}
use Rattle.std.proofs.Common.{SFits, w64, ◌≡◌, inl, inr, sym, ◌∙◌, arith}
use Rattle.sqlite.specs.State.{HasCleanDisk}
use Rattle.durable_top.specs.declared.store.StoreFault.TheVariants.{Refused}
use Rattle.sqlite.specs.Held.{state}
use Rattle.sqlite.proofs.StateLemmas.{survives_then}
use Rattle.sql_store.specs.inner.Writes.{IsStored}
use Rattle.sql_store.proofs.Spared.{spares_then}
use Rattle.sql_store.proofs.writes.store_changes.Goals as goal

pub returns-in-Err-clause-survives : goal.returns-in-Err-clause-survives
returns-in-Err-clause-survives g c =
    let fits : SFits w64 c.args.number = c.ranges.number in
    let wrote = c.write_all.ensures.survives in
    survives_then (state g.S.Store c.args.conn.now) (state g.S.Store c.write_all.new.conn) (state g.S.Store c.settle.new.conn) _ _ (IsStored c.args.number c.args.changes.now (state g.S.Store c.args.conn.now)) (λ _ db h. h) (λ _ db none. absurd none)
    (simp to_z-of_z at wrote) c.settle.ensures.survives

pub returns-in-Err-clause-refused : goal.returns-in-Err-clause-refused
returns-in-Err-clause-refused g c clean is =
    let fits : SFits w64 c.args.number = c.ranges.number in
    let was : HasCleanDisk (state g.S.Store c.write_all.new.conn) = omega (arith, c.settle.ensures.survives.clean, clean) in
    let refused : c.settle.result ≡ Refused = cc in
    let h = c.settle.ensures.refused clean refused in
    let why = c.in-Err.ensures.refused was (sym c.fault_of.ensures ∙ h.0) in
    let gave = simp to_z-of_z at why in
    elim gave [ inl busy ↦ inl busy | inr it ↦ inr (c.write_all.new.conn, c.in-Err.error, it, sym c.fault_of.ensures ∙ h.0, h.1) ]

pub returns-in-Err-clause-spared : goal.returns-in-Err-clause-spared
returns-in-Err-clause-spared g c clean settled =
    let was : HasCleanDisk (state g.S.Store c.write_all.new.conn) =
    omega (arith, c.settle.ensures.survives.clean, clean) in
    spares_then _ _ _ settled (c.in-Err.ensures.spared was settled) (c.settle.ensures.spared clean)

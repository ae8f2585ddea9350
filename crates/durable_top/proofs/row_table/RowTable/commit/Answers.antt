use Rattle.std.proofs.Common.{List, SFits, w64, rules, refl, sym, subst}
use Rattle.std.proofs.lemmas.Int.{to_z-of_z}
use Rattle.serial_spec.specs.Rows.{value_in}
use Rattle.durable_top.specs.declared.store.Row.{Row}
use Rattle.durable_top.specs.Numbered.{entries_in, IsFull}
use Rattle.durable_top.proofs.Numbering.{full_joined, not_full}
use Rattle.durable_top.proofs.row_table.RowTable.commit.Goals as goal

pub returns-in-Some-clause-full : goal.returns-in-Some-clause-full
returns-in-Some-clause-full c = λ full.
    let fits : SFits w64 c.top.result = search rules in
    let next = c.in-Some.ensures.above in
    let above = simp to_z-of_z at next in
    absurd (not_full c.args.changes.now c.self.inside.values.rows (value_in c.self.inside.numbers.rows) c.in-Some.number c.top.result
    c.self.invariant c.top.ensures.greatest above c.in-Some.ensures.fits
    (subst (λ (rows : List Row). IsFull c.args.changes.now (entries_in rows)) (sym c.self.view_is) full))

pub returns-in-None-clause-memory : goal.returns-in-None-clause-memory
returns-in-None-clause-memory c = λ not.
    let fits : SFits w64 c.top.result = search rules in
    let is = c.in-None.ensures.none in
    let last = simp to_z-of_z at is in
    absurd (not (subst (λ (rows : List Row). IsFull c.args.changes.now (entries_in rows)) c.self.view_is
    (full_joined c.args.changes.now c.self.inside.values.rows (value_in c.self.inside.numbers.rows) c.top.result
    c.self.invariant c.top.ensures.greatest (last refl) (search rules))))

use Rattle.std.proofs.Common.{SFits, w64, rules, sym, ◌∙◌}
use Rattle.std.proofs.lemmas.Int.{to_z-of_z}
use Rattle.line_language.proofs.spelling.put_access.Goals as goal

pub returns-in-Some-clause-ok : goal.returns-in-Some-clause-ok
returns-in-Some-clause-ok g c =
    let fits : SFits w64 c.in-Some.number = search rules in
    rw (sym c.operand.ensures ∙ c.in-Some.is) (rw c.lead.ensures at (simp to_z-of_z at c.put_valued.ensures.ok))

pub returns-in-None-clause-ok : goal.returns-in-None-clause-ok
returns-in-None-clause-ok g c = rw (sym c.operand.ensures ∙ c.in-None.is) (rw c.lead-in-None.ensures at c.put_keyed.ensures.ok)

pub returns-in-Some-clause-err : goal.returns-in-Some-clause-err
returns-in-Some-clause-err g c =
    let fits : SFits w64 c.in-Some.number = search rules in
    rw (sym c.operand.ensures ∙ c.in-Some.is) (rw c.lead.ensures at (simp to_z-of_z at c.put_valued.ensures.err))

pub returns-in-None-clause-err : goal.returns-in-None-clause-err
returns-in-None-clause-err g c = rw (sym c.operand.ensures ∙ c.in-None.is) (rw c.lead-in-None.ensures at c.put_keyed.ensures.err)

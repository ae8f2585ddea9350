use Rattle.line_language.proofs.spelling.put_refusal.Goals as goal

pub returns-in-Orphan-clause-ok : goal.returns-in-Orphan-clause-ok
returns-in-Orphan-clause-ok g c = rw c.in-Orphan.is c.put_named.ensures.ok

pub returns-in-Orphan-clause-err : goal.returns-in-Orphan-clause-err
returns-in-Orphan-clause-err g c = rw c.in-Orphan.is c.put_named.ensures.err

use Rattle.std.proofs.Common.{sym, ◌∙◌}
use Rattle.inherit.proofs.Numbers.{no_number}
use Rattle.inherit.proofs.estate.Estate.reserve_for.Goals as goal

pub returns-in-None-clause-ok : goal.returns-in-None-clause-ok
returns-in-None-clause-ok c = rw c.in-Commit.is (λ n is. absurd (no_number c.args.tree.now c.in-Commit.name n is (sym c.in-None.is ∙ c.no_of.ensures.place)))

pub returns-in-Some-clause-succeeds : goal.returns-in-Some-clause-succeeds
returns-in-Some-clause-succeeds c = rw c.in-Commit.is c.reserve_commit.ensures.succeeds

pub returns-in-Access-clause-ok : goal.returns-in-Access-clause-ok
returns-in-Access-clause-ok c = rw c.in-Access.is c.reserve_step.ensures.ok

pub returns-in-Access-clause-succeeds : goal.returns-in-Access-clause-succeeds
returns-in-Access-clause-succeeds c = rw c.in-Access.is c.reserve_step.ensures.succeeds

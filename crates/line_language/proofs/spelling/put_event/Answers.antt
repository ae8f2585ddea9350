use Rattle.line_language.proofs.spelling.put_event.Goals as goal

pub returns-in-Begin-clause-ok : goal.returns-in-Begin-clause-ok
returns-in-Begin-clause-ok g c = rw c.in-Begin.is c.put_named.ensures.ok

pub returns-in-Begin-clause-err : goal.returns-in-Begin-clause-err
returns-in-Begin-clause-err g c = rw c.in-Begin.is c.put_named.ensures.err

pub returns-in-Sum-clause-ok : goal.returns-in-Sum-clause-ok
returns-in-Sum-clause-ok g c = rw c.in-Sum.is c.put_sum.ensures.ok

pub returns-in-Sum-clause-err : goal.returns-in-Sum-clause-err
returns-in-Sum-clause-err g c = rw c.in-Sum.is c.put_sum.ensures.err

pub returns-in-Commit-clause-ok : goal.returns-in-Commit-clause-ok
returns-in-Commit-clause-ok g c = rw c.in-Commit.is c.put_named-in-Commit.ensures.ok

pub returns-in-Commit-clause-err : goal.returns-in-Commit-clause-err
returns-in-Commit-clause-err g c = rw c.in-Commit.is c.put_named-in-Commit.ensures.err

pub returns-in-Abort-clause-ok : goal.returns-in-Abort-clause-ok
returns-in-Abort-clause-ok g c = rw c.in-Abort.is c.put_named-in-Abort.ensures.ok

pub returns-in-Abort-clause-err : goal.returns-in-Abort-clause-err
returns-in-Abort-clause-err g c = rw c.in-Abort.is c.put_named-in-Abort.ensures.err

pub returns-in-After-clause-ok : goal.returns-in-After-clause-ok
returns-in-After-clause-ok g c = rw c.in-After.is c.put_after.ensures.ok

pub returns-in-After-clause-err : goal.returns-in-After-clause-err
returns-in-After-clause-err g c = rw c.in-After.is c.put_after.ensures.err

use Rattle.worker_pool.proofs.desk.Desk.try_line.Goals as goal

pub returns-clause-ok : goal.returns-clause-ok
returns-clause-ok g c = record {
  between = c.attempt.new.self;
  attempt = c.in_ok-turn.ensures;
  stuck = c.in_ok-given_up.ensures;
  next = c.next_line.ensures.next;
  finished = c.finished.ensures;
}

use Rattle.std.proofs.Common.{inl}
use Rattle.live_commands.proofs.living.live.Goals as goal

pub returns-clause-done : goal.returns-clause-done
returns-clause-done g c = λ is. rw (← c.in-Ok.ensures.silent) (record {
  between = c.open_store.new.host;
  store = c.in-Ok.store;
  opened = c.in-Ok.ensures.ok;
  left = c.live_over-ended.result.left;
  closed = c.close_store.ensures;
  used = c.live_over-ended.ensures.done is;
})

pub returns-clause-failed : goal.returns-clause-failed
returns-clause-failed g c = λ is. rw (← c.in-Ok.ensures.silent) (inl (record {
  between = c.open_store.new.host;
  store = c.in-Ok.store;
  opened = c.in-Ok.ensures.ok;
  left = c.live_over-ended.result.left;
  closed = c.close_store.ensures;
  used = c.live_over-ended.ensures.failed is;
}))

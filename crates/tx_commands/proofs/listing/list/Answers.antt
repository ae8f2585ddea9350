use Rattle.std.proofs.Common.{Some, inl, inr, refl}
use Rattle.tx_commands.proofs.listing.list.Goals as goal

pub returns-in-Err-clause-failed : goal.returns-in-Err-clause-failed
returns-in-Err-clause-failed g c = λ is. inr (record { same = refl; cause = c.in-Err.ensures.err })

pub returns-clause-done : goal.returns-clause-done
returns-clause-done g c = λ is. rw (← c.in-Ok.ensures.silent) (record {
  between = c.open_store.new.host;
  store = c.in-Ok.store;
  opened = c.in-Ok.ensures.ok;
  left = Some c.list_rows-status.new.store;
  closed = c.close_store.ensures;
  used = c.list_rows-status.ensures.done is;
})

pub returns-clause-failed : goal.returns-clause-failed
returns-clause-failed g c = λ is. rw (← c.in-Ok.ensures.silent) (inl (record {
  between = c.open_store.new.host;
  store = c.in-Ok.store;
  opened = c.in-Ok.ensures.ok;
  left = Some c.list_rows-status.new.store;
  closed = c.close_store.ensures;
  used = c.list_rows-status.ensures.failed is;
}))

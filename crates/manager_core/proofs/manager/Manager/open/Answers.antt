use Rattle.std.proofs.Common.{rules, length, ap, subst, sym, arith}
use Rattle.manager_core.specs.Asked.{LeavesNoMore}
use Rattle.manager_core.proofs.Opening.{as_many}
use Rattle.manager_core.proofs.manager.Manager.open.Goals as goal

pub returns-in-Ok-over-clause-ok : goal.returns-in-Ok-over-clause-ok
returns-in-Ok-over-clause-ok g c = record {
  history = search rules;
  loaded = search rules;
  are = search rules;
  rows = search rules;
  numbered = search rules;
  rising = search rules;
  few = omega (arith, ap length c.in-Ok-over.ensures.rows, as_many c.in-Ok.rows.items, c.len.ensures, c.if-len-gt-MOST_ROWS.false);
  table = search rules;
  faults = search rules;
  later = search rules;
  crash = subst (λ s. LeavesNoMore g.S.TopStore c.args.store s) (sym c.in-Ok-over.ensures.store)
      (record { tables = c.load.ensures.crash; numbers = c.load.ensures.crash_numbers });
  unfailed = search rules;
}

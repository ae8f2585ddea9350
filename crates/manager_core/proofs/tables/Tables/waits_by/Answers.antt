use Rattle.std.proofs.Common.{ap, sym, ◌∙◌}
use Rattle.std.proofs.lemmas.Bool.{false≢true}
use Rattle.manager_core.proofs.KeptOut.{none_waits_by, waits_by_both}
use Rattle.manager_core.proofs.WaitTables.{access_of, kept_access_of}
use Rattle.manager_core.proofs.tables.Tables.waits_by.Goals as goal

pub returns-in-Some : goal.returns-in-Some
returns-in-Some c =
    let wait = c.in-Some.wait.now in
    rw (← c.self.view_is)
    (λ t number rows h allowed are.
    waits_by_both rows h allowed c.args.by wait.by t c.args.asked.now wait.asked
    (sym (kept_access_of h c.self.inside.tree c.self.inside.waits are.waiting t c.args.txn number) ∙ sym (ap access_of c.in-Some.ensures))
    c.is_of.result c.is_of.ensures)

pub returns-in-None : goal.returns-in-None
returns-in-None c =
    rw (← c.self.view_is)
    (λ t number rows h allowed are. (
      λ e. absurd (false≢true e),
      λ waits. absurd (none_waits_by h c.args.by t c.args.asked.now
          (sym (kept_access_of h c.self.inside.tree c.self.inside.waits are.waiting t c.args.txn number) ∙ sym (ap access_of c.in-None.ensures)) waits),
    ))

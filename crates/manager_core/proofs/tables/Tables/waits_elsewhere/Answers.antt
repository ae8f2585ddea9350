use Rattle.std.proofs.Common.{not, sym, ap, ◌∙◌}
use Rattle.manager_core.proofs.WaitTables.{differs, elsewhere_as_access}
use Rattle.manager_core.proofs.tables.Tables.waits_elsewhere.Goals as goal

pub returns-in-Some : goal.returns-in-Some
returns-in-Some c t number rows h are =
    ap not c.same_line.ensures
    ∙ ap (differs c.args.by) (sym c.in-Some.is ∙ c.waiting_access_at.ensures t number rows h are)
    ∙ elsewhere_as_access h c.args.by t

pub returns-in-None : goal.returns-in-None
returns-in-None c t number rows h are =
    ap (differs c.args.by) (sym c.in-None.is ∙ c.waiting_access_at.ensures t number rows h are)
    ∙ elsewhere_as_access h c.args.by t

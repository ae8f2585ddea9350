use Rattle.std.proofs.Common.{sym, ap, ◌∙◌}
use Rattle.txn_tree.specs.Numbered.{is_active_at}
use Rattle.manager_core.specs.Tables.{Tabled}
use Rattle.manager_core.proofs.Causes.{none_by_activity}
use Rattle.manager_core.proofs.tables.Tables.active_number.Goals as goal

pub returns-then-is_active_at-clause-cause : goal.returns-then-is_active_at-clause-cause
returns-then-is_active_at-clause-cause c =
    none_by_activity c.args.log.now.rows c.args.log.now.entries c.args.self.now c.requires.allowed c.requires.are c.args.name.now
    c.in-Some.txn c.has_labels.ensures.some
    (rw (sym c.self.view_is) c.in-Some.ensures.number)
    (sym c.if-is_active_at.true ∙ c.is_active_at.ensures ∙ ap (λ (v : Tabled). is_active_at v.tree c.in-Some.txn) c.self.view_is)

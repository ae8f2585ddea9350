use Rattle.std.proofs.Common.{ap, ◌∙◌}
use Rattle.txn_tree.specs.Numbered.{top_aborted_at}
use Rattle.manager_core.specs.Tables.{Tabled}
use Rattle.manager_core.proofs.Causes.{numbered_top}
use Rattle.manager_core.proofs.tables.Tables.orphan_top.Goals as goal

pub returns : goal.returns
returns c =
    c.top_aborted_at.ensures ∙ ap (λ (v : Tabled). top_aborted_at v.tree c.args.txn) c.self.view_is
    ∙ numbered_top c.args._log.now.rows c.args._log.now.entries c.args.self.now c.requires.allowed c.requires.are c.args.name.now c.args.txn c.requires.number

use Rattle.std.proofs.Common.{refl, sym, ◌∙◌}
use Rattle.report_tables.proofs.Doing.{done_abort}
use Rattle.report_tables.proofs.Trees.{active_in}
use Rattle.report_tables.proofs.transactions.abort.Goals as goal

pub returns-in_default : goal.returns-in_default
returns-in_default c base known h are = sym (active_in h c.args.transactions.now.tree are.in_tree c.args.name.now) ∙ c.in_default.ensures.none

pub returns : goal.returns
returns c base known h are =
    let x = c.args.transactions.now in
    let t = c.args.name.now in (
      sym (active_in h x.tree are.in_tree t) ∙ c.in-Some.ensures.active,
      λ e does. done_abort base known h x _ e are t c.active_number.ensures.name c.in-Some.ensures.active does c.abort_at.ensures.names
          (c.abort_at.ensures.aborted t c.in-Some.ensures.number) refl refl,
    )

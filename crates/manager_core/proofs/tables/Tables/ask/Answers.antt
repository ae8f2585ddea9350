use Rattle.std.proofs.Common.{◌∙◌, List, ap, subst}
use Rattle.txn_tree.specs.States.{States}
use Rattle.txn_tree.specs.Asked.{IsNumberOf}
use Rattle.wait_cycles.specs.declared.waits.Wait.{Wait}
use Rattle.wait_cycles.specs.Waiting.{Waiting, wait_in, wait_of as kept_wait}
use Rattle.manager_core.specs.Tables.{Tabled}
use Rattle.manager_core.proofs.WaitTables.{none_kept_for}
use Rattle.manager_core.proofs.tables.Tables.ask.Goals as goal

pub start_wait-requires-clause-none : goal.start_wait-requires-clause-none
start_wait-requires-clause-none c n number =
    let log = c.args.log.now in
    let asked = c.args.request.now in
    let comes = rw c.in-Waits.is at c.in_ok-attempt.ensures.comes in
    let beside = rw c.in-Waits.is at c.in_ok-attempt.ensures.reaches in
    let same = ap (λ (t : Tabled). t.tree) c.self.view_is ∙ beside.tree in
    ap (λ (ws : List Wait). wait_in ws n) c.reserve.ensures.waits
    ∙ ap (λ (t : Tabled). kept_wait t.waits n) c.self.view_is
    ∙ ap (λ (s : Waiting). kept_wait s n) c.in_ok-attempt.ensures.waits
    ∙ none_kept_for log.rows log.entries c.args.self.now c.requires.are.waiting asked.by asked.name.now asked.asked.now c.requires.free comes.0 n
    (subst (λ (s : States). IsNumberOf s asked.name.now n) same number)

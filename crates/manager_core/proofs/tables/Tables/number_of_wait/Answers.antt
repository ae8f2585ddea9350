use Rattle.std.proofs.Common.{◌≡◌, length, sym, ◌∙◌}
use Rattle.std.proofs.lemmas.Bool.{eqb-true}
use Rattle.txn_tree.specs.Asked.{IsNumberOf}
use Rattle.manager_core.proofs.Events.{waits_own}
use Rattle.manager_core.proofs.KeptOut.{nobody_waits}
use Rattle.manager_core.proofs.tables.Tables.number_of_wait.Goals as goal

pub returns-clause-some : goal.returns-clause-some
returns-clause-some c =
    let log = c.args.log.now in
    let number : IsNumberOf c.args.self.now.tree c.args.name.now c.in_ok-txn.txn = rw (← c.self.view_is) c.in_ok-txn.ensures.number in
    record {
      number = number;
      waits = (c.waits_by.ensures c.args.name.now number log.rows log.entries c.requires.allowed c.requires.are).0 c.if-not-waits_by.false;
      room = sym c.is_full_for.ensures ∙ c.if-is_full_for.false;
    }

pub returns-then-is_empty-clause-none : goal.returns-then-is_empty-clause-none
returns-then-is_empty-clause-none c =
    let log = c.args.log.now in
    let nobody : length c.args.self.now.waits.waits ≡ 0 = rw (← c.self.view_is) (eqb-true (length c.self.inside.waits.waits) 0 (sym c.is_empty.ensures ∙ c.if-is_empty.true)) in
    λ out.
    nobody_waits log.rows log.entries c.args.self.now c.requires.allowed c.requires.are nobody c.args.by c.args.name.now c.args.asked.now
    (waits_own log.entries c.args.by c.args.name.now c.args.asked.now out.can)

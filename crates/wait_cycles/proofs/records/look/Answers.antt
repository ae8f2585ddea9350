use Rattle.std.proofs.Common.{◌≢◌, ◌≡◌, ℕ, Some, ap, sym, ◌∙◌}
use Rattle.std.specs.Option.{option_copied}
use Rattle.slab.specs.Slab.{get}
use Rattle.wait_cycles.specs.declared.records.Record.{Record}
use Rattle.wait_cycles.proofs.Stored.{never_none, there}
use Rattle.wait_cycles.proofs.records.look.Goals as goal

pub returns-in_ok-key-in-Some-clause-some : goal.returns-in_ok-key-in-Some-clause-some
returns-in_ok-key-in-Some-clause-some c =
    there c.args.slab.now c.args.table.now c.requires c.args.txn c.in_ok-key-in-Some.key (sym c.slot_at.ensures ∙ c.in-Some.is ∙ ap Some c.in_ok-key-in-Some.was)
    (option_copied c.get.result) c.get.ensures

pub returns-in_ok-key-in-Some-clause-none : goal.returns-in_ok-key-in-Some-clause-none
returns-in_ok-key-in-Some-clause-none c =
    never_none c.args.slab.now c.args.table.now c.requires c.args.txn ((k : ℕ) (r : Record) → get c.args.slab.now k ≡ Some r → r.wait.txn ≢ c.args.txn) (λ x. x.now) c.in_ok-key-in-Some.key
    (sym c.slot_at.ensures ∙ c.in-Some.is ∙ ap Some c.in_ok-key-in-Some.was) c.get.result c.get.ensures

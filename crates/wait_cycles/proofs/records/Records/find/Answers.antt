use Rattle.std.proofs.Common.{sym}
use Rattle.std.specs.Option.{option_copied}
use Rattle.wait_cycles.proofs.Listed.{once}
use Rattle.wait_cycles.proofs.Stored.{all_apart, found_none, found_some}
use Rattle.wait_cycles.proofs.records.Records.find.Goals as goal

pub look-requires : goal.look-requires
look-requires c = let are = c.self.invariant.0 in rw c.as_slice.ensures.value (record { own = are.own; found = are.found })

pub returns : goal.returns
returns c =
    let old = c.self.inside in
    let are = c.self.invariant.0 in
    rw (sym c.self.view_is) (record {
      some = found_some old.slab old.keys.items old.table.items are c.args.txn (option_copied c.look.result) c.look.ensures.some;
      none = found_none old.slab old.keys.items old.table.items are c.args.txn c.look.result c.look.ensures.none;
      once = once _ _ (all_apart old.slab old.keys.items old.table.items are);
    })

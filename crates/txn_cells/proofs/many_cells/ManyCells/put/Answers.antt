use Rattle.std.proofs.Common.{◌<◌, Some, length, sym}
use Rattle.std.proofs.lemmas.Cmp.{nat_eq_equiv}
use Rattle.indexmap.proofs.CallerLemmas.{index_map_len-with_value_at, keys-with_value_at, updates-with_value_at}
use Rattle.txn_cells.proofs.Finding.{entry_at, holders_set}
use Rattle.txn_cells.proofs.Holding.{holds_at, key_within}
use Rattle.txn_cells.proofs.many_cells.ManyCells.put.Goals as goal

pub invariant_of-self : goal.invariant_of-self
invariant_of-self g c =
    let m = c.self.inside.contents in
    let within : c.args.index < length m.entries = rw (sym c.self.view_is) at c.requires in
    let key = key_within m.entries c.args.index within in
    let e = entry_at m.entries key.0 c.args.index key.1 in
    holders_set c.self.inside.numbers m.entries _ c.self.invariant key.0 (Some c.args.value) (holds_at m.entries key.0 c.args.index key.1)
    (updates-with_value_at m c.args.index (Some c.args.value) nat_eq_equiv c.get_index_mut.ensures.unique key.0 e.0 e.1).0
    (index_map_len-with_value_at m c.args.index (Some c.args.value))

pub returns-clause-keys : goal.returns-clause-keys
returns-clause-keys g c = rw (sym c.self.view_is) (keys-with_value_at c.self.inside.contents c.args.index (Some c.args.value))

pub returns-clause-changed : goal.returns-clause-changed
returns-clause-changed g c =
    let m = c.self.inside.contents in
    rw (sym c.self.view_is)
    (λ t at.
    let e = entry_at m.entries t c.args.index at in
    (updates-with_value_at m c.args.index (Some c.args.value) nat_eq_equiv c.get_index_mut.ensures.unique t e.0 e.1).0)

use Rattle.slot_list.specs.Slotted.{Slotted}
use Rattle.std.proofs.Common.{true, refl, arith, ◌≡◌, ◌<◌, sym, ◌∙◌, length, to_z-of_z, []}
use Rattle.sqlite_value.specs.Order.{Row}
use Rattle.sqlite_trees.specs.declared.store.Shape.TheVariants.{Table}
use Rattle.sqlite_trees.specs.View.{IsShaped}
use Rattle.sqlite_trees.specs.Listing.{shape_in}
use Rattle.sqlite_trees.proofs.Doubt.{no_doubt}
use Rattle.row_store.specs.RowView.{row_view, now, rows_in}
use Rattle.row_store.proofs.Kept.{counted, low_tree, named_shape, named_rows, shaped_in}
use Rattle.row_store.proofs.Lists.{read_at}
use Rattle.row_store.proofs.traits.RowStoreStore.get.Goals as goal

pub index-requires : goal.index-requires
index-requires c =
    let s = c.args.self.now in
    let table : (row_view s).shape c.args.table ≡ Table = c.requires (no_doubt true refl) in
    let low = low_tree s c.args.table (omega arith) (λ none. cc) in
    omega (arith, low, (counted s).1, s.rows.ok.0)

pub get-requires : goal.get-requires
get-requires c =
    let s = c.args.self.now in
    let table : (row_view s).shape c.args.table ≡ Table = c.requires (no_doubt true refl) in
    let low = low_tree s c.args.table (omega arith) (λ none. cc) in
    let within : c.args.table < length s.rows.items = omega (arith, low, (counted s).1) in
    let read : rows_in (now s).rows c.args.table ≡ c.index.result.now.items = read_at (λ (v : Slotted Row). v.items) s.rows.items c.args.table c.index.result.now [] within c.index.ensures in
    let shape : shape_in (now s).headings c.args.table ≡ Table = sym (named_shape s c.args.table (omega arith)) ∙ table in
    let shaped : IsShaped Table (rows_in (now s).rows c.args.table) = rw shape at (shaped_in s c.args.table) in
    rw (← read) shaped

pub returns-clause-ok : goal.returns-clause-ok
returns-clause-ok c _ =
    let s = c.args.self.now in
    let table : (row_view s).shape c.args.table ≡ Table = c.requires (no_doubt true refl) in
    let low = low_tree s c.args.table (omega arith) (λ none. cc) in
    let within : c.args.table < length s.rows.items = omega (arith, low, (counted s).1) in
    let read : rows_in (now s).rows c.args.table ≡ c.index.result.now.items = read_at (λ (v : Slotted Row). v.items) s.rows.items c.args.table c.index.result.now [] within c.index.ensures in
    let fits = c.ranges.id in
    rw (named_rows s c.args.table (omega arith), read) (simp to_z-of_z at c.in_ok-get.ensures)

pub bounds-self-table : goal.bounds-self-table
bounds-self-table c =
    let s = c.args.self.now in
    let table : (row_view s).shape c.args.table ≡ Table = c.requires (no_doubt true refl) in
    low_tree s c.args.table (omega arith) (λ none. cc)

use Rattle.slot_list.specs.Slotted.{Slotted}
use Rattle.std.proofs.Common.{map, ◌≡◌, get_or, []}
use Rattle.sqlite_value.specs.Order.{Row}
use Rattle.row_store.proofs.Lists.{map_set, read_at, room_set}
use Rattle.row_store.proofs.store.RowStore.undo_rows.Goals as goal

pub returns-clause-rows : goal.returns-clause-rows
returns-clause-rows c =
    let old = c.args.rows.now.items in
    let read : get_or (map (λ (v : Slotted Row). v.items) old) c.args.tree [] ≡ c.index_mut.result.now.items =
    read_at (λ (v : Slotted Row). v.items) old c.args.tree c.index_mut.result.now [] c.requires.within c.index_mut.ensures.value in
    rw (read, ← c.revert.ensures.rows) (map_set (λ (v : Slotted Row). v.items) old c.args.tree c.revert.new.rows)

pub returns-clause-room : goal.returns-clause-room
returns-clause-room c =
    room_set (λ (v : Slotted Row). v.capacity) c.args.rows.now.items c.args.tree c.index_mut.result.now c.revert.new.rows c.index_mut.ensures.value c.revert.ensures.room

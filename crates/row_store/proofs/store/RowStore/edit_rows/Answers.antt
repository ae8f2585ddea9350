use Rattle.slot_list.specs.Slotted.{Slotted}
use Rattle.std.proofs.lemmas.Result.{IfOk-weaker, on_err_weaker}
use Rattle.sqlite_value.specs.Order.{Row}
use Rattle.row_store.proofs.Edits.{edits}
use Rattle.row_store.proofs.Lists.{same_set, room_set}
use Rattle.row_store.proofs.store.RowStore.edit_rows.Goals as goal

pub returns-clause-ok : goal.returns-clause-ok
returns-clause-ok c =
    IfOk-weaker c.apply.result _ _ (λ change h. edits c.args.edit c.args.tree change c.args.rows.now.items c.index_mut.result.now c.apply.new.rows c.requires.within c.index_mut.ensures.value h c.apply.ensures.within) c.apply.ensures.ok

pub returns-clause-err : goal.returns-clause-err
returns-clause-err c =
    on_err_weaker c.apply.result (λ same. same_set (λ (v : Slotted Row). v.items) c.args.rows.now.items c.args.tree c.index_mut.result.now c.apply.new.rows c.index_mut.ensures.value same) c.apply.ensures.err

pub returns-clause-room : goal.returns-clause-room
returns-clause-room c =
    room_set (λ (v : Slotted Row). v.capacity) c.args.rows.now.items c.args.tree c.index_mut.result.now c.apply.new.rows c.index_mut.ensures.value c.apply.ensures.room

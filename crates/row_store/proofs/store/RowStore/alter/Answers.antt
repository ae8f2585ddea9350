use Rattle.std.proofs.Common.{arith, subst}
use Rattle.row_store.specs.inner.Edit.{edited, IsFor}
use Rattle.row_store.proofs.Kept.{low_tree, low_rows, named_shape}
use Rattle.row_store.proofs.Calls.{write_ok, write_err, write_only}
use Rattle.row_store.proofs.store.RowStore.alter.Goals as goal

pub write-requires-clause-within : goal.write-requires-clause-within
write-requires-clause-within c = low_tree c.args.self.now c.args.tree (omega arith) c.requires.present

pub write-requires-clause-shape : goal.write-requires-clause-shape
write-requires-clause-shape c = subst (IsFor c.args.edit) (named_shape c.args.self.now c.args.tree (omega arith)) c.requires.shape

pub returns-clause-ok : goal.returns-clause-ok
returns-clause-ok c =
    let low = low_tree c.args.self.now c.args.tree (omega arith) c.requires.present in
    write_ok c.args.self.now c.write.new.self c.args.tree (edited c.args.edit) (omega arith) (low_rows c.args.self.now _ low) c.write.result c.write.ensures.ok c.write.ensures.err

pub returns-clause-frame : goal.returns-clause-frame
returns-clause-frame c =
    let low = low_tree c.args.self.now c.args.tree (omega arith) c.requires.present in
    write_only c.args.self.now c.write.new.self c.args.tree (edited c.args.edit) (omega arith) (low_rows c.args.self.now _ low) c.write.result c.write.ensures.ok c.write.ensures.err

pub returns-clause-err : goal.returns-clause-err
returns-clause-err c =
    let low = low_tree c.args.self.now c.args.tree (omega arith) c.requires.present in
    write_err c.args.self.now c.write.new.self c.args.tree (edited c.args.edit) (omega arith) (low_rows c.args.self.now _ low) c.write.result c.write.ensures.ok c.write.ensures.err

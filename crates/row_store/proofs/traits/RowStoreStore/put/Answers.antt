use Rattle.std.proofs.Common.{true, refl, ap, ◌≡◌}
use Rattle.std.proofs.lemmas.Result.{on_ok_weaker}
use Rattle.sqlite_trees.specs.View.{View}
use Rattle.sqlite_trees.proofs.Doubt.{no_doubt}
use Rattle.row_store.specs.RowView.{row_view}
use Rattle.row_store.proofs.Calls.{keeps, quiet}
use Rattle.sqlite_trees.specs.declared.store.Shape.TheVariants.{Table}
use Rattle.row_store.proofs.traits.RowStoreStore.put.Goals as goal

pub alter-requires-clause-present : goal.alter-requires-clause-present
alter-requires-clause-present c =
    let is : (row_view c.args.self.now).shape c.args.table ≡ Table = c.requires.table (no_doubt true refl) in
    λ none. cc

pub alter-requires-clause-shape : goal.alter-requires-clause-shape
alter-requires-clause-shape c = (c.requires.table (no_doubt true refl), c.requires.keyed (no_doubt true refl))

pub returns-clause-ok : goal.returns-clause-ok
returns-clause-ok c = on_ok_weaker c.alter.result (λ h _. h) c.alter.ensures.ok

pub returns-clause-frame : goal.returns-clause-frame
returns-clause-frame c = let only = c.alter.ensures.frame in on_ok_weaker c.alter.result (λ _ _. only) c.alter.ensures.ok

pub returns-clause-schema : goal.returns-clause-schema
returns-clause-schema c = keeps (row_view c.args.self.now) (row_view c.alter.new.self) c.alter.ensures.frame

pub returns-clause-quiet : goal.returns-clause-quiet
returns-clause-quiet c = quiet c.args.self.now c.alter.new.self (ap (λ (v : View). v.committed) c.alter.ensures.frame)

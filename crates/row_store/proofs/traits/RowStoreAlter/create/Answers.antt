use Rattle.std.proofs.Common.{true, refl, ◌≡◌, [], sym, ◌∙◌, arith}
use Rattle.sqlite_trees.specs.declared.store.Shape.TheVariants.{Absent}
use Rattle.sqlite_trees.specs.Listing.{shape_in}
use Rattle.sqlite_trees.proofs.Doubt.{no_doubt}
use Rattle.row_store.specs.RowView.{now, rows_in}
use Rattle.row_store.proofs.Calls.{both, led_quiet, led_err}
use Rattle.row_store.proofs.Edits.{none_shaped}
use Rattle.row_store.proofs.Kept.{named_shape, named_rows, shaped_in, low_heads}
use Rattle.row_store.proofs.Objects.{creates}
use Rattle.row_store.proofs.traits.RowStoreAlter.create.Goals as goal

pub relabel-requires : goal.relabel-requires
relabel-requires c low =
    let s = c.args.self.now in
    let free = c.requires (no_doubt true refl) in
    let absent : shape_in (now s).headings c.args.tree ≡ Absent = sym (named_shape s c.args.tree (omega arith)) ∙ free.unused in
    let rows : rows_in (now s).rows c.args.tree ≡ [] = rw absent at (shaped_in s c.args.tree) in
    rw rows (none_shaped c.in_ok-head.head.shape)

pub returns-clause-ok : goal.returns-clause-ok
returns-clause-ok c =
    let s = c.args.self.now in
    let free = c.requires (no_doubt true refl) in
    let absent : shape_in (now s).headings c.args.tree ≡ Absent = sym (named_shape s c.args.tree (omega arith)) ∙ free.unused in
    let rows : rows_in (now s).rows c.args.tree ≡ [] = rw absent at (shaped_in s c.args.tree) in
    both c.relabel.result (λ low led _. creates s c.relabel.new.self c.args.tree c.args.object.now (omega arith) (low_heads s c.args.tree low) free.shaped
    (named_rows s c.args.tree (omega arith) ∙ rows) (rw c.in_ok-head.ensures at led)) c.relabel.ensures.within c.relabel.ensures.ok

pub returns-clause-err : goal.returns-clause-err
returns-clause-err c = led_err c.args.self.now c.relabel.new.self c.relabel.result c.relabel.ensures.err

pub returns-clause-quiet : goal.returns-clause-quiet
returns-clause-quiet c = led_quiet c.args.self.now c.relabel.new.self _ c.relabel.result c.relabel.ensures.ok c.relabel.ensures.err

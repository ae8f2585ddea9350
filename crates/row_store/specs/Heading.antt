-- The heading of a tree, as the kit's list of objects has it.
use Rattle.sqlite_trees.specs.Listing.{Heading}
use Rattle.row_store.specs.declared.log.Head.{Head}

abbrev pub heading : Head → Heading
heading h = (h.shape, h.reals, h.described)

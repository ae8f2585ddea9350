use Rattle.sqlite_trees.proofs.MemoryLemmas.{cut_below_rowid}
use Rattle.row_store.proofs.Places.{rowid_place}
use Rattle.row_store.proofs.probe.place_of_rowid.Goals as goal

pub place-requires : goal.place-requires
place-requires c = cut_below_rowid _ _ c.requires

pub returns-then-has_rowid_at : goal.returns-then-has_rowid_at
returns-then-has_rowid_at c = rowid_place _ _ _ c.requires c.if-has_rowid_at.ensures.0 c.if-has_rowid_at.ensures.1

use Rattle.std.proofs.Common.{rules, ◌∙◌, to_z-of_z}
use Rattle.std.proofs.lemmas.List.{get_or_read}
use Rattle.sqlite_trees.proofs.MemoryLemmas as lemma
use Rattle.row_store.proofs.rows.get.Goals as goal

pub returns-in_ok-copy_from : goal.returns-in_ok-copy_from
returns-in_ok-copy_from c =
    let fits = c.ranges.id in
    let here = simp to_z-of_z at c.if-has_rowid_at.ensures in
    let place = simp to_z-of_z at c.place_of_rowid-at.ensures in
    lemma.found_at c.args.id _ _ c.requires.0 place here.0 here.1 ∙ search (rules, get_or_read)

pub returns-else-has_rowid_at : goal.returns-else-has_rowid_at
returns-else-has_rowid_at c =
    let fits = c.ranges.id in
    lemma.missing_at c.args.id _ _ c.requires.0 (simp to_z-of_z at c.place_of_rowid-at.ensures) (simp to_z-of_z at c.if-has_rowid_at.ensures)

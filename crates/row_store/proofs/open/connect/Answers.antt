use Rattle.std.proofs.Common.{◌≢◌, true, refl, ap, ◌∙◌, arith}
use Rattle.sqlite_trees.specs.Tree.{Trees}
use Rattle.sqlite_trees.specs.Objects.{catalog_tree, version_tree}
use Rattle.sqlite_trees.proofs.Doubt.{no_doubt}
use Rattle.row_store.proofs.Empty.{no_objects}
use Rattle.row_store.proofs.open.connect.Goals as goal

pub over-requires : goal.over-requires
over-requires c clean = record { sound = refl; numbered = refl; clean = c.in_ok-store.ensures.clean; unmarked = c.in_ok-store.ensures.unmarked }

pub returns-in-Ok-clause-empty : goal.returns-in-Ok-clause-empty
returns-in-Ok-clause-empty c =
    let opens = c.in-Ok.ensures.opens (no_doubt true refl) in
    let trees = c.in-Ok.ensures.trees (no_doubt true refl) in
    let other : catalog_tree ≢ version_tree = λ same. absurd (omega (arith, same)) in
    let none = ap (λ (db : Trees). db catalog_tree) trees ∙ c.in_ok-store.ensures.empty catalog_tree other in
    (opens.0, opens.1, no_objects _ _ none (opens.1 opens.0.is_open).0)

use Rattle.std.proofs.Common.{◌++◌, ◌∷◌, [], ℕ, List}
use Rattle.std.specs.Prelude.{codes}
use Rattle.tree_lines.specs.Counts.{counted}
use Rattle.tree_lines.specs.Shows.{counted_words, job_line}
use Rattle.tree_lines.specs.declared.counting.Group.TheVariants as group
use Rattle.tree_lines.proofs.Parts.{on_done, then_put}
use Rattle.tree_lines.proofs.summing.put_job_line.Goals as goal

pub returns : goal.returns
returns c =
    let x : List ℕ = c.args.out.now.items in
    let ss = c.args.shown.now in
    let a = counted_words (codes "jobs: committed ") (counted group.JobsCommitted ss) in
    let b = counted_words (codes ", undone ") (counted group.JobsUndone ss) in
    on_done c.put_bytes.result c.put_bytes.ensures (λ last. then_put x (a ++ b) (10 ∷ []) (then_put x a b c.in_ok-put_group.ensures c.in_ok-put_group-2.ensures) last)

use Rattle.std.proofs.Common.{◌∙◌, ◌++◌, ℕ, List, ap, sym}
use Rattle.tree_pictures.proofs.Parts.{on_done}
use Rattle.tree_pictures.proofs.Rows.{joint_row}
use Rattle.tree_pictures.proofs.bars.put_row.Goals as goal

pub returns-else-is_empty : goal.returns-else-is_empty
returns-else-is_empty c =
    let alone = sym c.is_empty.ensures ∙ c.if-is_empty.false in
    on_done c.put_joint_bar.result c.put_joint_bar.ensures (λ last. last ∙ ap (λ (b : List ℕ). c.args.out.now.items ++ b) (joint_row c.args.names.now.keys c.args.scale.now c.args.row _ c.args.shown.now c.in-len1-up.len_at_least alone))

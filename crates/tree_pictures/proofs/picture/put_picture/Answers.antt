use Rattle.std.proofs.Common.{◌∙◌, ◌++◌, ℕ, ap, length}
use Rattle.tree_pictures.specs.Picture.{all_parts}
use Rattle.tree_pictures.specs.Scale.{scale_of}
use Rattle.tree_pictures.specs.declared.scale.Scale.{Scale}
use Rattle.tree_pictures.proofs.Parts.{on_done}
use Rattle.tree_pictures.proofs.picture.put_picture.Goals as goal

pub returns : goal.returns
returns c =
    let ts = c.args.names.now.keys in
    let ms = c.args.marks.now in
    let ss = c.args.shown.now in
    let ws = c.args.waits.now in
    let scale = c.new-scale.ensures ∙ ap (λ (n : ℕ). scale_of (length ss) (length ms) n) c.saturating_add.ensures in
    on_done c.put_parts.result c.put_parts.ensures (λ last. last ∙ ap (λ (sc : Scale). c.args.out.now.items ++ all_parts sc ts ms ss ws) scale)

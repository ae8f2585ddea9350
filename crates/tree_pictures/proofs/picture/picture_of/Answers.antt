use Rattle.std.proofs.Common.{◌∙◌, ◌++◌, ℕ, List, ap}
use Rattle.tree_pictures.specs.Picture.{parts_of}
use Rattle.tree_pictures.proofs.picture.picture_of.Goals as goal

pub returns : goal.returns
returns c =
    let ts = c.args.notes.now.names.keys in
    let n = c.args.notes.now.rows in
    c.in_ok-put_picture.ensures ∙ ap (λ (xs : List ℕ). xs ++ parts_of ts n c.deref.result.now c.deref-2.result.now c.deref-3.result.now) c.new-out.ensures.items
    ∙ (λ i. parts_of ts n (c.deref.ensures.value i) (c.deref-2.ensures.value i) (c.deref-3.ensures.value i))

use Rattle.std.proofs.Common.{◌∙◌, ◌++◌, ◌∷◌, [], ℕ, List}
use Rattle.std.specs.Prelude.{codes}
use Rattle.line_language.specs.Refusals.{causes}
use Rattle.tree_lines.specs.Shows.{refused_by}
use Rattle.tree_lines.proofs.Parts.{on_done, then_put}
use Rattle.tree_lines.proofs.summing.put_refused_line.Goals as goal

pub returns : goal.returns
returns c =
    let x : List ℕ = c.args.out.now.items in
    let ms = c.args.marks.now in
    let a = codes "refused:" in
    let b = refused_by causes ms in
    let each = c.in_ok-put_causes.ensures ∙ (λ i. c.put_bytes.new.out.items ++ refused_by (c.causes.ensures i) ms) in
    on_done c.put_bytes-2.result c.put_bytes-2.ensures (λ last. then_put x (a ++ b) (10 ∷ []) (then_put x a b c.in_ok-put_bytes.ensures each) last)

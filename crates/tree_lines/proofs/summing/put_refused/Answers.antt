use Rattle.std.proofs.Common.{◌∙◌, ◌++◌, ℕ, List}
use Rattle.std.specs.Prelude.{codes}
use Rattle.tree_lines.specs.Counts.{marked}
use Rattle.tree_lines.specs.declared.counting.Kind.TheVariants as kind
use Rattle.tree_lines.specs.Shows.{counted_words}
use Rattle.tree_lines.proofs.Parts.{on_done, then_put}
use Rattle.tree_lines.proofs.summing.put_refused.Goals as goal

pub returns : goal.returns
returns c =
    let x : List ℕ = c.args.out.now.items in
    let a : List ℕ = c.lead.result.now in
    let b : List ℕ = c.cause_word.result.now in
    let n = counted_words (codes " ") (marked (kind.Refused c.args.cause) c.args.marks.now) in
    on_done c.put_kind.result c.put_kind.ensures
    (λ last. then_put x (a ++ b) n (then_put x a b c.in_ok-put_bytes.ensures c.in_ok-put_bytes-2.ensures) last
    ∙ (λ i. x ++ (c.lead.ensures i ++ c.cause_word.ensures i ++ n)))

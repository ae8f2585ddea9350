use Rattle.std.proofs.Common.{◌++◌, ◌∷◌, [], ℕ, List}
use Rattle.std.specs.Prelude.{codes}
use Rattle.line_language.specs.Report.{line}
use Rattle.tree_lines.specs.Shows.{job_line, kind_line, part_line, refused_line, summary_lines}
use Rattle.tree_lines.specs.declared.counting.Kind.TheVariants as kind
use Rattle.tree_lines.proofs.Parts.{on_done, then_put}
use Rattle.tree_lines.proofs.summing.put_summary.Goals as goal

pub returns : goal.returns
returns c =
    let x : List ℕ = c.args.out.now.items in
    let ss = c.args.shown.now in
    let ms = c.args.marks.now in
    let w1 = line (job_line ss) in
    let r2 = line (part_line ss) in
    let w2 = w1 ++ r2 in
    let p2 = then_put x w1 r2 c.in_ok-put_job_line.ensures c.in_ok-put_part_line.ensures in
    let r3 = line (kind_line (codes "victims: ") kind.Victim ms) in
    let w3 = w2 ++ r3 in
    let p3 = then_put x w2 r3 p2 c.in_ok-put_kind_line.ensures in
    let r4 = line (refused_line ms) in
    let w4 = w3 ++ r4 in
    let p4 = then_put x w3 r4 p3 c.in_ok-put_refused_line.ensures in
    let r5 = line (kind_line (codes "stuck: ") kind.Stuck ms) in
    let w5 = w4 ++ r5 in
    let p5 = then_put x w4 r5 p4 c.in_ok-put_kind_line-2.ensures in
    let r6 = line (kind_line (codes "waits: ") kind.Waits ms) in
    on_done c.put_kind_line-3.result c.put_kind_line-3.ensures (λ last. then_put x w5 r6 p5 last)

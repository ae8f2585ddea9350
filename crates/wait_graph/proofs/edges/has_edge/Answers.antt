use Rattle.std.proofs.Common.{◌∙◌}
use Rattle.wait_graph.proofs.Alone.{alone_waited_for, flat_waited_for}
use Rattle.wait_graph.proofs.HeldUp.{found_among, keeps_none}
use Rattle.wait_graph.proofs.edges.has_edge.Goals as goal

pub returns-then-alone : goal.returns-then-alone
returns-then-alone c keeps tells =
    let sole_blockers = rw c.in-Some.is at c.requires.all in
    let alone = rw c.in-Some.is at (c.requires.alone c.if-alone.true) in
    c.has_edge_by_itself.ensures keeps tells
    ∙ flat_waited_for c.args.tree.now keeps c.args.wait.now c.args.other c.in-Some.holders.now
    (keeps_none c.args.tree.now c.args.locks.now keeps c.args.wait.now c.in-Some.holders.now tells sole_blockers) alone

pub returns-then-is_lone_top : goal.returns-then-is_lone_top
returns-then-is_lone_top c keeps tells =
    c.has_edge_by_itself-then-is_lone_top.ensures keeps tells
    ∙ alone_waited_for c.args.tree.now keeps c.args.wait.now c.args.other (c.is_lone_top.ensures c.if-is_lone_top.true)

pub returns-else-is_lone_top : goal.returns-else-is_lone_top
returns-else-is_lone_top c keeps tells =
    let sole_blockers = rw c.in-Some.is at c.requires.all in
    c.has_edge_by_any.ensures keeps tells
    ∙ found_among c.args.tree.now keeps c.args.wait.now c.args.other c.in-Some.holders.now
    (keeps_none c.args.tree.now c.args.locks.now keeps c.args.wait.now c.in-Some.holders.now tells sole_blockers)

use Rattle.txn_tree.specs.Linked.{with_child}
use Rattle.txn_tree.proofs.Places.{counted}
use Rattle.txn_tree.proofs.linking.add_child.Goals as goal

pub returns-in-Some-clause-nodes : goal.returns-in-Some-clause-nodes
returns-in-Some-clause-nodes c =
    counted (with_child c.args.child) c.args.nodes.now c.args.tops.now c.add.new.self c.args.parent c.in-Some.txn c.place.result c.index-nodes-place.result _
    c.in-Some.is c.place.ensures c.requires.within c.add.ensures.children

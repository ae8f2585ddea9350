use Rattle.txn_tree.proofs.Places.{linked_to}
use Rattle.txn_tree.proofs.linking.put_next.Goals as goal

pub returns-in-Some : goal.returns-in-Some
returns-in-Some c =
    linked_to c.args.nodes.now c.args.last c.in-Some.txn c.place.result c.args.child c.index-nodes-place.result c.in-Some.is c.place.ensures c.requires.within

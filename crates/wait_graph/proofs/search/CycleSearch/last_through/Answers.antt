use Rattle.std.proofs.Common.{sym, subst, arith}
use Rattle.std.proofs.Math.Nat.{mul-le-mul, le-min, min-le_left, min-le_right}
use Rattle.wait_cycles.specs.Cycles.{IsCycle, IsLastOn, Pairs}
use Rattle.wait_graph.specs.Edges.{edges_among}
use Rattle.wait_graph.specs.Walks.{IsWayOf}
use Rattle.wait_graph.proofs.Alike.{none_told, some_told}
use Rattle.wait_graph.proofs.Walking.{last_on_way}
use Rattle.wait_graph.proofs.search.CycleSearch.last_through.Goals as goal

pub invariant_of-self-2 : goal.invariant_of-self-2
invariant_of-self-2 c =
    let wider = mul-le-mul c.collect_way.ensures.marks_capacity c.collect_way.ensures.marks_capacity in
    grind (arith, wider, le-min, min-le_left, min-le_right, c.self.invariant)

pub returns-clause-some : goal.returns-clause-some
returns-clause-some c =
    some_told (IsLastOn c.deref.result.now) _
    (λ a last keeps tells.
    let way = subst (λ (ps : Pairs). IsWayOf (edges_among c.args.tree.now keeps c.args.waits.now.waits) ps c.args.txn) (sym c.deref.ensures.value) (c.collect_way.ensures.way keeps tells) in
    last_on_way _ _ c.args.txn a way last)
    c.victim.result c.victim.ensures.some

pub returns-clause-none : goal.returns-clause-none
returns-clause-none c =
    none_told ((xs : _) → IsCycle c.deref.result.now xs → ⊥) _
    (λ none keeps tells xs cycle member.
    let way = subst (λ (ps : Pairs). IsWayOf (edges_among c.args.tree.now keeps c.args.waits.now.waits) ps c.args.txn) (sym c.deref.ensures.value) (c.collect_way.ensures.way keeps tells) in
    none xs (way.whole xs cycle member))
    c.victim.result c.victim.ensures.none

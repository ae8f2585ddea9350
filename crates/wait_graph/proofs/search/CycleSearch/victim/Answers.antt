use Rattle.std.proofs.Common.{ap, sym, ◌∙◌}
use Rattle.wait_cycles.specs.Cycles.{IsCycle, IsLastOn, waits_in}
use Rattle.wait_graph.proofs.Alike.{cycle_alike, last_alike, none_told, some_told}
use Rattle.wait_graph.proofs.search.CycleSearch.victim.Goals as goal

pub returns-clause-some : goal.returns-clause-some
returns-clause-some c =
    some_told (IsLastOn c.deref.result.now) _
    (λ a last keeps tells. last_alike _ _ (λ x y. ap (λ ps. waits_in ps x y) c.deref.ensures.value ∙ c.collect_edges.ensures.edges keeps tells x y) a last)
    c.victim.result c.victim.ensures.some

pub returns-clause-none : goal.returns-clause-none
returns-clause-none c =
    none_told ((xs : _) → IsCycle c.deref.result.now xs → ⊥) _
    (λ none keeps tells xs cycle. none xs (cycle_alike _ _ (λ x y. sym (ap (λ ps. waits_in ps x y) c.deref.ensures.value ∙ c.collect_edges.ensures.edges keeps tells x y)) xs cycle))
    c.victim.result c.victim.ensures.none

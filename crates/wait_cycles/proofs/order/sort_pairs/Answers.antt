use Rattle.std.proofs.Common.{◌≡◌, nat_eq, ◌&&◌, sym, ap, ◌∙◌, rules}
use Rattle.std.proofs.lemmas.List.Sorted.{IsNonDecreasingBy-from_sort_by_key, list_any-IsPermutation}
use Rattle.wait_cycles.specs.Cycles.{waits_in}
use Rattle.wait_cycles.proofs.Sorted.{sorted_from}
use Rattle.wait_cycles.proofs.order.sort_pairs.Goals as goal

pub returns-clause-sorted : goal.returns-clause-sorted
returns-clause-sorted c =
    sorted_from c.sort_unstable_by_key.new.self.items (IsNonDecreasingBy-from_sort_by_key (λ p. p.0) _ c.sort_unstable_by_key.ensures.sorted (λ a r q k. search rules))

pub returns-clause-same : goal.returns-clause-same
returns-clause-same c = λ a b.
    let copied : c.extend_from_slice.new.self.items ≡ c.args.pairs.now = search rules in
    sym (list_any-IsPermutation (λ p. nat_eq p.0 a && nat_eq p.1 b) c.extend_from_slice.new.self.items c.sort_unstable_by_key.new.self.items c.sort_unstable_by_key.ensures.permutation)
    ∙ ap (λ xs. waits_in xs a b) copied

use Rattle.std.proofs.Common.{sym, ◌∙◌, true≢false}
use Rattle.wait_cycles.specs.declared.trail.Reached.{Reached}
use Rattle.wait_cycles.specs.inner.Sorted.{up_to}
use Rattle.wait_cycles.proofs.Lists.{any-map}
use Rattle.wait_cycles.proofs.Closed.{reaches_itself}
use Rattle.wait_cycles.proofs.Sorted.{cycle_within, found_onto, of_up_to}
use Rattle.wait_cycles.proofs.finder.comes_back.Goals as goal

pub returns-clause-found : goal.returns-clause-found
returns-clause-found c =
    let sorted = c.args.sorted.now in
    let start = c.args.start in
    found_onto (up_to sorted start) sorted (λ a b e. (of_up_to sorted start a b e).0) start c.reached_from.new.trail.reached c.reached_from.ensures.trail.found

pub returns-clause-again : goal.returns-clause-again
returns-clause-again c =
    c.has.ensures ∙ any-map (λ (r : Reached). r.txn) c.args.start c.reached_from.new.trail.reached

pub returns-clause-none : goal.returns-clause-none
returns-clause-none c = λ off xs cycle greatest.
    let sorted = c.args.sorted.now in
    let start = c.args.start in
    let trail = c.reached_from.new.trail.reached in
    let met = sym (any-map (λ (r : Reached). r.txn) start trail) ∙ sym c.has.ensures in
    true≢false (sym (reaches_itself (up_to sorted start) start trail c.reached_from.ensures.trail xs (cycle_within sorted start xs cycle greatest) greatest.member) ∙ met ∙ off)

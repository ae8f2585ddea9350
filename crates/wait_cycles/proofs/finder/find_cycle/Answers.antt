use Rattle.std.proofs.Common.{sym, ◌∙◌, true≢false}
use Rattle.wait_cycles.proofs.Again.{is_last_cycle, not_again}
use Rattle.wait_cycles.proofs.finder.find_cycle.Goals as goal

pub returns-in_err-cycle_to-in-Some-place_of-clause-succeeds : goal.returns-in_err-cycle_to-in-Some-place_of-clause-succeeds
returns-in_err-cycle_to-in-Some-place_of-clause-succeeds c = λ none.
    absurd (not_again c.args.pairs.now c.in-Some.start c.last_on.new.space.trail.reached c.in-Some.ensures.some.found c.in-Some-place_of.place c.in-Some-place_of.ensures.some none)

pub returns-in-Some-place_of-clause-some : goal.returns-in-Some-place_of-clause-some
returns-in-Some-place_of-clause-some c =
    let told = c.in_ok-cycle_to-in-Some-place_of.ensures in
    let last = c.in-Some.ensures.some in
    is_last_cycle c.args.pairs.now c.in-Some.start c.last_on.new.space.trail.reached last c.in_ok-cycle_to-in-Some-place_of.field-0
    (told.cycle c.args.pairs.now last.found) told.start

pub returns-clause-none : goal.returns-clause-none
returns-clause-none c = absurd (true≢false (sym c.in-Some.ensures.some.again ∙ c.in-None.ensures.none))

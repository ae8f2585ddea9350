use Rattle.std.proofs.Common.{subst, ◌∙◌}
use Rattle.std.proofs.lemmas.Option.{none-some, same_Some}
use Rattle.wait_cycles.specs.declared.waits.Wait.{Wait}
use Rattle.wait_cycles.specs.Sieve.{HasPlace, places_for}
use Rattle.wait_cycles.proofs.Marked.{left_marked}
use Rattle.wait_cycles.proofs.waits.take_out.Goals as goal

pub returns-in-Some-clause-marked : goal.returns-in-Some-clause-marked
returns-in-Some-clause-marked c =
    left_marked c.args.sieve.now c.mark.new.self c.args.records.now.waits c.take.new.self.waits c.args.place c.take.ensures.taken c.requires.marked c.mark.ensures.kept
    (λ w there. subst (λ (v : Wait). HasPlace (places_for c.mark.new.self v.asked) c.args.place) (same_Some c.in-Some.wait.now w (c.in-Some.ensures.wait ∙ there)) c.mark.ensures.marked)

pub returns-in_default-clause-marked : goal.returns-in_default-clause-marked
returns-in_default-clause-marked c =
    left_marked c.args.sieve.now c.args.sieve.now c.args.records.now.waits c.take.new.self.waits c.args.place c.take.ensures.taken c.requires.marked (λ a p has. has)
    (λ w there. absurd (none-some w (c.in_default.ensures.wait ∙ there)))

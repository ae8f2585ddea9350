use Rattle.std.proofs.Common.{◌≡◌, ℕ, List, ◌++◌, ◌∷◌, [], Option, refl, ap, subst, ◌∙◌, arith}
use Rattle.std.specs.Prelude.{option_to_list}
use Rattle.wait_cycles.specs.inner.Sorted.{AreRising}
use Rattle.wait_cycles.proofs.Sorted.{AreLeft, at_most_last, fewer_left, greatest_awaited, nobody_left, rising_front}
use Rattle.wait_cycles.proofs.finder.last_start.Goals as goal

pub loop-start-init : goal.loop-start-init
loop-start-init c = (c.requires.rising, λ xs cycle a greatest. c.requires.all a (greatest_awaited c.args.sorted.now xs cycle a greatest), tt, refl, omega arith)

pub loop-start-preserved : goal.loop-start-preserved
loop-start-preserved c =
    let i = c.loop-start.invariant in
    let sorted = c.args.sorted.now in
    let start = c.in-Some.start in
    let front = c.pop.new.self.items in
    let was : c.loop-start.starts.items ≡ front ++ start ∷ [] = c.pop.ensures.items ∙ ap (λ (o : Option ℕ). front ++ option_to_list o) c.in-Some.is in
    let none = c.is_last.ensures.none c.if-is_last.false in (
      rising_front sorted front start (subst (λ (xs : List ℕ). AreRising xs) was i.0),
      fewer_left sorted front start (subst (λ (xs : List ℕ). AreLeft sorted xs) was i.1) none,
      none,
      c.pop.ensures.capacity ∙ i.3,
      omega (arith, c.is_last.ensures.capacity, i.4),
    )

pub returns-then-is_last-clause-some : goal.returns-then-is_last-clause-some
returns-then-is_last-clause-some c =
    let i = c.loop-start.invariant in
    let sorted = c.args.sorted.now in
    let start = c.in-Some.start in
    let front = c.pop.new.self.items in
    let was : c.loop-start.starts.items ≡ front ++ start ∷ [] = c.pop.ensures.items ∙ ap (λ (o : Option ℕ). front ++ option_to_list o) c.in-Some.is in
    record {
      found = c.is_last.ensures.found c.if-is_last.true;
      again = c.is_last.ensures.again c.if-is_last.true;
      last = at_most_last sorted front start (subst (λ (xs : List ℕ). AreRising xs) was i.0) (subst (λ (xs : List ℕ). AreLeft sorted xs) was i.1);
    }

pub returns-clause-none : goal.returns-clause-none
returns-clause-none c =
    let none = rw c.in_default.is at c.pop.ensures.cases in
    nobody_left c.args.sorted.now c.loop-start.starts.items (omega (arith, none.0)) c.loop-start.invariant.1

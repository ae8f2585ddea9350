use Rattle.std.proofs.Common.{◌≡◌, List, ℕ, None, Some, ap, sym, ◌∙◌}
use Rattle.lock_table.specs.Locked as one
use Rattle.lock_table.specs.Targeted.{Targeted}
use Rattle.lock_table.proofs.Listed.{listed_at_group, listed_at_none, listed_nowhere}
use Rattle.lock_table.proofs.targets.TargetLocks.key_list_at.Goals as goal

pub returns-then-is_empty-clause-each : goal.returns-then-is_empty-clause-each
returns-then-is_empty-clause-each c =
    let l : Targeted = record { keys = c.self.inside.keys; sums = c.self.inside.sums; writers = c.self.inside.writers } in
    rw (sym c.self.view_is) (λ u. listed_nowhere l c.args.key.now c.args.place c.if-place-eq0.false u (c.is_empty.ensures.0 c.if-is_empty.true))

pub returns-in-Some-clause-each : goal.returns-in-Some-clause-each
returns-in-Some-clause-each c =
    let l : Targeted = record { keys = c.self.inside.keys; sums = c.self.inside.sums; writers = c.self.inside.writers } in
    rw (sym c.self.view_is) (λ u.
    c.holders-in-Some.ensures.each u
    ∙ ap (λ (k : List ℕ). one.has_place l.sums u k) c.as_key.ensures.value
    ∙ listed_at_group l c.args.key.now c.args.place c.if-place-eq0.false u c.in-Some.group c.in-Some.ensures.some.0 c.in-Some.ensures.some.2)

pub returns-in-None-clause-each : goal.returns-in-None-clause-each
returns-in-None-clause-each c = λ u.
    listed_at_none c.args.self.now c.args.key.now c.args.place c.if-place-eq0.false u (λ g before. absurd (never (sym c.in-None.is ∙ c.group_before.ensures.all g before)))
  where
    never : {X : Type 0} {x : X} → None ≡ Some x → ⊥
    never e = cc

use Rattle.std.proofs.Common.{◌<ℤ◌, refl, sym, subst, ◌∙◌, true≢false, SFits, w64, rules}
use Rattle.std.proofs.lemmas.Int.{to_z-of_z}
use Rattle.serial_spec.specs.Rows.{value_in}
use Rattle.durable_top.specs.Numbers.{Numbers}
use Rattle.durable_top.proofs.Greatest.{top_raised, top_by, top_kept, none_below}
use Rattle.durable_top.proofs.numbers.NumberTable.change.Goals as goal
use Rattle.durable_top.proofs.numbers.NumberTable.change.Goals.{then-not-raises, else-not-raises}

pub invariant_of-self : goal.invariant_of-self
invariant_of-self c =
    let fits : SFits w64 c.args.number = c.ranges.number in
    let made = c.renumber.ensures in
    let is = simp to_z-of_z at made in
    let above : c.self.inside.top <ℤ c.args.number = subst (λ (v : Numbers). v.top <ℤ c.args.number) (sym c.self.view_is) c.requires.above in
    simp to_z-of_z (top_raised (value_in c.self.inside.numbers.entries) (value_in c.renumber.new.numbers.entries) c.args.changes.now c.self.inside.top c.args.number
    c.self.invariant above c.requires.rising (c.if-raises.ensures.0 refl) is)

pub invariant_of-self-then-loses : goal.invariant_of-self-then-loses
invariant_of-self-then-loses c =
    let fits : SFits w64 c.args.number = c.ranges.number in
    let fits_top : SFits w64 c.top_in-self-inside.result = search rules in
    let made = c.renumber.ensures in
    let is = simp to_z-of_z at made in
    let above : c.self.inside.top <ℤ c.args.number = subst (λ (v : Numbers). v.top <ℤ c.args.number) (sym c.self.view_is) c.requires.above in
    simp to_z-of_z (top_by c.renumber.new.numbers.entries c.top_in-self-inside.result
    (none_below (value_in c.self.inside.numbers.entries) (value_in c.renumber.new.numbers.entries) c.args.changes.now c.self.inside.top c.args.number
    c.self.invariant above is) c.top_in-self-inside.ensures)

pub invariant_of-self-else-loses : goal.invariant_of-self-else-loses
invariant_of-self-else-loses c =
    let fits : SFits w64 c.args.number = c.ranges.number in
    let made = c.renumber.ensures in
    let is = simp to_z-of_z at made in
    elim c.if-not-raises.branch [
      | then-not-raises w ↦
          let was = w.is_changed-loses.ensures (sym w.loses-is ∙ c.if-loses.false) in
          let fits_top : SFits w64 c.self.inside.top = search rules in
          let kept = simp to_z-of_z at was in
          top_kept (value_in c.self.inside.numbers.entries) (value_in c.renumber.new.numbers.entries) c.args.changes.now c.self.inside.top c.args.number
          c.self.invariant (λ has. true≢false (sym (c.if-raises.ensures.1 has))) kept is
      | else-not-raises w ↦ absurd (true≢false (sym w.if-not-raises.false ∙ c.if-raises.false))
    ]

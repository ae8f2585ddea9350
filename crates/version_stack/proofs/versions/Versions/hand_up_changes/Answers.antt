use Rattle.std.proofs.Common.{ap, sym, ◌∙◌}
use Rattle.serial_spec.specs.Serial.{Map}
use Rattle.serial_spec.proofs.Exports.{rows_by_map}
use Rattle.version_stack.proofs.versions.Versions.hand_up_changes.Goals as goal

pub returns-clause-base : goal.returns-clause-base
returns-clause-base c =
    let due = rw (sym c.self.view_is) at c.requires.due in
    rw (sym c.self.view_is) (λ q. ap (λ (m : Map). m q) c.change.ensures.values ∙ sym (due q))

pub returns-clause-same : goal.returns-clause-same
returns-clause-same c =
    let due = rw (sym c.self.view_is) at c.requires.due in
    rw (sym c.self.view_is) (λ same.
    rows_by_map c.change.new.self.rows c.self.inside.base.rows c.has_rising_rows-2.ensures c.has_rising_rows.ensures
    (λ q. ap (λ (m : Map). m q) c.change.ensures.values ∙ sym (due q) ∙ same q))

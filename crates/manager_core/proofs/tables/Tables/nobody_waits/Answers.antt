use Rattle.std.proofs.Common.{◌≡◌, length, sym, ap, ◌∙◌}
use Rattle.std.proofs.lemmas.Bool.{eq-eqb, eqb-true}
use Rattle.manager_core.specs.Tables.{Tabled}
use Rattle.manager_core.proofs.KeptOut.{none_stands, none_waits}
use Rattle.manager_core.proofs.tables.Tables.nobody_waits.Goals as goal

pub returns : goal.returns
returns c =
    let log = c.args._log.now in
    let tables = c.args.self.now in
    let many = length c.self.inside.waits.waits in
    let same : many ≡ length tables.waits.waits =
    ap (λ (v : Tabled). length v.waits.waits) c.self.view_is in (
      λ e.
          none_waits log.rows log.entries tables c.requires.allowed c.requires.are
          (sym same ∙ eqb-true many 0 (sym c.is_empty.ensures ∙ e)),
      λ nobody.
          c.is_empty.ensures ∙ eq-eqb many 0
          (same ∙ none_stands log.rows log.entries tables c.requires.allowed c.requires.are nobody),
    )

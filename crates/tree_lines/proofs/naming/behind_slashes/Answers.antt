use Rattle.std.proofs.Common.{◌≡◌, ◌∙◌, ◌∷◌, ap, sym}
use Rattle.std.specs.Option.{option_copied}
use Rattle.line_language.specs.Words.{parts_left}
use Rattle.tree_lines.specs.Lines.{last_part}
use Rattle.tree_lines.proofs.Parts.{last_behind}
use Rattle.tree_lines.proofs.naming.behind_slashes.Goals as goal

pub parts-preserved : goal.parts-preserved
parts-preserved c =
    sym (last_behind c.parts.rest.now c.cut.result.0.now c.in-Some.next.now (c.cut.ensures.parts ∙ ap (λ o. c.cut.result.0.now ∷ parts_left 47 (option_copied o)) c.in-Some.is)) ∙ c.parts.invariant

pub returns-in-None : goal.returns-in-None
returns-in-None c =
    sym (ap last_part (c.cut.ensures.parts ∙ ap (λ o. c.cut.result.0.now ∷ parts_left 47 (option_copied o)) c.in-None.is)) ∙ c.parts.invariant

use Rattle.std.proofs.Common.{◌∷◌, ◌∙◌, ap}
use Rattle.std.specs.Option.{option_copied}
use Rattle.line_language.specs.Commands.{one}
use Rattle.line_language.specs.Words.{parts_left}
use Rattle.line_language.proofs.Reading.{one-more}
use Rattle.line_language.proofs.command.one.Goals as goal

pub returns-in_default-Some : goal.returns-in_default-Some
returns-in_default-Some c =
    ap (λ words. one (parts_left 32 (option_copied words))) c.in-Some.is
    ∙ one-more c.in-Some.bytes.now c.cut.result.0.now c.in_default-Some.field-0-1.now
    (c.cut.ensures.parts ∙ ap (λ rest. c.cut.result.0.now ∷ parts_left 32 (option_copied rest)) c.in_default-Some.is-1)

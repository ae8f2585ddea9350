use Rattle.std.proofs.Common.{List, ℕ, sym, ◌∙◌, subst}
use Rattle.std.specs.Int.{w64}
use Rattle.std.specs.Str.Parse.{ParsesSigned}
use Rattle.line_language.proofs.Numerals.{utf8, read}
use Rattle.line_language.proofs.number.number_in_text.Goals as goal

pub returns-in-Ok : goal.returns-in-Ok
returns-in-Ok c =
    c.ok.ensures.value
    ∙ read c.args.bytes.now c.parse.result (sym c.is_numeral.ensures ∙ c.if-not-is_numeral.false)
    (subst (λ (bs : List ℕ). ParsesSigned w64 10 bs c.parse.result) c.in-Ok.ensures.cases.0 c.parse.ensures.value.0)

pub returns-in-Err : goal.returns-in-Err
returns-in-Err c = absurd (c.in-Err.ensures.cases.0 (utf8 c.args.bytes.now (sym c.is_numeral.ensures ∙ c.if-not-is_numeral.false)))

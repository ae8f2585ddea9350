use Rattle.std.proofs.Common.{◌≡◌, ◌∙◌, ◌&&◌, Bool, true, false, not, ap, ap₂, refl}
use Rattle.std.proofs.lemmas.Bool.{false≢true}
use Rattle.clap.specs.Words.{App, with_subcommand}
use Rattle.command_line.proofs.command.with.Goals as goal

third : (a b c d : Bool) → (a && (b && (not c && d))) ≡ true → c ≡ false
third false b c d holds = absurd (false≢true holds)
third true false c d holds = absurd (false≢true holds)
third true true true d holds = absurd (false≢true holds)
third true true false d holds = refl

pub returns-in-Ok-more : goal.returns-in-Ok-more
returns-in-Ok-more c = λ above below made plain more.
    let command_is = rw c.in-Ok.is at made in
    let more_is = rw c.in-Ok-more.is at more in
    c.in_ok-subcommand-in-Ok-more.ensures.shape
    (third _ _ _ _ (ap (λ (a : App). a.top.is_plain) more_is ∙ plain))
    ∙ ap₂ with_subcommand command_is (ap (λ (a : App). a.top) more_is)

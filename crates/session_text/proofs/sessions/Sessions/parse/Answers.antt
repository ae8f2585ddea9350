use Rattle.std.proofs.Common.{◌≡◌, ℕ, ◌+◌, ◌∷◌, List, length, sym, ap, ◌∙◌, subst, arith}
use Rattle.std.specs.Option.{option_copied}
use Rattle.std.proofs.lemmas.Bool.Decides.{nat_tests}
use Rattle.std.proofs.lemmas.Result.{err_from_is_err_and}
use Rattle.line_language.specs.Steps.{◌>>=◌}
use Rattle.session_text.specs.Texts.{Read, Tells, at_line, read_from, with_bytes}
use Rattle.line_language.specs.Words.{cut_at, parts_left}
use Rattle.session_text.proofs.Feeds.{no_feed, first_line, fault_told}
use Rattle.session_text.proofs.sessions.Sessions.parse.Goals as goal

pub returns-in_default : goal.returns-in_default
returns-in_default c =
    let some : length c.loop-rest.rest.now ≡ 0 → ⊥ = λ e. grind (arith, nat_tests) in
    sym c.loop-rest.invariant.read
    ∙ no_feed c.loop-rest.number c.loop-rest.sessions c.loop-rest.rest.now c.cut_line.result.0.now some
    (c.cut_line.ensures.parts ∙ ap (λ rest. c.cut_line.result.0.now ∷ parts_left 10 (option_copied rest)) c.in_default.is)

pub returns-in_err-add_bytes : goal.returns-in_err-add_bytes
returns-in_err-add_bytes c =
    let line : List ℕ = c.cut_line.result.0.now in
    let first = first_line c.loop-rest.number c.loop-rest.sessions c.loop-rest.rest.now line c.in-Some.after.now
    (c.cut_line.ensures.parts ∙ ap (λ rest. line ∷ parts_left 10 (option_copied rest)) c.in-Some.is) in
    let told = fault_told _ (at_line c.loop-rest.number (with_bytes c.loop-rest.sessions line)) (λ more. read_from (c.loop-rest.number + 1) more (cut_at 10 c.in-Some.after.now)) c.in_err-add_bytes.ensures in
    let p = err_from_is_err_and c.from_residual.result c.from_residual.ensures.1 in
    rw (p.1, p.2) (subst (λ (read : Read). Tells c.in_err-add_bytes.field-0.0 read) (sym first ∙ c.loop-rest.invariant.read) told)

pub loop-rest-preserved : goal.loop-rest-preserved
loop-rest-preserved c =
    let line : List ℕ = c.cut_line.result.0.now in
    let first = first_line c.loop-rest.number c.loop-rest.sessions c.loop-rest.rest.now line c.in-Some.after.now
    (c.cut_line.ensures.parts ∙ ap (λ rest. line ∷ parts_left 10 (option_copied rest)) c.in-Some.is) in
    record {
      counted = omega (arith, c.loop-rest.invariant.counted, rw c.in-Some.is at c.cut_line.ensures.shorter);
      read = ap (λ (read : Read). read >>= λ more. read_from (c.loop-rest.number + 1) more (cut_at 10 c.in-Some.after.now)) (sym c.in_ok-add_bytes.ensures)
          ∙ sym first ∙ c.loop-rest.invariant.read;
    }

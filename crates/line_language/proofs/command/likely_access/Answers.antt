use Rattle.std.proofs.Common.{◌≡◌, ◌∷◌, IfSome, Ok, Result, sym, ap, subst, ◌∙◌}
use Rattle.serial_spec.specs.declared.event.Event.{Event}
use Rattle.line_language.specs.declared.fault.LineKind.{LineKind}
use Rattle.line_language.specs.Accesses.{asked_in}
use Rattle.line_language.specs.Words.{cut_at}
use Rattle.line_language.specs.Commands.{access_by, access_of, event_of, keyed_access, valued_access}
use Rattle.line_language.proofs.Accesses.{word_cut}
use Rattle.line_language.proofs.command.likely_access.Goals as goal

pub returns-in-None-clause-read : goal.returns-in-None-clause-read
returns-in-None-clause-read c =
    let op = c.in_ok-op.op in
    let rest = c.in_ok-name.operands.now in
    let cut = word_cut c.in_ok-op.words.now c.in_ok-name.name rest c.in_ok-name.ensures.word c.in_ok-name.ensures.parts in
    let same : event_of c.args.bytes.now ≡ keyed_access op (c.in_ok-name.name.bytes.now ∷ cut_at 32 rest) =
    c.in_ok-op.ensures ∙ ap (access_of op) cut
    ∙ ap (λ o. access_by o op (c.in_ok-name.name.bytes.now ∷ cut_at 32 rest)) (sym c.operand.ensures ∙ c.in-None.is) in
    subst (λ (read : Result Event LineKind). IfSome c.keyed_likely.result (λ access. read ≡ Ok (asked_in access))) (sym same) c.keyed_likely.ensures.read

pub returns-in-Some-clause-read : goal.returns-in-Some-clause-read
returns-in-Some-clause-read c =
    let op = c.in_ok-op.op in
    let rest = c.in_ok-name.operands.now in
    let cut = word_cut c.in_ok-op.words.now c.in_ok-name.name rest c.in_ok-name.ensures.word c.in_ok-name.ensures.parts in
    let same : event_of c.args.bytes.now ≡ valued_access op (c.in_ok-name.name.bytes.now ∷ cut_at 32 rest) =
    c.in_ok-op.ensures ∙ ap (access_of op) cut
    ∙ ap (λ o. access_by o op (c.in_ok-name.name.bytes.now ∷ cut_at 32 rest)) (sym c.operand.ensures ∙ c.in-Some.is) in
    subst (λ (read : Result Event LineKind). IfSome c.valued_likely.result (λ access. read ≡ Ok (asked_in access))) (sym same) c.valued_likely.ensures.read

use Rattle.std.proofs.Common.{◌≡◌, ℕ, List, ◌∷◌, Ok, Err, ap, ◌∙◌, subst, rules}
use Rattle.std.specs.Option.{option_copied}
use Rattle.serial_spec.specs.declared.event.Event.TheVariants.{Access}
use Rattle.event_lists.specs.Words.{named}
use Rattle.line_language.specs.declared.fault.LineKind.TheVariants as kind
use Rattle.line_language.specs.Commands.{keyed, key_in}
use Rattle.line_language.specs.Steps.{◌>>=◌, or_fault}
use Rattle.line_language.specs.Words.{cut_at, parts_left}
use Rattle.line_language.proofs.Accesses.{Before, key_fault}
use Rattle.line_language.proofs.command.keyed_words.Goals as goal

pub returns-in_default-check-clause-read : goal.returns-in_default-check-clause-read
returns-in_default-check-clause-read c =
    let a : List ℕ = c.cut.result.0.now in
    let k : List ℕ = c.in-Some.key.now in
    let f = c.fault_before-in_default-check.result in
    let left : cut_at 32 c.args.words.now ≡ a ∷ cut_at 32 k =
    c.cut.ensures.parts ∙ ap (λ rest. a ∷ parts_left 32 (option_copied rest)) c.in-Some.is in
    let m : Before (cut_at 32 k) kind.Key f =
    subst (λ last. Before (parts_left 32 (option_copied last)) kind.Key f) c.in-Some.is c.fault_before-in_default-check.ensures in
    let bad : key_in k ≡ Err kind.Key = search rules in
    let read : keyed (cut_at 32 c.args.words.now) ≡ Err f =
    ap keyed left ∙ key_fault a k (named c.in-Ok.name) f (ap (or_fault kind.Name) c.in-Ok.ensures.read) bad m in
    ap (λ r. r >>= λ q. Ok (Access q.0 q.1 c.args.op)) read

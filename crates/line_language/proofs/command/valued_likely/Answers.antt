use Rattle.std.proofs.Common.{◌≡◌, ℕ, List, ◌∷◌, Ok, Some, sym, ap, ◌∙◌, rules, SFits, w64}
use Rattle.std.proofs.lemmas.Int.{to_z-of_z}
use Rattle.std.specs.Option.{option_copied}
use Rattle.serial_spec.specs.declared.event.Event.TheVariants.{Access}
use Rattle.line_language.specs.Verbs.{with_operand}
use Rattle.line_language.specs.declared.fault.LineKind.TheVariants as kind
use Rattle.line_language.specs.Numbers.{number_of}
use Rattle.line_language.specs.Steps.{◌>>=◌, or_fault}
use Rattle.line_language.specs.Words.{cut_at, parts_left}
use Rattle.line_language.proofs.Accesses.{valued_known}
use Rattle.line_language.proofs.command.valued_likely.Goals as goal

pub returns-in-Ok-clause-read : goal.returns-in-Ok-clause-read
returns-in-Ok-clause-read c =
    let k : List ℕ = c.cut.result.0.now in
    let u : List ℕ = c.in_ok-last.field-0.now in
    let v = c.in_ok-value.value in
    let parts : cut_at 32 c.args.words.now ≡ k ∷ cut_at 32 u = c.cut.ensures.parts ∙ ap (λ rest. k ∷ parts_left 32 (option_copied rest)) c.in_ok-last.was in
    let some : number_of u ≡ Some v = sym c.parse_number.ensures ∙ c.in_ok-value.was in
    let read = valued_known c.args.name.now c.args.words.now k u v c.requires parts (ap (or_fault kind.Key) c.in-Ok.ensures.read) some in
    let fits : SFits w64 v = search rules in
    let op = simp to_z-of_z at c.with_operand.ensures in
    rw op (ap (λ r. r >>= λ q. Ok (Access q.0 q.1 (with_operand c.args.op q.2))) read)

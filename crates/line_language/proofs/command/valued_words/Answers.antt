use Rattle.std.proofs.Common.{◌≡◌, ℕ, List, ◌∷◌, Ok, Err, Some, None, sym, ap, ◌∙◌, subst, rules, SFits, w64}
use Rattle.std.proofs.lemmas.Int.{to_z-of_z}
use Rattle.std.specs.Option.{option_copied}
use Rattle.serial_spec.specs.declared.event.Event.TheVariants.{Access}
use Rattle.event_lists.specs.Words.{named}
use Rattle.line_language.specs.Verbs.{with_operand}
use Rattle.line_language.specs.declared.fault.LineKind.TheVariants as kind
use Rattle.line_language.specs.Commands.{valued}
use Rattle.line_language.specs.Numbers.{number_of}
use Rattle.line_language.specs.Steps.{◌>>=◌, or_fault}
use Rattle.line_language.specs.Words.{cut_at, parts_left}
use Rattle.line_language.proofs.Accesses.{Before, number_fault, number_fits}
use Rattle.line_language.proofs.command.valued_words.Goals as goal

pub returns-in_default-parse_number-clause-read : goal.returns-in_default-parse_number-clause-read
returns-in_default-parse_number-clause-read c =
    let a : List ℕ = c.cut.result.0.now in
    let k : List ℕ = c.cut-2.result.0.now in
    let w : List ℕ = c.in-Some-last.number.now in
    let f = c.fault_before-in_default-parse_number.result in
    let left : cut_at 32 c.args.words.now ≡ a ∷ k ∷ cut_at 32 w =
    c.cut.ensures.parts ∙ ap (λ rest. a ∷ parts_left 32 (option_copied rest)) c.in-Some.is
    ∙ ap (λ ws. a ∷ ws) (c.cut-2.ensures.parts ∙ ap (λ rest. k ∷ parts_left 32 (option_copied rest)) c.in-Some-last.is) in
    let m : Before (cut_at 32 w) kind.Number f =
    subst (λ last. Before (parts_left 32 (option_copied last)) kind.Number f) c.in-Some-last.is c.fault_before-in_default-parse_number.ensures in
    let none : number_of w ≡ None = sym c.parse_number.ensures ∙ c.in_default-parse_number.is in
    let read : valued (cut_at 32 c.args.words.now) ≡ Err f =
    ap valued left
    ∙ number_fault a k w (named c.in-Ok.name) f (ap (or_fault kind.Name) c.in-Ok.ensures.read) (ap (or_fault kind.Key) c.in-Ok-check.ensures.read) none m in
    ap (λ r. r >>= λ q. Ok (Access q.0 q.1 (with_operand c.args.op q.2))) read

pub returns-clause-read : goal.returns-clause-read
returns-clause-read c =
    let a : List ℕ = c.cut.result.0.now in
    let k : List ℕ = c.cut-2.result.0.now in
    let w : List ℕ = c.in-Some-last.number.now in
    let v = c.in-Some-parse_number.value in
    let left : cut_at 32 c.args.words.now ≡ a ∷ k ∷ cut_at 32 w =
    c.cut.ensures.parts ∙ ap (λ rest. a ∷ parts_left 32 (option_copied rest)) c.in-Some.is
    ∙ ap (λ ws. a ∷ ws) (c.cut-2.ensures.parts ∙ ap (λ rest. k ∷ parts_left 32 (option_copied rest)) c.in-Some-last.is) in
    let some : number_of w ≡ Some v = sym c.parse_number.ensures ∙ c.in-Some-parse_number.is in
    let read : valued (cut_at 32 c.args.words.now) ≡ Ok (named c.in-Ok.name, k, v) =
    ap valued left
    ∙ number_fits a k w (named c.in-Ok.name) v (ap (or_fault kind.Name) c.in-Ok.ensures.read) (ap (or_fault kind.Key) c.in-Ok-check.ensures.read) some in
    let fits : SFits w64 v = search rules in
    let op = simp to_z-of_z at c.with_operand.ensures in
    rw op (ap (λ r. r >>= λ q. Ok (Access q.0 q.1 (with_operand c.args.op q.2))) read)

-- A text read line by line, each up to its line feed.
use Rattle.std.proofs.Common.{◌≡◌, ℕ, ◌+◌, List, [], ◌∷◌, length, nat_eq, false, Err, refl, sym, ap, ◌∙◌}
use Rattle.std.specs.List.{join_with_byte}
use Rattle.std.proofs.lemmas.Bool.{ne_eqb}
use Rattle.serial_spec.specs.Interleaving.{Session}
use Rattle.line_language.specs.declared.fault.LineKind.TheVariants as kind
use Rattle.session_text.specs.declared.fault.TextFault.{TextFault}
use Rattle.session_text.specs.declared.fault.TextFault.TheVariants as fault
use Rattle.line_language.specs.Steps.{◌>>=◌}
use Rattle.session_text.specs.Texts.{Read, Tells, at_line, read_from, with_bytes}
use Rattle.line_language.specs.Words.{cut_at}
use Rattle.line_language.proofs.Exports.{cut_some, joined_cut}

-- bytes without a line feed
pub no_feed : (n : ℕ) (ss : List Session) (rest p : List ℕ) → (length rest ≡ 0 → ⊥) → cut_at 10 rest ≡ p ∷ [] → read_from n ss (cut_at 10 rest) ≡ Err (n, kind.End)
no_feed n ss rest p some cut =
    let whole : p ≡ rest = ap (join_with_byte 10) (sym cut) ∙ joined_cut 10 rest in
    let no : nat_eq (length p) 0 ≡ false = ne_eqb (length p) 0 (λ e. some (ap length (sym whole) ∙ e)) in
    ap (read_from n ss) cut ∙ rw no refl

-- the line before the first line feed, and what comes behind it
pub first_line : (n : ℕ) (ss : List Session) (rest p after : List ℕ) → cut_at 10 rest ≡ p ∷ cut_at 10 after
    → read_from n ss (cut_at 10 rest) ≡ (at_line n (with_bytes ss p) >>= λ more. read_from (n + 1) more (cut_at 10 after))
first_line n ss rest p after cut =
    let s = cut_some 10 after in
    ap (read_from n ss) (cut ∙ ap (λ ps. p ∷ ps) s.2)
    ∙ ap (λ ps. at_line n (with_bytes ss p) >>= λ more. read_from (n + 1) more ps) (sym s.2)

-- its fault is the text's
pub fault_told : (f : TextFault) (read : Read) (next : List Session → Read) → Tells f read → Tells f (read >>= next)
fault_told (fault.Bad n k) read next h = ap (λ (r : Read). r >>= next) h
fault_told fault.NoMemory read next h = tt

-- A line added to the sessions in memory.
use Rattle.std.proofs.Common.{◌≡◌, ℕ, ◌-◌, ◌<◌, List, [], ◌∷◌, ◌++◌, length, get_or, None, sym, ap, ap₂, ◌∙◌, subst, arith, nat_eq}
use Rattle.std.specs.Prelude.{nat_le}
use Rattle.std.proofs.Math.ListN.{set}
use Rattle.std.proofs.lemmas.Bool.{eqb-false}
use Rattle.serial_spec.specs.Interleaving.{Session}
use Rattle.serial_spec.specs.declared.event.Event.{Event}
use Rattle.session_text.specs.Texts.{TextLine, Command}
use Rattle.session_text.specs.Grammar.{IsText}
use Rattle.session_text.specs.Texts.{IsTextLine, open_lines, misplaced, grown}
use Rattle.session_text.proofs.Growth.{push_last, unchanged_last, text_with_line, header_placed}

pub some_placed : (ss : List Session) (e : Event) → misplaced ss (Command e) ≡ None → 0 < length ss
some_placed ss e h = omega (arith, eqb-false (length ss) 0 (header_placed (nat_eq (length ss) 0) (nat_le 1024 (length (open_lines ss))) h).0)

pub pushed : (ss : List Session) (n : ℕ) (s t : Session) (e : Event) (l : TextLine)
    → n ≡ length ss → l ≡ Command e → misplaced ss l ≡ None
    → s ≡ get_or ss (n - 1) s → t.label ≡ s.label → t.lines ≡ s.lines ++ e ∷ []
    → set ss (n - 1) t ≡ grown ss l
pushed ss n s t e l len is placed read label lines =
    let some : 0 < length ss = some_placed ss e (subst (λ (x : TextLine). misplaced ss x ≡ None) is placed) in
    ap (λ k. set ss (k - 1) t) len
    ∙ push_last ss s t e some (subst (λ (k : ℕ). s ≡ get_or ss (k - 1) s) len read) (ap₂ (λ (a : List ℕ) (es : List Event). record { label = a; lines = es }) label lines)
    ∙ ap (grown ss) (sym is)

pub kept : (ss : List Session) (e : Event) (l : TextLine) → IsText ss → IsTextLine l → l ≡ Command e → misplaced ss l ≡ None → IsText (grown ss l)
kept ss e l h valid is placed =
    let placed2 : misplaced ss (Command e) ≡ None = subst (λ (x : TextLine). misplaced ss x ≡ None) is placed in
    subst (λ (x : TextLine). IsText (grown ss x)) (sym is) (text_with_line ss e h (subst IsTextLine is valid) placed2)

-- a push that failed
pub unpushed : (ss : List Session) (n : ℕ) (s t : Session) (e : Event) (l : TextLine)
    → n ≡ length ss → l ≡ Command e → misplaced ss l ≡ None
    → s ≡ get_or ss (n - 1) s → t.label ≡ s.label → t.lines ≡ s.lines
    → set ss (n - 1) t ≡ ss
unpushed ss n s t e l len is placed read label lines =
    let some : 0 < length ss = some_placed ss e (subst (λ (x : TextLine). misplaced ss x ≡ None) is placed) in
    ap (λ k. set ss (k - 1) t) len
    ∙ unchanged_last ss s t some (subst (λ (k : ℕ). s ≡ get_or ss (k - 1) s) len read) (ap₂ (λ (a : List ℕ) (es : List Event). record { label = a; lines = es }) label lines)

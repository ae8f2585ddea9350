-- Sessions that grow while they run: by one line more, and by one session more.
use Rattle.std.proofs.Common.{◌≡◌, ℕ, zero, suc, ◌<◌, ◌≤◌, Bool, true, false, cond, List, [], ◌∷◌, ◌++◌, length, get_or, slice_get, Some, None, refl, sym, ap, ap₂, subst, ◌∙◌, arith, length-append}
use Rattle.std.specs.List.{AllByRecursion}
use Rattle.std.specs.Prelude.{nat_le, IsFalse}
use Rattle.std.proofs.Math.ListN.{set}
use Rattle.std.proofs.lemmas.Bool.{lt-leb}
use Rattle.txn_names.specs.Text.{IsLabel}
use Rattle.serial_spec.specs.declared.event.Event.{Event}
use Rattle.serial_spec.specs.Interleaving.{Session, lines_of}
use Rattle.line_language.specs.Events.{IsEvent}
use Rattle.session_text.specs.Grammar.{IsSession, IsText, AreApart, is_taken}
use Rattle.session_text.specs.Growing.{with_line_of}
use Rattle.line_language.specs.declared.fault.LineKind.TheVariants as kind
use Rattle.session_text.specs.Texts.{with_header}
use Rattle.session_text.proofs.Growth.{longer, all_pushed, text_with_header}

-- ---- one line more

pub same_count : (ss : List Session) (s : ℕ) (e : Event) → length (with_line_of ss s e) ≡ length ss
same_count [] s e = refl
same_count (x ∷ ss) zero e = refl
same_count (x ∷ ss) (suc s) e = ap suc (same_count ss s e)

sessions_still : (ss : List Session) (s : ℕ) (e : Event) → AllByRecursion IsSession ss → IsEvent e → length (lines_of (slice_get ss s)) < 1024
    → AllByRecursion IsSession (with_line_of ss s e)
sessions_still [] s e all is less = tt
sessions_still (x ∷ ss) zero e all is less = (
  record {
    label = all.0.label;
    short = omega (arith, less, length-append {A = Event} x.lines (e ∷ []));
    events = all_pushed IsEvent x.lines e all.0.events is;
  },
  all.1,
)
sessions_still (x ∷ ss) (suc s) e all is less = (all.0, sessions_still ss s e all.1 is less)

same_taken : (l : List ℕ) (ss : List Session) (s : ℕ) (e : Event) → is_taken l (with_line_of ss s e) ≡ is_taken l ss
same_taken l [] s e = refl
same_taken l (x ∷ ss) zero e = refl
same_taken l (x ∷ ss) (suc s) e = rw (same_taken l ss s e) refl

apart_still : (ss : List Session) (s : ℕ) (e : Event) → AreApart ss → AreApart (with_line_of ss s e)
apart_still [] s e apart = tt
apart_still (x ∷ ss) zero e apart = apart
apart_still (x ∷ ss) (suc s) e apart = (same_taken x.label ss s e ∙ apart.0, apart_still ss s e apart.1)

pub line_keeps_text : (ss : List Session) (s : ℕ) (e : Event) → IsText ss → IsEvent e → length (lines_of (slice_get ss s)) < 1024 → IsText (with_line_of ss s e)
line_keeps_text ss s e text is less = record {
  few = subst (λ n. n ≤ 64) (sym (same_count ss s e)) text.few;
  sessions = sessions_still ss s e text.sessions is less;
  apart = apart_still ss s e text.apart;
}

-- a session in memory that has grown
pub line_added : (ss : List Session) (n : ℕ) (s t : Session) (e : Event) → n < length ss → s ≡ get_or ss n s → t.label ≡ s.label → t.lines ≡ s.lines ++ e ∷ []
    → set ss n t ≡ with_line_of ss n e
line_added [] n s t e there read label lines = absurd (omega (arith, there))
line_added (x ∷ ss) zero s t e there read label lines =
    let grown : t ≡ longer s e = ap₂ (λ (a : List ℕ) (es : List Event). record { label = a; lines = es }) label lines in
    ap (λ (u : Session). u ∷ ss) (grown ∙ ap (λ (u : Session). longer u e) read)
line_added (x ∷ ss) (suc n) s t e there read label lines =
    let less : n < length ss = omega (arith, there) in
    ap (λ (ts : List Session). x ∷ ts) (line_added ss n s t e less read label lines)

-- a session in memory that has not
pub line_not_added : (ss : List Session) (n : ℕ) (s t : Session) → n < length ss → s ≡ get_or ss n s → t.label ≡ s.label → t.lines ≡ s.lines → set ss n t ≡ ss
line_not_added [] n s t there read label lines = refl
line_not_added (x ∷ ss) zero s t there read label lines =
    let same : t ≡ s = ap₂ (λ (a : List ℕ) (es : List Event). record { label = a; lines = es }) label lines in
    ap (λ (u : Session). u ∷ ss) (same ∙ read)
line_not_added (x ∷ ss) (suc n) s t there read label lines =
    let less : n < length ss = omega (arith, there) in
    ap (λ (ts : List Session). x ∷ ts) (line_not_added ss n s t less read label lines)

-- ---- one session more

unplaced : (taken full : Bool) → taken ≡ false → full ≡ false → cond taken (Some kind.Header) (cond full (Some kind.Limit) None) ≡ None
unplaced true full a b = cc
unplaced false true a b = cc
unplaced false false a b = refl

pub session_keeps_text : (ss : List Session) (l : List ℕ) → IsText ss → IsLabel l → IsFalse (is_taken l ss) → length ss < 64 → IsText (with_header ss l)
session_keeps_text ss l text label apart few =
    text_with_header ss l text label (unplaced (is_taken l ss) (nat_le 64 (length ss)) apart (lt-leb 64 (length ss) few))

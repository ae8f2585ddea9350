-- Whole texts: what is read is spelled so, and what is spelled so is read.
use Rattle.std.proofs.Common.{◌≡◌, ℕ, ◌+◌, ◌<◌, List, [], ◌∷◌, ◌++◌, length, true, false, Bool, cond, nat_eq, Option, Some, None, Result, Ok, Err, refl, sym, ap, ◌∙◌, subst, arith, append_assoc, append-nil, length-append}
use Rattle.std.specs.Prelude.{codes, nat_le}
use Rattle.std.specs.List.{join_with_byte}
use Rattle.std.proofs.lemmas.Bool.{eqb-true, ne_eqb, lt-leb}
use Rattle.serial_spec.specs.Interleaving.{Session}
use Rattle.line_language.specs.Printing.{spelled_event}
use Rattle.serial_spec.specs.declared.event.Event.{Event}
use Rattle.line_language.specs.declared.fault.LineKind.{LineKind}
use Rattle.line_language.specs.declared.fault.LineKind.TheVariants as kind
use Rattle.session_text.specs.Texts.{TextLine, Header, Command}
use Rattle.line_language.specs.Events.{IsEvent}
use Rattle.session_text.specs.Grammar.{IsSession, IsText, spelled_lines, spelled_session, spelled_text}
use Rattle.line_language.specs.Steps.{◌>>=◌, unless}
use Rattle.session_text.specs.Texts.{IsTextLine, with_line, grown, misplaced, with_bytes, at_line, read_from, sessions_of, Read, line_of}
use Rattle.line_language.specs.Words.{cut_at}
use Rattle.line_language.proofs.Exports.{cut_behind, cut_some, joined_cut, bind_ok}
use Rattle.session_text.proofs.Growth.{longer, open_lines-last, with_line-last, parted, all_front, all_at, apart_front, last_apart, text_with_header, text_with_line}
use Rattle.session_text.proofs.Adding.{some_placed}
use Rattle.session_text.proofs.TextLines.{spelled_line, line_reads, line_again, line_lacks}

-- ---- spelling grows with the sessions

spelled_text-append : (xs ys : List Session) → spelled_text (xs ++ ys) ≡ spelled_text xs ++ spelled_text ys
spelled_text-append [] ys = refl
spelled_text-append (x ∷ xs) ys = ap (λ bs. spelled_session x ++ bs) (spelled_text-append xs ys) ∙ sym (append_assoc (spelled_session x) (spelled_text xs) (spelled_text ys))

spelled_text-last : (xs : List Session) (s : Session) → spelled_text (xs ++ s ∷ []) ≡ spelled_text xs ++ spelled_session s
spelled_text-last xs s = spelled_text-append xs (s ∷ []) ∙ ap (λ bs. spelled_text xs ++ bs) (append-nil (spelled_session s))

spelled_lines-last : (es : List Event) (e : Event) → spelled_lines (es ++ e ∷ []) ≡ spelled_lines es ++ (spelled_event e ++ 10 ∷ [])
spelled_lines-last [] e = refl
spelled_lines-last (d ∷ es) e =
    ap (λ bs. spelled_event d ++ 10 ∷ bs) (spelled_lines-last es e)
    ∙ sym (append_assoc (spelled_event d) (10 ∷ spelled_lines es) (spelled_event e ++ 10 ∷ []))

spelled_session-last : (s : Session) (e : Event) → spelled_session (longer s e) ≡ spelled_session s ++ (spelled_event e ++ 10 ∷ [])
spelled_session-last s e =
    ap (λ bs. (codes "session " ++ s.label) ++ 10 ∷ bs) (spelled_lines-last s.lines e)
    ∙ sym (append_assoc (codes "session " ++ s.label) (10 ∷ spelled_lines s.lines) (spelled_event e ++ 10 ∷ []))

spelled_with_line : (ss : List Session) (e : Event) → 0 < length ss → spelled_text (with_line ss e) ≡ spelled_text ss ++ (spelled_event e ++ 10 ∷ [])
spelled_with_line ss e some =
    let p = parted ss (λ z. omega (arith, z, some)) in
    ap (λ (ts : List Session). spelled_text (with_line ts e)) p.2
    ∙ ap spelled_text (with_line-last p.0 p.1 e)
    ∙ spelled_text-last p.0 (longer p.1 e)
    ∙ ap (λ bs. spelled_text p.0 ++ bs) (spelled_session-last p.1 e)
    ∙ sym (append_assoc (spelled_text p.0) (spelled_session p.1) (spelled_event e ++ 10 ∷ []))
    ∙ ap (λ bs. bs ++ (spelled_event e ++ 10 ∷ [])) (sym (spelled_text-last p.0 p.1) ∙ ap spelled_text (sym p.2))

spelled_grown : (ss : List Session) (l : TextLine) → misplaced ss l ≡ None → spelled_text (grown ss l) ≡ spelled_text ss ++ (spelled_line l ++ 10 ∷ [])
spelled_grown ss (Header l) h = spelled_text-last ss (record { label = l; lines = [] })
spelled_grown ss (Command e) h = spelled_with_line ss e (some_placed ss e h)

-- ---- one line read

text_grown : (ss : List Session) (l : TextLine) → IsText ss → IsTextLine l → misplaced ss l ≡ None → IsText (grown ss l)
text_grown ss (Header l) h k placed = text_with_header ss l h k placed
text_grown ss (Command e) h k placed = text_with_line ss e h k placed

pub faultless : (a : Option LineKind) (x y : List Session) → unless a x ≡ Ok y → (a ≡ None) × (x ≡ y)
faultless None x y h = (refl, cc)
faultless (Some k) x y h = cc

pub with_bytes_reads : (ss more : List Session) (p : List ℕ) → IsText ss → with_bytes ss p ≡ Ok more → IsText more × (spelled_text more ≡ spelled_text ss ++ (p ++ 10 ∷ []))
with_bytes_reads ss more p h e =
    let l = bind_ok (line_of p) (λ l. unless (misplaced ss l) (grown ss l)) more e in
    let f = faultless (misplaced ss l.0) (grown ss l.0) more l.2 in
    let r = line_reads p l.0 l.1 in (
      subst IsText f.1 (text_grown ss l.0 h r.0 f.0),
      ap spelled_text (sym f.1) ∙ spelled_grown ss l.0 f.0 ∙ ap (λ bs. spelled_text ss ++ (bs ++ 10 ∷ [])) (sym r.1),
    )

at_line_ok : (n : ℕ) (r : Result (List Session) LineKind) (ss : List Session) → at_line n r ≡ Ok ss → r ≡ Ok ss
at_line_ok n (Ok ts) ss h = cc
at_line_ok n (Err k) ss h = cc

-- ---- all lines read

ends : (n : ℕ) (p : List ℕ) (ss ts : List Session) (t : Bool) → nat_eq (length p) 0 ≡ t → ◌≡◌ {A = Read} (cond t (Ok ss) (Err (n, kind.End))) (Ok ts) → (ss ≡ ts) × (p ≡ [])
ends n [] ss ts true e h = (cc, refl)
ends n (b ∷ p) ss ts true e h = absurd (omega (arith, eqb-true (length (b ∷ p)) 0 e))
ends n p ss ts false e h = cc

pub read_reads : (ps : List (List ℕ)) (n : ℕ) (ss ts : List Session) → IsText ss → read_from n ss ps ≡ Ok ts → IsText ts × (spelled_text ts ≡ spelled_text ss ++ join_with_byte 10 ps)
read_reads [] n ss ts h e =
    let same : ss ≡ ts = cc in
    (subst IsText same h, ap spelled_text (sym same) ∙ sym (append-nil (spelled_text ss)))
read_reads (p ∷ []) n ss ts h e =
    let r = ends n p ss ts (nat_eq (length p) 0) refl e in
    (subst IsText r.0 h, ap spelled_text (sym r.0) ∙ sym (append-nil (spelled_text ss)) ∙ ap (λ bs. spelled_text ss ++ bs) (sym r.1))
read_reads (p ∷ q ∷ ps) n ss ts h e =
    let more = bind_ok (at_line n (with_bytes ss p)) (λ more. read_from (n + 1) more (q ∷ ps)) ts e in
    let line = with_bytes_reads ss more.0 p h (at_line_ok n (with_bytes ss p) more.0 more.1) in
    let rest = read_reads (q ∷ ps) (n + 1) more.0 ts line.0 more.2 in (
      rest.0,
      rest.1
          ∙ ap (λ bs. bs ++ join_with_byte 10 (q ∷ ps)) line.1
          ∙ append_assoc (spelled_text ss) (p ++ 10 ∷ []) (join_with_byte 10 (q ∷ ps))
          ∙ ap (λ bs. spelled_text ss ++ bs) (append_assoc p (10 ∷ []) (join_with_byte 10 (q ∷ ps))),
    )

pub empty : IsText []
empty = record { few = omega arith; sessions = tt; apart = tt }

pub text_reads : (bs : List ℕ) (ss : List Session) → sessions_of bs ≡ Ok ss → IsText ss × (bs ≡ spelled_text ss)
text_reads bs ss h =
    let r = read_reads (cut_at 10 bs) 1 [] ss empty h in
    (r.0, sym (joined_cut 10 bs) ∙ sym r.1)

-- ---- what is spelled is read

-- a line that has no fault, and what comes behind its line feed
step : (n : ℕ) (ss : List Session) (l : TextLine) (rest : List ℕ) → IsTextLine l → misplaced ss l ≡ None
    → read_from n ss (cut_at 10 (spelled_line l ++ 10 ∷ rest)) ≡ read_from (n + 1) (grown ss l) (cut_at 10 rest)
step n ss l rest h placed =
    let s = cut_some 10 rest in
    let grows : with_bytes ss (spelled_line l) ≡ Ok (grown ss l) =
    ap (λ (r : Result TextLine LineKind). r >>= λ l. unless (misplaced ss l) (grown ss l)) (line_again l h)
    ∙ ap (λ a. unless a (grown ss l)) placed in
    ap (read_from n ss) (cut_behind 10 (spelled_line l) rest (line_lacks l h) ∙ ap (λ ps. spelled_line l ∷ ps) s.2)
    ∙ ap (λ r. at_line n r >>= λ more. read_from (n + 1) more (s.0 ∷ s.1)) grows
    ∙ ap (read_from (n + 1) (grown ss l)) (sym s.2)

-- fronts of a text are texts
text_front : (xs ys : List Session) → IsText (xs ++ ys) → IsText xs
text_front xs ys h = record {
  few = omega (arith, h.few, length-append {A = Session} xs ys);
  sessions = all_front IsSession xs ys h.sessions;
  apart = apart_front xs ys h.apart;
}

abbrev session : List ℕ → List Event → Session
session l es = record { label = l; lines = es }

header_fits : (xs : List Session) (s : Session) → IsText (xs ++ s ∷ []) → misplaced xs (Header s.label) ≡ None
header_fits xs s h =
    let few : nat_le 64 (length xs) ≡ false = lt-leb 64 (length xs) (omega (arith, h.few, length-append {A = Session} xs (s ∷ []))) in
    rw (last_apart xs s h.apart, few) refl

command_fits : (xs : List Session) (l : List ℕ) (es : List Event) (e : Event) (fs : List Event) → IsText (xs ++ session l (es ++ e ∷ fs) ∷ []) → misplaced (xs ++ session l es ∷ []) (Command e) ≡ None
command_fits xs l es e fs h =
    let whole : IsSession (session l (es ++ e ∷ fs)) = all_at IsSession xs (session l (es ++ e ∷ fs)) [] h.sessions in
    let some : nat_eq (length (xs ++ session l es ∷ [])) 0 ≡ false = ne_eqb _ 0 (λ z. omega (arith, z, length-append {A = Session} xs (session l es ∷ []))) in
    let short : nat_le 1024 (length es) ≡ false = lt-leb 1024 (length es) (omega (arith, whole.short, length-append {A = Event} es (e ∷ fs))) in
    rw (some, open_lines-last xs (session l es)) (rw short refl)

abbrev ReadsOn : ℕ → List Session → List ℕ → List Session → List ℕ → Type 0
ReadsOn n ss bs ts rest = (m : ℕ) × (read_from n ss (cut_at 10 bs) ≡ read_from m ts (cut_at 10 rest))

-- the lines of a session
lines_again : (fs es : List Event) (n : ℕ) (xs : List Session) (l : List ℕ) (rest : List ℕ) → IsText (xs ++ session l (es ++ fs) ∷ [])
    → ReadsOn n (xs ++ session l es ∷ []) (spelled_lines fs ++ rest) (xs ++ session l (es ++ fs) ∷ []) rest
lines_again [] es n xs l rest h = (n, ap (λ ds. read_from n (xs ++ session l ds ∷ []) (cut_at 10 rest)) (sym (append-nil es)))
lines_again (e ∷ fs) es n xs l rest h =
    let ss : List Session = xs ++ session l es ∷ [] in
    let whole : IsSession (session l (es ++ e ∷ fs)) = all_at IsSession xs (session l (es ++ e ∷ fs)) [] h.sessions in
    let here = step n ss (Command e) (spelled_lines fs ++ rest) (all_at IsEvent es e fs whole.events)
    (command_fits xs l es e fs h) in
    let on = lines_again fs (es ++ e ∷ []) (n + 1) xs l rest (subst (λ ds. IsText (xs ++ session l ds ∷ [])) (sym (append_assoc es (e ∷ []) fs)) h) in (
      on.0,
      ap (λ bs. read_from n ss (cut_at 10 bs)) (append_assoc (spelled_event e) (10 ∷ spelled_lines fs) rest)
          ∙ here
          ∙ ap (λ ts. read_from (n + 1) ts (cut_at 10 (spelled_lines fs ++ rest))) (with_line-last xs (session l es) e)
          ∙ on.1
          ∙ ap (λ ds. read_from on.0 (xs ++ session l ds ∷ []) (cut_at 10 rest)) (append_assoc es (e ∷ []) fs),
    )

-- the sessions of a text
sessions_again : (ss : List Session) (n : ℕ) (xs : List Session) → IsText (xs ++ ss) → read_from n xs (cut_at 10 (spelled_text ss)) ≡ Ok (xs ++ ss)
sessions_again [] n xs h = ap Ok (sym (append-nil xs))
sessions_again (s ∷ ss) n xs h =
    let whole : IsText ((xs ++ s ∷ []) ++ ss) = subst IsText (sym (append_assoc xs (s ∷ []) ss)) h in
    let here : IsText (xs ++ s ∷ []) = text_front (xs ++ s ∷ []) ss whole in
    let label = all_at IsSession xs s [] here.sessions in
    let head = step n xs (Header s.label) (spelled_lines s.lines ++ spelled_text ss) label.label
    (header_fits xs s here) in
    let lines = lines_again s.lines [] (n + 1) xs s.label (spelled_text ss) here in
    ap (λ bs. read_from n xs (cut_at 10 bs)) (append_assoc (codes "session " ++ s.label) (10 ∷ spelled_lines s.lines) (spelled_text ss))
    ∙ head
    ∙ lines.1
    ∙ sessions_again ss lines.0 (xs ++ s ∷ []) whole
    ∙ ap Ok (append_assoc xs (s ∷ []) ss)

pub text_again : (ss : List Session) → IsText ss → sessions_of (spelled_text ss) ≡ Ok ss
text_again ss h = sessions_again ss 1 [] h

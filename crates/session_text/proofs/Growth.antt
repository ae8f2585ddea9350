-- Sessions that grow by a line.
use Rattle.std.proofs.Common.{◌≡◌, ℕ, suc, ◌-◌, ◌<◌, List, [], ◌∷◌, ◌++◌, length, get_or, true, false, Bool, cond, nat_eq, Some, None, refl, sym, ap, ◌∙◌, subst, arith, length-append, true≢false}
use Rattle.std.specs.Prelude.{nat_le}
use Rattle.std.specs.List.{AllByRecursion}
use Rattle.std.proofs.Math.ListN.{set}
use Rattle.std.proofs.lemmas.Bool.{or_parts, or_from, leb-false}
use Rattle.std.proofs.lemmas.Bool.Decides.{nat_tests}
use Rattle.txn_names.specs.Path.{label_eq}
use Rattle.txn_names.specs.Text.{IsLabel}
use Rattle.txn_names.proofs.Exports.{label_eq_self, same_label}
use Rattle.serial_spec.specs.Interleaving.{Session}
use Rattle.serial_spec.specs.declared.event.Event.{Event}
use Rattle.line_language.specs.declared.fault.LineKind.TheVariants as kind
use Rattle.session_text.specs.Texts.{Header, Command}
use Rattle.line_language.specs.Events.{IsEvent}
use Rattle.session_text.specs.Grammar.{IsSession, IsText, AreApart, is_taken}
use Rattle.session_text.specs.Texts.{open_lines, with_line, with_header, misplaced}

-- ---- the last session

abbrev pub longer : Session → Event → Session
longer s e = record { label = s.label; lines = s.lines ++ e ∷ [] }

pub open_lines-last : (xs : List Session) (s : Session) → open_lines (xs ++ s ∷ []) ≡ s.lines
open_lines-last [] s = refl
open_lines-last (x ∷ []) s = refl
open_lines-last (x ∷ y ∷ xs) s = open_lines-last (y ∷ xs) s

pub with_line-last : (xs : List Session) (s : Session) (e : Event) → with_line (xs ++ s ∷ []) e ≡ xs ++ longer s e ∷ []
with_line-last [] s e = refl
with_line-last (x ∷ []) s e = refl
with_line-last (x ∷ y ∷ xs) s e = ap (λ (ss : List Session). x ∷ ss) (with_line-last (y ∷ xs) s e)

-- some sessions are all but the last, and the last
pub parted : (ss : List Session) → (length ss ≡ 0 → ⊥) → (xs : List Session) × (s : Session) × (ss ≡ xs ++ s ∷ [])
parted [] h = absurd (h refl)
parted (s ∷ []) h = ([], s, refl)
parted (s ∷ t ∷ ss) h = let p = parted (t ∷ ss) (λ e. omega (arith, e)) in (s ∷ p.0, p.1, ap (λ (ts : List Session). s ∷ ts) p.2)

pub read_last : (xs : List Session) (s d : Session) → get_or (xs ++ s ∷ []) (length (xs ++ s ∷ []) - 1) d ≡ s
read_last [] s d = refl
read_last (x ∷ xs) s d =
    let e : suc (length (xs ++ s ∷ [])) - 1 ≡ suc (length (xs ++ s ∷ []) - 1) = omega (arith, length-append {A = Session}) in
    rw e (read_last xs s d)

pub set_last : (xs : List Session) (s t : Session) → set (xs ++ s ∷ []) (length (xs ++ s ∷ []) - 1) t ≡ xs ++ t ∷ []
set_last [] s t = refl
set_last (x ∷ xs) s t =
    let e : suc (length (xs ++ s ∷ [])) - 1 ≡ suc (length (xs ++ s ∷ []) - 1) = omega (arith, length-append {A = Session}) in
    rw e (ap (λ (ts : List Session). x ∷ ts) (set_last xs s t))

pub open_last : (ss : List Session) (s : Session) → 0 < length ss → s ≡ get_or ss (length ss - 1) s → open_lines ss ≡ s.lines
open_last ss s h e =
    let p = parted ss (λ z. omega (arith, z, h)) in
    ap open_lines p.2 ∙ open_lines-last p.0 p.1
    ∙ ap (λ (t : Session). t.lines) (sym (read_last p.0 p.1 s) ∙ ap (λ (ts : List Session). get_or ts (length ts - 1) s) (sym p.2) ∙ sym e)

pub push_last : (ss : List Session) (s t : Session) (e : Event) → 0 < length ss → s ≡ get_or ss (length ss - 1) s → t ≡ longer s e → set ss (length ss - 1) t ≡ with_line ss e
push_last ss s t e h same grown =
    let p = parted ss (λ z. omega (arith, z, h)) in
    let last : p.1 ≡ s = sym (read_last p.0 p.1 s) ∙ ap (λ (ts : List Session). get_or ts (length ts - 1) s) (sym p.2) ∙ sym same in
    ap (λ (ts : List Session). set ts (length ts - 1) t) p.2
    ∙ set_last p.0 p.1 t
    ∙ ap (λ (u : Session). p.0 ++ u ∷ []) (grown ∙ ap (λ (u : Session). longer u e) (sym last))
    ∙ sym (with_line-last p.0 p.1 e)
    ∙ ap (λ (ts : List Session). with_line ts e) (sym p.2)

pub unchanged_last : (ss : List Session) (s t : Session) → 0 < length ss → s ≡ get_or ss (length ss - 1) s → t ≡ s → set ss (length ss - 1) t ≡ ss
unchanged_last ss s t h same is =
    let p = parted ss (λ z. omega (arith, z, h)) in
    let last : p.1 ≡ s = sym (read_last p.0 p.1 s) ∙ ap (λ (ts : List Session). get_or ts (length ts - 1) s) (sym p.2) ∙ sym same in
    ap (λ (ts : List Session). set ts (length ts - 1) t) p.2
    ∙ set_last p.0 p.1 t
    ∙ ap (λ (u : Session). p.0 ++ u ∷ []) (is ∙ sym last)
    ∙ sym p.2

-- ---- facts of each element

pub all_pushed : {A : Type 0} (P : A → Type 0) (xs : List A) (x : A) → AllByRecursion P xs → P x → AllByRecursion P (xs ++ x ∷ [])
all_pushed P [] x h p = (p, tt)
all_pushed P (y ∷ ys) x h p = (h.0, all_pushed P ys x h.1 p)

pub all_front : {A : Type 0} (P : A → Type 0) (xs ys : List A) → AllByRecursion P (xs ++ ys) → AllByRecursion P xs
all_front P [] ys h = tt
all_front P (x ∷ xs) ys h = (h.0, all_front P xs ys h.1)

pub all_at : {A : Type 0} (P : A → Type 0) (xs : List A) (x : A) (ys : List A) → AllByRecursion P (xs ++ x ∷ ys) → P x
all_at P [] x ys h = h.0
all_at P (y ∷ xs) x ys h = all_at P xs x ys h.1

-- ---- labels, each once

label_eq-false : (a b : List ℕ) → label_eq a b ≡ false → label_eq b a ≡ false
label_eq-false a b e = by (label_eq b a) refl
  where
    by : (t : Bool) → label_eq b a ≡ t → t ≡ false
    by true f = absurd (true≢false (sym (subst (λ (x : List ℕ). label_eq a x ≡ true) (sym (same_label b a f)) (label_eq_self a)) ∙ e))
    by false f = refl

is_taken-push : (l : List ℕ) (xs : List Session) (s : Session) → is_taken l xs ≡ false → label_eq l s.label ≡ false → is_taken l (xs ++ s ∷ []) ≡ false
is_taken-push l [] s h e = rw e refl
is_taken-push l (x ∷ xs) s h e =
    let p = or_parts (label_eq l x.label) (is_taken l xs) h in
    or_from _ _ p.0 (is_taken-push l xs s p.1 e)

pub apart_pushed : (xs : List Session) (s : Session) → AreApart xs → is_taken s.label xs ≡ false → AreApart (xs ++ s ∷ [])
apart_pushed [] s h e = (refl, tt)
apart_pushed (x ∷ xs) s h e =
    let p = or_parts (label_eq s.label x.label) (is_taken s.label xs) e in
    (is_taken-push x.label xs s h.0 (label_eq-false s.label x.label p.0), apart_pushed xs s h.1 p.1)

taken_front : (l : List ℕ) (xs ys : List Session) → is_taken l (xs ++ ys) ≡ false → is_taken l xs ≡ false
taken_front l [] ys h = refl
taken_front l (x ∷ xs) ys h =
    let p = or_parts (label_eq l x.label) (is_taken l (xs ++ ys)) h in
    or_from _ _ p.0 (taken_front l xs ys p.1)

pub apart_front : (xs ys : List Session) → AreApart (xs ++ ys) → AreApart xs
apart_front [] ys h = tt
apart_front (x ∷ xs) ys h = (taken_front x.label xs ys h.0, apart_front xs ys h.1)

taken_last : (l : List ℕ) (xs : List Session) (s : Session) → is_taken l (xs ++ s ∷ []) ≡ false → label_eq l s.label ≡ false
taken_last l [] s h = (or_parts (label_eq l s.label) false h).0
taken_last l (x ∷ xs) s h = taken_last l xs s (or_parts (label_eq l x.label) (is_taken l (xs ++ s ∷ [])) h).1

pub last_apart : (xs : List Session) (s : Session) → AreApart (xs ++ s ∷ []) → is_taken s.label xs ≡ false
last_apart [] s h = refl
last_apart (x ∷ xs) s h = or_from _ _ (label_eq-false x.label s.label (taken_last x.label xs s h.0)) (last_apart xs s h.1)

-- ---- texts

pub header_placed : (t u : Bool) → cond t (Some kind.Header) (cond u (Some kind.Limit) None) ≡ None → (t ≡ false) × (u ≡ false)
header_placed true u h = cc
header_placed false true h = cc
header_placed false false h = (refl, refl)

pub text_with_header : (ss : List Session) (l : List ℕ) → IsText ss → IsLabel l → misplaced ss (Header l) ≡ None → IsText (with_header ss l)
text_with_header ss l h k placed =
    let p = header_placed (is_taken l ss) (nat_le 64 (length ss)) placed in
    let s : Session = record { label = l; lines = [] } in
    let new : IsSession s = record { label = k; short = omega arith; events = tt } in
    record {
      few = omega (arith, leb-false 64 (length ss) p.1, length-append {A = Session} ss (s ∷ []));
      sessions = all_pushed IsSession ss s h.sessions new;
      apart = apart_pushed ss s h.apart p.0;
    }

last_longer : (xs : List Session) (s : Session) (e : Event) → IsText (xs ++ s ∷ []) → IsEvent e → length s.lines < 1024 → IsText (xs ++ longer s e ∷ [])
last_longer xs s e h k short =
    let old : IsSession s = all_at IsSession xs s [] h.sessions in
    let new : IsSession (longer s e) = record {
      label = old.label;
      short = omega (arith, length-append {A = Event} s.lines (e ∷ []));
      events = all_pushed IsEvent s.lines e old.events k;
    } in
    record {
      few = omega (arith, h.few, length-append {A = Session} xs (s ∷ []), length-append {A = Session} xs (longer s e ∷ []));
      sessions = all_pushed IsSession xs (longer s e) (all_front IsSession xs (s ∷ []) h.sessions) new;
      apart = apart_pushed xs (longer s e) (apart_front xs (s ∷ []) h.apart) (last_apart xs s h.apart);
    }

pub text_with_line : (ss : List Session) (e : Event) → IsText ss → IsEvent e → misplaced ss (Command e) ≡ None → IsText (with_line ss e)
text_with_line ss e h k placed =
    let p = header_placed (nat_eq (length ss) 0) (nat_le 1024 (length (open_lines ss))) placed in
    let q = parted ss (λ z. true≢false (sym (grind (arith, nat_tests)) ∙ p.0)) in
    let short : length q.1.lines < 1024 = omega (arith, leb-false 1024 (length (open_lines ss)) p.1, ap (λ (ts : List Session). length (open_lines ts)) q.2, ap (λ (es : List Event). length es) (open_lines-last q.0 q.1)) in
    subst IsText (sym (ap (λ (ts : List Session). with_line ts e) q.2 ∙ with_line-last q.0 q.1 e)) (last_longer q.0 q.1 e (subst IsText q.2 h) k short)

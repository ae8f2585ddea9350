-- Texts with the same sessions.
use Rattle.std.proofs.Common.{◌≡◌, ℕ, zero, suc, ◌+◌, ◌<◌, ◌≤◌, ◌⊎◌, ◌↔◌, inl, inr, Bool, true, false, not, IsTrue, List, [], ◌∷◌, length, Option, Some, None, is_some, option_map, refl, sym, ap, subst, ◌∙◌, arith}
use Rattle.std.specs.Prelude.{slice_get}
use Rattle.std.proofs.lemmas.Bool.{cases_lt, false≢true}
use Rattle.std.proofs.lemmas.Option.{none-some, slice_get_past, slice_get_within}
use Rattle.serial_spec.specs.declared.event.Event.{Event}
use Rattle.serial_spec.specs.Interleaving.{Session, lines_of}
use Rattle.std.specs.List.{AllByRecursion}
use Rattle.event_lists.specs.declared.view.EventView.{EventView}
use Rattle.event_lists.specs.Views.{asked}
use Rattle.session_text.specs.Grammar.{IsSession, IsText}
use Rattle.session_text.specs.Texts.{label_at, line_at}
use Rattle.interleavings.proofs.Exports.{line_of_number, short, unsome}
use Rattle.shared_book.proofs.Lists.{same_lists}

pub line_within : (ss : List Session) (s l : ℕ) (e : Event) → IsText ss → 1 ≤ l → Some e ≡ line_at ss s l → l ≤ 1024
line_within ss s zero e text some at = absurd (omega (arith, some))
line_within ss s (suc n) e text some at = by (slice_get ss s) refl
  where
    by : (x : Option Session) → slice_get ss s ≡ x → suc n ≤ 1024
    by None is = absurd (none-some e (sym (at ∙ line_of_number ss s n ∙ ap (λ z. slice_get (lines_of z) n) is)))
    by (Some x) is =
        let there : slice_get x.lines n ≡ Some e = sym (at ∙ line_of_number ss s n ∙ ap (λ z. slice_get (lines_of z) n) is) in
        omega (arith, slice_get_within x.lines n e there, short ss s x text.sessions is)

-- the lines of a session are the same where each is, up to one that neither has
pub same_to_the_end : (a b : List Session) (s l : ℕ) → 1 ≤ l → ((i : ℕ) → 1 ≤ i → i < l → line_at a s i ≡ line_at b s i) → line_at a s l ≡ None → line_at b s l ≡ None
    → lines_of (slice_get a s) ≡ lines_of (slice_get b s)
same_to_the_end a b s zero some same a_ends b_ends = absurd (omega (arith, some))
same_to_the_end a b s (suc n) some same a_ends b_ends =
    same_lists (lines_of (slice_get a s)) (lines_of (slice_get b s)) n
    (λ i less. sym (line_of_number a s i) ∙ same (suc i) (omega arith) (omega (arith, less)) ∙ line_of_number b s i)
    (sym (line_of_number a s n) ∙ a_ends) (sym (line_of_number b s n) ∙ b_ends)

-- and so each is, where the lines are the same
pub lines_same : (a b : List Session) (s l : ℕ) → lines_of (slice_get a s) ≡ lines_of (slice_get b s) → line_at a s l ≡ line_at b s l
lines_same a b s zero same = refl
lines_same a b s (suc n) same = line_of_number a s n ∙ ap (λ ls. slice_get ls n) same ∙ sym (line_of_number b s n)

-- a session is its label and its lines
session_of : (x y : Session) → x.label ≡ y.label → x.lines ≡ y.lines → x ≡ y
session_of x y label lines = ap (λ l. record { label = l; lines = x.lines }) label ∙ ap (λ ls. record { label = y.label; lines = ls }) lines

pub same_session : (a b : List Session) (s : ℕ) → label_at a s ≡ label_at b s → lines_of (slice_get a s) ≡ lines_of (slice_get b s) → slice_get a s ≡ slice_get b s
same_session a b s label lines = by (slice_get a s) (slice_get b s) label lines
  where
    by : (x y : Option Session) → option_map (λ t. t.label) x ≡ option_map (λ t. t.label) y → lines_of x ≡ lines_of y → x ≡ y
    by None None l ls = refl
    by None (Some y) l ls = absurd (none-some y.label l)
    by (Some x) None l ls = absurd (none-some x.label (sym l))
    by (Some x) (Some y) l ls = ap (λ z. Some z) (session_of x y (unsome x.label y.label l) ls)

-- as many sessions, each the same
pub all_same : (a b : List Session) → length a ≡ length b → ((s : ℕ) → s < length a → slice_get a s ≡ slice_get b s) → a ≡ b
all_same a b count each =
    same_lists a b (length a) each (slice_get_past a (length a) (omega arith)) (slice_get_past b (length a) (omega (arith, count)))

-- what holds of each before l and of l holds of each before the next
pub up_to : (P : ℕ → Type 0) (l : ℕ) → ((i : ℕ) → 1 ≤ i → i < l → P i) → P l → (i : ℕ) → 1 ≤ i → i < l + 1 → P i
up_to P l before at i some less = by (cases_lt i l)
  where
    by : (i < l) ⊎ (l ≤ i) → P i
    by (inl under) = before i some under
    by (inr over) =
        let is : l ≡ i = omega (arith, less, over) in
        subst P is at

none_asked : (x : Option EventView) → is_some x ≡ is_some (option_map asked x)
none_asked None = refl
none_asked (Some b) = refl

-- where the one has no line left, the lines are the same just where the other has none either
pub ended : (a b : List Session) (s l : ℕ) → 1 ≤ l → ((i : ℕ) → 1 ≤ i → i < l → line_at a s i ≡ line_at b s i) → line_at a s l ≡ None
    → (x : Option EventView) (r : Bool) → option_map asked x ≡ line_at b s l → is_some x ≡ not r → IsTrue r ↔ (lines_of (slice_get a s) ≡ lines_of (slice_get b s))
ended a b s l some same a_ends x r at told = by (line_at b s l) refl r (ap is_some (sym at) ∙ sym (none_asked x) ∙ told)
  where
    by : (y : Option Event) → line_at b s l ≡ y → (q : Bool) → is_some y ≡ not q → IsTrue q ↔ (lines_of (slice_get a s) ≡ lines_of (slice_get b s))
    by None b_ends true t = (λ h. same_to_the_end a b s l some same a_ends b_ends, λ e. refl)
    by None b_ends false t = absurd (false≢true t)
    by (Some e) there true t = absurd (false≢true (sym t))
    by (Some e) there false t = (λ h. absurd (false≢true h), λ equal. absurd (none-some e (sym a_ends ∙ lines_same a b s l equal ∙ there)))

-- The entries of a report, as they are told: each is one of the grammar.
use Rattle.std.proofs.Common.{◌≡◌, ℕ, zero, suc, ◌<◌, List, [], ◌∷◌, length, true, Option, Some, None, refl, sym, ap, ◌∙◌, subst, arith}
use Rattle.std.specs.Prelude.{map, slice_get, unwrap_or, option_map}
use Rattle.std.specs.List.{AllByRecursion}
use Rattle.std.proofs.lemmas.Option.{slice_get-map, slice_get_within}
use Rattle.txn_names.specs.Text.{IsLabel, IsName}
use Rattle.serial_spec.specs.declared.limits.TheConstants.{MOST_LINES}
use Rattle.serial_spec.specs.declared.entry.By.{By}
use Rattle.serial_spec.specs.declared.entry.By.TheVariants as by
use Rattle.serial_spec.specs.declared.entry.Answer.{Answer}
use Rattle.serial_spec.specs.declared.entry.Answer.TheVariants.{Done}
use Rattle.serial_spec.specs.declared.event.Event.{Event}
use Rattle.serial_spec.specs.declared.event.Event.TheVariants.{Abort}
use Rattle.serial_spec.specs.declared.operation.Reply.TheVariants.{Ok}
use Rattle.line_language.specs.Report.{name_in, spelled_entry}
use Rattle.serial_spec.specs.History.{History, Name, effect_of, begun, has_begun}
use Rattle.serial_spec.specs.Rows.{Rows, value_in}
use Rattle.serial_spec.specs.Waits.{IsVictim}
use Rattle.serial_spec.specs.Legal.{AreAllowed, IsAbortOf, first_live}
use Rattle.serial_spec.specs.Interleaving.{IsInTurn, IsInterleaving, Session, answered, lines_of, next_event}
use Rattle.line_language.specs.Events.{IsEvent}
use Rattle.session_text.specs.Grammar.{IsSession, IsText}
use Rattle.txn_history.proofs.Exports.{abort_of, AbortOf, told}
use Rattle.line_language.specs.Entries.{IsReportEntry, spelled_report_entry}
use Rattle.report_laws.specs.Laws.{told_by}
use Rattle.report_laws.proofs.Answers.{allowed_fits, begun_named}
use Rattle.report_laws.proofs.Turns.{with_parts}
use Rattle.report_laws.proofs.Values.{AreEvents, HasRows}

abbrev pub label_in : List (List ℕ) → ℕ → List ℕ
label_in labels s = unwrap_or (slice_get labels s) []

pub told_spelled : (labels : List (List ℕ)) (b : By) (e : Event) (a : Answer) → spelled_entry labels b e a ≡ spelled_report_entry (told_by labels b e a)
told_spelled labels (by.Line s n) e a = refl
told_spelled labels by.Victim e a = refl
told_spelled labels by.Close e a = refl

-- ---- lines of sessions

all_at : {X : Type 0} (P : X → Type 0) (xs : List X) (i : ℕ) (x : X) → AllByRecursion P xs → slice_get xs i ≡ Some x → P x
all_at P [] i x all e = cc
all_at P (y ∷ ys) zero x all e = let same : y ≡ x = cc in subst P same all.0
all_at P (y ∷ ys) (suc i) x all e = all_at P ys i x all.1 e

abbrev pub labels_of : List Session → List (List ℕ)
labels_of ss = map (λ s. s.label) ss

pub record IsLineOf (ss : List Session) (s n : ℕ) (e : Event) : Type 0 where
  pub within : s < length ss
  pub label : IsLabel (label_in (labels_of ss) s)
  pub event : IsEvent e
  pub short : n < MOST_LINES

line_by : (ss : List Session) (s n : ℕ) (e : Event) → AllByRecursion IsSession ss → (o : Option Session) → slice_get ss s ≡ o → slice_get (lines_of o) n ≡ Some e → IsLineOf ss s n e
line_by ss s n e all None is found = cc
line_by ss s n e all (Some t) is found =
    let one = all_at IsSession ss s t all is in
    record {
      within = slice_get_within ss s t is;
      label = subst IsLabel (sym (ap (λ o. unwrap_or o []) (slice_get-map (λ u. u.label) ss s ∙ ap (option_map (λ u. u.label)) is))) one.label;
      event = all_at IsEvent t.lines n e one.events found;
      short = omega (arith, slice_get_within t.lines n e found, one.short);
    }

pub line_of : (ss : List Session) (h : History) (s : ℕ) (e : Event) → IsText ss → next_event ss h s ≡ Some e → IsLineOf ss s (answered h s) e
line_of ss h s e text found = line_by ss s (answered h s) e text.sessions (slice_get ss s) refl found

-- ---- the names of those whom the manager aborts

abort_begun : (rows : Rows) (h : History) (b : By) (e : Event) (a : Answer) (t : Name) → AreAllowed rows (with_parts b e a ∷ h) → e ≡ Abort t → a ≡ Done Ok → has_begun h t ≡ true
abort_begun rows h b e a t allowed is ok =
    subst (λ (x : Answer). AbortOf h (effect_of (Abort t) x)) ok (subst (λ (x : Event). AbortOf h (effect_of x a)) is (told rows (with_parts b e a) h allowed).abort)

record IsNamedAbort (e : Event) (a : Answer) : Type 0 where
  name : Name
  event : e ≡ Abort name
  ok : a ≡ Done Ok
  named : IsName name

named_abort : (rows : Rows) (h : History) (b : By) (P : Name → Type 0) (e : Event) (a : Answer) → AreEvents h → AreAllowed rows (with_parts b e a ∷ h) → IsAbortOf P e a → IsNamedAbort e a
named_abort rows h b P e a events allowed m =
    let t = abort_of P e a m in
    record { name = t.0; event = t.1; ok = t.2; named = begun_named h t.0 events (abort_begun rows h b e a t.0 allowed t.1 t.2) }

-- ---- every entry

event_by : (rows : Rows) (ss : List Session) (h : History) (b : By) (e : Event) (a : Answer) → IsText ss → AreEvents h → AreAllowed rows (with_parts b e a ∷ h) → IsInTurn rows ss h b e a → IsEvent e
event_by rows ss h (by.Line s n) e a text events allowed turn = (line_of ss h s e text turn.1).event
event_by rows ss h by.Victim e a text events allowed turn =
    let t = named_abort rows h by.Victim (IsVictim h) e a events allowed allowed.1 in subst IsEvent (sym t.event) t.named
event_by rows ss h by.Close e a text events allowed turn =
    let t = named_abort rows h by.Close (λ t. first_live h (begun h) ≡ Some t) e a events allowed allowed.1 in subst IsEvent (sym t.event) t.named

pub events_are : (rows : Rows) (ss : List Session) (h : History) → IsText ss → AreAllowed rows h → IsInterleaving rows ss h → AreEvents h
events_are rows ss [] text allowed turns = tt
events_are rows ss (e ∷ h) text allowed turns =
    let before = events_are rows ss h text allowed.0 turns.0 in
    (event_by rows ss h e.by e.event e.answer text before allowed turns.1, before)

pub told_is : (rows : Rows) (ss : List Session) (h : History) (b : By) (e : Event) (a : Answer) → IsText ss → AreEvents h → HasRows (value_in rows) → AreAllowed rows (with_parts b e a ∷ h)
    → IsInTurn rows ss h b e a → IsReportEntry (told_by (labels_of ss) b e a)
told_is rows ss h (by.Line s n) e a text events has allowed turn =
    let is = line_of ss h s e text turn.1 in
    let fit = allowed_fits rows h allowed.0 has events (by.Line s n) e a allowed.1 in
    record { label = is.label; first = omega (arith, turn.0); last = omega (arith, turn.0, is.short); event = is.event; answer = fit.answer; fits = fit.fits }
told_is rows ss h by.Victim e a text events has allowed turn =
    let t = named_abort rows h by.Victim (IsVictim h) e a events allowed allowed.1 in subst (λ (x : Event). IsName (name_in x)) (sym t.event) t.named
told_is rows ss h by.Close e a text events has allowed turn =
    let t = named_abort rows h by.Close (λ t. first_live h (begun h) ≡ Some t) e a events allowed allowed.1 in subst (λ (x : Event). IsName (name_in x)) (sym t.event) t.named

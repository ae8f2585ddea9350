-- What a legal history that takes the sessions' lines in turn says of its next entry: that it goes on with its session, and that the close is last.
use Rattle.std.proofs.Common.{◌≡◌, ℕ, suc, List, [], ◌∷◌, true, false, Bool, cond, eqb, not, Option, Some, None, refl, sym, ap, ap₂, ◌∙◌, subst}
use Rattle.std.specs.Prelude.{◌&&◌, ◌||◌, slice_get}
use Rattle.std.specs.List.{list_any}
use Rattle.std.specs.Str.{bytes_eq}
use Rattle.std.proofs.lemmas.Bool.{and_from, eq-eqb, eqb-true, or_left, or_right}
use mathlib.Core.Bool.{Bool-set}
use mathlib.Core.Logic.{∥∥₁_elim}
use Rattle.txn_names.proofs.Exports.{label_eq_self, on_test}
use Rattle.serial_spec.specs.declared.entry.By.{By}
use Rattle.serial_spec.specs.declared.entry.By.TheVariants as by
use Rattle.serial_spec.specs.declared.entry.Answer.{Answer}
use Rattle.serial_spec.specs.declared.entry.Answer.TheVariants.{Done, Waits, Stuck, Refused}
use Rattle.serial_spec.specs.declared.entry.Entry.{Entry}
use Rattle.serial_spec.specs.declared.event.Event.{Event}
use Rattle.line_language.specs.Printing.{spelled_event}
use Rattle.serial_spec.specs.History.{History, begun}
use Rattle.serial_spec.specs.Rows.{Rows}
use Rattle.serial_spec.specs.Waits.{Quiet, IsVictim, is_waits, same_line}
use Rattle.serial_spec.specs.Allowed.{has_waited}
use Rattle.serial_spec.specs.Legal.{AreAllowed, IsAbortOf, Legal, MayStand, first_live}
use Rattle.serial_spec.specs.Interleaving.{AllAnswered, FitsMoment, IsInTurn, IsInterleaving, Session, answered, is_answer_in, lines_of, next_event, next_line}
use Rattle.txn_history.specs.Laws.{may_add_pair}
use Rattle.txn_history.proofs.Exports.{abort_of, clash, legal_allowed, quiet_stays}
use Rattle.report_check.specs.Passing.{goes_on, is_close, is_in_time, waiting, waiting_by}

abbrev pub with_parts : By → Event → Answer → Entry
with_parts b e a = record { by = b; event = e; answer = a }

-- ---- whoever waits

-- the session's next line is the one that waits
pub record IsNextWait (ss : List Session) (h : History) (s : ℕ) (w : Event) : Type 0 where
  pub next : next_event ss h s ≡ Some w
  pub waited : has_waited h (next_line h s) ≡ true

none_waits : {P : Type 0} (w : Event) → ◌≡◌ {A = Option Event} None (Some w) → P
none_waits w e = cc

same_event : (e w : Event) → Some e ≡ Some w → e ≡ w
same_event e w same = cc

module _ (rows : Rows) (ss : List Session) (h : History) where
  carried : (b : By) (e : Event) (a : Answer) (s : ℕ) (w : Event) → is_answer_in s b a ≡ false → next_event ss h s ≡ Some w
      → ((same_line b (next_line h s) && is_waits a) || has_waited h (next_line h s)) ≡ true → IsNextWait ss (with_parts b e a ∷ h) s w
  carried b e a s w waits next waited =
      let stays = ap (λ t. cond t (suc (answered h s)) (answered h s)) waits in
      record {
        next = ap (slice_get (lines_of (slice_get ss s))) stays ∙ next;
        waited = subst (λ (m : ℕ). ((same_line b (by.Line s (suc m)) && is_waits a) || has_waited h (by.Line s (suc m))) ≡ true) (sym stays) waited;
      }

  wait_by : (b : By) (e : Event) (a : Answer) (s : ℕ) (w : Event) → IsInTurn rows ss h b e a → (waiting h s ≡ Some w → IsNextWait ss h s w)
      → waiting_by b e a s (waiting h s) ≡ Some w → IsNextWait ss (with_parts b e a ∷ h) s w
  wait_by (by.Line u n) e a s w turn before = on_test (eqb s u)
      (λ t. cond t (cond (is_waits a) (Some e) None) (waiting h s) ≡ Some w → IsNextWait ss (with_parts (by.Line u n) e a ∷ h) s w)
      (λ own. on_test (is_waits a) (λ t. cond t (Some e) None ≡ Some w → IsNextWait ss (with_parts (by.Line u n) e a ∷ h) s w)
      (λ waits same. let it = eqb-true s u own in
      carried (by.Line u n) e a s w (ap₂ (λ p q. p && not q) own waits) (ap (next_event ss h) it ∙ turn.1 ∙ same)
      (or_left _ _ (and_from _ _ (and_from _ _ (eq-eqb u s (sym it)) (eq-eqb n _ (turn.0 ∙ ap (λ v. suc (answered h v)) (sym it)))) waits)))
      (λ _ none. none_waits w none))
      (λ other found. let is = before found in
      carried (by.Line u n) e a s w (ap (λ p. p && not (is_waits a)) other) is.next (or_right _ _ is.waited))
  wait_by by.Victim e a s w turn before = λ found. let is = before found in carried by.Victim e a s w refl is.next (or_right (false && is_waits a) _ is.waited)
  wait_by by.Close e a s w turn before = λ found. let is = before found in carried by.Close e a s w refl is.next (or_right (false && is_waits a) _ is.waited)

pub waits_next : (rows : Rows) (ss : List Session) (h : History) (s : ℕ) (w : Event) → IsInterleaving rows ss h → waiting h s ≡ Some w → IsNextWait ss h s w
waits_next rows ss [] s w turn found = none_waits w found
waits_next rows ss (e ∷ h) s w turn found = wait_by rows ss h e.by e.event e.answer s w turn.1 (waits_next rows ss h s w turn.0) found

-- so the entry of the session's next line goes on where it waits
module _ (rows : Rows) (ss : List Session) (h : History) (turn : IsInterleaving rows ss h) (s : ℕ) (e : Event) (next : next_event ss h s ≡ Some e) where
  fits_wait : (a : Answer) → FitsMoment rows ss h s a → has_waited h (next_line h s) ≡ true → is_waits a ≡ false
  fits_wait (Done r) fits waited = refl
  fits_wait Waits fits waited = clash waited fits
  fits_wait Stuck fits waited = refl
  fits_wait (Refused r) fits waited = refl

  goes_by : (o : Option Event) (a : Answer) → waiting h s ≡ o → FitsMoment rows ss h s a → goes_on o e a ≡ true
  goes_by None a is fits = refl
  goes_by (Some w) a is fits =
      let own = waits_next rows ss h s w turn is in
      let same = same_event w e (sym own.next ∙ next) in
      and_from _ _ (ap (λ v. bytes_eq (spelled_event v) (spelled_event e)) same ∙ label_eq_self (spelled_event e)) (ap not (fits_wait a fits own.waited))

  pub goes_on_next : (a : Answer) → FitsMoment rows ss h s a → goes_on (waiting h s) e a ≡ true
  goes_on_next a fits = goes_by (waiting h s) a refl fits

-- ---- the close

abort_adds_none : (P : _) (e : Event) (a : Answer) → IsAbortOf P e a → may_add_pair e a ≡ false
abort_adds_none P e a m = let t = abort_of P e a m in ap₂ may_add_pair t.1 t.2

-- no line is left behind the close, and no cycle stands
pub record IsAtEnd (ss : List Session) (h : History) : Type 0 where
  pub answered : AllAnswered ss h
  pub quiet : Quiet h

abbrev pub has_closed : History → Bool
has_closed h = list_any (λ e. is_close e.by) h

no_next : {P : Type 0} (o : Option Event) (e : Event) → o ≡ None → o ≡ Some e → P
no_next o e none some = none_waits e (sym none ∙ some)

no_cycle : (h : History) (b : Bool) → Quiet h → (e : Event) (a : Answer) → IsAbortOf (IsVictim h) e a → b ≡ false
no_cycle h b quiet e a m = let t = abort_of (IsVictim h) e a m in ∥∥₁_elim t.3.0 (Bool-set b false) (λ c. absurd (quiet t.0 c))

end_by : (rows : Rows) (ss : List Session) (h : History) (b : By) (e : Event) (a : Answer) → MayStand rows h b e a → IsInTurn rows ss h b e a → AreAllowed rows (with_parts b e a ∷ h)
    → (has_closed h ≡ true → IsAtEnd ss h) → (is_close b || has_closed h) ≡ true → IsAtEnd ss (with_parts b e a ∷ h)
end_by rows ss h (by.Line s n) e a may turn allowed before closed = no_next (next_event ss h s) e ((before closed).answered s) turn.1
end_by rows ss h by.Victim e a may turn allowed before closed =
    let end = before closed in
    record { answered = end.answered; quiet = quiet_stays rows (with_parts by.Victim e a) h allowed (abort_adds_none (IsVictim h) e a may) end.quiet }
end_by rows ss h by.Close e a may turn allowed before closed = record {
  answered = turn;
  quiet = let t = abort_of (λ t. (first_live h (begun h) ≡ Some t) × Quiet h) e a may in
      quiet_stays rows (with_parts by.Close e a) h allowed (abort_adds_none _ e a may) t.3.1;
}

pub at_end : (rows : Rows) (ss : List Session) (h : History) → Legal rows h → IsInterleaving rows ss h → has_closed h ≡ true → IsAtEnd ss h
at_end rows ss [] legal turn closed = clash closed refl
at_end rows ss (e ∷ h) legal turn closed =
    end_by rows ss h e.by e.event e.answer legal.1 turn.1 (legal_allowed rows (e ∷ h) legal) (at_end rows ss h legal.0 turn.0) closed

open_before : (rows : Rows) (ss : List Session) (h : History) (b : By) (e : Event) (a : Answer) → MayStand rows h b e a → IsInTurn rows ss h b e a
    → (has_closed h ≡ true → IsAtEnd ss h) → is_close b ≡ false → has_closed h ≡ false
open_before rows ss h (by.Line s n) e a may turn end line =
    on_test (has_closed h) (λ b. b ≡ false) (λ closed. no_next (next_event ss h s) e ((end closed).answered s) turn.1) (λ _. refl)
open_before rows ss h by.Victim e a may turn end line =
    on_test (has_closed h) (λ b. b ≡ false) (λ closed. no_cycle h true (end closed).quiet e a may) (λ _. refl)
open_before rows ss h by.Close e a may turn end line = clash refl line

-- an entry that may stand next is in time
pub in_time : (rows : Rows) (ss : List Session) (h : History) (b : By) (e : Event) (a : Answer) → Legal rows h → IsInterleaving rows ss h → MayStand rows h b e a → IsInTurn rows ss h b e a
    → is_in_time h b ≡ true
in_time rows ss h b e a legal turns may turn =
    on_test (is_close b) (λ c. (c || not (has_closed h)) ≡ true) (λ _. refl) (λ other. ap not (open_before rows ss h b e a may turn (at_end rows ss h legal turns) other))

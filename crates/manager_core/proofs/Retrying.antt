-- The access by which a transaction waits.
use Rattle.std.proofs.Common.{◌≡◌, Bool, true, false, not, cond, ◌==◌, [], ◌∷◌, filter, find, Option, Some, None, unwrap_or, inl, inr, refl, sym, ap, subst, ◌∙◌}
use Rattle.std.proofs.lemmas.Bool.{false≢true, and_from, eq-eqb}
use Rattle.std.specs.List.{list_any}
use Rattle.txn_names.proofs.Exports.{on_test, same_path}
use Rattle.serial_spec.specs.declared.target.Asked.{Asked}
use Rattle.serial_spec.specs.declared.operation.Reply.TheVariants.{Ok}
use Rattle.serial_spec.specs.declared.entry.By.{By}
use Rattle.serial_spec.specs.declared.entry.By.TheVariants.{Line, Victim, Close}
use Rattle.serial_spec.specs.declared.event.Event.{Event}
use Rattle.serial_spec.specs.declared.event.Event.TheVariants.{Begin, Access, Sum, Commit, Abort}
use Rattle.serial_spec.specs.declared.entry.Answer.{Answer}
use Rattle.serial_spec.specs.declared.entry.Answer.TheVariants.{Done}
use Rattle.serial_spec.specs.declared.entry.Entry.{Entry}
use Rattle.serial_spec.specs.History.{Name, History, event_of}
use Rattle.serial_spec.specs.Waits.{same_line, is_waits, open_waits, accesses, wait_of}
use Rattle.serial_spec.specs.Rows.{Rows}
use Rattle.serial_spec.specs.Allowed.{has_waited}
use Rattle.serial_spec.specs.Legal.{AreAllowed, MayCome, IsAbortOf}
use Rattle.txn_history.proofs.Exports.{none-filter, any-find}
use Rattle.manager_core.specs.declared.outcome.Outcome.{Outcome}
use Rattle.manager_core.specs.declared.outcome.Outcome.TheVariants as made
use Rattle.manager_core.specs.declared.accessing.Attempt.TheVariants as attempt
use Rattle.manager_core.specs.State.{State}
use Rattle.manager_core.specs.Lines.{IsLine, access_by, waiting_access}
use Rattle.manager_core.specs.Tables.{ComesTo}
use Rattle.manager_core.specs.Calls.{Answered, Retried}
use Rattle.manager_core.proofs.Answers.{still_waits}
use Rattle.manager_core.proofs.Lasting.{is_open, still_in}

-- ---- the entry by which a transaction waits

abbrev pub is_line : By → Bool
is_line (Line s l) = true
is_line by = false

-- entries of the manager itself are aborts
no_abort : (P : Name → Type 0) (event : Event) (a : Answer) → IsAbortOf P event a → is_waits a ≡ true → ⊥
no_abort P (Abort t) (Done Ok) may waits = false≢true waits
no_abort P event a may waits = absurd may

line_waits : (rows : Rows) (h : History) (by : By) (event : Event) (a : Answer) → MayCome rows h by event a → is_waits a ≡ true → is_line by ≡ true
line_waits rows h (Line s l) event a may waits = refl
line_waits rows h Victim event a may waits = absurd (no_abort _ event a may waits)
line_waits rows h Close event a may waits = absurd (no_abort _ event a may waits)

-- so only lines wait
only_lines : (rows : Rows) (h : History) → AreAllowed rows h → list_any (λ w. not (is_line w.by)) (open_waits h) ≡ false
only_lines rows [] allowed = refl
only_lines rows (e ∷ h) allowed =
    let others = none-filter (λ (w : Entry). not (is_line w.by)) (λ w. not (same_line w.by e.by)) (open_waits h) (only_lines rows h allowed.0) in
    on_test (is_waits e.answer)
    (λ b. list_any (λ w. not (is_line w.by)) (cond b (e ∷ filter (λ w. not (same_line w.by e.by)) (open_waits h)) (filter (λ w. not (same_line w.by e.by)) (open_waits h))) ≡ false)
    (λ waits. rw (line_waits rows h e.by e.event e.answer allowed.1 waits) others)
    (λ _. others)

-- what is known of it
pub record IsWaiting (h : History) (t : Name) (by : By) (asked : Asked) : Type 0 where
  pub wait : Entry
  pub waits : wait_of h t ≡ Some wait
  pub by_is : wait.by ≡ by
  pub event_is : wait.event ≡ event_of t asked
  pub line : IsLine by
  pub of_line : same_line wait.by by ≡ true
  pub waited : has_waited h by ≡ true

line_is : (by : By) → is_line by ≡ true → IsLine by × (same_line by by ≡ true)
line_is (Line s l) e = (tt, and_from (s == s) (l == l) (eq-eqb s s refl) (eq-eqb l l refl))
line_is Victim e = absurd (false≢true e)
line_is Close e = absurd (false≢true e)

module _ (rows : Rows) (h : History) (allowed : AreAllowed rows h) (t : Name) (by : By) (asked : Asked) where
  parts : (w : Entry) (event : Event) → w.event ≡ event → accesses t event ≡ true → access_by w.by event ≡ Some (by, asked)
      → (w.by ≡ by) × (w.event ≡ event_of t asked)
  parts w (Access u q p) e acc same =
      let other : By × Asked = (by, asked) in
      (ap (λ x. (unwrap_or x other).0) same, e ∙ (λ i. event_of (same_path u t acc i) ((unwrap_or (same i) other).1)))
  parts w (Sum u g) e acc same =
      let other : By × Asked = (by, asked) in
      (ap (λ x. (unwrap_or x other).0) same, e ∙ (λ i. event_of (same_path u t acc i) ((unwrap_or (same i) other).1)))
  parts w (Begin u) e acc same = absurd (false≢true acc)
  parts w (Commit u) e acc same = absurd (false≢true acc)
  parts w (Abort u) e acc same = absurd (false≢true acc)
  parts w event e acc same = absurd (false≢true acc)

  found : (w : Entry) → wait_of h t ≡ Some w → access_by w.by w.event ≡ Some (by, asked) → IsWaiting h t by asked
  found w waits same =
      let stands = is_open h t w waits in
      let p = parts w w.event refl stands.of_it same in
      let lines = line_is by (subst (λ b. is_line b ≡ true) p.0 (line stands.found)) in
      let of_line : same_line w.by by ≡ true = subst (λ b. same_line b by ≡ true) (sym p.0) lines.1 in
      record {
        wait = w;
        waits = waits;
        by_is = p.0;
        event_is = p.1;
        line = lines.0;
        of_line = of_line;
        waited = still_in (λ e. same_line e.by by) h (any-find (λ w. accesses t w.event) (λ e. same_line e.by by) (open_waits h) w stands.found of_line);
      }
    where
      line : find (λ w. accesses t w.event) (open_waits h) ≡ Some w → is_line w.by ≡ true
      line at =
          on_test (is_line w.by) (λ b. b ≡ true) (λ _. refl)
          (λ e. absurd (false≢true (sym (only_lines rows h allowed)
          ∙ any-find (λ w. accesses t w.event) (λ w. not (is_line w.by)) (open_waits h) w at (ap not e))))

  pub waiting_is : waiting_access (wait_of h t) ≡ Some (by, asked) → IsWaiting h t by asked
  waiting_is same = go (wait_of h t) refl same
    where
      go : (x : Option Entry) → wait_of h t ≡ x → waiting_access x ≡ Some (by, asked) → IsWaiting h t by asked
      go None at e = absurd (cc)
      go (Some w) at e = found w at e

-- ---- what a caller is told

-- it waits on
pub waits_on : {S : Type 0} (m : State S) (t : Name) (by : By) (asked : Asked) → IsWaiting m.history t by asked
    → ComesTo m.rows m.history by t asked attempt.Waits → Retried m m t made.Waits
waits_on m t by asked is comes = record {
  wait = is.wait;
  waits = is.waits;
  told = inr record {
    none = rw (is.by_is, is.event_is) (still_waits m.rows m.history by t asked comes is.waited);
    outcome_is = refl;
    same = refl;
  };
}

-- it was answered
pub retried : {S : Type 0} (old new : State S) (t : Name) (by : By) (asked : Asked) → IsWaiting old.history t by asked → (outcome : Outcome)
    → Answered old new by (event_of t asked) outcome → Retried old new t outcome
retried old new t by asked is outcome answered = record {
  wait = is.wait;
  waits = is.waits;
  told = inl (rw (is.by_is, is.event_is) answered);
}

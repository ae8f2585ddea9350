-- Sessions, one entry later.
use Rattle.std.proofs.Common.{◌≡◌, ℕ, zero, suc, ◌<◌, ◌≤◌, eqb, Bool, true, false, not, cond, ◌&&◌, List, [], ◌∷◌, ◌++◌, length, Option, Some, None, is_some, unwrap_or, ◌⊎◌, inl, inr, refl, sym, ap, subst, ◌∙◌, true≢false, arith, length-append}
use Rattle.std.specs.Prelude.{position, slice_get, is_none, IfSome}
use Rattle.std.specs.Str.{bytes_eq}
use Rattle.std.specs.Map.{keys_of, values_of}
use Rattle.std.proofs.lemmas.Bool.{false≢true, cases_eq, eq-eqb, ne_eqb}
use Rattle.std.proofs.lemmas.List.Quantifiers.{position-Some}
use Rattle.std.proofs.lemmas.Slice.Eq.{bytes_eq-Decides}
use Rattle.std.proofs.lemmas.Option.{slice_get_within}
use Rattle.std.proofs.lemmas.Map.Entries.{length-keys_of}
use Rattle.indexmap.specs.IndexMap.{set_value_at}
use Rattle.txn_names.specs.Path.{label_eq}
use Rattle.txn_tree.proofs.Exports.{get_pushed}
use Rattle.serial_spec.specs.declared.limits.TheConstants.{MOST_SESSIONS}
use Rattle.serial_spec.specs.declared.entry.Entry.{Entry}
use Rattle.serial_spec.specs.declared.event.Event.{Event}
use Rattle.serial_spec.specs.declared.entry.Answer.{Answer}
use Rattle.serial_spec.specs.History.{History}
use Rattle.serial_spec.specs.Interleaving.{answered}
use Rattle.line_language.specs.Printing.{spelled_event}
use Rattle.serial_spec.specs.Waits.{is_waits}
use Rattle.line_language.specs.Events.{IsEvent}
use Rattle.line_language.specs.Commands.{event_of}
use Rattle.line_language.proofs.Exports.{event_again}
use Rattle.report_check.specs.Passing.{goes_on, none_waits, session_of, waiting, with_label}
use Rattle.report_tables.specs.Spoken.{AreSessionsOf, IsNumberOf, IsSessionOf, line_entry, told_session}
use Rattle.report_tables.specs.declared.sessions.Session.{Session}
use Rattle.report_tables.proofs.Numbered.{keys_pushed, values_pushed}

-- ---- one text

-- events are equal exactly where their texts are
pub same_text : (w e : Event) (b : Bool) → IsEvent w → IsEvent e → (b ≡ true → w ≡ e) → (w ≡ e → b ≡ true) → b ≡ bytes_eq (spelled_event w) (spelled_event e)
same_text w e b is also one two = by b (bytes_eq (spelled_event w) (spelled_event e)) refl refl
  where
    spelled : bytes_eq (spelled_event w) (spelled_event e) ≡ true → w ≡ e
    spelled t =
        let same : spelled_event w ≡ spelled_event e = (bytes_eq-Decides (spelled_event w) (spelled_event e)).0 t in
        let read = sym (event_again w is) ∙ ap event_of same ∙ event_again e also in
        cc

    by : (x y : Bool) → b ≡ x → bytes_eq (spelled_event w) (spelled_event e) ≡ y → x ≡ y
    by true true p q = refl
    by false false p q = refl
    by true false p q = absurd (true≢false (sym ((bytes_eq-Decides (spelled_event w) (spelled_event e)).1 (ap spelled_event (one p))) ∙ q))
    by false true p q = absurd (true≢false (sym (two (spelled q)) ∙ p))

pub may_go_on : (o : Option Event) (w e : Event) (a : Answer) (b : Bool) → o ≡ Some w → IfSome o IsEvent → IsEvent e → (b ≡ true → w ≡ e) → (w ≡ e → b ≡ true)
    → (b && not (is_waits a)) ≡ goes_on o e a
may_go_on o w e a b at is also one two =
    ap (λ c. c && not (is_waits a)) (same_text w e b (subst (λ (p : Option Event). IfSome p IsEvent) at is) also one two) ∙ ap (λ p. goes_on p e a) (sym at)

-- ---- values by their places

pub keys_set : {X : Type 0} (es : List (List ℕ × X)) (i : ℕ) (w : X) → keys_of (set_value_at es i w) ≡ keys_of es
keys_set [] i w = refl
keys_set (e ∷ es) zero w = refl
keys_set (e ∷ es) (suc i) w = ap (λ ks. e.0 ∷ ks) (keys_set es i w)

pub value_set : {X : Type 0} (es : List (List ℕ × X)) (i s : ℕ) (w x : X) → slice_get (values_of (set_value_at es i w)) s ≡ Some x
    → ((s ≡ i) × (x ≡ w)) ⊎ ((s ≡ i → ⊥) × (slice_get (values_of es) s ≡ Some x))
value_set [] i s w x at = absurd (false≢true (ap is_some at))
value_set (e ∷ es) zero zero w x at = inl (refl, sym (ap (λ o. unwrap_or o w) at))
value_set (e ∷ es) zero (suc s) w x at = inr (λ q. absurd (omega (arith, q)), at)
value_set (e ∷ es) (suc i) zero w x at = inr (λ q. absurd (omega (arith, q)), at)
value_set (e ∷ es) (suc i) (suc s) w x at =
    elim (value_set es i s w x at) [
      | inl p ↦ inl (ap suc p.0, p.1)
      | inr p ↦ inr (λ q. p.0 (omega (arith, q)), p.1)
    ]

pub length_values : {X : Type 0} (es : List (List ℕ × X)) → length (values_of es) ≡ length es
length_values [] = refl
length_values (e ∷ es) = ap suc (length_values es)

-- ---- a new label

pub sessions_grown : (labels : List (List ℕ)) (h : History) (es : List (List ℕ × Session)) (l : List ℕ) → AreSessionsOf labels h es → length labels < MOST_SESSIONS
    → AreSessionsOf (labels ++ l ∷ []) h (es ++ (l, record { answered = 0; waits = None }) ∷ [])
sessions_grown labels h es l are few = record {
  keys = keys_pushed es l (record { answered = 0; waits = None }) ∙ ap (λ ks. ks ++ l ∷ []) are.keys;
  few = omega (arith, few, length-append labels (l ∷ []));
  each = λ s x at. by s x (get_pushed (values_of es) (record { answered = 0; waits = None }) s x (ap (λ vs. slice_get vs s) (sym (values_pushed es l (record { answered = 0; waits = None }))) ∙ at));
  later = λ s past. are.later s (omega (arith, past, length-append labels (l ∷ [])));
}
  where
    level : length (values_of es) ≡ length labels
    level = length_values es ∙ sym (length-keys_of es) ∙ ap (λ (ks : List (List ℕ)). length ks) are.keys

    fresh : Session
    fresh = record { answered = 0; waits = None }

    by : (s : ℕ) (x : Session) → (slice_get (values_of es) s ≡ Some x) ⊎ ((s ≡ length (values_of es)) × (x ≡ record { answered = 0; waits = None })) → IsSessionOf h s x
    by s x (inl old) = are.each s x old
    by s x (inr new) =
        let none = are.later s (omega (arith, new.0, level)) in
        subst (IsSessionOf h s) (sym new.1) (record { answered = sym none.0; waits = sym none.1; event = tt })

-- ---- a number for a label

pub numbered_known : (labels : List (List ℕ)) (l : List ℕ) (h : History) (n : ℕ) (es : List (List ℕ × Session)) → AreSessionsOf labels h es → position (label_eq l) labels ≡ Some n → IsNumberOf labels l h n es
numbered_known labels l h n es are at =
    let p = position-Some (label_eq l) labels n l at in
    let same : with_label labels l ≡ labels = ap (λ o. cond (is_some o) labels (labels ++ l ∷ [])) at in
    record {
      number = sym (ap (λ o. unwrap_or o (length labels)) at);
      allowed = omega (arith, p.0, are.few);
      within = subst (λ (ls : List (List ℕ)). n < length ls) (sym same) p.0;
      sessions = subst (λ (ls : List (List ℕ)). AreSessionsOf ls h es) (sym same) are;
    }

pub numbered_new : (labels : List (List ℕ)) (l : List ℕ) (h : History) (n : ℕ) (es more : List (List ℕ × Session)) → AreSessionsOf labels h es → position (label_eq l) labels ≡ None
    → n ≡ length es → n < MOST_SESSIONS → more ≡ es ++ (l, record { answered = 0; waits = None }) ∷ [] → IsNumberOf labels l h n more
numbered_new labels l h n es more are none end room pushed =
    let level : n ≡ length labels = end ∙ sym (length-keys_of es) ∙ ap (λ (ks : List (List ℕ)). length ks) are.keys in
    let longer : with_label labels l ≡ labels ++ l ∷ [] = ap (λ o. cond (is_some o) labels (labels ++ l ∷ [])) none in
    record {
      number = level ∙ sym (ap (λ o. unwrap_or o (length labels)) none);
      allowed = room;
      within = subst (λ (ls : List (List ℕ)). n < length ls) (sym longer) (omega (arith, level, length-append labels (l ∷ [])));
      sessions = subst (λ (ls : List (List ℕ)). AreSessionsOf ls h more) (sym longer)
          (subst (λ (xs : List (List ℕ × Session)). AreSessionsOf (labels ++ l ∷ []) h xs) (sym pushed) (sessions_grown labels h es l are (omega (arith, level, room))));
    }

pub numbered_full : (labels : List (List ℕ)) (l : List ℕ) (h : History) (n : ℕ) (es : List (List ℕ × Session)) → AreSessionsOf labels h es → position (label_eq l) labels ≡ None
    → n ≡ length es → MOST_SESSIONS ≤ n → MOST_SESSIONS ≤ session_of labels l
numbered_full labels l h n es are none end most =
    let level : n ≡ length labels = end ∙ sym (length-keys_of es) ∙ ap (λ (ks : List (List ℕ)). length ks) are.keys in
    let number : session_of labels l ≡ length labels = ap (λ o. unwrap_or o (length labels)) none in
    omega (arith, level, number, most)

-- ---- an entry of a line

module _ (labels : List (List ℕ)) (h : History) (es : List (List ℕ × Session)) (n line : ℕ) (e : Event) (a : Answer) (before : Session)
    (are : AreSessionsOf labels h es) (there : slice_get (values_of es) n ≡ Some before) (is : IsEvent e) (next : line ≡ suc (answered h n)) where
  abbrev entry : Entry
  entry = line_entry n line e a

  own : IsSessionOf h n before
  own = are.each n before there

  told_by : (b : Bool) → is_waits a ≡ b
      → IsSessionOf (entry ∷ h) n (cond b (record { answered = before.answered; waits = Some e }) (record { answered = line; waits = None }))
  told_by true w = record {
    answered = own.answered ∙ sym (ap (λ b. cond (eqb n n && not b) (suc (answered h n)) (answered h n)) w ∙ ap (λ b. cond (b && false) (suc (answered h n)) (answered h n)) (eq-eqb n n refl));
    waits = sym (ap (λ b. cond b (cond (is_waits a) (Some e) None) (waiting h n)) (eq-eqb n n refl) ∙ ap (λ b. cond b (Some e) None) w);
    event = is;
  }
  told_by false w = record {
    answered = next ∙ sym (ap (λ b. cond (eqb n n && not b) (suc (answered h n)) (answered h n)) w ∙ ap (λ b. cond (b && true) (suc (answered h n)) (answered h n)) (eq-eqb n n refl));
    waits = sym (ap (λ b. cond b (cond (is_waits a) (Some e) None) (waiting h n)) (eq-eqb n n refl) ∙ ap (λ b. cond b (Some e) None) w);
    event = tt;
  }

  -- another session is as before
  other_answered : (s : ℕ) → (s ≡ n → ⊥) → answered (entry ∷ h) s ≡ answered h s
  other_answered s apart = ap (λ b. cond (b && not (is_waits a)) (suc (answered h s)) (answered h s)) (ne_eqb s n apart)

  other_waiting : (s : ℕ) → (s ≡ n → ⊥) → waiting (entry ∷ h) s ≡ waiting h s
  other_waiting s apart = ap (λ b. cond b (cond (is_waits a) (Some e) None) (waiting h s)) (ne_eqb s n apart)

  other_session : (s : ℕ) (x : Session) → (s ≡ n → ⊥) → IsSessionOf h s x → IsSessionOf (entry ∷ h) s x
  other_session s x apart of = record { answered = of.answered ∙ sym (other_answered s apart); waits = of.waits ∙ sym (other_waiting s apart); event = of.event }

  pub sessions_told : n < length labels → AreSessionsOf labels (entry ∷ h) (set_value_at es n (told_session line e a before.answered))
  sessions_told within = record {
    keys = keys_set es n (told_session line e a before.answered) ∙ are.keys;
    few = are.few;
    each = λ s x at. by s x (value_set es n s (told_session line e a before.answered) x at);
    later = λ s past.
        let apart : s ≡ n → ⊥ = λ q. omega (arith, q, past, within) in
        let old = are.later s past in
        (other_answered s apart ∙ old.0, other_waiting s apart ∙ old.1);
  }
    where
      by : (s : ℕ) (x : Session) → ((s ≡ n) × (x ≡ told_session line e a before.answered)) ⊎ ((s ≡ n → ⊥) × (slice_get (values_of es) s ≡ Some x)) → IsSessionOf (entry ∷ h) s x
      by s x (inl new) = subst (λ k. IsSessionOf (entry ∷ h) k x) (sym new.0) (subst (IsSessionOf (entry ∷ h) n) (sym new.1) (told_by (is_waits a) refl))
      by s x (inr old) = other_session s x old.0 (are.each s x old.1)

-- ---- who waits

pub one_waits : (h : History) (k n : ℕ) → is_none (waiting h k) ≡ false → k < n → none_waits h n ≡ false
one_waits h k zero some less = absurd (omega (arith, less))
one_waits h k (suc n) some less = elim (cases_eq k n) [ inl same ↦ ap (λ b. b && none_waits h n) (ap (λ j. is_none (waiting h j)) (sym same) ∙ some) | inr apart ↦ last (is_none (waiting h n)) (one_waits h k n some (omega (arith, less, apart))) ]
  where
    last : (b : Bool) → none_waits h n ≡ false → (b && none_waits h n) ≡ false
    last true e = e
    last false e = refl

-- the session at this place waits, or it does not
pub waits_at : (labels : List (List ℕ)) (h : History) (es : List (List ℕ × Session)) (k : ℕ) (x : Session) → AreSessionsOf labels h es → slice_get (values_of es) k ≡ Some x
    → (waiting h k ≡ x.waits) × (k < length labels)
waits_at labels h es k x are at =
    let w = slice_get_within (values_of es) k x at in
    let level : length (values_of es) ≡ length labels = length_values es ∙ sym (length-keys_of es) ∙ ap (λ (ks : List (List ℕ)). length ks) are.keys in
    (sym (are.each k x at).waits, omega (arith, w, level))

pub value_of_entry : {X : Type 0} (es : List (List ℕ × X)) (k : ℕ) (q : List ℕ) (x : X) → slice_get es k ≡ Some (q, x) → slice_get (values_of es) k ≡ Some x
value_of_entry [] k q x at = cc
value_of_entry {X} (e ∷ es) zero q x at = ap second at
  where
    second : Option (List ℕ × X) → Option X
    second None = None
    second (Some p) = Some p.1
value_of_entry (e ∷ es) (suc k) q x at = value_of_entry es k q x at

pub sessions_level : (labels : List (List ℕ)) (h : History) (es : List (List ℕ × Session)) → AreSessionsOf labels h es → length es ≡ length labels
sessions_level labels h es are = sym (length-keys_of es) ∙ ap (λ (ks : List (List ℕ)). length ks) are.keys

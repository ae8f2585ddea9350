-- What a line of a legal history is answered may stand in a report.
use Rattle.std.proofs.Common.{◌≡◌, ℕ, ℤ, List, [], ◌∷◌, true, false, Bool, cond, not, Option, Some, None, refl, sym, ◌∙◌, subst}
use Rattle.std.specs.Prelude.{◌||◌, length, nat_le, option_map}
use Rattle.txn_names.specs.Path.{parent, top_of}
use Rattle.txn_names.specs.Text.{IsName}
use Rattle.txn_names.proofs.Exports.{on_test, same_path}
use Rattle.serial_spec.specs.declared.entry.By.{By}
use Rattle.serial_spec.specs.declared.entry.Answer.{Answer}
use Rattle.serial_spec.specs.declared.entry.Answer.TheVariants.{Done, Waits, Stuck, Refused}
use Rattle.serial_spec.specs.declared.entry.Refusal.{Refusal}
use Rattle.serial_spec.specs.declared.entry.Refusal.TheVariants.{Unknown, Used, NoParent, Done as HasCommitted, Orphan, Children, Waiting, Full, Store}
use Rattle.serial_spec.specs.declared.event.Event.{Event}
use Rattle.serial_spec.specs.declared.event.Event.TheVariants.{Begin, Access, Sum, Commit, Abort, After}
use Rattle.serial_spec.specs.declared.operation.Op.{Op}
use Rattle.serial_spec.specs.declared.operation.Reply.TheVariants.{Ok, Value, Overflow}
use Rattle.serial_spec.specs.declared.target.Asked.{Asked}
use Rattle.serial_spec.specs.declared.target.Asked.TheVariants.{At, Over}
use Rattle.serial_spec.specs.Operations.{is_i64, reply_of}
use Rattle.serial_spec.specs.History.{History, Name, effect, effect_of, event_of, begun, has_aborted, has_begun, is_abort, is_absent, is_active, is_begin, is_committed, or_else, status, top_aborted}
use Rattle.serial_spec.specs.Locks.{is_blocked}
use Rattle.serial_spec.specs.Values.{seen}
use Rattle.serial_spec.specs.Items.{chain}
use Rattle.serial_spec.specs.Rows.{Rows, value_in}
use Rattle.serial_spec.specs.Serial.{reply_at}
use Rattle.serial_spec.specs.Sums.{reply_of_sum, sum_in}
use Rattle.serial_spec.specs.Allowed.{Allowed, answer, answer_to_access, asks_store, cause_at_access, cause_at_begin, cause_at_commit, cause_at_end, has_come, has_live_child, has_waited, is_full_for, may_be_stuck, most_transactions, refused_or, waits_elsewhere}
use Rattle.serial_spec.specs.Causes.{when, why_orphaned}
use Rattle.serial_spec.specs.Legal.{AreAllowed}
use Rattle.line_language.specs.Events.{IsEvent}
use Rattle.txn_history.proofs.Exports.{acts_active, acts_at_end, neither, clash, value_seen}
use Rattle.line_language.specs.Answers.{may_answer}
use Rattle.line_language.specs.Entries.{IsAnswer}
use Rattle.line_language.proofs.Exports.{reply_fits as reply_is}
use Rattle.report_laws.proofs.Values.{AreEvents, HasRows, after_rows, chain_ops}

-- ---- names in a history

begin_named : (e : Event) (a : Answer) (t : Name) → IsEvent e → is_begin t (effect_of e a) ≡ true → IsName t
begin_named (Begin u) (Done Ok) t h b = subst IsName (same_path u t b) h
begin_named (Access u k o) (Done r) t h b = clash b refl
begin_named (Sum u g) (Done r) t h b = clash b refl
begin_named (Commit u) (Done Ok) t h b = clash b refl
begin_named (Abort u) (Done Ok) t h b = clash b refl
begin_named e a t h b = clash b refl

abort_named : (e : Event) (a : Answer) (t : Name) → IsEvent e → is_abort t (effect_of e a) ≡ true → IsName t
abort_named (Abort u) (Done Ok) t h b = subst IsName (same_path u t b) h
abort_named (Begin u) (Done Ok) t h b = clash b refl
abort_named (Access u k o) (Done r) t h b = clash b refl
abort_named (Sum u g) (Done r) t h b = clash b refl
abort_named (Commit u) (Done Ok) t h b = clash b refl
abort_named e a t h b = clash b refl

pub begun_named : (h : History) (t : Name) → AreEvents h → has_begun h t ≡ true → IsName t
begun_named [] t events b = clash b refl
begun_named (e ∷ h) t events b = on_test (is_begin t (effect e)) (λ c. (c || has_begun h t) ≡ true → IsName t)
    (λ is _. begin_named e.event e.answer t events.0 is) (λ _ more. begun_named h t events.1 more) b

aborted_named : (h : History) (t : Name) → AreEvents h → has_aborted h t ≡ true → IsName t
aborted_named [] t events b = clash b refl
aborted_named (e ∷ h) t events b = on_test (is_abort t (effect e)) (λ c. (c || has_aborted h t) ≡ true → IsName t)
    (λ is _. abort_named e.event e.answer t events.0 is) (λ _ more. aborted_named h t events.1 more) b

top_passes : (t : Name) (passes : Name → Bool) (u : Name) → top_of passes t ≡ Some u → passes u ≡ true
top_passes [] passes u e = cc
top_passes (l ∷ ls) passes u e = on_test (passes (l ∷ []))
    (λ b. cond b (Some (l ∷ [])) (option_map (λ v. l ∷ v) (top_of (λ v. passes (l ∷ v)) ls)) ≡ Some u → passes u ≡ true)
    (λ is same. let eq : l ∷ [] ≡ u = cc in subst (λ v. passes v ≡ true) eq is)
    (λ _ same. below (top_of (λ v. passes (l ∷ v)) ls) (top_passes ls (λ v. passes (l ∷ v))) same) e
  where
    below : (o : Option Name) → ((v : Name) → o ≡ Some v → passes (l ∷ v) ≡ true) → option_map (λ v. l ∷ v) o ≡ Some u → passes u ≡ true
    below (Some v) before same = let eq : l ∷ v ≡ u = cc in subst (λ w. passes w ≡ true) eq (before v refl)
    below None before same = cc

-- ---- an answer that an event may have

pub record Fits (e : Event) (a : Answer) : Type 0 where
  pub fits : may_answer e a ≡ true
  pub answer : IsAnswer a

-- the answer is one of every access
pub record FitsAll (t : Name) (x : Answer) : Type 0 where
  pub keyed : (k : List ℕ) (o : Op) → may_answer (Access t k o) x ≡ true
  pub summed : (g : List ℕ) → may_answer (Sum t g) x ≡ true

fits_any : (t : Name) (x : Answer) → FitsAll t x → IsAnswer x → (a : Asked) → Fits (event_of t a) x
fits_any t x all is (At k o) = record { fits = all.keyed k o; answer = is }
fits_any t x all is (Over g) = record { fits = all.summed g; answer = is }

-- ---- causes

-- the refusal, if there is one
abbrev Each : (Refusal → Type 0) → Option Refusal → Type 0
Each P None = Unit {0}
Each P (Some r) = P r

each_or : (P : Refusal → Type 0) (x y : Option Refusal) → Each P x → Each P y → Each P (or_else x y)
each_or P None y a b = b
each_or P (Some r) y a b = a

each_when : (P : Refusal → Type 0) (b : Bool) (r : Refusal) → P r → Each P (when b r)
each_when P true r p = p
each_when P false r p = tt

-- an orphan is told by a name
module _ (P : Refusal → Type 0) (h : History) (events : AreEvents h) (named : (a : Name) → IsName a → P (Orphan a)) where
  orphan_by : (t : Name) (o : Option Name) → top_aborted h t ≡ o → Each P (option_map (λ a. Orphan a) o)
  orphan_by t None e = tt
  orphan_by t (Some a) e = named a (aborted_named h a events (top_passes t (has_aborted h) a e))

  each_orphan : (t : Name) → Each P (why_orphaned (top_aborted h t))
  each_orphan t = orphan_by t (top_aborted h t) refl

  each_at_end : (t : Name) → P Unknown → P HasCommitted → Each P (cause_at_end h t)
  each_at_end t u c =
      each_or P (when (not (has_begun h t)) Unknown) (or_else (why_orphaned (top_aborted h t)) (when (is_committed (status h t)) HasCommitted)) (each_when P _ Unknown u)
      (each_or P (why_orphaned (top_aborted h t)) (when (is_committed (status h t)) HasCommitted) (each_orphan t) (each_when P _ HasCommitted c))

-- what is answered is a refusal by the cause, or what comes where there is none
given_or : (P : Answer → Type 0) (c : Option Refusal) (o : Option Answer) (a : Answer) → Each (λ r. P (Refused r)) c → (c ≡ None → o ≡ Some a → P a) → refused_or c o ≡ Some a → P a
given_or P None o a each other e = other refl e
given_or P (Some r) o a each other e = let same : Refused r ≡ a = cc in subst P same each

-- ---- each event

module _ (rows : Rows) (h : History) (allowed : AreAllowed rows h) (has : HasRows (value_in rows)) (events : AreEvents h) where
  fits_done : (e : Event) → may_answer e (Done Ok) ≡ true → (a : Answer) → Some (Done Ok) ≡ Some a → Fits e a
  fits_done e may a same = let eq : Done Ok ≡ a = cc in subst (Fits e) eq (record { fits = may; answer = tt })

  begin_fits : (t : Name) (a : Answer) → refused_or (cause_at_begin h t) (Some (Done Ok)) ≡ Some a → Fits (Begin t) a
  begin_fits t a = given_or P (cause_at_begin h t) (Some (Done Ok)) a
      (each_or R (when (not (is_absent (status h t))) Used) _ (each_when R _ Used (record { fits = refl; answer = tt }))
      (each_or R (when (is_absent (status h (parent t))) NoParent) _ (each_when R _ NoParent (record { fits = refl; answer = tt }))
      (each_or R (why_orphaned (top_aborted h (parent t))) _ (each_orphan R h events (λ u n. record { fits = refl; answer = n }) (parent t))
      (each_or R (when (is_committed (status h (parent t))) NoParent) (when (nat_le most_transactions (length (begun h))) Full) (each_when R _ NoParent (record { fits = refl; answer = tt }))
      (each_when R _ Full (record { fits = refl; answer = tt }))))))
      (λ _ same. fits_done (Begin t) refl a same)
    where
      P : Answer → Type 0
      P = Fits (Begin t)

      R : Refusal → Type 0
      R r = Fits (Begin t) (Refused r)

  -- the causes at the end of a transaction that every event on it has
  end_fits : (e : Event) → (t : Name) → may_answer e (Refused Unknown) ≡ true → ((u : Name) → may_answer e (Refused (Orphan u)) ≡ true) → may_answer e (Refused HasCommitted) ≡ true
      → Each (λ r. Fits e (Refused r)) (cause_at_end h t)
  end_fits e t u o c =
      each_at_end (λ r. Fits e (Refused r)) h events (λ v n. record { fits = o v; answer = n }) t (record { fits = u; answer = tt }) (record { fits = c; answer = tt })

  commit_fits : (b : By) (t : Name) (a : Answer) → refused_or (cause_at_commit h b t) (Some (Done Ok)) ≡ Some a → Fits (Commit t) a
  commit_fits b t a = given_or (Fits (Commit t)) (cause_at_commit h b t) (Some (Done Ok)) a
      (each_or R (cause_at_end h t) _ (end_fits (Commit t) t refl (λ u. refl) refl)
      (each_or R (when (has_live_child h t) Children) (when (waits_elsewhere h b t) Waiting) (each_when R _ Children (record { fits = refl; answer = tt }))
      (each_when R _ Waiting (record { fits = refl; answer = tt }))))
      (λ _ same. fits_done (Commit t) refl a same)
    where
      R : Refusal → Type 0
      R r = Fits (Commit t) (Refused r)

  abort_fits : (t : Name) (a : Answer) → refused_or (cause_at_end h t) (Some (Done Ok)) ≡ Some a → Fits (Abort t) a
  abort_fits t a = given_or (Fits (Abort t)) (cause_at_end h t) (Some (Done Ok)) a (end_fits (Abort t) t refl (λ u. refl) refl) (λ _ same. fits_done (Abort t) refl a same)

  -- ---- accesses

  -- no sum is refused `full`
  full_fits : (t : Name) (a : Asked) → Each (λ r. Fits (event_of t a) (Refused r)) (when (is_full_for rows h a) Full)
  full_fits t (At k o) = each_when (λ r. Fits (Access t k o) (Refused r)) (is_full_for rows h (At k o)) Full (record { fits = refl; answer = tt })
  full_fits t (Over g) = tt

  access_causes : (b : By) (t : Name) (a : Asked) → Each (λ r. Fits (event_of t a) (Refused r)) (cause_at_access rows h b t a)
  access_causes b t a =
      each_or R (cause_at_end h t) _
      (each_at_end R h events (λ v n. fits_any t (Refused (Orphan v)) (record { keyed = λ k o. refl; summed = λ g. refl }) n a) t
      (fits_any t (Refused Unknown) (record { keyed = λ k o. refl; summed = λ g. refl }) tt a) (fits_any t (Refused HasCommitted) (record { keyed = λ k o. refl; summed = λ g. refl }) tt a))
      (each_or R (when (waits_elsewhere h b t) Waiting) (when (is_full_for rows h a) Full)
      (each_when R _ Waiting (fits_any t (Refused Waiting) (record { keyed = λ k o. refl; summed = λ g. refl }) tt a))
      (full_fits t a))
    where
      R : Refusal → Type 0
      R r = Fits (event_of t a) (Refused r)

  -- a value that is seen is a number
  seen_is : (t : Name) (k : List ℕ) → is_active h t ≡ true → (v : ℤ) → seen (value_in rows) h t k ≡ Some v → is_i64 v ≡ true
  seen_is t k acts v e = (after_rows (value_in rows) (chain h t) (chain_ops h events t) has k v (sym (value_seen rows h allowed t k acts) ∙ e)).value

  key_fits : (t : Name) (k : List ℕ) (o : Op) (v : Option ℤ) → ((w : ℤ) → v ≡ Some w → is_i64 w ≡ true) → Fits (Access t k o) (Done (reply_of v o))
  key_fits t k o v is = let reply = reply_is o v is in record { fits = reply.0; answer = reply.1 }

  sum_fits : (t : Name) (g : List ℕ) (s : ℤ) → Fits (Sum t g) (Done (reply_of_sum s))
  sum_fits t g s = on_test (is_i64 s) (λ b. Fits (Sum t g) (Done (cond b (Value s) Overflow)))
      (λ e. record { fits = refl; answer = e }) (λ _. record { fits = refl; answer = tt })

  reply_fits : (t : Name) (a : Asked) → is_active h t ≡ true → Fits (event_of t a) (Done (reply_at (seen (value_in rows) h t) a))
  reply_fits t (At k o) acts = key_fits t k o (seen (value_in rows) h t k) (seen_is t k acts)
  reply_fits t (Over g) acts = sum_fits t g (sum_in (seen (value_in rows) h t) g)

  waits_fit : (t : Name) (a : Asked) → Fits (event_of t a) Waits
  waits_fit t a = fits_any t Waits (record { keyed = λ k o. refl; summed = λ g. refl }) tt a

  stuck_fit : (t : Name) (a : Asked) → Fits (event_of t a) Stuck
  stuck_fit t a = fits_any t Stuck (record { keyed = λ k o. refl; summed = λ g. refl }) tt a

  is_given : (e : Event) (blocked waited : Bool) (b a : Answer) → Fits e Waits → Fits e b → cond blocked (cond waited None (Some Waits)) (Some b) ≡ Some a → Fits e a
  is_given e true true b a w f same = cc
  is_given e true false b a w f same = let eq : Waits ≡ a = cc in subst (Fits e) eq w
  is_given e false waited b a w f same = let eq : b ≡ a = cc in subst (Fits e) eq f

  access_fits : (b : By) (t : Name) (a : Asked) (x : Answer) → answer_to_access rows h b t a ≡ Some x → Fits (event_of t a) x
  access_fits b t a x =
      given_or (Fits (event_of t a)) (cause_at_access rows h b t a) (cond (is_blocked h t a) (cond (has_waited h b) None (Some Waits)) (Some (Done (reply_at (seen (value_in rows) h t) a)))) x
      (access_causes b t a)
      (λ none same. let acts = acts_active h t (acts_at_end h t (neither (cause_at_end h t) _ none).0).1 in
      is_given (event_of t a) (is_blocked h t a) (has_waited h b) (Done (reply_at (seen (value_in rows) h t) a)) x (waits_fit t a) (reply_fits t a acts) same)

  after_fits : (t : Name) (w : _) (a : Answer) → cond (has_come h t w) (Some (Done Ok)) None ≡ Some a → Fits (After t w) a
  after_fits t w a = on_test (has_come h t w) (λ b. cond b (Some (Done Ok)) None ≡ Some a → Fits (After t w) a) (λ _ same. fits_done (After t w) refl a same) (λ _ same. cc)

  answered_fits : (b : By) (e : Event) (a : Answer) → answer rows h b e ≡ Some a → Fits e a
  answered_fits b (Begin t) a is = begin_fits t a is
  answered_fits b (Access t k o) a is = access_fits b t (At k o) a is
  answered_fits b (Sum t g) a is = access_fits b t (Over g) a is
  answered_fits b (Commit t) a is = commit_fits b t a is
  answered_fits b (Abort t) a is = abort_fits t a is
  answered_fits b (After t w) a is = after_fits t w a is

  stuck_fits : (b : By) (e : Event) → may_be_stuck h b e ≡ true → Fits e Stuck
  stuck_fits b (Begin t) may = clash may refl
  stuck_fits b (Access t k o) may = stuck_fit t (At k o)
  stuck_fits b (Sum t g) may = stuck_fit t (Over g)
  stuck_fits b (Commit t) may = clash may refl
  stuck_fits b (Abort t) may = clash may refl
  stuck_fits b (After t w) may = record { fits = refl; answer = tt }

  store_fits : (e : Event) → asks_store h e ≡ true → Fits e (Refused Store)
  store_fits (Begin t) asks = clash asks refl
  store_fits (Access t k o) asks = clash asks refl
  store_fits (Sum t g) asks = clash asks refl
  store_fits (Commit t) asks = record { fits = refl; answer = tt }
  store_fits (Abort t) asks = clash asks refl
  store_fits (After t w) asks = clash asks refl

  pub allowed_fits : (b : By) (e : Event) (a : Answer) → Allowed rows h b e a → Fits e a
  allowed_fits b e Stuck may = stuck_fits b e may
  allowed_fits b e (Refused Store) may = store_fits e may.1
  allowed_fits b e a may = answered_fits b e a may

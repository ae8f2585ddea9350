-- Where there are no sessions nothing has begun, and the close has nothing to do.
use Rattle.std.proofs.Common.{◌≡◌, ◌<◌, ℕ, List, [], ◌∷◌, length, true, false, Bool, cond, None, Some, refl, sym, ap, subst, ◌∙◌, arith}
use Rattle.std.specs.Prelude.{◌||◌}
use Rattle.std.proofs.lemmas.Bool.{true≢false}
use Rattle.serial_spec.specs.declared.entry.By.{By}
use Rattle.serial_spec.specs.declared.entry.By.TheVariants.{Line, Victim, Close}
use Rattle.serial_spec.specs.declared.entry.Answer.{Answer}
use Rattle.serial_spec.specs.declared.entry.Entry.{Entry}
use Rattle.serial_spec.specs.declared.event.Event.{Event}
use Rattle.serial_spec.specs.declared.event.Event.TheVariants.{Abort}
use Rattle.serial_spec.specs.History.{History, Name, Absent, Aborted, Committed, Live, begun, begun_by, effect_of, has_aborted, has_begun, has_committed, is_begin, is_live_status}
use Rattle.serial_spec.specs.Interleaving.{IsInTurn, IsInterleaving, Session}
use Rattle.serial_spec.specs.Legal.{IsAbortOf, Legal, MayStand, first_live}
use Rattle.serial_spec.specs.Rows.{Rows}
use Rattle.txn_history.specs.Turns.{IsUnderWay}
use Rattle.txn_history.proofs.Exports.{abort_of}
use Rattle.manager_core.specs.Calls.{Closed}
use Rattle.manager_core.specs.State.{State}

no_event : {P : Type 0} (e : Event) → None ≡ Some e → P
no_event e h = cc

-- who aborts begins nothing
begins_none : (P : Name → Type 0) (e : Event) (a : Answer) → IsAbortOf P e a → (ts : List Name) → begun_by (effect_of e a) ts ≡ ts
begins_none P e a is ts =
    let b = abort_of P e a is in
    subst (λ x. begun_by (effect_of x a) ts ≡ ts) (sym b.1) (subst (λ x. begun_by (effect_of (Abort b.0) x) ts ≡ ts) (sym b.2) refl)

begins_no_one : (P : Name → Type 0) (e : Event) (a : Answer) → IsAbortOf P e a → (t : Name) → is_begin t (effect_of e a) ≡ false
begins_no_one P e a is t =
    let b = abort_of P e a is in
    subst (λ x. is_begin t (effect_of x a) ≡ false) (sym b.1) (subst (λ x. is_begin t (effect_of (Abort b.0) x) ≡ false) (sym b.2) refl)

neither : (a b : Bool) → a ≡ false → b ≡ false → (a || b) ≡ false
neither false b h k = k
neither true b h k = absurd (true≢false h)

record IsNew (h : History) : Type 0 where
  none : begun h ≡ []
  nobody : (t : Name) → has_begun h t ≡ false

one_more : (rows : Rows) (h : History) (e : Entry) (b : By) → IsNew h → IsInTurn rows [] h b e.event e.answer → MayStand rows h b e.event e.answer → IsNew (e ∷ h)
one_more rows h e (Line s l) so_far turn may = no_event e.event turn.1
one_more rows h e Victim so_far turn may = record {
  none = begins_none _ e.event e.answer may (begun h) ∙ so_far.none;
  nobody = λ t. neither _ _ (begins_no_one _ e.event e.answer may t) (so_far.nobody t);
}
one_more rows h e Close so_far turn may = record {
  none = begins_none _ e.event e.answer may (begun h) ∙ so_far.none;
  nobody = λ t. neither _ _ (begins_no_one _ e.event e.answer may t) (so_far.nobody t);
}

all_new : (rows : Rows) (h : History) → Legal rows h → IsInterleaving rows [] h → IsNew h
all_new rows [] legal turn = record { none = refl; nobody = λ t. refl }
all_new rows (e ∷ h) legal turn = one_more rows h e e.by (all_new rows h legal.0 turn.0) turn.1 legal.1

-- nothing is live, so that the close is done
pub closed_already : {S : Type 0} (m : State S) (ss : List Session) → ss ≡ [] → IsUnderWay m.rows ss m.history → Closed m m
closed_already m ss none way =
    let is = all_new m.rows m.history way.legal (subst (λ x. IsInterleaving m.rows x m.history) none way.in_turn) in
    record {
      names = [];
      added = refl;
      none_left = ap (first_live m.history) is.none;
      ended = λ l. ap (λ b. is_live_status (cond b (cond (has_aborted m.history (l ∷ [])) Aborted (cond (has_committed m.history (l ∷ [])) Committed Live)) Absent)) (is.nobody (l ∷ []));
    }

pub none_there : {P : Type 0} (ss : List Session) (n : ℕ) → ss ≡ [] → n < length ss → P
none_there ss n none lt = absurd (omega (arith, ap length none, lt))

pub no_sessions : (ss : List Session) → length ss ≡ 0 → ss ≡ []
no_sessions [] h = refl
no_sessions (s ∷ ss) h = absurd (omega (arith, h))

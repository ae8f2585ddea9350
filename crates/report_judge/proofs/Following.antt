-- What is kept of a report, one entry later.
use Rattle.std.proofs.Common.{◌≡◌, ℕ, suc, ◌+◌, ◌<◌, ◌≤◌, Bool, true, false, not, cond, ◌&&◌, ◌||◌, List, [], ◌∷◌, length, Option, Some, None, Result, Ok, Err, refl, sym, ap, subst, ◌∙◌, true≢false, arith}
use Rattle.std.specs.Prelude.{is_none, nat_lt, ◌==◌, IfOk, OnOk}
use Rattle.std.specs.List.{list_any}
use Rattle.std.specs.Map.{keys_of}
use Rattle.std.proofs.lemmas.Bool.{false≢true, lt-ltb, le-ltb}
use Rattle.txn_names.specs.Path.{parent, path_eq}
use Rattle.txn_names.proofs.Exports.{parent-cons}
use Rattle.txn_tree.specs.States.{States, names}
use Rattle.txn_tree.specs.Asked.{is_live_child_in, live_children_of}
use Rattle.txn_tree.proofs.Exports.{any_counted}
use Rattle.serial_spec.specs.declared.limits.TheConstants.{MOST_SESSIONS}
use Rattle.serial_spec.specs.declared.entry.Entry.{Entry}
use Rattle.serial_spec.specs.declared.event.Event.{Event}
use Rattle.serial_spec.specs.declared.event.Event.TheVariants.{Begin, Access, Sum, Commit, Abort, After}
use Rattle.serial_spec.specs.declared.entry.Answer.{Answer}
use Rattle.serial_spec.specs.declared.entry.Answer.TheVariants.{Done, Waits, Stuck, Refused}
use Rattle.serial_spec.specs.declared.operation.Reply.{Reply}
use Rattle.serial_spec.specs.declared.operation.Reply.TheVariants as reply
use Rattle.serial_spec.specs.declared.target.Asked.{Asked}
use Rattle.serial_spec.specs.declared.target.Asked.TheVariants.{At, Over}
use Rattle.serial_spec.specs.History.{Name, History, Effect, Aborts, Nothing, begun, effect_of, event_of, has_begun, is_live, or_else}
use Rattle.serial_spec.specs.Interleaving.{answered, closing, victim}
use Rattle.serial_spec.specs.Legal.{first_live, is_top_level}
use Rattle.txn_history.proofs.Exports.{any_begun, some_begun}
use Rattle.line_language.specs.declared.entry.ReportEntry.TheVariants as told
use Rattle.report_check.specs.Passing.{Read, entry_in, goes_on, is_close, may_do, may_follow, waiting, with_label}
use Rattle.report_tables.specs.Spoken.{AreSessionsOf, IsNumberOf, Tells, line_entry}
use Rattle.report_tables.specs.Told.{AreTransactionsOf, Comes, IsTreeOf}
use Rattle.report_tables.specs.Valued.{value_at}
use Rattle.report_tables.specs.Chained.{Known, known_by}
use Rattle.report_tables.specs.declared.transactions.Transactions.{Transactions}
use Rattle.report_tables.proofs.Exports.{done_idle, same_children}
use Rattle.report_judge.specs.Kept.{Follows, IsKept, is_access, is_done_ok, known}
use Rattle.report_judge.specs.declared.seen.Seen.{Seen}

-- what holds of a value that was returned, and of any
pub on_ok : {A E : Type 0} (r : Result A E) (P Q : A → Type 0) → IfOk r P → ((v : A) → P v → Q v) → IfOk r Q
on_ok (Ok v) P Q h f = f v h
on_ok (Err e) P Q h f = tt

pub on_ok_both : {A E : Type 0} (r : Result A E) (P Q : A → Type 0) (S : Type 0) → IfOk r P → OnOk r S → ((v : A) → P v → S → Q v) → IfOk r Q
on_ok_both (Ok v) P Q S h s f = f v h s
on_ok_both (Err e) P Q S h s f = tt

-- ---- effects

-- without an `ok` nothing is begun, committed or aborted
pub no_effect : (e : Event) (a : Answer) → is_access e ≡ false → is_done_ok a ≡ false → effect_of e a ≡ Nothing
no_effect (Access t k o) a x y = absurd (true≢false x)
no_effect (Sum t g) a x y = absurd (true≢false x)
no_effect (Begin t) (Done reply.Ok) x y = absurd (true≢false y)
no_effect (Begin t) (Done (reply.Value v)) x y = refl
no_effect (Begin t) (Done reply.Absent) x y = refl
no_effect (Begin t) (Done (reply.New v)) x y = refl
no_effect (Begin t) (Done reply.Overflow) x y = refl
no_effect (Begin t) Waits x y = refl
no_effect (Begin t) Stuck x y = refl
no_effect (Begin t) (Refused r) x y = refl
no_effect (Commit t) (Done reply.Ok) x y = absurd (true≢false y)
no_effect (Commit t) (Done (reply.Value v)) x y = refl
no_effect (Commit t) (Done reply.Absent) x y = refl
no_effect (Commit t) (Done (reply.New v)) x y = refl
no_effect (Commit t) (Done reply.Overflow) x y = refl
no_effect (Commit t) Waits x y = refl
no_effect (Commit t) Stuck x y = refl
no_effect (Commit t) (Refused r) x y = refl
no_effect (Abort t) (Done reply.Ok) x y = absurd (true≢false y)
no_effect (Abort t) (Done (reply.Value v)) x y = refl
no_effect (Abort t) (Done reply.Absent) x y = refl
no_effect (Abort t) (Done (reply.New v)) x y = refl
no_effect (Abort t) (Done reply.Overflow) x y = refl
no_effect (Abort t) Waits x y = refl
no_effect (Abort t) Stuck x y = refl
no_effect (Abort t) (Refused r) x y = refl
no_effect (After t w) (Done r) x y = refl
no_effect (After t w) Waits x y = refl
no_effect (After t w) Stuck x y = refl
no_effect (After t w) (Refused r) x y = refl

-- nor is an access made without a reply
pub no_access : (t : Name) (q : Asked) (a : Answer) → ((r : Reply) → a ≡ Done r → ⊥) → effect_of (event_of t q) a ≡ Nothing
no_access t (At k o) (Done r) other = absurd (other r refl)
no_access t (At k o) Waits other = refl
no_access t (At k o) Stuck other = refl
no_access t (At k o) (Refused r) other = refl
no_access t (Over g) (Done r) other = absurd (other r refl)
no_access t (Over g) Waits other = refl
no_access t (Over g) Stuck other = refl
no_access t (Over g) (Refused r) other = refl

-- where nothing is done, the transactions are as before
pub comes_idle : (base : ℕ) (known : Known) (h : History) (x : Transactions) (z : Effect) → z ≡ Nothing → AreTransactionsOf base known h x → Comes true h z (λ e. AreTransactionsOf base known (e ∷ h) x)
comes_idle base known h x z none are = (ap (may_do h) none, λ e does. done_idle base known h x x e are (does ∙ none) refl refl refl)

pub no_effect_after : (t : Name) (w : _) (a : Answer) → effect_of (After t w) a ≡ Nothing
no_effect_after t w (Done r) = refl
no_effect_after t w Waits = refl
no_effect_after t w Stuck = refl
no_effect_after t w (Refused r) = refl

pub is_ok : (a : Answer) → is_done_ok a ≡ true → a ≡ Done reply.Ok
is_ok (Done reply.Ok) e = refl
is_ok (Done (reply.Value v)) e = absurd (false≢true e)
is_ok (Done reply.Absent) e = absurd (false≢true e)
is_ok (Done (reply.New v)) e = absurd (false≢true e)
is_ok (Done reply.Overflow) e = absurd (false≢true e)
is_ok Waits e = absurd (false≢true e)
is_ok Stuck e = absurd (false≢true e)
is_ok (Refused r) e = absurd (false≢true e)

-- ---- an entry of a line

and_true : (b : Bool) → (b && true) ≡ b
and_true true = refl
and_true false = refl

-- while no abort of the close has been told
line_is : (h : History) (s line : ℕ) (e : Event) (a : Answer) → list_any (λ x. is_close x.by) h ≡ false → s < MOST_SESSIONS
    → may_follow h (line_entry s line e a) ≡ ((line == suc (answered h s) && goes_on (waiting h s) e a) && may_do h (effect_of e a))
line_is h s line e a unclosed few =
    ap (λ c. ((not c && ((nat_lt s MOST_SESSIONS && line == suc (answered h s)) && goes_on (waiting h s) e a)) && may_do h (effect_of e a)) && true) unclosed
    ∙ ap (λ c. ((true && ((c && line == suc (answered h s)) && goes_on (waiting h s) e a)) && may_do h (effect_of e a)) && true) (lt-ltb s MOST_SESSIONS few)
    ∙ and_true _

pub line_late : (h : History) (s line : ℕ) (e : Event) (a : Answer) → list_any (λ x. is_close x.by) h ≡ true → may_follow h (line_entry s line e a) ≡ false
line_late h s line e a over =
    ap (λ c. ((not c && ((nat_lt s MOST_SESSIONS && line == suc (answered h s)) && goes_on (waiting h s) e a)) && may_do h (effect_of e a)) && true) over

pub line_full : (h : History) (s line : ℕ) (e : Event) (a : Answer) → list_any (λ x. is_close x.by) h ≡ false → MOST_SESSIONS ≤ s → may_follow h (line_entry s line e a) ≡ false
line_full h s line e a unclosed most =
    ap (λ c. ((not c && ((nat_lt s MOST_SESSIONS && line == suc (answered h s)) && goes_on (waiting h s) e a)) && may_do h (effect_of e a)) && true) unclosed
    ∙ ap (λ c. ((true && ((c && line == suc (answered h s)) && goes_on (waiting h s) e a)) && may_do h (effect_of e a)) && true) (le-ltb s MOST_SESSIONS most)

pub line_not_next : (h : History) (s line : ℕ) (e : Event) (a : Answer) → list_any (λ x. is_close x.by) h ≡ false → s < MOST_SESSIONS
    → (line == suc (answered h s) && goes_on (waiting h s) e a) ≡ false → may_follow h (line_entry s line e a) ≡ false
line_not_next h s line e a unclosed few other = line_is h s line e a unclosed few ∙ ap (λ c. c && may_do h (effect_of e a)) other

-- the effect is told
pub line_follows : (r : Read) (old new : Seen) (l : List ℕ) (n line : ℕ) (e : Event) (a : Answer) (es : _) → IsKept r old → old.closing ≡ false → IsNumberOf r.labels l r.history n es
    → Tells true (with_label r.labels l) r.history n line e a new.sessions.entries → new.closing ≡ old.closing → new.table.items ≡ old.table.items
    → ((k : List ℕ) → value_at new.values.entries k ≡ value_at old.values.entries k)
    → (ok : Bool) → Comes ok r.history (effect_of e a) (λ y. AreTransactionsOf (1 + length r.opening) (known new) (y ∷ r.history) new.transactions)
    → Follows ok r (told.Line l line e a) new
line_follows r old new l n line e a es kept unclosed numbered tells same_closing same_table same ok comes = by ok comes
  where
    unclosed_h : list_any (λ x. is_close x.by) r.history ≡ false
    unclosed_h = sym kept.closing ∙ unclosed

    own : Entry
    own = line_entry n line e a

    is_own : line_entry n line e a ≡ entry_in r.labels (told.Line l line e a)
    is_own = ap (λ s. line_entry s line e a) numbered.number

    may_is : may_follow r.history (entry_in r.labels (told.Line l line e a)) ≡ may_do r.history (effect_of e a)
    may_is = ap (may_follow r.history) (sym is_own) ∙ line_is r.history n line e a unclosed_h numbered.allowed ∙ ap (λ c. c && may_do r.history (effect_of e a)) tells.0

    by : (ok : Bool) → Comes ok r.history (effect_of e a) (λ y. AreTransactionsOf (1 + length r.opening) (known new) (y ∷ r.history) new.transactions)
        → Follows ok r (told.Line l line e a) new
    by true comes = (
      may_is ∙ comes.0,
      record {
        rising = kept.rising;
        values = λ k. same k ∙ kept.values k;
        sessions = subst (λ (x : Entry). AreSessionsOf (with_label r.labels l) (x ∷ r.history) new.sessions.entries) is_own tells.1;
        transactions = comes.1 (entry_in r.labels (told.Line l line e a)) refl;
        closing = same_closing ∙ kept.closing;
        table = same_table ∙ kept.table;
      },
    )
    by false comes = may_is ∙ comes

-- ---- an abort that no line asked for

-- nothing was named
pub same_known : (old new : Seen) → new.values.entries ≡ old.values.entries → keys_of new.groups.entries ≡ keys_of old.groups.entries → known new ≡ known old
same_known old new values groups = λ i. known_by (keys_of (values i)) (groups i)

-- the sessions are as before
sessions_beside : (labels : List (List ℕ)) (h : History) (es : _) (x : Entry) → ((s : ℕ) → answered (x ∷ h) s ≡ answered h s) → ((s : ℕ) → waiting (x ∷ h) s ≡ waiting h s) → AreSessionsOf labels h es
    → AreSessionsOf labels (x ∷ h) es
sessions_beside labels h es x same_answered same_waiting are = record {
  keys = are.keys;
  few = are.few;
  each = λ s y at. let w = are.each s y at in record { answered = w.answered ∙ sym (same_answered s); waits = w.waits ∙ sym (same_waiting s); event = w.event };
  later = λ s past. (same_answered s ∙ (are.later s past).0, same_waiting s ∙ (are.later s past).1);
}

pub victim_follows : (r : Read) (old new : Seen) (t : Name) → IsKept r old → old.closing ≡ false → new.closing ≡ old.closing → new.table.items ≡ old.table.items → new.values.entries ≡ old.values.entries → keys_of new.groups.entries ≡ keys_of old.groups.entries
    → new.sessions.entries ≡ old.sessions.entries → (ok : Bool) → Comes ok r.history (Aborts t) (λ y. AreTransactionsOf (1 + length r.opening) (known old) (y ∷ r.history) new.transactions)
    → Follows ok r (told.Victim t) new
victim_follows r old new t kept unclosed same_closing same_table same_values same_groups same_sessions ok comes = by ok comes
  where
    may_is : may_follow r.history (victim t) ≡ may_do r.history (Aborts t)
    may_is = ap (λ c. ((not c && true) && may_do r.history (Aborts t)) && true) (sym kept.closing ∙ unclosed) ∙ and_true _

    by : (ok : Bool) → Comes ok r.history (Aborts t) (λ y. AreTransactionsOf (1 + length r.opening) (known old) (y ∷ r.history) new.transactions) → Follows ok r (told.Victim t) new
    by true comes = (
      may_is ∙ comes.0,
      record {
        rising = kept.rising;
        values = λ k. ap (λ es. value_at es k) same_values ∙ kept.values k;
        sessions = subst (λ es. AreSessionsOf r.labels (victim t ∷ r.history) es) (sym same_sessions) (sessions_beside r.labels r.history old.sessions.entries (victim t) (λ s. refl) (λ s. refl) kept.sessions);
        transactions = subst (λ ks. AreTransactionsOf (1 + length r.opening) ks (victim t ∷ r.history) new.transactions) (sym (same_known old new same_values same_groups)) (comes.1 (victim t) refl);
        closing = same_closing ∙ kept.closing;
        table = same_table ∙ kept.table;
      },
    )
    by false comes = may_is ∙ comes

pub victim_late : (h : History) (t : Name) → list_any (λ x. is_close x.by) h ≡ true → may_follow h (victim t) ≡ false
victim_late h t over = ap (λ c. ((not c && true) && may_do h (Aborts t)) && true) over

top_one : (t : Name) → length t ≡ 1 → is_top_level t ≡ true
top_one [] e = absurd (omega (arith, e))
top_one (l ∷ []) e = refl
top_one (l ∷ m ∷ ls) e = absurd (omega (arith, e))

pub deep : (t : Name) → (length t ≡ 1 → ⊥) → is_top_level t ≡ false
deep [] e = refl
deep (l ∷ []) e = absurd (e refl)
deep (l ∷ m ∷ ls) e = refl

and_false : (b : Bool) → (b && false) ≡ false
and_false true = refl
and_false false = refl

pub close_deep : (h : History) (t : Name) → (length t ≡ 1 → ⊥) → may_follow h (closing t) ≡ false
close_deep h t e = ap (λ c. ((true && true) && may_do h (Aborts t)) && c) (deep t e) ∙ and_false _

pub close_follows : (r : Read) (old new : Seen) (t : Name) → IsKept r old → length t ≡ 1 → new.closing ≡ true → new.table.items ≡ old.table.items → new.values.entries ≡ old.values.entries → keys_of new.groups.entries ≡ keys_of old.groups.entries
    → new.sessions.entries ≡ old.sessions.entries → (ok : Bool) → Comes ok r.history (Aborts t) (λ y. AreTransactionsOf (1 + length r.opening) (known old) (y ∷ r.history) new.transactions)
    → Follows ok r (told.Close t) new
close_follows r old new t kept one now_closing same_table same_values same_groups same_sessions ok comes = by ok comes
  where
    may_is : may_follow r.history (closing t) ≡ may_do r.history (Aborts t)
    may_is = ap (λ c. ((true && true) && may_do r.history (Aborts t)) && c) (top_one t one) ∙ and_true _

    by : (ok : Bool) → Comes ok r.history (Aborts t) (λ y. AreTransactionsOf (1 + length r.opening) (known old) (y ∷ r.history) new.transactions) → Follows ok r (told.Close t) new
    by true comes = (
      may_is ∙ comes.0,
      record {
        rising = kept.rising;
        values = λ k. ap (λ es. value_at es k) same_values ∙ kept.values k;
        sessions = subst (λ es. AreSessionsOf r.labels (closing t ∷ r.history) es) (sym same_sessions) (sessions_beside r.labels r.history old.sessions.entries (closing t) (λ s. refl) (λ s. refl) kept.sessions);
        transactions = subst (λ ks. AreTransactionsOf (1 + length r.opening) ks (closing t ∷ r.history) new.transactions) (sym (same_known old new same_values same_groups)) (comes.1 (closing t) refl);
        closing = now_closing;
        table = same_table ∙ kept.table;
      },
    )
    by false comes = may_is ∙ comes

-- ---- whether a top-level transaction is live

first_is : (h : History) (ts : List Name) → is_none (first_live h ts) ≡ not (list_any (λ t. is_top_level t && is_live h t) ts)
first_is h [] = refl
first_is h (t ∷ ts) = by (first_live h ts) (is_top_level t && is_live h t) (list_any (λ u. is_top_level u && is_live h u) ts) (first_is h ts)
  where
    by : (o : Option Name) (b c : Bool) → is_none o ≡ not c → is_none (or_else o (cond b (Some t) None)) ≡ not (b || c)
    by None true true e = refl
    by None true false e = refl
    by None false c e = e
    by (Some u) true c e = refl
    by (Some u) false c e = e

top_is : (l : List ℕ) (ls : Name) → is_top_level (l ∷ ls) ≡ path_eq (parent (l ∷ ls)) []
top_is l [] = refl
top_is l (m ∷ ls) = sym (ap (λ u. path_eq u []) (parent-cons l m ls))

module _ (h : History) (tree : States) (is : IsTreeOf h tree) where
  abbrev tops : Name → Bool
  tops t = is_top_level t && is_live h t

  abbrev children : Name → Bool
  children t = path_eq (parent t) [] && is_live h t

  agree : (t : Name) → has_begun h t ≡ true → tops t ≡ children t
  agree [] b = absurd (true≢false (sym b ∙ is.ended.rootless))
  agree (l ∷ ls) b = ap (λ c. c && is_live h (l ∷ ls)) (top_is l ls)

  same_any : (b c : Bool) → list_any tops (begun h) ≡ b → list_any children (begun h) ≡ c → b ≡ c
  same_any true true x y = refl
  same_any false false x y = refl
  same_any true false x y =
      let w = some_begun tops h x in
      absurd (true≢false (sym (any_begun children w.0 h w.1 (sym (agree w.0 w.1) ∙ w.2)) ∙ y))
  same_any false true x y =
      let w = some_begun children h y in
      absurd (true≢false (sym (any_begun tops w.0 h w.1 (agree w.0 w.1 ∙ w.2)) ∙ x))

  pub tops_are : is_none (first_live h (begun h)) ≡ not (nat_lt 0 (live_children_of tree []))
  tops_are =
      first_is h (begun h) ∙ ap not (same_any (list_any tops (begun h)) (list_any children (begun h)) refl refl ∙ sym (same_children h tree is []) ∙ any_counted (is_live_child_in tree []) (names tree))

-- What an entry of a legal history did could be done.
use Rattle.std.proofs.Common.{◌≡◌, ◌<◌, List, [], ◌∷◌, length, true, false, Bool, cond, not, Option, Some, None, refl, ap, ◌∙◌, subst}
use Rattle.std.specs.Prelude.{◌&&◌, nat_le, is_some, find}
use Rattle.std.proofs.lemmas.Bool.{and_from, and_parts, leb-false, lt-ltb, not_from_false}
use mathlib.Core.Bool.{Bool-set}
use mathlib.Core.Logic.{∥∥₁_elim}
use Rattle.txn_names.specs.Path.{parent}
use Rattle.txn_names.proofs.Exports.{on_test}
use Rattle.serial_spec.specs.declared.limits.TheConstants.{MOST_TRANSACTIONS}
use Rattle.serial_spec.specs.declared.entry.By.{By}
use Rattle.serial_spec.specs.declared.entry.By.TheVariants as by
use Rattle.serial_spec.specs.declared.entry.Refusal.TheVariants.{Full, NoParent, Used}
use Rattle.serial_spec.specs.declared.entry.Answer.{Answer}
use Rattle.serial_spec.specs.declared.entry.Answer.TheVariants.{Done}
use Rattle.serial_spec.specs.declared.event.Event.{Event}
use Rattle.serial_spec.specs.declared.event.Event.TheVariants.{Begin, Access, Sum, Commit, Abort}
use Rattle.serial_spec.specs.declared.operation.Reply.TheVariants.{Ok}
use Rattle.serial_spec.specs.History.{History, Name, Effect, Begins, Accesses, Commits, Aborts, Nothing, Absent, Live, Committed, Aborted, begun, effect_of, has_aborted, has_begun, has_committed, is_absent, is_active, is_committed, is_live, is_live_status, or_else, status, top_aborted}
use Rattle.serial_spec.specs.Rows.{Rows}
use Rattle.serial_spec.specs.Waits.{IsVictim, OnCycle, WaitInTurn, accesses, open_waits, wait_of, waits_by, waits_for}
use Rattle.serial_spec.specs.Allowed.{Allowed, cause_at_begin, has_live_child}
use Rattle.serial_spec.specs.Causes.{when, why_orphaned}
use Rattle.serial_spec.specs.Legal.{IsAbortOf, MayCome, first_live, is_top_level}
use Rattle.txn_history.proofs.Exports.{acts_active, Sound, abort_of, acts_at_end, done_not_refused, neither, not_refused, not_when, sound, clash}
use Rattle.report_check.specs.Passing.{may_close, may_do}

-- ---- who is aborted by the manager acts

waiter_acts : (h : History) (t u : Name) → waits_for h t u ≡ true → is_active h t ≡ true
waiter_acts h t u = on_test (is_active h t)
    (λ b. waits_by h t u (cond b (find (λ w. accesses t w.event) (open_waits h)) None) (wait_of h u) ≡ true → b ≡ true)
    (λ _ _. refl) (λ _ waits. waits)

cycle_acts : (h : History) (t : Name) → OnCycle h t → is_active h t ≡ true
cycle_acts h t c = first c.0 c.2
  where
    first : (ts : List Name) → WaitInTurn h t ts t → is_active h t ≡ true
    first [] w = waiter_acts h t t w
    first (u ∷ us) w = waiter_acts h t u w.0

victim_acts : (h : History) (t : Name) → IsVictim h t → is_active h t ≡ true
victim_acts h t v = ∥∥₁_elim v.0 (Bool-set (is_active h t) true) (λ c. cycle_acts h t c)

is_first : (h : History) (ts : List Name) (t : Name) → first_live h ts ≡ Some t → (is_top_level t && is_live h t) ≡ true
is_first h [] t e = cc
is_first h (u ∷ us) t e = by (is_first h us t) (first_live h us) refl (is_top_level u && is_live h u) refl e
  where
    by : (first_live h us ≡ Some t → (is_top_level t && is_live h t) ≡ true) → (o : Option Name) → first_live h us ≡ o → (b : Bool) → (is_top_level u && is_live h u) ≡ b → or_else o (cond b (Some u) None) ≡ Some t → (is_top_level t && is_live h t) ≡ true
    by before (Some v) f b k e2 = before (f ∙ e2)
    by before None f true k e2 = let same : u ≡ t = cc in subst (λ v. (is_top_level v && is_live h v) ≡ true) same k
    by before None f false k e2 = cc

live_unaborted : (b a c : Bool) → is_live_status (cond b (cond a Aborted (cond c Committed Live)) Absent) ≡ true → a ≡ false
live_unaborted true true c h = clash h refl
live_unaborted true false c h = refl
live_unaborted false a c h = clash h refl

top_acts : (h : History) (t : Name) → is_top_level t ≡ true → is_live h t ≡ true → is_active h t ≡ true
top_acts h [] top live = clash top refl
top_acts h (l ∷ []) top live =
    and_from _ _ live (not_from_false _ (ap (λ b. is_some (cond b (Some (l ∷ [])) None)) (live_unaborted (has_begun h (l ∷ [])) (has_aborted h (l ∷ [])) (has_committed h (l ∷ [])) live)))
top_acts h (l ∷ m ∷ ls) top live = clash top refl

first_acts : (h : History) (t : Name) → first_live h (begun h) ≡ Some t → is_active h t ≡ true
first_acts h t e = let p = and_parts (is_top_level t) (is_live h t) (is_first h (begun h) t e) in top_acts h t p.0 p.1

-- ---- what `sound` does not say: there is room to begin, and whoever is aborted acts

abbrev HasRoom : History → Effect → Type 0
HasRoom h (Begins t) = length (begun h) < MOST_TRANSACTIONS
HasRoom h (Aborts t) = is_active h t ≡ true
HasRoom h x = Unit {0}

room_to_begin : (h : History) (t : Name) → cause_at_begin h t ≡ None → length (begun h) < MOST_TRANSACTIONS
room_to_begin h t e =
    let last = when (nat_le MOST_TRANSACTIONS (length (begun h))) Full in
    let third = or_else (when (is_committed (status h (parent t))) NoParent) last in
    let second = or_else (why_orphaned (top_aborted h (parent t))) third in
    let p = neither (when (not (is_absent (status h t))) Used) (or_else (when (is_absent (status h (parent t))) NoParent) second) e in
    let q = neither (when (is_absent (status h (parent t))) NoParent) second p.1 in
    let r = neither (why_orphaned (top_aborted h (parent t))) third q.1 in
    let s = neither (when (is_committed (status h (parent t))) NoParent) last r.1 in
    let full = not_when (nat_le MOST_TRANSACTIONS (length (begun h))) Full s.1 in
    leb-false MOST_TRANSACTIONS (length (begun h)) full

room_line : (rows : Rows) (h : History) (by : By) (e : Event) (a : Answer) → Allowed rows h by e a → HasRoom h (effect_of e a)
room_line rows h by (Begin t) (Done Ok) q = room_to_begin h t (not_refused _ _ (Done Ok) (done_not_refused Ok) q).0
room_line rows h by (Abort t) (Done Ok) q = acts_active h t (acts_at_end h t (not_refused _ _ (Done Ok) (done_not_refused Ok) q).0).1
room_line rows h by (Access t k o) (Done r) q = tt
room_line rows h by (Sum t g) (Done r) q = tt
room_line rows h by (Commit t) (Done Ok) q = tt
room_line rows h by e a q = tt

room_abort : (h : History) (P : Name → Type 0) → ((t : Name) → P t → is_active h t ≡ true) → (e : Event) (a : Answer) → IsAbortOf P e a → HasRoom h (effect_of e a)
room_abort h P acts (Abort t) (Done Ok) p = acts t p
room_abort h P acts e a p = absurd p

has_room : (rows : Rows) (h : History) (b : By) (e : Event) (a : Answer) → MayCome rows h b e a → HasRoom h (effect_of e a)
has_room rows h (by.Line s n) e a m = room_line rows h (by.Line s n) e a m
has_room rows h by.Victim e a m = room_abort h (IsVictim h) (victim_acts h) e a m
has_room rows h by.Close e a m = room_abort h (λ t. first_live h (begun h) ≡ Some t) (first_acts h) e a m

does : (rows : Rows) (h : History) (x : Effect) → Sound rows h x → HasRoom h x → may_do h x ≡ true
does rows h (Begins t) s room = and_from _ _ (and_from _ _ s.new (acts_active h (parent t) s.parent_acts)) (lt-ltb (length (begun h)) MOST_TRANSACTIONS room)
does rows h (Accesses t a r) s room = acts_active h t s.acting
does rows h (Commits t) s room = and_from _ _ (acts_active h t s.acting) (not_from_false (has_live_child h t) s.childless)
does rows h (Aborts t) s room = room
does rows h Nothing s room = refl

pub may_do_next : (rows : Rows) (h : History) (b : By) (e : Event) (a : Answer) → MayCome rows h b e a → may_do h (effect_of e a) ≡ true
may_do_next rows h b e a may = does rows h (effect_of e a) (sound rows h b e a may) (has_room rows h b e a may)

-- ---- the close

pub may_close_next : (rows : Rows) (h : History) (b : By) (e : Event) (a : Answer) → MayCome rows h b e a → may_close b e ≡ true
may_close_next rows h (by.Line s n) e a may = refl
may_close_next rows h by.Victim e a may = refl
may_close_next rows h by.Close e a may =
    let t = abort_of (λ t. first_live h (begun h) ≡ Some t) e a may in
    ap (may_close by.Close) t.1 ∙ (and_parts (is_top_level t.0) (is_live h t.0) (is_first h (begun h) t.0 t.3)).0

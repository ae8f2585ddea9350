-- What keeps a line from its answer, by the tables and by the history.
use Rattle.std.proofs.Common.{◌≡◌, ◌<◌, ℕ, Bool, true, false, not, cond, ◌&&◌, ◌||◌, List, [], ◌∷◌, length, Option, Some, None, option_map, is_some, unwrap_or, refl, sym, ap, subst, ◌∙◌, arith}
use Rattle.std.specs.Prelude.{IsTrue, ◌↔◌, nat_le}
use Rattle.std.proofs.lemmas.Bool.Decides.{nat_tests}
use Rattle.std.proofs.lemmas.Bool.{and_parts, eq-eqb, not-true, true≢false}
use Rattle.serial_spec.specs.declared.target.Asked.{Asked}
use Rattle.serial_spec.specs.declared.operation.Reply.{Reply}
use Rattle.serial_spec.specs.declared.operation.Reply.TheVariants.{Ok}
use Rattle.serial_spec.specs.declared.entry.By.{By}
use Rattle.serial_spec.specs.declared.entry.Refusal.{Refusal}
use Rattle.serial_spec.specs.declared.entry.Refusal.TheVariants.{Unknown, Done as HasCommitted, Orphan, Waiting, Full}
use Rattle.serial_spec.specs.declared.event.When.{When}
use Rattle.serial_spec.specs.declared.event.When.TheVariants.{Begun, Done as Ended}
use Rattle.serial_spec.specs.declared.event.Event.{Event}
use Rattle.serial_spec.specs.declared.event.Event.TheVariants.{Abort, Access, After, Begin, Commit, Sum}
use Rattle.serial_spec.specs.declared.target.Asked.TheVariants.{At, Over}
use Rattle.serial_spec.specs.declared.entry.Answer.{Answer}
use Rattle.serial_spec.specs.declared.entry.Answer.TheVariants.{Done, Waits}
use Rattle.serial_spec.specs.declared.entry.Entry.{Entry}
use Rattle.serial_spec.specs.Serial.{reply_at}
use Rattle.serial_spec.specs.History.{Name, History, event_of, Status, Absent, Live, Committed, Aborted, or_else, has_begun, top_aborted, status, is_active, is_committed, is_live_status, is_orphan}
use Rattle.serial_spec.specs.Locks.{is_blocked}
use Rattle.serial_spec.specs.Values.{seen}
use Rattle.serial_spec.specs.Rows.{Rows, value_in}
use Rattle.serial_spec.specs.Waits.{accesses, open_waits, same_line, wait_of}
use Rattle.serial_spec.specs.Allowed.{known, most_keys, refused_or, is_full_for, waits_elsewhere, cause_at_end, cause_at_access, has_come, has_waited, answer}
use Rattle.serial_spec.specs.Causes.{when}
use Rattle.serial_spec.specs.Legal.{AreAllowed}
use Rattle.manager_core.specs.Kept.{AreTablesOf}
use Rattle.manager_core.specs.Lines.{IsWaitOf, access_by, waiting_access}
use Rattle.lock_table.specs.ByAsked.{BlocksAsked, MayAsk}
use Rattle.std.specs.List.{IsDistinct, list_any}
use Rattle.txn_names.specs.Path.{label_eq, path_eq}
use Rattle.txn_tree.specs.States.{names}
use Rattle.manager_core.specs.Looked.{IsKeptFrom}
use Rattle.manager_core.proofs.Looked.{numbered}
use Rattle.manager_core.proofs.WaitTables.{access_of, kept_access_of}
use Rattle.manager_core.specs.Parking.{IsKeptOut, IsParked, NobodyWaits, WaitsOn, come_by}
use Rattle.manager_core.proofs.Locks.{may_as}
use Rattle.manager_core.proofs.OneWait.{only_event}
use Rattle.manager_core.proofs.Pairing.{tell_waits}
use Rattle.wait_cycles.specs.Waiting.{wait_in, wait_of as kept_wait}
use Rattle.wait_cycles.specs.declared.waits.Wait.{Wait}
use Rattle.manager_core.specs.Tables.{Tabled, cause_in}
use Rattle.txn_history.proofs.Exports.{any-find, waits_kept}
use Rattle.manager_core.proofs.Events.{access_by_at, answer_at, is_wait, may_give_up, own_wait, same_asked}
use Rattle.manager_core.proofs.Lasting.{is_open}
use Rattle.manager_core.proofs.Trees.{same_at_end}
use Rattle.manager_core.proofs.Waits.{same_by}
use Rattle.manager_core.proofs.Retrying.{IsWaiting, waiting_is}

-- ---- conditions

begun_by : (b c : Bool) (o : Option Name) → come_by (or_else (when (not b) Unknown) (or_else (option_map (λ a. Orphan a) o) (when c HasCommitted))) Begun ≡ b
begun_by false c o = refl
begun_by true c (Some a) = refl
begun_by true true None = refl
begun_by true false None = refl

ended_by : (b c : Bool) (o : Option Name)
    → come_by (or_else (when (not b) Unknown) (or_else (option_map (λ a. Orphan a) o) (when c HasCommitted))) Ended ≡ (b && (c || is_some o))
ended_by false c o = refl
ended_by true true (Some a) = refl
ended_by true false (Some a) = refl
ended_by true true None = refl
ended_by true false None = refl

come_as : (h : History) (t : Name) (w : When) → come_by (cause_at_end h t) w ≡ has_come h t w
come_as h t Begun = begun_by (has_begun h t) (is_committed (status h t)) (top_aborted h t)
come_as h t Ended = ended_by (has_begun h t) (is_committed (status h t)) (top_aborted h t)

pub has_come_as : (rows : Rows) (h : History) (tables : Tabled) → AreAllowed rows h → AreTablesOf rows h tables → (t : Name) → 0 < length t → (w : When)
    → come_by (cause_in tables t) w ≡ has_come h t w
has_come_as rows h tables allowed are t some w = ap (λ c. come_by c w) (same_at_end rows h tables allowed are t some) ∙ come_as h t w

-- an `after` line has its answer where its condition holds
pub after_due : (rows : Rows) (h : History) (by : By) (t : Name) (w : When) → has_come h t w ≡ true → answer rows h by (After t w) ≡ Some (Done Ok)
after_due rows h by t w e = ap (λ b. cond b (Some (Done Ok)) None) e

-- ---- accesses

-- the wait as it is kept
pub waiting_of : (h : History) (by : By) (t : Name) (asked : Asked) → IsWaitOf h by (event_of t asked) → waiting_access (wait_of h t) ≡ Some (by, asked)
waiting_of h by t asked of_it =
    let own = own_wait h by t asked of_it in
    rw (own.waits, own.event_is, same_by own.wait.by by own.of_line) (access_by_at by t asked)

refused_some : (c : Option Refusal) (a : Option Answer) → is_some c ≡ true → refused_or c a ≡ None → ⊥
refused_some None a s e = cc
refused_some (Some r) a s e = cc

by_block : (c : Option Refusal) (b w : Bool) (r : Reply) → c ≡ None → w ≡ true
    → IsTrue b ↔ (refused_or c (cond b (cond w None (Some Waits)) (Some (Done r))) ≡ None)
by_block c true w r none waited = (λ _. rw (none, waited) refl, λ _. refl)
by_block c false w r none waited = (λ f. cc, λ e. let no : refused_or None (Some (Done r)) ≡ None = subst (λ x. refused_or x (Some (Done r)) ≡ None) none e in cc)

full_refused : (a b : Option Refusal) (full : Bool) → full ≡ true → is_some (or_else a (or_else b (when full Full))) ≡ true
full_refused (Some x) b full e = refl
full_refused None (Some x) full e = refl
full_refused None None true e = refl
full_refused None None false e = absurd (true≢false (sym e))

live_not_committed : (s : Status) → is_live_status s ≡ true → is_committed s ≡ false
live_not_committed Absent e = refl
live_not_committed Live e = refl
live_not_committed Committed e = absurd (true≢false (sym e))
live_not_committed Aborted e = refl

pub none_of : {X : Type 0} (x : Option X) → is_some x ≡ false → x ≡ None
none_of None e = refl
none_of (Some y) e = absurd (true≢false e)

-- one that has begun and acts is refused no end
none_at_end : (h : History) (t : Name) → has_begun h t ≡ true → is_active h t ≡ true → cause_at_end h t ≡ None
none_at_end h t begun acts =
    let p = and_parts (is_live_status (status h t)) (not (is_orphan h t)) acts in
    rw (begun, none_of (top_aborted h t) (not-true (is_orphan h t) p.1), live_not_committed (status h t) p.0) refl

module _ (rows : Rows) (h : History) (by : By) (t : Name) (asked : Asked) where
  -- of the causes only the bound on keys can hold for one that waits by this line
  pub none_but_full : AreAllowed rows h → IsWaitOf h by (event_of t asked) → is_full_for rows h asked ≡ false → cause_at_access rows h by t asked ≡ None
  none_but_full allowed of_it room =
      let own = own_wait h by t asked of_it in
      let stands = is_open h t own.wait own.waits in
      let begun = (waits_kept rows h allowed).begun t (any-find (λ v. accesses t v.event) (λ v. accesses t v.event) (open_waits h) own.wait stands.found stands.of_it) in
      rw (none_at_end h t begun stands.acts, own.waits, own.of_line, room) refl

  -- one that a cause refuses is answered
  pub refused_out : is_some (cause_at_access rows h by t asked) ≡ true → IsKeptOut rows h by (event_of t asked) → ⊥
  refused_out some out = refused_some (cause_at_access rows h by t asked) _ some (sym (answer_at rows h by t asked) ∙ out.none)

  -- so is one whose key would be one too many
  pub full_out : is_full_for rows h asked ≡ true → IsKeptOut rows h by (event_of t asked) → ⊥
  full_out full = refused_out (full_refused (cause_at_end h t) (when (waits_elsewhere h by t) Waiting) (is_full_for rows h asked) full)

  -- one that waits, and is refused by no cause, is kept out exactly where it is blocked
  pub kept_out_as : AreAllowed rows h → IsWaitOf h by (event_of t asked) → cause_at_access rows h by t asked ≡ None
      → IsTrue (is_blocked h t asked) ↔ IsKeptOut rows h by (event_of t asked)
  kept_out_as allowed waits none =
      let is = waiting_is rows h allowed t by asked (waiting_of h by t asked waits) in
      let both = by_block (cause_at_access rows h by t asked) (is_blocked h t asked) (has_waited h by) (reply_at (seen (value_in rows) h t) asked) none is.waited in
      (λ b. record { can = may_give_up h by t asked waits; none = answer_at rows h by t asked ∙ both.0 b }, λ out. both.1 (sym (answer_at rows h by t asked) ∙ out.none))

-- told by whether no lock keeps it out
pub by_may : {X : Type 0} (b m : Bool) → m ≡ not b → IsTrue b ↔ X → IsTrue (not m) ↔ X
by_may true m is both = (λ e. both.0 refl, λ x. ap not is)
by_may false m is both = (λ e. both.0 (sym (ap not is) ∙ e), λ x. ap not is ∙ both.1 x)

module _ (rows : Rows) (h : History) (tables : Tabled) (allowed : AreAllowed rows h) (are : AreTablesOf rows h tables) (by : By) (t : Name) (asked : Asked) (n : ℕ)
    (waits : WaitsOn rows h tables.tree by t asked n) where
  -- one that waits, and whose key is none too many, is kept out exactly where it may not have what it asks
  pub out_by_locks : (b : Bool) → IsTrue b ↔ MayAsk tables.tree tables.estate.locks n asked → IsTrue (not b) ↔ IsKeptOut rows h by (event_of t asked)
  out_by_locks b both =
      by_may (is_blocked h t asked) b (may_as rows h tables are t n waits.number asked b both)
      (kept_out_as rows h by t asked allowed waits.waits (none_but_full rows h by t asked allowed waits.waits waits.room))

  pub out_if_blocked : (MayAsk tables.tree tables.estate.locks n asked → ⊥) → IsKeptOut rows h by (event_of t asked)
  out_if_blocked blocked = (out_by_locks false (λ e. absurd (true≢false (sym e)), λ may. absurd (blocked may))).0 refl

-- a line by which an access waits that may not have what it asks is kept out, whatever it may be attempted with
pub parked : (rows : Rows) (h : History) (tables : Tabled) → AreAllowed rows h → AreTablesOf rows h tables → (by : By) (t : Name) (asked : Asked) (n : ℕ)
    → WaitsOn rows h tables.tree by t asked n → (MayAsk tables.tree tables.estate.locks n asked → ⊥) → IsParked rows h by
parked rows h tables allowed are by t asked n waits blocked event next =
    subst (IsKeptOut rows h by) (sym (only_event h by t asked waits.waits event next)) (out_if_blocked rows h tables allowed are by t asked n waits blocked)

-- where fewer keys are known than may be, none is one too many
pub few_room : (rows : Rows) (h : History) → length (known rows h) < most_keys → (a : Asked) → is_full_for rows h a ≡ false
few_room rows h few (Over g) = refl
few_room rows h few (At k o) = by (list_any (label_eq k) (known rows h))
  where
    by : (b : Bool) → (not b && nat_le most_keys (length (known rows h))) ≡ false
    by true = refl
    by false = grind (arith, nat_tests, few)

module _ (rows : Rows) (h : History) (tables : Tabled) (allowed : AreAllowed rows h) (are : AreTablesOf rows h tables) (distinct : IsDistinct path_eq (names tables.tree))
    (by : By) (n : ℕ) where
  -- one that was seen waits by its line, where its key is none too many
  seen_waits : (m : ℕ) (kept : IsKeptFrom tables.tree tables.estate.locks tables.waits.waits by n m) → is_full_for rows h kept.asked ≡ false
      → (t : Name) × WaitsOn rows h tables.tree by t kept.asked n
  seen_waits m kept room =
      let named = numbered tables.tree distinct n kept.begun in
      let found = sym (kept_access_of h tables.tree tables.waits are.waiting named.0 n named.1) ∙ ap access_of kept.waiting in
      let is = waiting_is rows h allowed named.0 by kept.asked found in (
        named.0,
        record {
          number = named.1;
          waits = is_wait h by named.0 kept.asked (record { wait = is.wait; waits = is.waits; of_line = is.of_line; event_is = is.event_is });
          room = room;
        },
      )

  -- so the line is kept out
  pub parked_as : (m : ℕ) (kept : IsKeptFrom tables.tree tables.estate.locks tables.waits.waits by n m) → is_full_for rows h kept.asked ≡ false → IsParked rows h by
  parked_as m kept room =
      let waits = seen_waits m kept room in
      parked rows h tables allowed are by waits.0 kept.asked n waits.1 (λ may. may m kept.blocks)

  -- and what it waits for is known
  pub parked_access : (m : ℕ) (kept : IsKeptFrom tables.tree tables.estate.locks tables.waits.waits by n m) → is_full_for rows h kept.asked ≡ false
      → (e : Event) × IsWaitOf h by e × IsKeptOut rows h by e
  parked_access m kept room =
      let waits = seen_waits m kept room in
      (event_of waits.0 kept.asked, waits.1.waits, out_if_blocked rows h tables allowed are by waits.0 kept.asked n waits.1 (λ may. may m kept.blocks))

  -- one that waits by this line is kept from what it asks by whoever blocks it
  abbrev pub kept_as : (w : Wait) → kept_wait tables.waits n ≡ Some w → same_line w.by by ≡ true → (m : ℕ) → BlocksAsked tables.tree tables.estate.locks n w.asked m
      → IsKeptFrom tables.tree tables.estate.locks tables.waits.waits by n m
  kept_as w is line m blocks =
      let known = (tell_waits rows h tables allowed are).known n w is in
      let same : w ≡ record { txn = n; asked = w.asked; by = by } = λ i. record { txn = known.5 i; asked = w.asked; by = same_by w.by by line i } in
      record {
        begun = ap is_some known.2;
        asked = w.asked;
        waiting = is ∙ ap (λ v. Some v) same;
        blocks = blocks;
      }

-- where nobody waits no wait stands at any number
pub no_wait_at : (ws : List Wait) → length ws ≡ 0 → (n : ℕ) (w : Wait) → wait_in ws n ≡ Some w → ⊥
no_wait_at [] e n w is = true≢false (sym (ap is_some is))
no_wait_at (x ∷ ws) e n w is = omega (arith, e)

-- where nobody waits this access does not
pub nobody_waits : (rows : Rows) (h : History) (tables : Tabled) → AreAllowed rows h → AreTablesOf rows h tables → length tables.waits.waits ≡ 0
    → (by : By) (t : Name) (asked : Asked) → IsWaitOf h by (event_of t asked) → ⊥
nobody_waits rows h tables allowed are nobody by t asked waits =
    let own = own_wait h by t asked waits in
    let kept = (tell_waits rows h tables allowed are).all t own.wait own.waits in
    no_wait_at tables.waits.waits nobody kept.0 kept.1 kept.3

-- nor does any other
pub none_waits : (rows : Rows) (h : History) (tables : Tabled) → AreAllowed rows h → AreTablesOf rows h tables → length tables.waits.waits ≡ 0
    → NobodyWaits h
none_waits rows h tables allowed are nobody by (Access t k o) waits = nobody_waits rows h tables allowed are nobody by t (At k o) waits
none_waits rows h tables allowed are nobody by (Sum t g) waits = nobody_waits rows h tables allowed are nobody by t (Over g) waits
none_waits rows h tables allowed are nobody by (Begin t) waits = waits
none_waits rows h tables allowed are nobody by (Commit t) waits = waits
none_waits rows h tables allowed are nobody by (Abort t) waits = waits
none_waits rows h tables allowed are nobody by (After t when) waits = waits

-- and where no access waits no wait stands
pub none_stands : (rows : Rows) (h : History) (tables : Tabled) → AreAllowed rows h → AreTablesOf rows h tables → NobodyWaits h
    → length tables.waits.waits ≡ 0
none_stands rows h tables allowed are nobody = by tables.waits.waits refl
  where
    by : (ws : List Wait) → tables.waits.waits ≡ ws → length ws ≡ 0
    by [] is = refl
    by (w ∷ ws) is =
        let first : kept_wait tables.waits w.txn ≡ Some w =
        ap (λ xs. wait_in xs w.txn) is ∙ ap (λ b. cond b (Some w) (wait_in ws w.txn)) (eq-eqb w.txn w.txn refl) in
        let known = (tell_waits rows h tables allowed are).known w.txn w first in
        let line = known.1.by in
        let asks : waiting_access (wait_of h known.0) ≡ Some (line, w.asked) =
        ap waiting_access known.3 ∙ ap (access_by line) known.4 ∙ access_by_at line known.0 w.asked in
        let waits = waiting_is rows h allowed known.0 line w.asked asks in
        absurd (nobody line (event_of known.0 w.asked) (is_wait h line known.0 w.asked record {
          wait = waits.wait;
          waits = waits.waits;
          of_line = waits.of_line;
          event_is = waits.event_is;
        }))

-- ---- whether an access waits by a line

-- one that is not kept does not
pub none_waits_by : (h : History) (by : By) (t : Name) (asked : Asked) → waiting_access (wait_of h t) ≡ None → IsWaitOf h by (event_of t asked) → ⊥
none_waits_by h by t asked none waits = let no : Some (by, asked) ≡ None = sym (waiting_of h by t asked waits) ∙ none in true≢false (ap is_some no)

module _ (rows : Rows) (h : History) (allowed : AreAllowed rows h) (by line : By) (t : Name) (a b : Asked) (kept : waiting_access (wait_of h t) ≡ Some (line, b)) where
  -- the wait is this one exactly where it is by this line, and the same is asked
  pub waits_by_both : (r : Bool) → IsTrue r ↔ (IsTrue (same_line line by) × (b ≡ a)) → IsTrue r ↔ IsWaitOf h by (event_of t a)
  waits_by_both r same = (forth, back)
    where
      is : IsWaiting h t line b
      is = waiting_is rows h allowed t line b kept

      forth : IsTrue r → IsWaitOf h by (event_of t a)
      forth e =
          let both = same.0 e in
          is_wait h by t a (record { wait = is.wait; waits = is.waits; of_line = ap (λ y. same_line y by) is.by_is ∙ both.0; event_is = is.event_is ∙ ap (event_of t) both.1 })

      back : IsWaitOf h by (event_of t a) → IsTrue r
      back of_it =
          let own = own_wait h by t a of_it in
          let found : own.wait ≡ is.wait = ap (λ o. unwrap_or o own.wait) (sym own.waits ∙ is.waits) in
          let event : event_of t b ≡ event_of t a = sym is.event_is ∙ ap (λ (y : Entry). y.event) (sym found) ∙ own.event_is in
          same.1 (ap (λ y. same_line y by) (sym is.by_is) ∙ ap (λ (y : Entry). same_line y.by by) (sym found) ∙ own.of_line, same_asked t t b a event)

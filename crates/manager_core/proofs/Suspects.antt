-- Where an access closes no cycle of waits, told by those pairs alone that it can have added.
use Rattle.std.proofs.Common.{◌≡◌, ◌≤◌, ℕ, nat_eq, true, false, not, ◌&&◌, List, [], ◌∷◌, length, Option, Some, None, unwrap_or, inl, inr, subst, refl, sym, ap, ◌∙◌}
use Rattle.std.specs.Prelude.{map, slice_get}
use Rattle.std.specs.List.{IsDistinct, list_any}
use Rattle.std.proofs.lemmas.Bool.{eq-eqb, or_cases, and_from, and_parts, eqb-true, false≢true, false_from_ne_true, not-true, or_left, or_right}
use Rattle.txn_names.specs.Path.{is_front, path_eq}
use Rattle.txn_names.proofs.Exports.{path_eq_self, same_path}
use Rattle.txn_tree.specs.States.{States, names}
use Rattle.txn_tree.specs.Asked.{IsNumberOf, is_absent_in, is_name}
use Rattle.serial_spec.specs.declared.entry.Answer.TheVariants.{Done, Waits, Refused}
use Rattle.serial_spec.specs.declared.entry.By.{By}
use Rattle.serial_spec.specs.declared.entry.Entry.{Entry}
use Rattle.serial_spec.specs.declared.entry.Refusal.{Refusal}
use Rattle.serial_spec.specs.declared.target.Asked.{Asked}
use Rattle.serial_spec.specs.declared.target.Target.{Target}
use Rattle.serial_spec.specs.Targets.{kind_of, meets, target}
use Rattle.serial_spec.specs.declared.operation.Reply.{Reply}
use Rattle.serial_spec.specs.History.{Name, History, event_of, is_active}
use Rattle.serial_spec.specs.Locks.{conflicts, is_blocker, reach}
use Rattle.serial_spec.specs.Rows.{Rows}
use Rattle.serial_spec.specs.Legal.{AreAllowed}
use Rattle.serial_spec.specs.Waits.{IsVictim, OnCycle, Quiet, WaitInTurn, branch_of, number, wait_of as wait_by, waits_by, waits_for}
use Rattle.txn_history.proofs.Exports.{access_adds_at_key, quiet_stays, wait_makes_own}
use Rattle.wait_cycles.specs.Agreement.{AreWaits}
use Rattle.wait_cycles.specs.Cycles.{IsCycle, is_member}
use Rattle.wait_cycles.specs.Waiting.{AreOnce, wait_of}
use Rattle.wait_cycles.proofs.Exports.{cycles_agree, numbered_cycle, member_here}
use Rattle.wait_cycles.specs.declared.waits.Wait.{Wait}
use Rattle.manager_core.specs.Kept.{AreTablesOf}
use Rattle.wait_graph.specs.Edges.{ByLocks, Keeps, is_beside, is_beside_it, is_in_branch, edges_among, waits_by_way_of}
use Rattle.wait_graph.specs.Walks.{IsLastThrough, IsOnNoCycle}
use Rattle.manager_core.specs.State.{entry}
use Rattle.manager_core.specs.Tables.{Tabled}
use Rattle.txn_history.specs.Recorded.{Recorded}
use Rattle.manager_core.specs.inner.Victims.{IsReadyFor, Settles, StaysQuiet}
use Rattle.manager_core.proofs.Branches.{in_branch}
use Rattle.manager_core.proofs.KeptOut.{no_wait_at}
use Rattle.manager_core.proofs.Events.{accesses_own, done_at, refused_adds_none, same_asked}
use Rattle.manager_core.proofs.Locks.{keeps_as, keeps_by, name_at, present, tells}
use Rattle.wait_graph.proofs.Exports.{any_got}
use Rattle.manager_core.proofs.Pairing.{are_waits, tell_waits}
use Rattle.manager_core.proofs.Victims.{in_turn_acts, settled_quiet}
use Rattle.txn_history.specs.Laws.{QuietBut}

-- ---- who waits, by place and by name

-- the wait that an entry makes stands at a place
record IsAt (h : History) (tables : Tabled) (u : Name) (x : Entry) : Type 0 where
  wait : Wait
  place : ℕ
  stands : slice_get tables.waits.waits place ≡ Some wait
  kept : wait_of tables.waits wait.txn ≡ Some wait
  name : slice_get (names tables.tree) wait.txn ≡ Some u
  event : x.event ≡ event_of u wait.asked

-- a number is of one name
one_number : (tree : States) (t : Name) (n m : ℕ) → IsNumberOf tree t n → slice_get (names tree) m ≡ Some t → n ≡ m
one_number tree t n m number at = eqb-true n m (number m ∙ ap (λ o. is_name o t) at ∙ path_eq_self t)

module _ (rows : Rows) (h : History) (tables : Tabled) (are : AreTablesOf rows h tables) (allowed : AreAllowed rows h) (once : AreOnce tables.waits) where
  at_place : (u : Name) (x : Entry) → wait_by h u ≡ Some x → IsAt h tables u x
  at_place u x waits =
      let tell = tell_waits rows h tables allowed are in
      let found = tell.all u x waits in
      let w = found.1 in
      let same = tell.known found.0 w found.3 in
      let i = once.all found.0 w found.3 in
      let there : same.0 ≡ u = ap (λ o. unwrap_or o u) (sym same.2 ∙ found.2) in
      let entry_is : same.1 ≡ x = ap (λ o. unwrap_or o x) (sym same.3 ∙ ap (wait_by h) there ∙ waits) in
      record {
        wait = w;
        place = i.0;
        stands = i.1;
        kept = ap (wait_of tables.waits) same.5 ∙ found.3;
        name = ap (slice_get (names tables.tree)) same.5 ∙ found.2;
        event = ap (λ (y : Entry). y.event) (sym entry_is) ∙ same.4 ∙ ap (λ y. event_of y w.asked) there;
      }

  -- where by numbers nobody who waits for what has a key in common with a target waits for another by way of t, by names nobody does
  keeps_nobody_out : (t : Name) (n : ℕ) → slice_get (names tables.tree) n ≡ Some t → (s : Target)
      → list_any (waits_by_way_of tables.tree (keeps_by h tables.tree) tables.waits.waits n s) tables.waits.waits ≡ false
      → (u v : Name) (a : Asked) (x y : Entry) → wait_by h u ≡ Some x → x.event ≡ event_of u a → meets s (target a) ≡ true → wait_by h v ≡ Some y
      → (is_blocker h u a t && is_front (branch_of u t) v) ≡ false
  keeps_nobody_out t n at s none u v a x y waits event met second = false_from_ne_true _ (λ both.
      let keeps : Keeps = keeps_by h tables.tree in
      let f = and_parts (is_blocker h u a t) (is_front (branch_of u t) v) both in
      let there = at_place u x waits in
      let other = at_place v y second in
      let same : a ≡ there.wait.asked = same_asked u u a there.wait.asked (sym event ∙ there.event) in
      let blocks : keeps there.wait.txn there.wait.asked n ≡ true =
      ap (λ b. keeps there.wait.txn b n) (sym same) ∙ keeps_as rows h tables are there.wait.txn n u t there.name at a ∙ f.0 in
      let apart = and_parts (not (is_front t u)) (conflicts (reach h t (target a)) (kind_of a)) (and_parts (is_active h t) (not (is_front t u) && conflicts (reach h t (target a)) (kind_of a)) f.0).1 in
      let beside : is_in_branch tables.tree there.wait.txn n other.wait.txn ≡ true =
      ap (λ o. is_beside o (slice_get (names tables.tree) n) (slice_get (names tables.tree) other.wait.txn)) there.name
      ∙ ap (λ o. is_beside (Some u) o (slice_get (names tables.tree) other.wait.txn)) at
      ∙ ap (λ o. is_beside (Some u) (Some t) o) other.name
      ∙ in_branch u t v (not-true (is_front t u) apart.0)
      ∙ f.1 in
      let some = any_got (is_beside_it tables.tree there.wait.txn n) tables.waits.waits other.place other.wait other.stands beside in
      false≢true (sym none ∙ any_got (waits_by_way_of tables.tree keeps tables.waits.waits n s) tables.waits.waits there.place there.wait there.stands
      (and_from _ _ (ap (λ b. meets s (target b)) (sym same) ∙ met) (and_from _ _ blocks some))))

-- one that never began does not act, so it keeps nobody out, and waits for nobody
module _ (rows : Rows) (h : History) (tables : Tabled) (are : AreTablesOf rows h tables) (t : Name) (absent : is_absent_in tables.tree t ≡ true) where
  idle : is_active h t ≡ true → ⊥
  idle acts = false≢true (sym (present h tables.tree are.in_tree t acts) ∙ absent)

  absent_keeps_nobody_out : (u v : Name) (a : Asked) → (is_blocker h u a t && is_front (branch_of u t) v) ≡ false
  absent_keeps_nobody_out u v a = false_from_ne_true _ (λ f. idle (and_parts (is_active h t) _ (and_parts (is_blocker h u a t) (is_front (branch_of u t) v) f).0).0)

  -- nor does any cycle go through it
  pub quiet_but_absent : QuietBut t h → Quiet h
  quiet_but_absent but u on = idle (in_turn_acts h t u on.0 u on.2 (but u on))

-- where nobody waits no cycle stands
module _ (rows : Rows) (h : History) (tables : Tabled) (nobody : length tables.waits.waits ≡ 0) (allowed : AreAllowed rows h) (are : AreTablesOf rows h tables) where
  waits_for_none : (t u : Name) → waits_for h t u ≡ true → ⊥
  waits_for_none t u = by (wait_by h t) refl
    where
      by : (o : Option Entry) → wait_by h t ≡ o → waits_by h t u o (wait_by h u) ≡ true → ⊥
      by None is e = false≢true e
      by (Some x) is e = let kept = (tell_waits rows h tables allowed are).all t x is in no_wait_at tables.waits.waits nobody kept.0 kept.1 kept.3

  none_in_turn : (t : Name) (others : List Name) (u : Name) → WaitInTurn h t others u → ⊥
  none_in_turn t [] u e = waits_for_none t u e
  none_in_turn t (x ∷ xs) u e = waits_for_none t x e.0

  pub quiet_if_nobody_waits : Quiet h
  quiet_if_nobody_waits t on = none_in_turn t on.0 t on.2

-- the number of one that is among these is among theirs
numbered_member : (h : History) (t : Name) (ts : List Name) → list_any (path_eq t) ts ≡ true → is_member (number h t) (map (number h) ts) ≡ true
numbered_member h t [] e = absurd (false≢true e)
numbered_member h t (u ∷ ts) e =
    elim (or_cases (path_eq t u) (list_any (path_eq t) ts) e) [
      | inl here ↦
          or_left (nat_eq (number h t) (number h u)) (is_member (number h t) (map (number h) ts))
          (eq-eqb (number h t) (number h u) (ap (number h) (same_path t u here)))
      | inr later ↦ or_right (nat_eq (number h t) (number h u)) (is_member (number h t) (map (number h) ts)) (numbered_member h t ts later)
    ]

-- where each cycle goes through t, by numbers each goes through its number: none stands where none does, and the last on any is a victim
module _ (rows : Rows) (h : History) (tables : Tabled) (are : AreTablesOf rows h tables) (allowed : AreAllowed rows h) (once : AreOnce tables.waits)
    (distinct : IsDistinct path_eq (names tables.tree)) (t : Name) (n : ℕ) (at_n : IsNumberOf tables.tree t n) (but : QuietBut t h) where
  told : AreWaits h (names tables.tree) (edges_among tables.tree (keeps_by h tables.tree) tables.waits.waits)
  told = are_waits rows h tables are allowed distinct once

  numbered_on : (u : Name) (on : OnCycle h u) → IsCycle (edges_among tables.tree (keeps_by h tables.tree) tables.waits.waits) (number h u ∷ map (number h) on.0)
  numbered_on u on = numbered_cycle h (names tables.tree) (edges_among tables.tree (keeps_by h tables.tree) tables.waits.waits) told u on

  goes_through : (u : Name) (on : OnCycle h u) → is_member n (number h u ∷ map (number h) on.0) ≡ true
  goes_through u on =
      subst (λ (m : ℕ). is_member m (number h u ∷ map (number h) on.0) ≡ true) (told.numbered n t (name_at tables.tree t n at_n))
      (numbered_member h t (u ∷ on.0) (but u on))

  pub quiet_but_on_none : ByLocks tables.tree tables.estate.locks (λ keeps. IsOnNoCycle (edges_among tables.tree keeps tables.waits.waits) n) → Quiet h
  quiet_but_on_none none u on =
      none (keeps_by h tables.tree) (tells rows h tables are) (number h u ∷ map (number h) on.0) (numbered_on u on) (goes_through u on)

  pub last_is_victim : (a : ℕ) → ByLocks tables.tree tables.estate.locks (λ keeps. IsLastThrough (edges_among tables.tree keeps tables.waits.waits) n a)
      → (s : Name) × (slice_get (names tables.tree) a ≡ Some s) × IsVictim h s
  last_is_victim a last =
      let is = last (keeps_by h tables.tree) (tells rows h tables are) in
      let lies = (cycles_agree h (names tables.tree) (edges_among tables.tree (keeps_by h tables.tree) tables.waits.waits) told).by_numbers
      is.through.0 is.through.1 a is.through.2 in (
        lies.0,
        lies.1,
        (
          ∣ lies.2 ∣₁,
          λ u on. subst (λ (x : ℕ). number h u ≤ x) (sym (told.numbered a lies.0 lies.1))
              (is.last (number h u ∷ map (number h) on.0) (numbered_on u on) (goes_through u on) (number h u) (member_here (number h u) (map (number h) on.0))),
        ),
      )

-- ---- an entry of an access

module _ (rows : Rows) (h : History) (tables : Tabled) (by : By) (t : Name) (asked : Asked) where
  pub quiet_if_refused : (r : Refusal) → StaysQuiet rows (entry by (event_of t asked) (Refused r)) h tables
  quiet_if_refused r allowed are q = quiet_stays rows (entry by (event_of t asked) (Refused r)) h allowed (refused_adds_none t asked r) q

  -- each cycle that one that began to wait has closed goes through it
  pub own_if_it_waits : AreAllowed rows (entry by (event_of t asked) Waits ∷ h) → Quiet h → QuietBut t (entry by (event_of t asked) Waits ∷ h)
  own_if_it_waits allowed q = wait_makes_own rows (entry by (event_of t asked) Waits) h allowed t (accesses_own t asked) refl q

  pub quiet_if_absent : (r : Reply) → is_absent_in tables.tree t ≡ true → StaysQuiet rows (entry by (event_of t asked) (Done r)) h tables
  quiet_if_absent r absent allowed are q =
      let e : Entry = entry by (event_of t asked) (Done r) in
      access_adds_at_key rows e h allowed t asked r (done_at t asked r) (λ u v b x y waits event met second. absent_keeps_nobody_out rows (e ∷ h) tables are t absent u v b) q

  pub quiet_if_it_is_in_nobodys_way : (r : Reply) (n : ℕ) → AreOnce tables.waits → IsNumberOf tables.tree t n
      → ByLocks tables.tree tables.estate.locks (λ keeps. list_any (waits_by_way_of tables.tree keeps tables.waits.waits n (target asked)) tables.waits.waits ≡ false)
      → StaysQuiet rows (entry by (event_of t asked) (Done r)) h tables
  quiet_if_it_is_in_nobodys_way r n once number none allowed are q =
      let e : Entry = entry by (event_of t asked) (Done r) in
      let at = name_at tables.tree t n number in
      let nobody = none (keeps_by (e ∷ h) tables.tree) (tells rows (e ∷ h) tables are) in
      access_adds_at_key rows e h allowed t asked r (done_at t asked r) (keeps_nobody_out rows (e ∷ h) tables are allowed once t n at (target asked) nobody) q

-- where an access was refused the cycles are broken, since none stands
pub settled_refused : {log last : Recorded} {tables : Tabled} {pairs : ℕ} {by : By} (t : Name) (asked : Asked) {r : Refusal}
    → IsReadyFor log (entry by (event_of t asked) (Refused r)) tables pairs → last.rows ≡ log.rows
    → last.entries ≡ entry by (event_of t asked) (Refused r) ∷ log.entries
    → Settles log.rows (entry by (event_of t asked) (Refused r) ∷ log.entries) last tables tables
settled_refused {tables = tables} {by = by} t asked {r = r} ready rows entries =
    settled_quiet ready rows entries (quiet_if_refused _ _ tables by t asked r ready.allowed ready.are ready.quiet)

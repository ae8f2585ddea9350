-- How long a wait lasts: what each kind of entry does to who waits.
use Rattle.std.proofs.Common.{◌≡◌, Bool, true, false, not, cond, ◌&&◌, ◌||◌, List, [], ◌∷◌, filter, find, Option, Some, None, is_some, unwrap_or, inl, inr, ⊎_elim, refl, sym, ap, subst, ◌∙◌}
use Rattle.std.proofs.lemmas.Bool.{false≢true, and_parts, and_from, and_right, or_from, or_left, or_right, or_cases, not-true, false_from_ne_true}
use Rattle.std.proofs.lemmas.Map.Views.{any-filter_same}
use Rattle.std.specs.List.{list_any}
use Rattle.txn_names.specs.Path.{path_eq, is_front}
use Rattle.txn_names.proofs.Exports.{on_test, same_path, path_eq_self}
use Rattle.serial_spec.specs.declared.target.Asked.{Asked}
use Rattle.serial_spec.specs.declared.entry.By.{By}
use Rattle.serial_spec.specs.declared.entry.By.TheVariants.{Line, Victim, Close}
use Rattle.serial_spec.specs.declared.event.Event.{Event}
use Rattle.serial_spec.specs.declared.event.Event.TheVariants.{Begin, Access, Sum, Commit, Abort}
use Rattle.serial_spec.specs.declared.entry.Answer.TheVariants.{Waits}
use Rattle.serial_spec.specs.declared.entry.Entry.{Entry}
use Rattle.serial_spec.specs.History.{Name, History, event_of, Effect, Begins, Accesses, Commits, Aborts, Nothing, Status, Absent, Live, Committed, Aborted, effect, is_active, is_absent, is_live_status, is_orphan, status}
use Rattle.serial_spec.specs.Waits.{same_line, is_waits, open_waits, accesses, wait_of}
use Rattle.serial_spec.specs.Allowed.{is_other_line, waits_elsewhere}
use Rattle.serial_spec.specs.Rows.{Rows}
use Rattle.serial_spec.specs.Legal.{AreAllowed}
use Rattle.txn_history.specs.Steps.{acts_next, unless_by, Before}
use Rattle.txn_history.proofs.Exports.{clash, any_cases, any-filter, any-find, found_passes, active_after, wait_after, before_each}
use Rattle.manager_core.specs.State.{entry}
use Rattle.manager_core.specs.Lines.{entries_of, accessor, waits_no_more, IsRetried, IsFree}
use Rattle.manager_core.proofs.Events.{accesses_at, waits_at}
use Rattle.manager_core.proofs.Steps.{is_plain}
use Rattle.manager_core.proofs.Waits.{any_weaker, same_by}

-- ---- the entry by which a transaction waits

-- who waits acts, and its wait is the open one of it
pub record IsOpen (h : History) (u : Name) (w : Entry) : Type 0 where
  pub acts : is_active h u ≡ true
  pub found : find (λ v. accesses u v.event) (open_waits h) ≡ Some w
  pub of_it : accesses u w.event ≡ true

pub is_open : (h : History) (u : Name) (w : Entry) → wait_of h u ≡ Some w → IsOpen h u w
is_open h u w waits =
    on_test (is_active h u) (λ b. is_active h u ≡ b → cond b (find (λ v. accesses u v.event) (open_waits h)) None ≡ Some w → IsOpen h u w)
    (λ _ acts found. record { acts = acts; found = found; of_it = found_passes (λ v. accesses u v.event) (open_waits h) w found })
    (λ _ idle found. cc)
    refl waits

-- whoever is left among the waits has waited
pub still_in : (p : Entry → Bool) (h : History) → list_any p (open_waits h) ≡ true → list_any (λ e. p e && is_waits e.answer) h ≡ true
still_in p [] some = some
still_in p (e ∷ h) some =
    on_test (is_waits e.answer)
    (λ b. list_any p (cond b (e ∷ filter (λ w. not (same_line w.by e.by)) (open_waits h)) (filter (λ w. not (same_line w.by e.by)) (open_waits h))) ≡ true
    → (p e && b || list_any (λ x. p x && is_waits x.answer) h) ≡ true)
    (λ _ any. elim (or_cases (p e) (list_any p (filter (λ w. not (same_line w.by e.by)) (open_waits h))) any) [
      | inl here ↦ or_left (p e && true) (list_any (λ x. p x && is_waits x.answer) h) (and_from (p e) true here refl)
      | inr later ↦ or_right (p e && true) (list_any (λ x. p x && is_waits x.answer) h) (still_in p h (any-filter p (λ w. not (same_line w.by e.by)) (open_waits h) later))
    ])
    (λ _ any. or_right (p e && false) (list_any (λ x. p x && is_waits x.answer) h) (still_in p h (any-filter p (λ w. not (same_line w.by e.by)) (open_waits h) any)))
    some

-- an access is of one transaction
same_accessor : (t u : Name) (event : Event) → accesses t event ≡ true → accesses u event ≡ true → t ≡ u
same_accessor t u (Access v k o) a b = sym (same_path v t a) ∙ same_path v u b
same_accessor t u (Sum v g) a b = sym (same_path v t a) ∙ same_path v u b
same_accessor t u (Begin v) a b = absurd (false≢true a)
same_accessor t u (Commit v) a b = absurd (false≢true a)
same_accessor t u (Abort v) a b = absurd (false≢true a)
same_accessor t u event a b = absurd (false≢true a)

-- ---- a line that is free has no open wait

ended_of : (h : History) (u : Name) (event : Event) → accesses u event ≡ true → waits_no_more h (accessor event) ≡ true → is_some (wait_of h u) ≡ false
ended_of h u (Access t k o) acc ended = not-true (is_some (wait_of h u)) (subst (λ (v : Name). not (is_some (wait_of h v)) ≡ true) (same_path t u acc) ended)
ended_of h u (Sum t g) acc ended = not-true (is_some (wait_of h u)) (subst (λ (v : Name). not (is_some (wait_of h v)) ≡ true) (same_path t u acc) ended)
ended_of h u (Begin t) acc ended = absurd (false≢true acc)
ended_of h u (Commit t) acc ended = absurd (false≢true acc)
ended_of h u (Abort t) acc ended = absurd (false≢true acc)
ended_of h u event acc ended = absurd (false≢true acc)

alone_passes : (p : Entry → Bool) (w : Entry) → list_any p (w ∷ []) ≡ true → p w ≡ true
alone_passes p w any = on_test (p w) (λ b. b || false ≡ true → b ≡ true) (λ _ _. refl) (λ _ e. e) any

module _ (h : History) (by : By) (event : Event) (free : IsFree h by event) where
  pub other_line : (u : Name) (w : Entry) → wait_of h u ≡ Some w → same_line w.by by ≡ false
  other_line u w waits = false_from_ne_true _ (λ (s : same_line w.by by ≡ true). of_line s)
    where
      stands : IsOpen h u w
      stands = is_open h u w waits

      both : Entry → Bool
      both e = accesses u e.event && same_line e.by by

      in_line : same_line w.by by ≡ true → list_any (λ e. accesses u e.event) (entries_of h by) ≡ true
      in_line s =
          let left : list_any both (open_waits h) ≡ true = any-find (λ v. accesses u v.event) both (open_waits h) w stands.found (and_from (accesses u w.event) (same_line w.by by) stands.of_it s) in
          let there : list_any both h ≡ true = any_weaker (λ e. both e && is_waits e.answer) both h (λ e q. (and_parts (both e) (is_waits e.answer) q).0) (still_in both h left) in
          any_weaker both (λ e. accesses u e.event) (entries_of h by) (λ e q. (and_parts (accesses u e.event) (same_line e.by by) q).0)
          (any-filter_same both (λ e. same_line e.by by) true (λ e q. (and_parts (accesses u e.event) (same_line e.by by) q).1) h ∙ there)

      of_line : same_line w.by by ≡ true → ⊥
      of_line s =
          ⊎_elim
          (λ (none : entries_of h by ≡ []). false≢true (subst (λ (es : List Entry). list_any (λ e. accesses u e.event) es ≡ true) none (in_line s)))
          (λ (r : IsRetried h by event).
          let here : accesses u r.only.waited.event ≡ true =
          alone_passes (λ e. accesses u e.event) r.only.waited (subst (λ (es : List Entry). list_any (λ e. accesses u e.event) es ≡ true) r.only.alone (in_line s)) in
          let none : is_some (wait_of h u) ≡ false = ended_of h u event (subst (λ (e : Event). accesses u e ≡ true) r.only.event_is here) r.ended in
          false≢true (sym none ∙ ap is_some waits))
          free.unused

  -- so its entry ends nobody's wait
  pub unless_free : (u : Name) → unless_by by (wait_of h u) ≡ wait_of h u
  unless_free u = go (wait_of h u) refl
    where
      go : (x : Option Entry) → wait_of h u ≡ x → unless_by by x ≡ x
      go None waits = refl
      go (Some w) waits = ap (λ b. cond b None (Some w)) (other_line u w waits)

  -- and one that waits by no other line waits by none
  pub none_waiting : (t : Name) → waits_elsewhere h by t ≡ false → wait_of h t ≡ None
  none_waiting t none = go (wait_of h t) refl none
    where
      go : (x : Option Entry) → wait_of h t ≡ x → is_other_line by x ≡ false → x ≡ None
      go None waits n = refl
      go (Some w) waits n = absurd (false≢true (sym n ∙ ap not (other_line t w waits)))

-- nor does an entry of the close
pub unless_close : (h : History) (u : Name) → unless_by Close (wait_of h u) ≡ wait_of h u
unless_close h u = go (wait_of h u)
  where
    not_close : (by : By) → same_line by Close ≡ false
    not_close (Line s l) = refl
    not_close Victim = refl
    not_close Close = refl

    go : (x : Option Entry) → unless_by Close x ≡ x
    go None = refl
    go (Some w) = ap (λ b. cond b None (Some w)) (not_close w.by)

-- ---- a line has one open wait at most

record IsOne (f g : Entry → Bool) : Type 0 where
  pub wait : Entry
  pub first : f wait ≡ true
  pub second : g wait ≡ true

none_kept : (p keep : Entry → Bool) → ((x : Entry) → keep x ≡ true → p x ≡ false) → (xs : List Entry) → list_any p (filter keep xs) ≡ false
none_kept p keep none [] = refl
none_kept p keep none (x ∷ xs) =
    on_test (keep x) (λ b. list_any p (cond b (x ∷ filter keep xs) (filter keep xs)) ≡ false)
    (λ k. or_from (p x) (list_any p (filter keep xs)) (none x k) (none_kept p keep none xs))
    (λ _. none_kept p keep none xs)

-- the open waits that pass, of a line, are one
one_of_line : (f g : Entry → Bool) (by : By) (h : History) → list_any (λ w. f w && same_line w.by by) (open_waits h) ≡ true
    → list_any (λ w. g w && same_line w.by by) (open_waits h) ≡ true → IsOne f g
one_of_line f g by [] a b = absurd (false≢true a)
one_of_line f g by (e ∷ h) a b =
    on_test (same_line e.by by) (λ _. IsOne f g)
    (λ s. record { wait = e; first = newest f s a; second = newest g s b })
    (λ s. one_of_line f g by h (older f s a) (older g s b))
  where
    rest : List Entry
    rest = filter (λ w. not (same_line w.by e.by)) (open_waits h)

    of_line : (Entry → Bool) → Entry → Bool
    of_line k w = k w && same_line w.by by

    none_left : (k : Entry → Bool) → same_line e.by by ≡ true → list_any (of_line k) rest ≡ false
    none_left k s =
        none_kept (of_line k) (λ w. not (same_line w.by e.by))
        (λ w n. and_right (k w) (same_line w.by by) (subst (λ (b : By). same_line w.by b ≡ false) (same_by e.by by s) (not-true (same_line w.by e.by) n)))
        (open_waits h)

    newest : (k : Entry → Bool) → same_line e.by by ≡ true → list_any (of_line k) (open_waits (e ∷ h)) ≡ true → k e ≡ true
    newest k s any =
        on_test (is_waits e.answer) (λ b. list_any (of_line k) (cond b (e ∷ rest) rest) ≡ true → k e ≡ true)
        (λ _ some. ⊎_elim
        (λ (here : of_line k e ≡ true). (and_parts (k e) (same_line e.by by) here).0)
        (λ (later : list_any (of_line k) rest ≡ true). clash later (none_left k s))
        (any_cases (of_line k) e rest some))
        (λ _ some. clash some (none_left k s))
        any

    older : (k : Entry → Bool) → same_line e.by by ≡ false → list_any (of_line k) (open_waits (e ∷ h)) ≡ true → list_any (of_line k) (open_waits h) ≡ true
    older k s any =
        on_test (is_waits e.answer) (λ b. list_any (of_line k) (cond b (e ∷ rest) rest) ≡ true → list_any (of_line k) (open_waits h) ≡ true)
        (λ _ some. ⊎_elim
        (λ (here : of_line k e ≡ true). clash (and_parts (k e) (same_line e.by by) here).1 s)
        (λ (later : list_any (of_line k) rest ≡ true). any-filter (of_line k) (λ w. not (same_line w.by e.by)) (open_waits h) later)
        (any_cases (of_line k) e rest some))
        (λ _ some. any-filter (of_line k) (λ w. not (same_line w.by e.by)) (open_waits h) some)
        any

by_line : (h : History) (by : By) (v : Name) (x : Entry) → wait_of h v ≡ Some x → same_line x.by by ≡ true → list_any (λ y. accesses v y.event && same_line y.by by) (open_waits h) ≡ true
by_line h by v x e s =
    let stands = is_open h v x e in
    any-find (λ y. accesses v y.event) (λ y. accesses v y.event && same_line y.by by) (open_waits h) x stands.found (and_from (accesses v x.event) (same_line x.by by) stands.of_it s)

-- by one line one access waits
pub one_wait : (h : History) (by : By) (t u : Name) (w x : Entry) → wait_of h t ≡ Some w → same_line w.by by ≡ true → wait_of h u ≡ Some x → same_line x.by by ≡ true → w ≡ x
one_wait h by t u w x is_w s_w is_x s_x =
    let one = one_of_line (λ y. accesses t y.event) (λ y. accesses u y.event) by h (by_line h by t w is_w s_w) (by_line h by u x is_x s_x) in
    let same : t ≡ u = same_accessor t u one.wait.event one.first one.second in
    ap (λ o. unwrap_or o w) (sym is_w ∙ ap (wait_of h) same ∙ is_x)

-- so an entry of the line by which t waits ends the wait of t, and no other
pub unless_own : (h : History) (by : By) (t : Name) (w : Entry) → wait_of h t ≡ Some w → same_line w.by by ≡ true
    → (u : Name) → unless_by by (wait_of h u) ≡ cond (path_eq t u) None (wait_of h u)
unless_own h by t w waits of_line u =
    on_test (path_eq t u) (λ b. unless_by by (wait_of h u) ≡ cond b None (wait_of h u))
    (λ same. ap (unless_by by) (subst (λ (v : Name). wait_of h v ≡ Some w) (same_path t u same) waits) ∙ ap (λ b. cond b None (Some w)) of_line)
    (λ other. go (wait_of h u) refl other)
  where
    go : (x : Option Entry) → wait_of h u ≡ x → path_eq t u ≡ false → unless_by by x ≡ x
    go None e other = refl
    go (Some x) e other = ap (λ b. cond b None (Some x)) (false_from_ne_true _ (λ (s : same_line x.by by ≡ true). apart s))
      where
        apart : same_line x.by by ≡ true → ⊥
        apart s =
            let one = one_of_line (λ y. accesses t y.event) (λ y. accesses u y.event) by h (by_line h by t w waits of_line) (by_line h by u x e s) in
            let same : t ≡ u = same_accessor t u one.wait.event one.first one.second in
            false≢true (sym other ∙ sym (ap (path_eq t) same) ∙ path_eq_self t)

-- ---- what each kind of entry does

-- who does not act waits for nothing
idle : (b : Bool) (x : Option Entry) → cond b (cond b x None) None ≡ cond b x None
idle true x = refl
idle false x = refl

none_either_way : (b : Bool) → cond {A = Option Entry} b None None ≡ None
none_either_way true = refl
none_either_way false = refl

widened : (a b : Bool) (x : Option Entry) → cond (a || b) (cond b x None) None ≡ cond b x None
widened true true x = refl
widened true false x = refl
widened false true x = refl
widened false false x = refl

plain_acts : (x : Effect) (u : Name) (b : Bool) → is_plain x ≡ true → acts_next x u b ≡ b
plain_acts (Begins t) u b p = absurd (false≢true p)
plain_acts (Accesses t a r) u b p = refl
plain_acts (Commits t) u b p = absurd (false≢true p)
plain_acts (Aborts t) u b p = absurd (false≢true p)
plain_acts Nothing u b p = refl

-- whoever begins did not wait before
pub not_begun : (rows : Rows) (e : Entry) (h : History) → AreAllowed rows (e ∷ h) → (t : Name) → effect e ≡ Begins t → wait_of h t ≡ None
not_begun rows e h allowed t does = absent (status h t) (subst (Before h) does (before_each rows e h allowed)).0
  where
    absent : (s : Status) → is_absent s ≡ true → cond (is_live_status s && not (is_orphan h t)) (find (λ v. accesses t v.event) (open_waits h)) None ≡ None
    absent Absent a = refl
    absent Live a = absurd (false≢true a)
    absent Committed a = absurd (false≢true a)
    absent Aborted a = absurd (false≢true a)

module _ (rows : Rows) (e : Entry) (h : History) (allowed : AreAllowed rows (e ∷ h)) (x : Effect) (does : effect e ≡ x) where
  acts_so : (u : Name) → is_active (e ∷ h) u ≡ acts_next x u (is_active h u)
  acts_so u = active_after rows e h allowed u ∙ ap (λ y. acts_next y u (is_active h u)) does

  module _ (silent : is_waits e.answer ≡ false) where
    by_effect : (u : Name) (w : Option Entry) → unless_by e.by (wait_of h u) ≡ w → wait_of (e ∷ h) u ≡ cond (acts_next x u (is_active h u)) w None
    by_effect u w lasts =
        wait_after rows e h allowed u
        ∙ (λ i. cond (acts_so u i) (cond (silent i && accesses u e.event) (Some e) (lasts i)) None)

    -- an entry of the line by which t waits
    pub wait_answered : is_plain x ≡ true → (t : Name) → ((u : Name) → unless_by e.by (wait_of h u) ≡ cond (path_eq t u) None (wait_of h u))
        → (u : Name) → wait_of (e ∷ h) u ≡ cond (path_eq t u) None (wait_of h u)
    wait_answered plain t lasts u =
        by_effect u (cond (path_eq t u) None (wait_of h u)) (lasts u)
        ∙ ap (λ b. cond b (cond (path_eq t u) None (wait_of h u)) None) (plain_acts x u (is_active h u) plain)
        ∙ on_test (path_eq t u) (λ b. cond (is_active h u) (cond b None (wait_of h u)) None ≡ cond b None (wait_of h u))
        (λ _. none_either_way (is_active h u))
        (λ _. idle (is_active h u) (find (λ v. accesses u v.event) (open_waits h)))

    module _ (lasts : (u : Name) → unless_by e.by (wait_of h u) ≡ wait_of h u) where
      -- one that begins and ends nobody
      pub wait_lasts : is_plain x ≡ true → (u : Name) → wait_of (e ∷ h) u ≡ wait_of h u
      wait_lasts plain u =
          by_effect u (wait_of h u) (lasts u) ∙ ap (λ b. cond b (wait_of h u) None) (plain_acts x u (is_active h u) plain)
          ∙ idle (is_active h u) (find (λ v. accesses u v.event) (open_waits h))

      pub wait_begun : (t : Name) → x ≡ Begins t → (u : Name) → wait_of (e ∷ h) u ≡ wait_of h u
      wait_begun t is u =
          by_effect u (wait_of h u) (lasts u) ∙ ap (λ y. cond (acts_next y u (is_active h u)) (wait_of h u) None) is
          ∙ widened (path_eq t u) (is_active h u) (find (λ v. accesses u v.event) (open_waits h))

      -- one that commits does not wait
      pub wait_committed : (t : Name) → x ≡ Commits t → wait_of h t ≡ None → (u : Name) → wait_of (e ∷ h) u ≡ wait_of h u
      wait_committed t is none u =
          by_effect u (wait_of h u) (lasts u) ∙ ap (λ y. cond (acts_next y u (is_active h u)) (wait_of h u) None) is
          ∙ on_test (path_eq t u) (λ b. cond (not b && is_active h u) (wait_of h u) None ≡ wait_of h u)
          (λ same. sym (subst (λ (v : Name). wait_of h v ≡ None) (same_path t u same) none))
          (λ _. idle (is_active h u) (find (λ v. accesses u v.event) (open_waits h)))

      pub wait_aborted : (t : Name) → x ≡ Aborts t → (u : Name) → wait_of (e ∷ h) u ≡ cond (is_front t u) None (wait_of h u)
      wait_aborted t is u =
          by_effect u (wait_of h u) (lasts u) ∙ ap (λ y. cond (acts_next y u (is_active h u)) (wait_of h u) None) is
          ∙ on_test (is_front t u) (λ b. cond (not b && is_active h u) (wait_of h u) None ≡ cond b None (wait_of h u))
          (λ _. refl)
          (λ _. idle (is_active h u) (find (λ v. accesses u v.event) (open_waits h)))

-- an access that has to wait
pub wait_starts : (rows : Rows) (h : History) (by : By) (t : Name) (asked : Asked) → AreAllowed rows (entry by (event_of t asked) Waits ∷ h) → is_active h t ≡ true
    → ((u : Name) → unless_by by (wait_of h u) ≡ wait_of h u)
    → (u : Name) → wait_of (entry by (event_of t asked) Waits ∷ h) u ≡ cond (path_eq t u) (Some (entry by (event_of t asked) Waits)) (wait_of h u)
wait_starts rows h by t asked allowed acts lasts u =
    let e : Entry = entry by (event_of t asked) Waits in
    let active_waits : is_active (e ∷ h) u ≡ is_active h u = active_after rows e h allowed u ∙ ap (λ x. acts_next x u (is_active h u)) (waits_at t asked) in
    wait_after rows e h allowed u
    ∙ (λ i. cond (active_waits i) (cond (accesses_at u t asked i) (Some e) (lasts u i)) None)
    ∙ on_test (path_eq t u) (λ b. cond (is_active h u) (cond b (Some e) (wait_of h u)) None ≡ cond b (Some e) (wait_of h u))
    (λ same. ap (λ b. cond b (Some e) None) (subst (λ (v : Name). is_active h v ≡ true) (same_path t u same) acts))
    (λ _. idle (is_active h u) (find (λ v. accesses u v.event) (open_waits h)))

-- Waits and lines, entry by entry.
use Rattle.std.proofs.Common.{◌≡◌, ℕ, ap₂, Bool, true, false, not, cond, ◌&&◌, ◌||◌, ◌==◌, List, [], ◌∷◌, filter, find, Some, None, is_some, ⊎_elim, refl, sym, ap, subst, ◌∙◌}
use Rattle.std.specs.Cmp.{both_ways}
use Rattle.std.proofs.lemmas.Bool.{false≢true, and_parts, and_from, and_left, or_parts, or_from, or_left, or_right, not-true, not_from_false, eqb-true, eq-eqb}
use Rattle.std.proofs.lemmas.Map.Views.{any-filter_same}
use Rattle.std.specs.List.{list_any}
use Rattle.txn_names.proofs.Exports.{on_test}
use Rattle.serial_spec.specs.declared.target.Asked.{Asked}
use Rattle.serial_spec.specs.declared.entry.By.{By}
use Rattle.serial_spec.specs.declared.entry.By.TheVariants.{Line, Victim, Close}
use Rattle.serial_spec.specs.declared.event.Event.{Event}
use Rattle.serial_spec.specs.declared.entry.Entry.{Entry}
use Rattle.serial_spec.specs.History.{Name, History, event_of, is_active}
use Rattle.serial_spec.specs.Waits.{same_line, is_waits, open_waits, accesses, wait_of}
use Rattle.serial_spec.specs.Allowed.{has_waited}
use Rattle.txn_history.proofs.Exports.{clash, any_cases}
use Rattle.manager_core.specs.Lines.{entries_of, OnlyWaits, IsRetried, IsFree, waits_no_more}
use Rattle.manager_core.proofs.Events.{accesses_own, accessor_at}
use Rattle.manager_core.proofs.Lines.{filtered_none}

-- ---- lines

-- two numbers are the same, whichever stands first
eqb-swap : (m n : ℕ) → m == n ≡ true → n == m ≡ true
eqb-swap m n e = eq-eqb n m (sym (eqb-true m n e))

-- so are two lines
line-swap : (a b : By) → same_line a b ≡ true → same_line b a ≡ true
line-swap (Line s l) (Line t m) e =
    let p = and_parts (s == t) (l == m) e in
    and_from (t == s) (m == l) (eqb-swap s t p.0) (eqb-swap l m p.1)
line-swap (Line s l) Victim e = e
line-swap (Line s l) Close e = e
line-swap Victim b e = absurd (false≢true e)
line-swap Close b e = absurd (false≢true e)

same_line-swap : (a b : By) → same_line a b ≡ same_line b a
same_line-swap a b = both_ways (same_line a b) (same_line b a) (line-swap a b) (line-swap b a)

-- and then they are one
pub same_by : (a b : By) → same_line a b ≡ true → a ≡ b
same_by (Line s l) (Line t m) e =
    let p = and_parts (s == t) (l == m) e in
    ap₂ Line (eqb-true s t p.0) (eqb-true l m p.1)
same_by (Line s l) Victim e = absurd (false≢true e)
same_by (Line s l) Close e = absurd (false≢true e)
same_by Victim b e = absurd (false≢true e)
same_by Close b e = absurd (false≢true e)

-- ---- whoever acts

-- whether anything is found
found_any : {X : Type 0} (p : X → Bool) (xs : List X) → is_some (find p xs) ≡ list_any p xs
found_any p [] = refl
found_any p (x ∷ xs) = on_test (p x) (λ b. is_some (cond b (Some x) (find p xs)) ≡ b || list_any p xs) (λ _. refl) (λ _. found_any p xs)

-- the wait of one that acts is the one found
pub wait_found : (h : History) (t : Name) → is_active h t ≡ true → wait_of h t ≡ find (λ w. accesses t w.event) (open_waits h)
wait_found h t acts = ap (λ b. cond b (find (λ w. accesses t w.event) (open_waits h)) None) acts

-- the one entry of a line, if it waits, waits still
still_open : (p : Entry → Bool) (h : History) (by : By) (w : Entry) → entries_of h by ≡ w ∷ [] → is_waits w.answer ≡ true → p w ≡ true
    → list_any (λ v. same_line v.by by && p v) (open_waits h) ≡ true
still_open p [] by w alone waits passes = cc
still_open p (x ∷ h) by w alone waits passes =
    let of_line = λ (v : Entry). same_line v.by by && p v in
    let rest = filter (λ v. not (same_line v.by x.by)) (open_waits h) in
    on_test (same_line x.by by) (λ b. same_line x.by by ≡ b → cond b (x ∷ entries_of h by) (entries_of h by) ≡ w ∷ [] → list_any of_line (open_waits (x ∷ h)) ≡ true)
    (λ _ s e.
    let same : w ≡ x = cc in
    let stands : is_waits x.answer ≡ true = subst (λ (y : Entry). is_waits y.answer ≡ true) same waits in
    rw stands (or_left (of_line x) (list_any of_line rest) (and_from (same_line x.by by) (p x) s (subst (λ (y : Entry). p y ≡ true) same passes))))
    (λ _ s e.
    let kept : list_any of_line rest ≡ true =
    any-filter_same of_line (λ v. not (same_line v.by x.by)) true
    (λ v q. not_from_false (same_line v.by x.by) (ap (λ b. same_line b x.by) (same_by v.by by (and_parts (same_line v.by by) (p v) q).0) ∙ same_line-swap by x.by ∙ s))
    (open_waits h)
    ∙ still_open p h by w e waits passes in
    on_test (is_waits x.answer) (λ b. list_any of_line (cond b (x ∷ rest) rest) ≡ true) (λ _. or_right (of_line x) (list_any of_line rest) kept) (λ _. kept))
    refl alone

-- of a line without an entry nothing has waited
not_waited_unused : (h : History) (by : By) → list_any (λ e. same_line e.by by) h ≡ false → has_waited h by ≡ false
not_waited_unused [] by n = refl
not_waited_unused (x ∷ h) by n =
    let q = or_parts (same_line x.by by) (list_any (λ e. same_line e.by by) h) n in
    or_from (same_line x.by by && is_waits x.answer) (has_waited h by) (and_left (same_line x.by by) (is_waits x.answer) q.0) (not_waited_unused h by q.1)

-- where one test passes so does a weaker one
pub any_weaker : {X : Type 0} (p q : X → Bool) (xs : List X) → ((x : X) → p x ≡ true → q x ≡ true) → list_any p xs ≡ true → list_any q xs ≡ true
any_weaker p q [] w a = a
any_weaker p q (x ∷ xs) w a =
    ⊎_elim (λ (e : p x ≡ true). or_left (q x) (list_any q xs) (w x e)) (λ (e : list_any p xs ≡ true). or_right (q x) (list_any q xs) (any_weaker p q xs w e))
    (any_cases p x xs a)

-- one that acts and has a line's only entry, a wait, waits
retried_waits : (h : History) (by : By) (t : Name) (asked : Asked) → OnlyWaits h by (event_of t asked) → is_active h t ≡ true → is_some (wait_of h t) ≡ true
retried_waits h by t asked only acts =
    let p = λ (v : Entry). accesses t v.event in
    let passes : p only.waited ≡ true = ap (λ (e : Event). accesses t e) only.event_is ∙ accesses_own t asked in
    ap is_some (wait_found h t acts) ∙ found_any p (open_waits h)
    ∙ any_weaker (λ v. same_line v.by by && p v) p (open_waits h) (λ v q. (and_parts (same_line v.by by) (p v) q).1)
    (still_open p h by only.waited only.alone (ap is_waits only.waits) passes)

-- whoever may add an entry to an access of one that acts has not waited by this line
pub not_waited : (h : History) (by : By) (t : Name) (asked : Asked) → IsFree h by (event_of t asked) → is_active h t ≡ true → has_waited h by ≡ false
not_waited h by t asked free acts =
    ⊎_elim (λ (e : entries_of h by ≡ []). not_waited_unused h by (filtered_none (λ e. same_line e.by by) h e))
    (λ (r : IsRetried h by (event_of t asked)). clash (retried_waits h by t asked r.only acts) (not-true (is_some (wait_of h t)) (subst (λ o. waits_no_more h o ≡ true) (accessor_at t asked) r.ended)))
    free.unused

-- The waits that are kept by number, after each kind of entry.
use Rattle.std.proofs.Common.{◌≡◌, ℕ, zero, suc, Bool, true, false, not, cond, List, [], ◌∷◌, ◌++◌, Option, Some, None, is_some, refl, sym, ap, ◌∙◌}
use Rattle.std.specs.Prelude.{slice_get}
use Rattle.std.proofs.lemmas.Bool.{false≢true}
use Rattle.txn_names.specs.Path.{path_eq, is_front}
use Rattle.txn_tree.specs.States.{States, names}
use Rattle.txn_tree.specs.Asked.{IsNumberOf, is_name}
use Rattle.wait_cycles.specs.declared.waits.Wait.{Wait}
use Rattle.wait_cycles.specs.Waiting.{Waiting, wait_of as kept_wait}
use Rattle.serial_spec.specs.declared.target.Asked.{Asked}
use Rattle.serial_spec.specs.declared.entry.By.{By}
use Rattle.serial_spec.specs.declared.event.Event.{Event}
use Rattle.serial_spec.specs.declared.event.Event.TheVariants.{Begin, Access, Sum, Commit, Abort}
use Rattle.serial_spec.specs.declared.entry.Entry.{Entry}
use Rattle.serial_spec.specs.History.{Name, History, event_of}
use Rattle.serial_spec.specs.Waits.{accesses, same_line, wait_of}
use Rattle.serial_spec.specs.Allowed.{cause_at_access, is_other_line, waits_elsewhere}
use Rattle.serial_spec.specs.Rows.{Rows}
use Rattle.txn_history.proofs.Exports.{neither, not_when}
use Rattle.manager_core.specs.declared.accessing.Attempt.{Attempt}
use Rattle.manager_core.specs.declared.accessing.Attempt.TheVariants.{Answered, Waits, Refused}
use Rattle.manager_core.specs.Kept.{AreWaitsOf, wait_of_any}
use Rattle.manager_core.specs.Lines.{access_by, waiting_access, IsFree}
use Rattle.manager_core.specs.Tables.{Tabled, AbortsIn, BeginsIn, KeepsWaits, ReachesIn, SetsWait, is_below, wait_at, wait_by, wait_for}
use Rattle.manager_core.proofs.Lasting.{is_open, none_waiting}
use Rattle.manager_core.proofs.Locks.{name_at}

-- ---- after an entry

any_same : (h g : History) → ((u : Name) → wait_of g u ≡ wait_of h u) → (o : Option Name) → wait_of_any h o ≡ wait_of_any g o
any_same h g each None = refl
any_same h g each (Some u) = sym (each u)

one_of_two : (n : ℕ) (b : Bool) (x y : Option Entry) → cond b (wait_for n x) (wait_for n y) ≡ wait_for n (cond b x y)
one_of_two n true x y = refl
one_of_two n false x y = refl

module _ (h g : History) (old new : Tabled) (are : AreWaitsOf h old.tree old.waits) where
  renamed : (n : ℕ) → names new.tree ≡ names old.tree → wait_for n (wait_of_any g (slice_get (names old.tree) n)) ≡ wait_for n (wait_of_any g (slice_get (names new.tree) n))
  renamed n same = ap (λ xs. wait_for n (wait_of_any g (slice_get xs n))) (sym same)

  pub waits_stay : names new.tree ≡ names old.tree → KeepsWaits old new → ((u : Name) → wait_of g u ≡ wait_of h u) → AreWaitsOf g new.tree new.waits
  waits_stay same keeps each n =
      keeps n ∙ are n ∙ ap (wait_for n) (any_same h g each (slice_get (names old.tree) n)) ∙ renamed n same

  pub waits_set : (t : Name) (w : Option Entry) → names new.tree ≡ names old.tree → SetsWait old new t w
      → ((u : Name) → wait_of g u ≡ cond (path_eq t u) w (wait_of h u)) → AreWaitsOf g new.tree new.waits
  waits_set t w same sets each n =
      sets n ∙ ap (λ x. cond (is_name (slice_get (names old.tree) n) t) (wait_for n w) x) (are n) ∙ named (slice_get (names old.tree) n) ∙ renamed n same
    where
      named : (o : Option Name) → cond (is_name o t) (wait_for n w) (wait_for n (wait_of_any h o)) ≡ wait_for n (wait_of_any g o)
      named None = refl
      named (Some u) = one_of_two n (path_eq t u) w (wait_of h u) ∙ ap (wait_for n) (sym (each u))

  pub waits_dropped : (t : Name) → AbortsIn old new t → ((u : Name) → wait_of g u ≡ cond (is_front t u) None (wait_of h u)) → AreWaitsOf g new.tree new.waits
  waits_dropped t aborts each n =
      aborts.waits n ∙ ap (λ x. cond (is_below (slice_get (names old.tree) n) t) None x) (are n) ∙ named (slice_get (names old.tree) n) ∙ renamed n aborts.same_names
    where
      named : (o : Option Name) → cond (is_below o t) None (wait_for n (wait_of_any h o)) ≡ wait_for n (wait_of_any g o)
      named None = refl
      named (Some u) = one_of_two n (is_front t u) None (wait_of h u) ∙ ap (wait_for n) (sym (each u))

  pub waits_begun : (t : Name) → BeginsIn old new t → wait_of h t ≡ None → ((u : Name) → wait_of g u ≡ wait_of h u) → AreWaitsOf g new.tree new.waits
  waits_begun t begins none each n =
      ap (λ (s : Waiting). kept_wait s n) begins.waits ∙ are n ∙ ap (wait_for n) (longer (names old.tree) n) ∙ ap (λ xs. wait_for n (wait_of_any g (slice_get xs n))) (sym begins.begun)
    where
      longer : (xs : List Name) (m : ℕ) → wait_of_any h (slice_get xs m) ≡ wait_of_any g (slice_get (xs ++ t ∷ []) m)
      longer [] zero = sym (each t ∙ none)
      longer [] (suc m) = refl
      longer (x ∷ xs) zero = sym (each x)
      longer (x ∷ xs) (suc m) = longer xs m

-- ---- what is kept under a name

-- the line, and what is asked
abbrev pub access_of : Option Wait → Option (By × Asked)
access_of None = None
access_of (Some w) = Some (w.by, w.asked)

access_kept : (n : ℕ) (x : Option Entry) → access_of (wait_for n x) ≡ waiting_access x
access_kept n None = refl
access_kept n (Some e) = by e.event
  where
    by : (event : Event) → access_of (wait_by n e.by event) ≡ access_by e.by event
    by (Access t k o) = refl
    by (Sum t g) = refl
    by (Begin t) = refl
    by (Commit t) = refl
    by (Abort t) = refl
    by event = refl

pub kept_access_of : (h : History) (tree : States) (waits : Waiting) → AreWaitsOf h tree waits → (t : Name) (n : ℕ) → IsNumberOf tree t n
    → access_of (kept_wait waits n) ≡ waiting_access (wait_of h t)
kept_access_of h tree waits are t n number =
    ap access_of (are n ∙ ap (λ o. wait_for n (wait_of_any h o)) (name_at tree t n number)) ∙ access_kept n (wait_of h t)

-- ---- the access of one that waits

some_kept : (b : By) (t : Name) (event : Event) → accesses t event ≡ true → is_some (access_by b event) ≡ true
some_kept b t (Access u q p) e = refl
some_kept b t (Sum u g) e = refl
some_kept b t (Begin u) e = absurd (false≢true e)
some_kept b t (Commit u) e = absurd (false≢true e)
some_kept b t (Abort u) e = absurd (false≢true e)
some_kept b t event e = absurd (false≢true e)

pub waits_as_access : (h : History) (t : Name) → is_some (waiting_access (wait_of h t)) ≡ is_some (wait_of h t)
waits_as_access h t = go (wait_of h t) refl
  where
    go : (x : Option Entry) → wait_of h t ≡ x → is_some (waiting_access x) ≡ is_some x
    go None e = refl
    go (Some w) e = some_kept w.by t w.event (is_open h t w e).of_it

-- whether its line is another
abbrev pub differs : By → Option (By × Asked) → Bool
differs by None = false
differs by (Some a) = not (same_line a.0 by)

differs_so : (b by : By) (t : Name) (event : Event) → accesses t event ≡ true → differs by (access_by b event) ≡ not (same_line b by)
differs_so b by t (Access u q p) e = refl
differs_so b by t (Sum u g) e = refl
differs_so b by t (Begin u) e = absurd (false≢true e)
differs_so b by t (Commit u) e = absurd (false≢true e)
differs_so b by t (Abort u) e = absurd (false≢true e)
differs_so b by t event e = absurd (false≢true e)

pub elsewhere_as_access : (h : History) (by : By) (t : Name) → differs by (waiting_access (wait_of h t)) ≡ waits_elsewhere h by t
elsewhere_as_access h by t = go (wait_of h t) refl
  where
    go : (x : Option Entry) → wait_of h t ≡ x → differs by (waiting_access x) ≡ is_other_line by x
    go None e = refl
    go (Some w) e = differs_so w.by by t w.event (is_open h t w e).of_it

-- ---- an access that has to wait

-- its transaction did not wait, and nothing is kept for it
pub none_kept_for : (rows : Rows) (h : History) (tables : Tabled) → AreWaitsOf h tables.tree tables.waits → (by : By) (t : Name) (asked : Asked) → IsFree h by (event_of t asked)
    → None ≡ cause_at_access rows h by t asked → (n : ℕ) → IsNumberOf tables.tree t n → wait_at tables n ≡ None
none_kept_for rows h tables are by t asked free none n number =
    let alone : waits_elsewhere h by t ≡ false = not_when _ _ (neither _ _ (neither _ _ (sym none)).1).0 in
    are n ∙ ap (λ o. wait_for n (wait_of_any h o)) (name_at tables.tree t n number) ∙ ap (wait_for n) (none_waiting h by (event_of t asked) free t alone)

-- beside the waits it does what it does
pub reaches_beside : (old mid : Tabled) (before after : Waiting) (t : Name) (asked : Asked) (attempt : Attempt)
    → ReachesIn (record old { waits = before }) mid t asked attempt → ReachesIn old (record mid { waits = after }) t asked attempt
reaches_beside old mid before after t asked (Answered reply) has =
    record { tree = has.tree; marks = has.marks; modes = has.modes; left = has.left; rows = has.rows }
reaches_beside old mid before after t asked Waits same = record { tree = same.tree; marks = same.marks; estate = same.estate }
reaches_beside old mid before after t asked Refused same = record { tree = same.tree; marks = same.marks; estate = same.estate }

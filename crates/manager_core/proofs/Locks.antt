-- Numbers and names, and who is blocked.
use Rattle.std.proofs.Common.{◌≡◌, ℕ, suc, ◌+◌, Bool, true, false, cond, not, ◌&&◌, ◌||◌, List, [], ◌∷◌, length, Option, Some, None, is_some, refl, sym, ap, subst, ◌∙◌, arith}
use Rattle.std.specs.Prelude.{slice_get, IsTrue, ◌↔◌, ◌<◌}
use Rattle.std.specs.List.{list_any, range_with_len}
use Rattle.std.specs.Cmp.{both_ways}
use Rattle.std.proofs.lemmas.Bool.{false≢true, true≢false, false_from_ne_true, eq-eqb, and_from, and_parts, not-true, not_from_false}
use Rattle.std.proofs.lemmas.Option.{slice_get_within}
use Rattle.lock_table.proofs.Exports.{any_in_range, witness}
use Rattle.txn_names.specs.Path.{parent, path_eq}
use Rattle.txn_names.proofs.Exports.{same_path}
use Rattle.txn_tree.specs.States.{IsTree, States, names, status_in, is_absent as is_absent_state}
use Rattle.txn_tree.specs.declared.status.Status.{Status as State}
use Rattle.txn_tree.specs.declared.status.Status.TheVariants as state
use Rattle.txn_tree.specs.Asked.{is_name, is_absent_in, IsNumberOf}
use Rattle.txn_tree.specs.Numbered.{is_parent_of}
use Rattle.txn_tree.proofs.Exports.{number_at, found_at}
use Rattle.lock_table.specs.declared.modes.Modes.{Modes}
use Rattle.lock_table.specs.ByAsked.{BlocksAsked, MayAsk}
use Rattle.lock_table.specs.Inherited.{free, whole}
use Rattle.inherit.specs.LocksAndVersions.{LocksAndVersions, modes_of, left_of}
use Rattle.inherit.specs.Steps.{HasDropped}
use Rattle.orphans.specs.Marked.{Marked, is_marked}
use Rattle.wait_cycles.specs.Waiting.{Waiting, wait_of as kept_wait}
use Rattle.lock_table.specs.Blocking.{is_front_of, is_under, numbers}
use Rattle.serial_spec.specs.declared.mode.Mode.{Mode}
use Rattle.serial_spec.specs.declared.operation.Kind.{Kind}
use Rattle.serial_spec.specs.declared.operation.Kind.TheVariants.{Read, Write}
use Rattle.serial_spec.specs.History.{Name, History, begun, is_active, is_live, is_live_status, is_orphan}
use Rattle.serial_spec.specs.declared.target.Asked.{Asked}
use Rattle.serial_spec.specs.declared.target.Target.{Target}
use Rattle.serial_spec.specs.Targets.{kind_of, target}
use Rattle.serial_spec.specs.Locks.{conflicts, foot, is_blocker, is_blocked, reach}
use Rattle.txn_history.proofs.Exports.{foot_is_greater, reach_is_some}
use Rattle.serial_spec.specs.Rows.{Rows}
use Rattle.manager_core.specs.Kept.{AreTablesOf, IsTreeOf, lock_at, content_of}
use Rattle.txn_tree.specs.Statuses.{status_of}
use Rattle.wait_graph.specs.Edges.{Keeps, Tells}
use Rattle.manager_core.specs.Tables.{Tabled, AbortsIn, is_below, wait_at}
use Rattle.manager_core.proofs.Blocking.{any_named}

-- ---- numbers

some_within : (xs : List Name) (n : ℕ) → is_some (slice_get xs n) ≡ true → n < length xs
some_within xs n e = by (slice_get xs n) refl e
  where
    by : (o : Option Name) → slice_get xs n ≡ o → is_some o ≡ true → n < length xs
    by None at f = absurd (false≢true f)
    by (Some x) at f = slice_get_within xs n x at

-- whoever is found under its own number
pub name_at : (tree : States) (t : Name) (n : ℕ) → IsNumberOf tree t n → slice_get (names tree) n ≡ Some t
name_at tree t n is = by (slice_get (names tree) n) (sym (is n) ∙ eq-eqb n n refl)
  where
    by : (o : Option Name) → is_name o t ≡ true → o ≡ Some t
    by None e = absurd (false≢true e)
    by (Some u) e = ap (λ v. Some v) (sym (same_path t u e))

-- the number of the parent
pub parent_numbered : (tree : States) (t : Name) (n p : ℕ) → IsTree tree → IsNumberOf tree t n → is_parent_of (slice_get (names tree) p) (slice_get (names tree) n) ≡ true
    → IsNumberOf tree (parent t) p
parent_numbered tree t n p is number above = by (slice_get (names tree) p) refl (ap (is_parent_of (slice_get (names tree) p)) (sym (name_at tree t n number)) ∙ above)
  where
    by : (o : Option Name) → slice_get (names tree) p ≡ o → is_parent_of o (Some t) ≡ true → IsNumberOf tree (parent t) p
    by None at e = absurd (false≢true e)
    by (Some u) at e =
        number_at (names tree) is.distinct (parent t) p
        (found_at (names tree) is.distinct (parent t) p (at ∙ ap (λ v. Some v) (sym (same_path (parent t) u e))))

-- ---- who is blocked

-- the same by numbers and by names
any_by_number : (f : ℕ → Bool) (g : Name → Bool) (xs : List Name) (a : ℕ) → ((m : ℕ) (u : Name) → slice_get xs m ≡ Some u → f (a + m) ≡ g u)
    → list_any f (range_with_len a (length xs)) ≡ list_any g xs
any_by_number f g [] a each = refl
any_by_number f g (x ∷ xs) a each =
    let first : a + 0 ≡ a = omega arith in
    ap (λ b. b || list_any f (range_with_len (a + 1) (length xs))) (ap f (sym first) ∙ each 0 x refl)
    ∙ ap (λ b. g x || b) (any_by_number f g xs (a + 1) (λ m u at. let next : a + 1 + m ≡ a + suc m = omega arith in ap f next ∙ each (suc m) u at))

-- the lock of whoever acts is what its footprint is, and whoever does not act has none
whole_as : (b : Bool) (m : Modes) (all : Mode) (x : Kind) → all ≡ whole m → conflicts (whole (cond b m free)) x ≡ (b && conflicts all x)
whole_as true m all x e = ap (λ w. conflicts w x) (sym e)
whole_as false m all Read e = refl
whole_as false m all Write e = refl

-- whether by the history u keeps t from what it asks, whoever they are
abbrev pub keeps_named : History → Asked → Option Name → Option Name → Bool
keeps_named h a t None = false
keeps_named h a t (Some u) = is_active h u && (not (is_front_of (Some u) t) && conflicts (reach h u (target a)) (kind_of a))

-- by their numbers
abbrev pub keeps_by : History → States → Keeps
keeps_by h tree n a m = keeps_named h a (slice_get (names tree) n) (slice_get (names tree) m)

module _ (rows : Rows) (h : History) (tables : Tabled) (are : AreTablesOf rows h tables) where
  abbrev name : ℕ → Option Name
  name n = slice_get (names tables.tree) n

  -- its lock of a target keeps an access out where its footprint does
  reach_as : (m : ℕ) (u : Name) → name m ≡ Some u → (v : Target) (x : Kind)
      → conflicts (whole (modes_of tables.estate m v)) x ≡ (is_active h u && conflicts (foot h u v) x)
  reach_as m u at v x =
      ap (λ l. conflicts (whole l) x) (are.estate.modes m v ∙ ap (content_of free (lock_at v) h) at)
      ∙ whole_as (is_active h u) (lock_at v h u) (foot h u v) x (foot_is_greater h u v)

  module _ (n m : ℕ) (u : Name) (there : name m ≡ Some u) (a : Asked) where
    beside : is_under tables.tree m n ≡ is_front_of (Some u) (name n)
    beside = ap (λ o. is_front_of o (name n)) there

    by_history : keeps_named h a (name n) (Some u) ≡ true → BlocksAsked tables.tree tables.estate.locks n a m
    by_history e =
        let acts = and_parts (is_active h u) _ e in
        let apart = and_parts (not (is_front_of (Some u) (name n))) _ acts.1 in
        let some = (reach_is_some h u (target a) (kind_of a)).0 apart.1 in
        record {
          begun = ap is_some there;
          beside = beside ∙ not-true (is_front_of (Some u) (name n)) apart.0;
          reaches = (some.0, some.1, reach_as m u there some.0 (kind_of a) ∙ and_from (is_active h u) _ acts.0 some.2);
        }

    by_locks : BlocksAsked tables.tree tables.estate.locks n a m → keeps_named h a (name n) (Some u) ≡ true
    by_locks b =
        let both = and_parts (is_active h u) _ (sym (reach_as m u there b.reaches.0 (kind_of a)) ∙ b.reaches.2) in
        and_from (is_active h u) _ both.0
        (and_from (not (is_front_of (Some u) (name n))) _ (not_from_false (is_front_of (Some u) (name n)) (sym beside ∙ b.beside))
        ((reach_is_some h u (target a) (kind_of a)).1 (b.reaches.0, b.reaches.1, both.1)))

  -- so the history tells who keeps whom out by these locks
  pub tells : Tells tables.tree tables.estate.locks (keeps_by h tables.tree)
  tells n a m = by (name m) refl
    where
      by : (o : Option Name) → name m ≡ o → IsTrue (keeps_named h a (name n) o) ↔ BlocksAsked tables.tree tables.estate.locks n a m
      by None at = (λ e. absurd (false≢true e), λ b. absurd (false≢true (sym (ap is_some at) ∙ b.begun)))
      by (Some u) at = (by_history n m u at a, by_locks n m u at a)

  -- by name
  pub keeps_as : (n m : ℕ) (t u : Name) → name n ≡ Some t → name m ≡ Some u → (a : Asked) → keeps_by h tables.tree n a m ≡ is_blocker h t a u
  keeps_as n m t u here there a = ap (λ o. keeps_named h a o (name m)) here ∙ ap (keeps_named h a (Some t)) there

-- whether some number passes is whether some name does
pub any_numbered : (f : ℕ → Bool) (g : Name → Bool) (h : History) (tree : States) → IsTreeOf h tree → ((m : ℕ) (u : Name) → slice_get (names tree) m ≡ Some u → f m ≡ g u)
    → list_any f (numbers tree) ≡ list_any g (begun h)
any_numbered f g h tree is each =
    any_by_number f g (names tree) 0 (λ m u at. let same : 0 + m ≡ m = omega arith in ap f same ∙ each m u at)
    ∙ any_named g h tree is

module _ (rows : Rows) (h : History) (tables : Tabled) (are : AreTablesOf rows h tables) (t : Name) (n : ℕ) (number : IsNumberOf tables.tree t n) (a : Asked) where
  -- whether somebody keeps it out
  any_keeps : list_any (keeps_by h tables.tree n a) (numbers tables.tree) ≡ is_blocked h t a
  any_keeps =
      any_numbered (keeps_by h tables.tree n a) (is_blocker h t a) h tables.tree are.in_tree
      (λ m u at. keeps_as rows h tables are n m t u (name_at tables.tree t n number) at a)

  -- nobody does exactly where nobody blocks it
  pub may_as : (b : Bool) → IsTrue b ↔ MayAsk tables.tree tables.estate.locks n a → b ≡ not (is_blocked h t a)
  may_as b both = both_ways b (not (is_blocked h t a)) forth back
    where
      forth : b ≡ true → not (is_blocked h t a) ≡ true
      forth e = not_from_false (is_blocked h t a) (false_from_ne_true _ (λ f.
          let w = witness (keeps_by h tables.tree n a) (numbers tables.tree) (any_keeps ∙ f) in
          both.0 e w.0 ((tells rows h tables are n a w.0).0 w.1)))

      back : not (is_blocked h t a) ≡ true → b ≡ true
      back e = both.1 (λ u blocks.
          let keeps = (tells rows h tables are n a u).1 blocks in
          let begun : u < length (names tables.tree) = some_within (names tables.tree) u blocks.begun in
          true≢false (sym (any_in_range (keeps_by h tables.tree n a) 0 (length (names tables.tree)) u (omega arith) (omega (arith, begun)) keeps) ∙ any_keeps ∙ not-true (is_blocked h t a) e))

-- ---- small steps

pub twice : (b : Bool) → not (not b) ≡ b
twice true = refl
twice false = refl

pub under_as : (t : Name) (o : Option Name) → is_front_of (Some t) o ≡ is_below o t
under_as t None = refl
under_as t (Some u) = refl

-- whoever acts has begun, so the tree has it
pub present : (h : History) (tree : States) → IsTreeOf h tree → (t : Name) → is_active h t ≡ true → is_absent_in tree t ≡ false
present h tree is t acts =
    by (status_in tree t) (subst (λ s. is_live_status s ≡ true) (sym (is.status t)) (and_parts (is_live h t) (not (is_orphan h t)) acts).0)
  where
    by : (s : State) → is_live_status (status_of s) ≡ true → is_absent_state s ≡ false
    by state.Absent e = absurd (false≢true e)
    by state.Live e = refl
    by state.Committed e = refl
    by state.Aborted e = refl

-- who is at or below a transaction, by its number and by its name
pub below_named : (old tree : States) (t : Name) (n : ℕ) → names tree ≡ names old → IsNumberOf tree t n
    → (u : ℕ) → is_front_of (slice_get (names tree) n) (slice_get (names tree) u) ≡ is_below (slice_get (names old) u) t
below_named old tree t n same number u =
    ap (λ o. is_front_of o (slice_get (names tree) u)) (name_at tree t n number)
    ∙ under_as t (slice_get (names tree) u)
    ∙ ap (λ xs. is_below (slice_get xs u) t) same

-- what was dropped by number is dropped by name
pub aborts_by_name : (old : Tabled) (tree : States) (marks : Marked) (estate : LocksAndVersions) (waits : Waiting) (t : Name) (n : ℕ) → names tree ≡ names old.tree
    → ((u : Name) → status_in tree u ≡ cond (path_eq t u) state.Aborted (status_in old.tree u))
    → ((u : Name) → is_marked marks u ≡ (path_eq t u || is_marked old.marks u))
    → IsNumberOf tree t n → HasDropped tree old.estate estate n → ((u : ℕ) → kept_wait waits u ≡ cond (is_under tree n u) None (wait_at old u))
    → AbortsIn old (record { tree = tree; marks = marks; estate = estate; waits = waits }) t
aborts_by_name old tree marks estate waits t n same sets marked number dropped gone = record {
  same_names = same;
  status = sets;
  marks = marked;
  modes = λ u s. dropped.modes u s ∙ ap (λ b. cond b free (modes_of old.estate u s)) (below u);
  left = λ u k. dropped.left u k ∙ ap (λ b. cond b None (left_of old.estate u k)) (below u);
  rows = dropped.rows;
  waits = λ u. gone u ∙ ap (λ b. cond b None (wait_at old u)) (below u);
}
  where
    below : (u : ℕ) → is_front_of (slice_get (names tree) n) (slice_get (names tree) u) ≡ is_below (slice_get (names old.tree) u) t
    below = below_named old.tree tree t n same number

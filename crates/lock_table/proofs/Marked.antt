-- The writers of groups stay those who lock a key of it to write.
use Rattle.std.proofs.Common.{◌≡◌, ◌<◌, ℕ, nat_eq, Bool, true, false, ◌&&◌, ◌||◌, cond, ⊎_elim, Option, List, [], length, refl, sym, ap, ◌∙◌}
use Rattle.std.specs.Prelude.{nat_lt}
use Rattle.std.proofs.lemmas.Bool.{false≢true, and_parts, and_from, lt-ltb, or_cases, or_left, or_right}
use Rattle.txn_names.specs.Path.{label_eq}
use Rattle.txn_names.specs.Groups.{has}
use Rattle.txn_names.proofs.Exports.{on_test, same_label, label_eq_self}
use Rattle.serial_spec.specs.declared.mode.Mode.{Mode}
use Rattle.serial_spec.specs.declared.mode.Mode.TheVariants as mode
use Rattle.serial_spec.specs.Locks.{greater, is_exclusive}
use Rattle.lock_table.specs.declared.modes.Modes.{Modes}
use Rattle.lock_table.specs.Inherited.{free, whole, with_held, with_retained}
use Rattle.lock_table.specs.Locked as one
use Rattle.lock_table.specs.Targeted.{AreSums, AreWriters, marked_by, writes}
use Rattle.lock_table.proofs.Reaching.{writes_read, writes_still}

-- by a test
marks_by : (b : Bool) (m : Modes) → writes (cond b (with_held m mode.Write) m) ≡ true → (b ≡ false → writes m ≡ true → ⊥) → b ≡ true
marks_by true m h f = refl
marks_by false m h f = absurd (f refl h)

marks_on : (b : Bool) (m : Modes) → b ≡ true → writes (cond b (with_held m mode.Write) m) ≡ true
marks_on true m e = refl
marks_on false m e = absurd (false≢true e)

module _ (keys writers keys2 writers2 : one.Table) (t : ℕ) (k : List ℕ) (are : AreWriters keys writers)
    (held : (u : ℕ) (q : List ℕ) → one.modes_in keys2 u q ≡ one.held_by keys t k mode.Write u q)
    (marked : (u : ℕ) (g : List ℕ) → one.modes_in writers2 u g ≡ marked_by writers t k u g) where
  -- the key itself is written
  own : (u : ℕ) → nat_eq t u ≡ true → writes (one.modes_in keys2 u k) ≡ true
  own u same = ap writes (held u k) ∙ marks_on (nat_eq t u && label_eq k k) (one.modes_in keys u k) (and_from _ _ same (label_eq_self k))

  kept : (u : ℕ) (q : List ℕ) → writes (one.modes_in keys u q) ≡ true → writes (one.modes_in keys2 u q) ≡ true
  kept u q h = ap writes (held u q) ∙ writes_still (nat_eq t u && label_eq k q) (one.modes_in keys u q) h

  pub writers_held : AreWriters keys2 writers2
  writers_held = record {
    wrote = λ u g h. by u g (sym (ap writes (marked u g)) ∙ h);
    marked = λ u g q some i h. back u g q some i (sym (ap writes (held u q)) ∙ h);
  }
    where
      by : (u : ℕ) (g : List ℕ) → writes (marked_by writers t k u g) ≡ true → (q : List ℕ) × (has g q ≡ true) × (writes (one.modes_in keys2 u q) ≡ true)
      by u g h =
          on_test (nat_eq t u && (has g k && nat_lt 0 (length g))) (λ b. (nat_eq t u && (has g k && nat_lt 0 (length g))) ≡ b → writes (cond b (with_held (one.modes_in writers u g) mode.Write) (one.modes_in writers u g)) ≡ true → (q : List ℕ) × (has g q ≡ true) × (writes (one.modes_in keys2 u q) ≡ true))
          (λ _ e _. let p = and_parts (nat_eq t u) _ e in let q = and_parts (has g k) _ p.1 in (k, q.0, own u p.0))
          (λ _ _ f. let w = are.wrote u g f in (w.0, w.1, kept u w.0 w.2))
          refl h

      back : (u : ℕ) (g q : List ℕ) → 0 < length g → has g q ≡ true → writes (one.held_by keys t k mode.Write u q) ≡ true → writes (one.modes_in writers2 u g) ≡ true
      back u g q some i h =
          on_test (nat_eq t u && label_eq k q) (λ b. (nat_eq t u && label_eq k q) ≡ b → writes (cond b (with_held (one.modes_in keys u q) mode.Write) (one.modes_in keys u q)) ≡ true → writes (one.modes_in writers2 u g) ≡ true)
          (λ _ e _.
          let p = and_parts (nat_eq t u) (label_eq k q) e in
          let there : has g k ≡ true = ap (has g) (same_label k q p.1) ∙ i in
          ap writes (marked u g) ∙ marks_on (nat_eq t u && (has g k && nat_lt 0 (length g))) (one.modes_in writers u g) (and_from _ _ p.0 (and_from _ _ there (lt-ltb 0 (length g) some))))
          (λ _ _ f. ap writes (marked u g) ∙ writes_still (nat_eq t u && (has g k && nat_lt 0 (length g))) (one.modes_in writers u g) (are.marked u g q some i f))
          refl h

-- a read writes nothing more
read_by : (b : Bool) (m : Modes) → writes (cond b (with_held m mode.Read) m) ≡ writes m
read_by true m = writes_read m
read_by false m = refl

-- where two tables have the same writers of keys, those of the groups are the same
pub writers_same : (keys keys2 writers : one.Table) → AreWriters keys writers → ((u : ℕ) (q : List ℕ) → writes (one.modes_in keys2 u q) ≡ writes (one.modes_in keys u q)) → AreWriters keys2 writers
writers_same keys keys2 writers are same = record {
  wrote = λ u g h. let w = are.wrote u g h in (w.0, w.1, same u w.0 ∙ w.2);
  marked = λ u g q some i h. are.marked u g q some i (sym (same u q) ∙ h);
}

-- and where two have the same marks
pub marks_same : (keys writers writers2 : one.Table) → AreWriters keys writers → ((u : ℕ) (g : List ℕ) → one.modes_in writers2 u g ≡ one.modes_in writers u g) → AreWriters keys writers2
marks_same keys writers writers2 are same = record {
  wrote = λ u g h. are.wrote u g (sym (ap writes (same u g)) ∙ h);
  marked = λ u g q some i h. ap writes (same u g) ∙ are.marked u g q some i h;
}

pub writers_read : (keys keys2 writers : one.Table) (t : ℕ) (k : List ℕ) → AreWriters keys writers → ((u : ℕ) (q : List ℕ) → one.modes_in keys2 u q ≡ one.held_by keys t k mode.Read u q) → AreWriters keys2 writers
writers_read keys keys2 writers t k are held = writers_same keys keys2 writers are (λ u q. ap writes (held u q) ∙ read_by (nat_eq t u && label_eq k q) (one.modes_in keys u q))

-- ---- a commit

retained_parts : (a h r : Mode) → is_exclusive (greater h (greater a r)) ≡ (is_exclusive a || is_exclusive (greater h r))
retained_parts mode.None mode.None r = refl
retained_parts mode.None mode.Read r = refl
retained_parts mode.None mode.Write r = refl
retained_parts mode.Read mode.None mode.None = refl
retained_parts mode.Read mode.None mode.Read = refl
retained_parts mode.Read mode.None mode.Write = refl
retained_parts mode.Read mode.Read mode.None = refl
retained_parts mode.Read mode.Read mode.Read = refl
retained_parts mode.Read mode.Read mode.Write = refl
retained_parts mode.Read mode.Write r = refl
retained_parts mode.Write mode.None r = refl
retained_parts mode.Write mode.Read r = refl
retained_parts mode.Write mode.Write r = refl

-- who writes afterwards: nobody as the child, the parent where either did, all others as before
writes_up : (is_child is_parent : Bool) (own child : Modes) → writes (cond is_child free (cond is_parent (with_retained own (whole child)) own))
    ≡ cond is_child false (cond is_parent (writes child || writes own) (writes own))
writes_up true p own child = refl
writes_up false true own child = retained_parts (whole child) own.held own.retained
writes_up false false own child = refl

module _ (keys writers keys2 writers2 : one.Table) (child : ℕ) (parent : Option ℕ) (are : AreWriters keys writers)
    (up : (u : ℕ) (q : List ℕ) → one.modes_in keys2 u q ≡ one.handed_up keys child parent u q)
    (up_too : (u : ℕ) (g : List ℕ) → one.modes_in writers2 u g ≡ one.handed_up writers child parent u g) where
  keys_up : (u : ℕ) (q : List ℕ) → writes (one.modes_in keys2 u q) ≡ cond (nat_eq child u) false (cond (one.is_it parent u) (writes (one.modes_in keys child q) || writes (one.modes_in keys u q)) (writes (one.modes_in keys u q)))
  keys_up u q = ap writes (up u q) ∙ writes_up (nat_eq child u) (one.is_it parent u) (one.modes_in keys u q) (one.modes_in keys child q)

  marks_up : (u : ℕ) (g : List ℕ) → writes (one.modes_in writers2 u g) ≡ cond (nat_eq child u) false (cond (one.is_it parent u) (writes (one.modes_in writers child g) || writes (one.modes_in writers u g)) (writes (one.modes_in writers u g)))
  marks_up u g = ap writes (up_too u g) ∙ writes_up (nat_eq child u) (one.is_it parent u) (one.modes_in writers u g) (one.modes_in writers child g)

  pub writers_up : AreWriters keys2 writers2
  writers_up = record {
    wrote = λ u g h. down u g (nat_eq child u) (one.is_it parent u) (keys_up u) (sym (marks_up u g) ∙ h);
    marked = λ u g q some i h. marks_up u g ∙ back u g q some i (nat_eq child u) (one.is_it parent u) (sym (keys_up u q) ∙ h);
  }
    where
      down : (u : ℕ) (g : List ℕ) (c p : Bool) → ((q : List ℕ) → writes (one.modes_in keys2 u q) ≡ cond c false (cond p (writes (one.modes_in keys child q) || writes (one.modes_in keys u q)) (writes (one.modes_in keys u q))))
          → cond c false (cond p (writes (one.modes_in writers child g) || writes (one.modes_in writers u g)) (writes (one.modes_in writers u g))) ≡ true
          → (q : List ℕ) × (has g q ≡ true) × (writes (one.modes_in keys2 u q) ≡ true)
      down u g true p at h = absurd (false≢true h)
      down u g false true at h = ⊎_elim
          (λ (e : writes (one.modes_in writers child g) ≡ true). let w = are.wrote child g e in (w.0, w.1, at w.0 ∙ or_left _ _ w.2))
          (λ (e : writes (one.modes_in writers u g) ≡ true). let w = are.wrote u g e in (w.0, w.1, at w.0 ∙ or_right _ _ w.2))
          (or_cases (writes (one.modes_in writers child g)) (writes (one.modes_in writers u g)) h)
      down u g false false at h = let w = are.wrote u g h in (w.0, w.1, at w.0 ∙ w.2)

      back : (u : ℕ) (g q : List ℕ) → 0 < length g → has g q ≡ true → (c p : Bool)
          → cond c false (cond p (writes (one.modes_in keys child q) || writes (one.modes_in keys u q)) (writes (one.modes_in keys u q))) ≡ true
          → cond c false (cond p (writes (one.modes_in writers child g) || writes (one.modes_in writers u g)) (writes (one.modes_in writers u g))) ≡ true
      back u g q some i true p h = absurd (false≢true h)
      back u g q some i false true h = ⊎_elim
          (λ (e : writes (one.modes_in keys child q) ≡ true). or_left _ _ (are.marked child g q some i e))
          (λ (e : writes (one.modes_in keys u q) ≡ true). or_right _ _ (are.marked u g q some i e))
          (or_cases (writes (one.modes_in keys child q)) (writes (one.modes_in keys u q)) h)
      back u g q some i false false h = are.marked u g q some i h

-- sums stay read, and none is over no bytes
pub sums_up : (sums sums2 : one.Table) (child : ℕ) (parent : Option ℕ) → AreSums sums → ((u : ℕ) (g : List ℕ) → one.modes_in sums2 u g ≡ one.handed_up sums child parent u g) → AreSums sums2
sums_up sums sums2 child parent are up = record {
  none = λ u. up u [] ∙ none_by (nat_eq child u) (one.is_it parent u) (one.modes_in sums u []) (one.modes_in sums child []) (are.none u) (are.none child);
  read = λ u g. ap writes (up u g) ∙ writes_up (nat_eq child u) (one.is_it parent u) (one.modes_in sums u g) (one.modes_in sums child g) ∙ read_up (nat_eq child u) (one.is_it parent u) _ _ (are.read child g) (are.read u g);
}
  where
    none_by : (c p : Bool) (own child : Modes) → own ≡ free → child ≡ free → cond c free (cond p (with_retained own (whole child)) own) ≡ free
    none_by true p own child e f = refl
    none_by false true own child e f = rw (e, f) refl
    none_by false false own child e f = e

    read_up : (c p a b : Bool) → a ≡ false → b ≡ false → cond c false (cond p (a || b) b) ≡ false
    read_up true p a b e f = refl
    read_up false true a b e f = rw (e, f) refl
    read_up false false a b e f = f

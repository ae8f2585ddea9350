-- Who keeps an access of a key, or a sum over a group, from being answered, by the three tables.
use Rattle.std.proofs.Common.{◌≡◌, ◌↔◌, ◌<◌, ◌≤◌, ℕ, ◌+◌, take, nat_eq, Bool, true, false, not, ◌&&◌, cond, ◌⊎◌, inl, inr, List, [], ◌∷◌, length, refl, sym, ap, get_or, subst, ◌∙◌, true≢false, arith}
use Rattle.std.specs.Prelude.{nat_lt}
use Rattle.std.proofs.lemmas.Bool.{false≢true, and_parts, and_from, false_from_ne_true, not-true, not_from_false, lt-ltb, ltb-true}
use Rattle.txn_names.specs.Path.{label_eq}
use Rattle.txn_names.specs.Groups.{IsGroupBefore, has}
use Rattle.txn_names.proofs.Exports.{on_test, on_label, same_label, label_eq_self, dot_behind, same_front}
use Rattle.txn_tree.specs.States.{States}
use Rattle.serial_spec.specs.declared.operation.Kind.{Kind}
use Rattle.serial_spec.specs.declared.operation.Kind.TheVariants.{Read, Write}
use Rattle.serial_spec.specs.declared.mode.Mode.{Mode}
use Rattle.serial_spec.specs.declared.mode.Mode.TheVariants as mode
use Rattle.serial_spec.specs.declared.target.Target.{Target}
use Rattle.serial_spec.specs.declared.target.Target.TheVariants.{Key, Group}
use Rattle.serial_spec.specs.Locks.{conflicts, greater, is_exclusive}
use Rattle.serial_spec.specs.Targets.{meets}
use Rattle.lock_table.specs.declared.modes.Modes.{Modes}
use Rattle.lock_table.specs.Inherited.{free, whole, with_held}
use Rattle.lock_table.specs.Locked as one
use Rattle.lock_table.specs.Blocking.{has_number, is_under, is_blocker_in, is_blocked_in, numbers}
use Rattle.lock_table.specs.Targeted.{AreSums, AreWriters, BlocksBySum, IsBlockerAt, MayAt, Targeted, marked_below, marked_by, modes_at, writes}
use Rattle.lock_table.proofs.Blockers.{blocked_by}
use Rattle.lock_table.proofs.Lists.{witness}

-- a reader is kept out by what is exclusive
pub reads : (m : Mode) → conflicts m Read ≡ is_exclusive m
reads mode.None = refl
reads mode.Read = refl
reads mode.Write = refl

-- ---- one table

module _ (tree : States) (table : one.Table) (t : ℕ) (k : List ℕ) (x : Kind) where
  pub blocker_from : (u : ℕ) → has_number tree u ≡ true → is_under tree u t ≡ false → conflicts (whole (one.modes_in table u k)) x ≡ true → is_blocker_in tree table t k x u ≡ true
  blocker_from u begun beside conflict = and_from _ _ begun (and_from _ _ (not_from_false (is_under tree u t) beside) conflict)

  pub blocker_parts : (u : ℕ) → is_blocker_in tree table t k x u ≡ true → (has_number tree u ≡ true) × (is_under tree u t ≡ false) × (conflicts (whole (one.modes_in table u k)) x ≡ true)
  blocker_parts u e =
      let p = and_parts (has_number tree u) _ e in
      let q = and_parts (not (is_under tree u t)) _ p.1 in
      (p.0, not-true (is_under tree u t) q.0, q.1)

  -- where nobody blocks by the table, whoever has begun and is beside has no lock that conflicts
  pub none_there : is_blocked_in tree table t k x ≡ false → (u : ℕ) → has_number tree u ≡ true → is_under tree u t ≡ false → conflicts (whole (one.modes_in table u k)) x ≡ true → ⊥
  none_there opens u begun beside conflict = blocked_by tree table t k x u (and_from _ _ begun (and_from _ _ (not_from_false (is_under tree u t) beside) conflict)) opens

  -- and where somebody does, one of them does
  pub someone : is_blocked_in tree table t k x ≡ true → (u : ℕ) × (has_number tree u ≡ true) × (is_under tree u t ≡ false) × (conflicts (whole (one.modes_in table u k)) x ≡ true)
  someone blocked =
      let w = witness (is_blocker_in tree table t k x) (numbers tree) blocked in
      let p = and_parts (has_number tree w.0) _ w.1 in
      let q = and_parts (not (is_under tree w.0 t)) _ p.1 in
      (w.0, p.0, not-true (is_under tree w.0 t) q.0, q.1)

  pub open_if : ((u : ℕ) → has_number tree u ≡ true → is_under tree u t ≡ false → conflicts (whole (one.modes_in table u k)) x ≡ true → ⊥) → is_blocked_in tree table t k x ≡ false
  open_if none = false_from_ne_true _ (λ e. let s = someone e in none s.0 s.1 s.2 s.3)

-- nobody blocks where nobody has anything
pub none_blocks : (tree : States) (table : one.Table) (t : ℕ) (k : List ℕ) (x : Kind) → table ≡ one.nothing → is_blocked_in tree table t k x ≡ false
none_blocks tree table t k x bare = open_if tree table t k x (λ u begun beside c. lets x (subst (λ (b : one.Table). conflicts (whole (one.modes_in b u k)) x ≡ true) bare c))
  where
    lets : (x : Kind) → conflicts (whole free) x ≡ true → ⊥
    lets Read e = false≢true e
    lets Write e = false≢true e

-- ---- three tables

module _ (tree : States) (l : Targeted) (writers : AreWriters l.keys l.writers) (sums : AreSums l.sums) (t : ℕ) where
  pub by_key : (k : List ℕ) (x : Kind) (u : ℕ) → is_blocker_in tree l.keys t k x u ≡ true → IsBlockerAt tree l t (Key k) x u
  by_key k x u e = let p = blocker_parts tree l.keys t k x u e in record { begun = p.0; beside = p.1; reaches = (Key k, label_eq_self k, p.2) }

  -- who keeps a read of a key out
  pub blocks_read : (k : List ℕ) (u : ℕ) → (is_blocker_in tree l.keys t k Read u ≡ true) ↔ IsBlockerAt tree l t (Key k) Read u
  blocks_read k u = (by_key k Read u, λ b. by b b.reaches.0 b.reaches.1 b.reaches.2)
    where
      by : IsBlockerAt tree l t (Key k) Read u → (v : Target) → meets v (Key k) ≡ true → conflicts (whole (modes_at l u v)) Read ≡ true → is_blocker_in tree l.keys t k Read u ≡ true
      by b (Key q) m c = blocker_from tree l.keys t k Read u b.begun b.beside (subst (λ (w : List ℕ). conflicts (whole (one.modes_in l.keys u w)) Read ≡ true) (same_label q k m) c)
      by b (Group g) m c = absurd (true≢false (sym c ∙ reads (whole (one.modes_in l.sums u g)) ∙ sums.read u g))

  -- a write, by a lock of the key or by a sum
  pub blocks_write : (k : List ℕ) (u : ℕ) → IsBlockerAt tree l t (Key k) Write u → (is_blocker_in tree l.keys t k Write u ≡ true) ⊎ BlocksBySum tree l.sums t k u
  blocks_write k u b = by b.reaches.0 b.reaches.1 b.reaches.2
    where
      by : (v : Target) → meets v (Key k) ≡ true → conflicts (whole (modes_at l u v)) Write ≡ true → (is_blocker_in tree l.keys t k Write u ≡ true) ⊎ BlocksBySum tree l.sums t k u
      by (Key q) m c = inl (blocker_from tree l.keys t k Write u b.begun b.beside (subst (λ (w : List ℕ). conflicts (whole (one.modes_in l.keys u w)) Write ≡ true) (same_label q k m) c))
      by (Group []) m c = absurd (true≢false (sym c ∙ ap (λ (n : Modes). conflicts (whole n) Write) (sums.none u)))
      by (Group (d ∷ g)) m c = inr (d ∷ g, m, omega arith, blocker_from tree l.sums t (d ∷ g) Write u b.begun b.beside c)

  pub by_sum : (k : List ℕ) (u : ℕ) → BlocksBySum tree l.sums t k u → IsBlockerAt tree l t (Key k) Write u
  by_sum k u b = let p = blocker_parts tree l.sums t b.0 Write u b.3 in record { begun = p.0; beside = p.1; reaches = (Group b.0, b.1, p.2) }

  -- a sum
  pub blocks_sum : (g : List ℕ) → 0 < length g → (u : ℕ) → (is_blocker_in tree l.writers t g Read u ≡ true) ↔ IsBlockerAt tree l t (Group g) Read u
  blocks_sum g some u = (
    λ e.
        let p = blocker_parts tree l.writers t g Read u e in
        let w = writers.wrote u g (sym (reads (whole (one.modes_in l.writers u g))) ∙ p.2) in
        record { begun = p.0; beside = p.1; reaches = (Key w.0, w.1, reads (whole (one.modes_in l.keys u w.0)) ∙ w.2) },
    λ b. by b b.reaches.0 b.reaches.1 b.reaches.2,
  )
    where
      by : IsBlockerAt tree l t (Group g) Read u → (v : Target) → meets v (Group g) ≡ true → conflicts (whole (modes_at l u v)) Read ≡ true → is_blocker_in tree l.writers t g Read u ≡ true
      by b (Key k) m c =
          blocker_from tree l.writers t g Read u b.begun b.beside
          (reads (whole (one.modes_in l.writers u g)) ∙ writers.marked u g k some m (sym (reads (whole (one.modes_in l.keys u k))) ∙ c))
      by b (Group f) m c = absurd (false≢true m)

  -- from a read of a key nobody is kept out by sums
  pub may_read : (k : List ℕ) → (not (is_blocked_in tree l.keys t k Read) ≡ true) ↔ MayAt tree l t (Key k) Read
  may_read k = (
    λ e u b. by u b.begun b.beside b.reaches.0 b.reaches.1 b.reaches.2 (not-true (is_blocked_in tree l.keys t k Read) e),
    λ none. not_from_false (is_blocked_in tree l.keys t k Read) (open_if tree l.keys t k Read (λ u begun beside c. none u (record { begun = begun; beside = beside; reaches = (Key k, label_eq_self k, c) }))),
  )
    where
      by : (u : ℕ) → has_number tree u ≡ true → is_under tree u t ≡ false → (v : Target) → meets v (Key k) ≡ true
          → conflicts (whole (modes_at l u v)) Read ≡ true → is_blocked_in tree l.keys t k Read ≡ false → ⊥
      by u begun beside (Key q) m c opens = none_there tree l.keys t k Read opens u begun beside (subst (λ (w : List ℕ). conflicts (whole (one.modes_in l.keys u w)) Read ≡ true) (same_label q k m) c)
      by u begun beside (Group g) m c opens = true≢false (sym c ∙ reads (whole (one.modes_in l.sums u g)) ∙ sums.read u g)

  -- from a write nobody is kept out by the key nor by the sums over its groups
  pub may_write : (k : List ℕ) → is_blocked_in tree l.keys t k Write ≡ false → ((g : List ℕ) → has g k ≡ true → 0 < length g → is_blocked_in tree l.sums t g Write ≡ false)
      → MayAt tree l t (Key k) Write
  may_write k opens over u b = by b.reaches.0 b.reaches.1 b.reaches.2
    where
      by : (v : Target) → meets v (Key k) ≡ true → conflicts (whole (modes_at l u v)) Write ≡ true → ⊥
      by (Key q) m c = none_there tree l.keys t k Write opens u b.begun b.beside (subst (λ (w : List ℕ). conflicts (whole (one.modes_in l.keys u w)) Write ≡ true) (same_label q k m) c)
      by (Group []) m c = true≢false (sym c ∙ ap (λ (n : Modes). conflicts (whole n) Write) (sums.none u))
      by (Group (d ∷ g)) m c = none_there tree l.sums t (d ∷ g) Write (over (d ∷ g) m (omega arith)) u b.begun b.beside c

  pub may_write_back : (k : List ℕ) → MayAt tree l t (Key k) Write
      → (is_blocked_in tree l.keys t k Write ≡ false) × ((g : List ℕ) → has g k ≡ true → 0 < length g → is_blocked_in tree l.sums t g Write ≡ false)
  may_write_back k none = (
    open_if tree l.keys t k Write (λ u begun beside c. none u (record { begun = begun; beside = beside; reaches = (Key k, label_eq_self k, c) })),
    λ g i some. open_if tree l.sums t g Write (λ u begun beside c. none u (record { begun = begun; beside = beside; reaches = (Group g, i, c) })),
  )

  -- from a sum nobody is kept out by those who write a key of the group
  pub may_sum : (g : List ℕ) → 0 < length g → (not (is_blocked_in tree l.writers t g Read) ≡ true) ↔ MayAt tree l t (Group g) Read
  may_sum g some = (
    λ e u b. by u b.begun b.beside b.reaches.0 b.reaches.1 b.reaches.2 (not-true (is_blocked_in tree l.writers t g Read) e),
    λ none. not_from_false (is_blocked_in tree l.writers t g Read) (open_if tree l.writers t g Read (λ u begun beside c.
        let w = writers.wrote u g (sym (reads (whole (one.modes_in l.writers u g))) ∙ c) in
        none u (record { begun = begun; beside = beside; reaches = (Key w.0, w.1, reads (whole (one.modes_in l.keys u w.0)) ∙ w.2) }))),
  )
    where
      by : (u : ℕ) → has_number tree u ≡ true → is_under tree u t ≡ false → (v : Target) → meets v (Group g) ≡ true
          → conflicts (whole (modes_at l u v)) Read ≡ true → is_blocked_in tree l.writers t g Read ≡ false → ⊥
      by u begun beside (Key k) m c opens =
          let w = writers.marked u g k some m (sym (reads (whole (one.modes_in l.keys u k))) ∙ c) in
          none_there tree l.writers t g Read opens u begun beside (reads (whole (one.modes_in l.writers u g)) ∙ w)
      by u begun beside (Group f) m c opens = absurd (false≢true m)

-- ---- marks

-- whoever holds to write, writes
pub writes_raised : (m : Modes) → writes (with_held m mode.Write) ≡ true
writes_raised m = refl

greater_reads : (m n : Mode) → is_exclusive (greater (greater mode.Read m) n) ≡ is_exclusive (greater m n)
greater_reads mode.None mode.None = refl
greater_reads mode.None mode.Read = refl
greater_reads mode.None mode.Write = refl
greater_reads mode.Read n = refl
greater_reads mode.Write n = refl

-- a read writes no more than before
pub writes_read : (m : Modes) → writes (with_held m mode.Read) ≡ writes m
writes_read m = greater_reads m.held m.retained

-- whoever wrote writes
pub writes_still : (here : Bool) (m : Modes) → writes m ≡ true → writes (cond here (with_held m mode.Write) m) ≡ true
writes_still true m h = refl
writes_still false m h = h

-- a group of another length than n is below n + 1 where it is below n
other_length : (m n : ℕ) → (m ≡ n → ⊥) → nat_lt m (n + 1) ≡ nat_lt m n
other_length m n h = grind (arith, h)

module _ (writers : one.Table) (t : ℕ) (k : List ℕ) (n u : ℕ) where
  -- one, which is marked
  pub one_marked : (f : List ℕ) → has f k ≡ true → 0 < n → length f ≡ n → (g : List ℕ)
      → cond (nat_eq t u && label_eq f g) (with_held (marked_below writers t k n u g) mode.Write) (marked_below writers t k n u g) ≡ marked_below writers t k (n + 1) u g
  one_marked f i some long g =
      let m = one.modes_in writers u g in
      on_label f g (λ b. cond (nat_eq t u && b) (with_held (marked_below writers t k n u g) mode.Write) (marked_below writers t k n u g) ≡ marked_below writers t k (n + 1) u g)
      (λ same.
      let here : has g k ≡ true = subst (λ (x : List ℕ). has x k ≡ true) same i in
      let size : length g ≡ n = ap (λ (x : List ℕ). length x) (sym same) ∙ long in
      let z : nat_lt 0 (length g) ≡ true = lt-ltb 0 (length g) (omega (arith, size, some)) in
      let low : nat_lt (length g) n ≡ false = grind (arith, size) in
      let high : nat_lt (length g) (n + 1) ≡ true = lt-ltb (length g) (n + 1) (omega (arith, size)) in
      rw (here, z, low, high) (marks (nat_eq t u) m))
      (λ other.
      let plain : cond (nat_eq t u && false) (with_held (marked_below writers t k n u g) mode.Write) (marked_below writers t k n u g) ≡ marked_below writers t k n u g = none_of (nat_eq t u) _ _ in
      plain ∙ rest other)
    where
      marks : (a : Bool) (m : Modes) → cond (a && true) (with_held (cond (a && false) (with_held m mode.Write) m) mode.Write) (cond (a && false) (with_held m mode.Write) m) ≡ cond (a && true) (with_held m mode.Write) m
      marks true m = refl
      marks false m = refl

      none_of : (a : Bool) (x y : Modes) → cond (a && false) x y ≡ y
      none_of true x y = refl
      none_of false x y = refl

      rest : label_eq f g ≡ false → marked_below writers t k n u g ≡ marked_below writers t k (n + 1) u g
      rest other =
          let m = one.modes_in writers u g in
          on_test (has g k) (λ h. has g k ≡ h → cond (nat_eq t u && (h && (nat_lt 0 (length g) && nat_lt (length g) n))) (with_held m mode.Write) m ≡ cond (nat_eq t u && (h && (nat_lt 0 (length g) && nat_lt (length g) (n + 1)))) (with_held m mode.Write) m)
          (λ _ j.
          let apart : length g ≡ n → ⊥ = λ size.
          let same : f ≡ g = same_front f k i ∙ ap (λ x. take x k) (long ∙ sym size) ∙ sym (same_front g k j) in
          false≢true (sym other ∙ ap (label_eq f) (sym same) ∙ label_eq_self f) in
          ap (λ b. cond (nat_eq t u && (true && (nat_lt 0 (length g) && b))) (with_held m mode.Write) m) (sym (other_length (length g) n apart)))
          (λ _ _. refl) refl

  -- all, where n is no less than the key is long
  pub all_marked : length k ≤ n → (g : List ℕ) → marked_below writers t k n u g ≡ marked_by writers t k u g
  all_marked far g =
      let m = one.modes_in writers u g in
      on_test (has g k) (λ h. has g k ≡ h → cond (nat_eq t u && (h && (nat_lt 0 (length g) && nat_lt (length g) n))) (with_held m mode.Write) m ≡ cond (nat_eq t u && (h && nat_lt 0 (length g))) (with_held m mode.Write) m)
      (λ _ j.
      let dot = dot_behind g k 0 j in
      let high : nat_lt (length g) n ≡ true = lt-ltb (length g) n (omega (arith, dot.0, far)) in
      ap (λ b. cond (nat_eq t u && (true && (nat_lt 0 (length g) && b))) (with_held m mode.Write) m) high ∙ ap (λ b. cond (nat_eq t u && (true && b)) (with_held m mode.Write) m) (and_true (nat_lt 0 (length g))))
      (λ _ _. refl) refl
    where
      and_true : (b : Bool) → (b && true) ≡ b
      and_true true = refl
      and_true false = refl

-- ---- where groups end

-- a group of the key ends before a dot
pub no_dot : (k : List ℕ) (place : ℕ) → (place < length k → get_or k place 0 ≡ 46 → ⊥) → (g : List ℕ) → IsGroupBefore k place g → ⊥
no_dot k place other g is =
    let dot = dot_behind g k 0 is.0 in
    other (subst (λ (n : ℕ). n < length k) is.2 dot.0) (subst (λ (n : ℕ). get_or k n 0 ≡ 46) is.2 dot.1)

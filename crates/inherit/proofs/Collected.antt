-- Keys collected in byte order, and the changes that are made of them.
use Rattle.std.proofs.Common.{◌≡◌, ℕ, ℤ, Bool, true, false, cond, ◌&&◌, ◌||◌, List, [], ◌∷◌, ◌++◌, append_assoc, map, Option, Some, None, refl, sym, ap, subst, ◌∙◌, arith}
use Rattle.std.specs.Prelude.{length}
use Rattle.std.proofs.lemmas.Bool.{false≢true}
use Rattle.std.specs.BTreeSet.{insert_key}
use Rattle.std.specs.Cmp.Lexicographic.{slice_cmp, nat_list_eq_equiv}
use Rattle.std.specs.List.{list_any, AllByRecursion}
use Rattle.std.specs.Ordering.{nat_cmp, match_ordering}
use Rattle.std.specs.declared.cmp.Ordering.TheVariants.{Less}
use Rattle.txn_names.specs.Path.{label_eq}
use Rattle.txn_names.proofs.Exports.{label_eq_self, same_label}
use Rattle.txn_names.specs.declared.change.Change.{Change}
use Rattle.serial_spec.specs.History.{or_else}
use Rattle.serial_spec.specs.Rows.{AreRisingKeys}
use Rattle.serial_spec.specs.Changes.{AreRising, change_at}
use Rattle.lock_table.specs.Inherited.{free, whole}
use Rattle.serial_spec.specs.declared.target.Target.TheVariants.{Key}
use Rattle.serial_spec.specs.Locks.{is_exclusive}
use Rattle.inherit.specs.LocksAndVersions.{LocksAndVersions, modes_of}
use Rattle.inherit.specs.Changes.{writes}
use Rattle.version_stack.proofs.Exports.{any_append}
use Rattle.serial_spec.proofs.Exports.{on_ordering, above_all, turned, same_key}

-- ---- a key put among others in its place

-- the keys with one more
abbrev inserted : List (List ℕ) → List ℕ → List (List ℕ)
inserted ks k = insert_key (slice_cmp nat_cmp) ks k

-- what holds of the key and of the others holds of all
all_inserted : (P : List ℕ → Type 0) (ks : List (List ℕ)) (k : List ℕ) → P k → AllByRecursion P ks → AllByRecursion P (inserted ks k)
all_inserted P [] k p h = (p, tt)
all_inserted P (x ∷ xs) k p h =
    on_ordering (slice_cmp nat_cmp k x) (λ o. AllByRecursion P (match_ordering o (k ∷ x ∷ xs) (x ∷ xs) (x ∷ inserted xs k)))
    (λ _. (p, h)) (λ _. h) (λ _. (h.0, all_inserted P xs k p h.1))

-- the keys still rise
rising_inserted : (ks : List (List ℕ)) (k : List ℕ) → AreRisingKeys ks → AreRisingKeys (inserted ks k)
rising_inserted [] k h = (tt, tt)
rising_inserted (x ∷ xs) k h =
    on_ordering (slice_cmp nat_cmp k x) (λ o. AreRisingKeys (match_ordering o (k ∷ x ∷ xs) (x ∷ xs) (x ∷ inserted xs k)))
    (λ e. ((e, above_all k x xs e h.0), h))
    (λ _. h)
    (λ e. (all_inserted (λ q. slice_cmp nat_cmp x q ≡ Less) xs k (turned k x e) h.0, rising_inserted xs k h.1))

-- of three tests the first may stand twice
or_twice : (a b : Bool) → a || b ≡ a || (a || b)
or_twice true b = refl
or_twice false b = refl

-- and the first two may change places
or_swap : (a b c : Bool) → a || (b || c) ≡ b || (a || c)
or_swap true true c = refl
or_swap true false c = refl
or_swap false true c = refl
or_swap false false c = refl

-- a key is among them if it is the new one or was there before
any_inserted : (ks : List (List ℕ)) (k q : List ℕ) → list_any (label_eq q) (inserted ks k) ≡ label_eq q k || list_any (label_eq q) ks
any_inserted [] k q = refl
any_inserted (x ∷ xs) k q =
    on_ordering (slice_cmp nat_cmp k x) (λ o. list_any (label_eq q) (match_ordering o (k ∷ x ∷ xs) (x ∷ xs) (x ∷ inserted xs k)) ≡ label_eq q k || (label_eq q x || list_any (label_eq q) xs))
    (λ _. refl)
    (λ e. ap (λ y. label_eq q y || list_any (label_eq q) xs) (sym (same_key k x e)) ∙ or_twice (label_eq q k) (list_any (label_eq q) xs) ∙ ap (λ y. label_eq q k || (label_eq q y || list_any (label_eq q) xs)) (same_key k x e))
    (λ _. ap (λ b. label_eq q x || b) (any_inserted xs k q) ∙ or_swap (label_eq q x) (label_eq q k) (list_any (label_eq q) xs))

-- ---- the keys that were written, as far as the keys were gone through

-- by whether this key is the next, whether it stood before, and whether it was written
taken : (here before mine : Bool) → (here ≡ true → mine ≡ true) → here || (before && mine) ≡ (before || here) && mine
taken true true mine f = sym (f refl)
taken true false mine f = sym (f refl)
taken false true mine f = refl
taken false false mine f = refl

-- the same where the next key was not written
passed : (here before mine : Bool) → (here ≡ true → mine ≡ false) → before && mine ≡ (before || here) && mine
passed true true mine f = refl
passed true false mine f = sym (f refl)
passed false true mine f = refl
passed false false mine f = refl

-- the second test decides where it implies the first
both : (a b : Bool) → (b ≡ true → a ≡ true) → a && b ≡ b
both true b h = refl
both false true h = absurd (false≢true (h refl))
both false false h = refl

-- collected are those of the keys that were written, in byte order
pub record AreWritten (wrote : List ℕ → Bool) (keys collected : List (List ℕ)) : Type 0 where
  pub rising : AreRisingKeys collected
  pub each : (k : List ℕ) → list_any (label_eq k) collected ≡ list_any (label_eq k) keys && wrote k

module _ (wrote : List ℕ → Bool) (keys collected : List (List ℕ)) where
  -- at the start there are none
  pub written_none : AreWritten wrote [] []
  written_none = record { rising = tt; each = λ k. refl }

  -- equal keys were written alike
  wrote_as : (k q : List ℕ) (b : Bool) → wrote q ≡ b → label_eq k q ≡ true → wrote k ≡ b
  wrote_as k q b w e = ap wrote (same_label k q e) ∙ w

  -- one more key that was written
  pub written_taken : (q : List ℕ) → AreWritten wrote keys collected → wrote q ≡ true → AreWritten wrote (keys ++ q ∷ []) (inserted collected q)
  written_taken q far w = record {
    rising = rising_inserted collected q far.rising;
    each = λ k.
        any_inserted collected q k
        ∙ ap (λ b. label_eq k q || b) (far.each k)
        ∙ taken (label_eq k q) (list_any (label_eq k) keys) (wrote k) (wrote_as k q true w)
        ∙ ap (λ b. b && wrote k) (sym (any_append k q keys));
  }

  -- one more key that was not
  pub written_passed : (q : List ℕ) → AreWritten wrote keys collected → wrote q ≡ false → AreWritten wrote (keys ++ q ∷ []) collected
  written_passed q far w = record {
    rising = far.rising;
    each = λ k.
        far.each k
        ∙ passed (label_eq k q) (list_any (label_eq k) keys) (wrote k) (wrote_as k q false w)
        ∙ ap (λ b. b && wrote k) (sym (any_append k q keys));
  }

  -- all have been gone through
  pub written_all : ((k : List ℕ) → wrote k ≡ true → list_any (label_eq k) keys ≡ true) → AreWritten wrote keys collected
      → (k : List ℕ) → list_any (label_eq k) collected ≡ wrote k
  written_all all far k = far.each k ∙ both (list_any (label_eq k) keys) (wrote k) (all k)

-- ---- the changes made of them

-- by whether a later change or this one is of the key
one_of : (more here : Bool) (v w : Option ℤ) → (here ≡ true → w ≡ v) → or_else (cond more (Some v) None) (cond here (Some w) None) ≡ cond (here || more) (Some v) None
one_of true true v w f = refl
one_of true false v w f = refl
one_of false true v w f = ap (λ x. Some x) (f refl)
one_of false false v w f = refl

module _ (sees : List ℕ → Option ℤ) where
  abbrev pub change_of : List ℕ → Change
  change_of k = record { key = k; value = sees k }

  -- the changes stand in the order of their keys
  keys_of_changes : (ks : List (List ℕ)) → ks ≡ map (λ c. c.key) (map change_of ks)
  keys_of_changes [] = refl
  keys_of_changes (k ∷ ks) = ap (λ qs. k ∷ qs) (keys_of_changes ks)

  -- each of these keys is changed to what is seen there, and no other
  change_at-all : (ks : List (List ℕ)) (k : List ℕ) → change_at (map change_of ks) k ≡ cond (list_any (label_eq k) ks) (Some (sees k)) None
  change_at-all [] k = refl
  change_at-all (q ∷ ks) k =
      ap (λ x. or_else x (cond (label_eq q k) (Some (sees q)) None)) (change_at-all ks k)
      ∙ one_of (list_any (label_eq k) ks) (label_eq q k) (sees k) (sees q) (λ e. ap sees (same_label q k e))
      ∙ ap (λ b. cond (b || list_any (label_eq k) ks) (Some (sees k)) None) (nat_list_eq_equiv.symm q k)

  -- one more change, where rest are the keys that were left
  pub change_more : (cs : List Change) (k : List ℕ) (v : Option ℤ) (rest next all : List (List ℕ))
      → cs ++ map change_of rest ≡ map change_of all → rest ≡ k ∷ next → v ≡ sees k
      → (cs ++ record { key = k; value = v } ∷ []) ++ map change_of next ≡ map change_of all
  change_more cs k v rest next all so_far is same =
      append_assoc cs (record { key = k; value = v } ∷ []) (map change_of next)
      ∙ ap (λ w. cs ++ record { key = k; value = w } ∷ map change_of next) same
      ∙ ap (λ ks. cs ++ map change_of ks) (sym is)
      ∙ so_far

  pub changes_rise : (ks : List (List ℕ)) → AreRisingKeys ks → AreRising (map change_of ks)
  changes_rise ks rising = subst AreRisingKeys (keys_of_changes ks) rising

  pub changes_each : (wrote : List ℕ → Bool) (ks : List (List ℕ)) → ((k : List ℕ) → list_any (label_eq k) ks ≡ wrote k)
      → (k : List ℕ) → change_at (map change_of ks) k ≡ cond (wrote k) (Some (sees k)) None
  changes_each wrote ks each k = change_at-all ks k ∙ ap (λ b. cond b (Some (sees k)) None) (each k)

  -- where none of the keys was written none is left to be changed
  pub none_left : (wrote : List ℕ → Bool) (cs : List Change) (k : List ℕ) (rest next all : List (List ℕ))
      → cs ++ map change_of rest ≡ map change_of all → rest ≡ k ∷ next
      → ((q : List ℕ) → list_any (label_eq q) all ≡ wrote q) → ((q : List ℕ) → wrote q ≡ false) → ⊥
  none_left wrote cs k rest next [] so_far is each none =
      let whole : cs ++ map change_of (k ∷ next) ≡ [] = ap (λ ks. cs ++ map change_of ks) (sym is) ∙ so_far in
      nonempty cs whole
    where
      nonempty : (xs : List Change) → xs ++ map change_of (k ∷ next) ≡ [] → ⊥
      nonempty [] e = absurd (omega (arith, ap length e))
      nonempty (x ∷ xs) e = absurd (omega (arith, ap length e))
  none_left wrote cs k rest next (q ∷ all) so_far is each none =
      false≢true (sym (none q) ∙ sym (each q) ∙ ap (λ b. b || list_any (label_eq q) all) (label_eq_self q))

-- ---- what is locked to write

-- where all keys that are locked are among these, those that are locked to write are
pub wrote_among : (a : LocksAndVersions) (t : ℕ) (keys : List (List ℕ)) → ((q : List ℕ) → list_any (label_eq q) keys ≡ false → modes_of a t (Key q) ≡ free)
    → (k : List ℕ) → writes a t k ≡ true → list_any (label_eq k) keys ≡ true
wrote_among a t keys others k w = by (list_any (label_eq k) keys) refl
  where
    by : (b : Bool) → list_any (label_eq k) keys ≡ b → b ≡ true
    by true e = refl
    by false e = absurd (false≢true (sym (ap (λ m. is_exclusive (whole m)) (others k e)) ∙ w))

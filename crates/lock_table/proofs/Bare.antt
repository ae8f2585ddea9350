-- Tables in which nobody has anything.
use Rattle.std.proofs.Common.{◌≡◌, ℕ, nat_eq, Bool, true, false, not, ◌&&◌, ◌||◌, cond, inl, List, Option, refl, sym, subst}
use Rattle.txn_tree.specs.States.{States}
use Rattle.serial_spec.specs.declared.operation.Kind.TheVariants.{Write}
use Rattle.lock_table.specs.Inherited.{free}
use Rattle.lock_table.specs.Locked as one
use Rattle.lock_table.specs.Targeted.{BlocksBySum, IsJoined}
use Rattle.lock_table.proofs.Blockers.{blocked_by}
use Rattle.lock_table.proofs.Reaching.{none_blocks}

-- ---- sums

module _ (tree : States) (sums : one.Table) (t : ℕ) (k : List ℕ) (bare : sums ≡ one.nothing) where
  -- nobody keeps a write out
  pub no_sum_blocks : (u : ℕ) → BlocksBySum tree sums t k u → ⊥
  no_sum_blocks u b = blocked_by tree sums t b.0 Write u b.3 (none_blocks tree sums t b.0 Write bare)

  -- so those who do are among any numbers
  pub none_joined : (found : List ℕ) → IsJoined found (BlocksBySum tree sums t k) found
  none_joined found = record {
    kept = λ u e. e;
    all = λ u b. absurd (no_sum_blocks u b);
    none = λ u e. inl e;
  }

-- ---- one table

module _ (table : one.Table) (bare : table ≡ one.nothing) where
  -- what is handed up
  pub free_handed_up : (child : ℕ) (parent : Option ℕ) (u : ℕ) (q : List ℕ) → one.modes_in table u q ≡ one.handed_up table child parent u q
  free_handed_up child parent u q = subst (λ (b : one.Table). one.modes_in b u q ≡ one.handed_up b child parent u q) (sym bare) (sym (by (nat_eq child u) (one.is_it parent u)))
    where
      by : (gone up : Bool) → cond gone free (cond up (one.with_retained free (one.whole free)) free) ≡ free
      by true up = refl
      by false true = refl
      by false false = refl

  -- what is dropped
  pub free_dropped : (gone : Bool) (u : ℕ) (q : List ℕ) → one.modes_in table u q ≡ cond gone free (one.modes_in table u q)
  free_dropped gone u q = subst (λ (b : one.Table). one.modes_in b u q ≡ cond gone free (one.modes_in b u q)) (sym bare) (by gone)
    where
      by : (gone : Bool) → free ≡ cond gone free free
      by true = refl
      by false = refl

  -- no place goes
  pub no_place_left : (gone : Bool) (u : ℕ) (q : List ℕ) → one.has_place table u q ≡ (not gone && one.has_place table u q)
  no_place_left gone u q = subst (λ (b : one.Table). one.has_place b u q ≡ (not gone && one.has_place b u q)) (sym bare) (by gone)
    where
      by : (gone : Bool) → false ≡ (not gone && false)
      by true = refl
      by false = refl

  -- and the parent needs none
  pub no_childs : (child parent u : ℕ) (q : List ℕ) → one.has_place table u q ≡ one.with_childs (one.has_place table) child parent u q
  no_childs child parent u q = subst (λ (b : one.Table). one.has_place b u q ≡ one.with_childs (one.has_place b) child parent u q) (sym bare) (by (nat_eq parent u))
    where
      by : (b : Bool) → false ≡ ((b && false) || false)
      by true = refl
      by false = refl

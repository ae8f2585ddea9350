-- What is found is all that keep an access from being answered.
use Rattle.std.proofs.Common.{◌≡◌, ◌<◌, ℕ, true, ⊎_elim, List, length, sym, ◌∙◌}
use Rattle.std.specs.List.Sorted.{IsStrictlyIncreasing}
use Rattle.txn_tree.specs.States.{States}
use Rattle.serial_spec.specs.declared.operation.Kind.TheVariants.{Read, Write}
use Rattle.serial_spec.specs.declared.target.Target.TheVariants.{Key, Group}
use Rattle.lock_table.specs.Blocking.{blockers_in, is_blocker_in}
use Rattle.lock_table.specs.Targeted.{AreBlockers, AreSums, AreWriters, BlocksBySum, IsAmong, IsJoined, Targeted}
use Rattle.lock_table.proofs.Blockers.{among_blockers, rising_blockers}
use Rattle.lock_table.proofs.Reaching.{blocks_read, blocks_sum, blocks_write, by_key, by_sum}

module _ (tree : States) (l : Targeted) (writers : AreWriters l.keys l.writers) (sums : AreSums l.sums) (t : ℕ) where
  pub found_for_read : (k : List ℕ) → AreBlockers tree l t (Key k) Read (blockers_in tree l.keys t k Read)
  found_for_read k = record {
    rising = rising_blockers tree l.keys t k Read;
    each = λ u.
        let both = blocks_read tree l writers sums t k u in
        (λ e. both.0 (sym (among_blockers tree l.keys t k Read u) ∙ e), λ b. among_blockers tree l.keys t k Read u ∙ both.1 b);
  }

  pub found_for_write : (k found : List ℕ) → IsStrictlyIncreasing found → IsJoined (blockers_in tree l.keys t k Write) (BlocksBySum tree l.sums t k) found → AreBlockers tree l t (Key k) Write found
  found_for_write k found rising joined = record {
    rising = rising;
    each = λ u. (
      λ e. ⊎_elim
          (λ (held : IsAmong (blockers_in tree l.keys t k Write) u). by_key tree l writers sums t k Write u (sym (among_blockers tree l.keys t k Write u) ∙ held))
          (λ (summed : BlocksBySum tree l.sums t k u). by_sum tree l writers sums t k u summed)
          (joined.none u e),
      λ b. ⊎_elim
          (λ (held : is_blocker_in tree l.keys t k Write u ≡ true). joined.kept u (among_blockers tree l.keys t k Write u ∙ held))
          (λ (summed : BlocksBySum tree l.sums t k u). joined.all u summed)
          (blocks_write tree l writers sums t k u b),
    );
  }

  pub found_for_sum : (g : List ℕ) → 0 < length g → AreBlockers tree l t (Group g) Read (blockers_in tree l.writers t g Read)
  found_for_sum g some = record {
    rising = rising_blockers tree l.writers t g Read;
    each = λ u.
        let both = blocks_sum tree l writers sums t g some u in
        (λ e. both.0 (sym (among_blockers tree l.writers t g Read u) ∙ e), λ b. among_blockers tree l.writers t g Read u ∙ both.1 b);
  }

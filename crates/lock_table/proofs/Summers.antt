-- Those whose sums over the groups of a key keep a write of it from being answered.
use Rattle.std.proofs.Common.{◌≡◌, ◌<◌, ◌≤◌, ℕ, ◌+◌, true, ◌⊎◌, inl, inr, List, length, take, sym, ap, ◌∙◌, arith}
use Rattle.std.proofs.lemmas.Bool.{cases_eq}
use Rattle.txn_names.specs.Groups.{has}
use Rattle.txn_names.proofs.Exports.{dot_behind, same_front}
use Rattle.txn_tree.specs.States.{States}
use Rattle.serial_spec.specs.declared.operation.Kind.TheVariants.{Write}
use Rattle.lock_table.specs.Locked as one
use Rattle.lock_table.specs.Blocking.{blockers_in, is_blocker_in}
use Rattle.lock_table.specs.Targeted.{AtSomeGroup, BlocksBySum, IsAmong, IsJoined}
use Rattle.lock_table.proofs.Blockers.{among_blockers}
use Rattle.lock_table.proofs.Joined.{joined_same, joined_then}

-- by a group of fewer than n bytes
abbrev pub BlocksBelow : States → one.Table → ℕ → List ℕ → ℕ → ℕ → Type 0
BlocksBelow tree sums t k n u = AtSomeGroup k (λ g. (length g < n) × (is_blocker_in tree sums t g Write u ≡ true))

module _ (tree : States) (sums : one.Table) (t : ℕ) (k : List ℕ) (n : ℕ) (old now : List ℕ) (so : IsJoined old (BlocksBelow tree sums t k n) now) where
  further : (u : ℕ) → BlocksBelow tree sums t k n u → BlocksBelow tree sums t k (n + 1) u
  further u b = (b.0, b.1, b.2, (omega (arith, b.3.0), b.3.1))

  -- there is no group of n bytes
  pub none_more : ((g : List ℕ) → has g k ≡ true → 0 < length g → length g ≡ n → ⊥) → IsJoined old (BlocksBelow tree sums t k (n + 1)) now
  none_more none = joined_same old now (BlocksBelow tree sums t k n) (BlocksBelow tree sums t k (n + 1)) so further
      (λ u b. (b.0, b.1, b.2, (below b.0 b.3.0 (none b.0 b.1 b.2), b.3.1)))
    where
      below : (g : List ℕ) → length g < n + 1 → (length g ≡ n → ⊥) → length g < n
      below g less other = omega (arith, less, other)

  -- there is one, and those who sum over it are joined
  pub one_more : (f next : List ℕ) → has f k ≡ true → 0 < length f → length f ≡ n → IsJoined now (IsAmong (blockers_in tree sums t f Write)) next
      → IsJoined old (BlocksBelow tree sums t k (n + 1)) next
  one_more f next there some long then =
      joined_then old now next (BlocksBelow tree sums t k n) (IsAmong (blockers_in tree sums t f Write)) (BlocksBelow tree sums t k (n + 1)) so then further
      (λ u e. (f, there, some, (omega (arith, long), sym (among_blockers tree sums t f Write u) ∙ e)))
      (λ u b. parts u b.0 b.1 b.2 b.3.0 b.3.1)
    where
      parts : (u : ℕ) (g : List ℕ) → has g k ≡ true → 0 < length g → length g < n + 1 → is_blocker_in tree sums t g Write u ≡ true
          → BlocksBelow tree sums t k n u ⊎ IsAmong (blockers_in tree sums t f Write) u
      parts u g i z less b =
          elim (cases_eq (length g) n) [
            | inl size ↦
                let same : g ≡ f = same_front g k i ∙ ap (λ x. take x k) (size ∙ sym long) ∙ sym (same_front f k there) in
                inr (among_blockers tree sums t f Write u ∙ ap (λ (x : List ℕ). is_blocker_in tree sums t x Write u) (sym same) ∙ b)
            | inr other ↦ inl (g, i, z, (omega (arith, less, other), b))
          ]

  -- all are joined, where n is no less than the key is long
  pub all_joined : length k ≤ n → IsJoined old (BlocksBySum tree sums t k) now
  all_joined far = joined_same old now (BlocksBelow tree sums t k n) (BlocksBySum tree sums t k) so
      (λ u b. (b.0, b.1, b.2, b.3.1))
      (λ u b. let dot = dot_behind b.0 k 0 b.1 in (b.0, b.1, b.2, (omega (arith, dot.0, far), b.3)))

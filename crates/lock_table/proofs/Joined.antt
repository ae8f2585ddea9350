-- Numbers that come to be among others.
use Rattle.std.proofs.Common.{◌≡◌, ℕ, nat_eq, true, ◌⊎◌, inl, inr, ⊎_elim, List, sym, subst, ◌∙◌}
use Rattle.std.specs.Prelude.{insert}
use Rattle.std.specs.List.{list_any}
use Rattle.std.proofs.lemmas.Bool.{or_cases, or_left, or_right, eqb-true}
use Rattle.txn_cells.proofs.Exports.{any-insert}
use Rattle.lock_table.specs.Targeted.{IsAmong, IsJoined}

-- no more
pub joined_none : (old : List ℕ) (P : ℕ → Type 0) → ((u : ℕ) → P u → IsAmong old u) → IsJoined old P old
joined_none old P there = record { kept = λ u e. e; all = there; none = λ u e. inl e }

-- some, and then some more
pub joined_then : (a b c : List ℕ) (P Q R : ℕ → Type 0) → IsJoined a P b → IsJoined b Q c
    → ((u : ℕ) → P u → R u) → ((u : ℕ) → Q u → R u) → ((u : ℕ) → R u → P u ⊎ Q u) → IsJoined a R c
joined_then a b c P Q R first then left right parts = record {
  kept = λ u e. then.kept u (first.kept u e);
  all = λ u r. ⊎_elim (λ (p : P u). then.kept u (first.all u p)) (λ (q : Q u). then.all u q) (parts u r);
  none = λ u e. ⊎_elim
      (λ (before : IsAmong b u). ⊎_elim (λ (o : IsAmong a u). inl o) (λ (p : P u). inr (left u p)) (first.none u before))
      (λ (q : Q u). inr (right u q))
      (then.none u e);
}

-- the same ones
pub joined_same : (a b : List ℕ) (P R : ℕ → Type 0) → IsJoined a P b → ((u : ℕ) → P u → R u) → ((u : ℕ) → R u → P u) → IsJoined a R b
joined_same a b P R so to back = record {
  kept = so.kept;
  all = λ u r. so.all u (back u r);
  none = λ u e. ⊎_elim (λ (o : IsAmong a u). inl o) (λ (p : P u). inr (to u p)) (so.none u e);
}

-- one that is put in
pub joined_insert : (xs : List ℕ) (t i : ℕ) → IsJoined xs (λ u. nat_eq t u ≡ true) (insert xs i t)
joined_insert xs t i = record {
  kept = λ u e. any-insert xs t i u ∙ or_right (nat_eq t u) (list_any (nat_eq u) xs) e;
  all = λ u e. any-insert xs t i u ∙ or_left (nat_eq t u) (list_any (nat_eq u) xs) e;
  none = λ u e. ⊎_elim (λ (same : nat_eq t u ≡ true). inr same) (λ (there : IsAmong xs u). inl there)
      (or_cases (nat_eq t u) (list_any (nat_eq u) xs) (sym (any-insert xs t i u) ∙ e));
}

-- and one that is there
pub joined_there : (xs : List ℕ) (t : ℕ) → IsAmong xs t → IsJoined xs (λ u. nat_eq t u ≡ true) xs
joined_there xs t there = joined_none xs (λ u. nat_eq t u ≡ true) (λ u e. subst (λ (v : ℕ). IsAmong xs v) (eqb-true t u e) there)

-- The first, the last and the next number that passes, where one number more may pass.
use Rattle.std.proofs.Common.{◌≡◌, ℕ, ◌<◌, ◌≤◌, nat_eq, Bool, true, false, cond, Option, Some, None, inl, inr, refl, sym, ◌∙◌, true≢false, arith}
use Rattle.std.specs.Option.{option_or}
use Rattle.std.proofs.lemmas.Bool.{cases_lt, eqb-true, eq-eqb}
use Rattle.txn_tree.specs.Siblings.{IsFirst, IsLast, IsNext}
use Rattle.txn_tree.specs.Linked.{is_at}

-- of tests that agree
module _ (p q : ℕ → Bool) (same : (m : ℕ) → q m ≡ p m) where
  pub first_same : (o : Option ℕ) → IsFirst p o → IsFirst q o
  first_same None f = λ m. same m ∙ f m
  first_same (Some c) f = (same c ∙ f.0, λ m less. same m ∙ f.1 m less)

  pub last_same : (o : Option ℕ) → IsLast p o → IsLast q o
  last_same None f = λ m. same m ∙ f m
  last_same (Some c) f = (same c ∙ f.0, λ m more. same m ∙ f.1 m more)

  pub next_same : (n : ℕ) (o : Option ℕ) → IsNext p n o → IsNext q n o
  next_same n None f = λ m more. same m ∙ f m more
  next_same n (Some c) f = (f.0, same c ∙ f.1, λ m more less. same m ∙ f.2 m more less)

-- one more passes, past all others
module _ (p q : ℕ → Bool) (k : ℕ) (before : (m : ℕ) → m < k → q m ≡ p m) (here : q k ≡ true) (past : (m : ℕ) → k < m → q m ≡ false) (ends : (m : ℕ) → k ≤ m → p m ≡ false) where
  below_end : (c : ℕ) → p c ≡ true → c < k
  below_end c e =
      elim (cases_lt c k) [
        | inl less ↦ less
        | inr from ↦ absurd (true≢false (sym e ∙ ends c from))
      ]

  pub first_more : (o : Option ℕ) → IsFirst p o → IsFirst q (option_or o (Some k))
  first_more None f = (here, λ m less. before m less ∙ f m)
  first_more (Some c) f =
      let within = below_end c f.0 in
      (before c within ∙ f.0, λ m less. before m (omega (arith, within, less)) ∙ f.1 m less)

  pub last_more : IsLast q (Some k)
  last_more = (here, past)

  next_kept : (n c : ℕ) → IsNext p n (Some c) → IsNext q n (Some c)
  next_kept n c f =
      let within = below_end c f.1 in
      (f.0, before c within ∙ f.1, λ m more less. before m (omega (arith, within, less)) ∙ f.2 m more less)

  -- who was last is followed by it, and the others by whom they were
  pub next_more : (n : ℕ) (last next : Option ℕ) → p n ≡ true → IsLast p last → IsNext p n next → IsNext q n (cond (is_at last n) (Some k) next)
  next_more n None next e f g = absurd (true≢false (sym e ∙ f n))
  next_more n (Some l) next e f g = by (nat_eq l n) refl next g
    where
      not_past : l < n → ⊥
      not_past less = true≢false (sym e ∙ f.1 n less)

      by : (b : Bool) → nat_eq l n ≡ b → (o : Option ℕ) → IsNext p n o → IsNext q n (cond b (Some k) o)
      by true same o h = let at = eqb-true l n same in (below_end n e, here, λ m more less. before m less ∙ f.1 m (omega (arith, at, more)))
      by false other None h =
          elim (cases_lt n l) [
            | inl less ↦ absurd (true≢false (sym f.0 ∙ h l less))
            | inr from ↦ elim (cases_lt l n) [
              | inl past ↦ absurd (not_past past)
              | inr to ↦ absurd (true≢false (sym (eq-eqb l n (omega (arith, from, to))) ∙ other))
            ]
          ]
      by false other (Some c) h = next_kept n c h

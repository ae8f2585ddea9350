-- Numbers of names, each of one name alone.
use Rattle.std.proofs.Common.{◌≡◌, ℕ, true, cond, length, Some, None, is_some, inl, inr, refl, sym, ap, ◌∙◌, true≢false, arith}
use Rattle.std.specs.Prelude.{slice_get}
use Rattle.std.specs.List.{position, position_or_len}
use Rattle.std.proofs.lemmas.Bool.{false≢true, eqb-true, eq-eqb, cases_lt, lt-ltb}
use Rattle.std.proofs.lemmas.Option.{slice_get_cases}
use Rattle.std.proofs.lemmas.List.Sums.{fails_before_first}
use Rattle.txn_names.specs.Path.{Path, path_eq}
use Rattle.txn_tree.specs.States.{States, names}
use Rattle.txn_tree.specs.Asked.{is_name, IsNumberOf}

module _ (tree : States) (t : Path) (n : ℕ) (is : IsNumberOf tree t n) where
  named : is_name (slice_get (names tree) n) t ≡ true
  named = sym (is n) ∙ eq-eqb n n refl

  pub one_number : (m : ℕ) → IsNumberOf tree t m → m ≡ n
  one_number m too = eqb-true m n (too n ∙ named)

  -- one that is not found has no number
  pub no_number : None ≡ position (path_eq t) (names tree) → ⊥
  no_number none =
      elim (slice_get_cases (names tree) n).1 [
        | inl w ↦ elim (cases_lt (position_or_len (path_eq t) (names tree)) (length (names tree))) [
          | inl within ↦ true≢false (ap is_some (sym (none ∙ ap (λ b. cond b (Some (position_or_len (path_eq t) (names tree))) None) (lt-ltb _ _ within))))
          | inr past ↦ true≢false (sym (sym (ap (λ o. is_name o t) w.2) ∙ named) ∙ ap (path_eq t) (sym w.3) ∙ fails_before_first (path_eq t) (names tree) n w.0 (omega (arith, past, w.1)))
        ]
        | inr past ↦ false≢true (sym (ap (λ o. is_name o t) past.1) ∙ named)
      ]

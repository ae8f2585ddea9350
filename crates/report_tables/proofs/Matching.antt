-- Rows beside the keys that have values.
use Rattle.std.proofs.Common.{◌≡◌, ℕ, ℤ, zero, suc, ◌+◌, ◌<◌, ◌≤◌, Bool, true, false, cond, List, [], ◌∷◌, length, drop, Option, Some, None, is_some, unwrap_or, refl, ap, ◌∙◌, true≢false, arith}
use Rattle.std.specs.Prelude.{slice_get}
use Rattle.std.proofs.lemmas.Bool.{false≢true}
use Rattle.std.proofs.lemmas.Option.{slice_get_within}
use Rattle.serial_spec.specs.Rows.{Rows}
use Rattle.report_check.specs.Verdicts.{compared, same_row}
use Rattle.report_check.specs.declared.verdict.Verdict.TheVariants.{Yes, No}
use Rattle.report_tables.specs.Valued.{Values, present}
use Rattle.report_tables.specs.inner.Compared.{Advances, compared_from, is_row, next_of}

dropped : {X : Type 0} (xs : List X) (i : ℕ) (x : X) → slice_get xs i ≡ Some x → drop i xs ≡ x ∷ drop (suc i) xs
dropped [] i x at = absurd (false≢true (ap is_some at))
dropped (y ∷ xs) zero x at = ap (λ z. z ∷ xs) (ap (λ o. unwrap_or o x) at)
dropped (y ∷ xs) (suc i) x at = dropped xs i x at

dropped_past : {X : Type 0} (xs : List X) (i : ℕ) → slice_get xs i ≡ None → drop i xs ≡ []
dropped_past [] zero at = refl
dropped_past [] (suc i) at = refl
dropped_past (y ∷ xs) zero at = absurd (true≢false (ap is_some at))
dropped_past (y ∷ xs) (suc i) at = dropped_past xs i at

dropped_all : {X : Type 0} (xs : List X) (i : ℕ) → length xs ≤ i → drop i xs ≡ []
dropped_all [] zero h = refl
dropped_all [] (suc i) h = refl
dropped_all (y ∷ xs) zero h = absurd (omega (arith, h))
dropped_all (y ∷ xs) (suc i) h = dropped_all xs i (omega (arith, h))

dropped_some : {X : Type 0} (xs : List X) (i : ℕ) → i < length xs → (x : X) × (drop i xs ≡ x ∷ drop (suc i) xs)
dropped_some [] i h = absurd (omega (arith, h))
dropped_some (y ∷ xs) zero h = (y, refl)
dropped_some (y ∷ xs) (suc i) h = dropped_some xs i (omega (arith, h))

one_more : (n : ℕ) → suc n ≡ n + 1
one_more n = omega arith

pub advances : (n : ℕ) (table : Rows) (es : Values) (p i : ℕ) (k : List ℕ) (w : Option ℤ) → slice_get es i ≡ Some (k, w) → p ≤ length table
    → Advances n table es p i (next_of (slice_get table p) p k w)
advances n table es p i k None at le =
    (le, ap (λ ds. compared (n + p) (drop p table) (present ds)) (dropped es i (k, None) at) ∙ ap (λ j. compared (n + p) (drop p table) (present (drop j es))) (one_more i))
advances n table es p i k (Some v) at le = by (slice_get table p) refl
  where
    due : present (drop i es) ≡ (k, v) ∷ present (drop (suc i) es)
    due = ap present (dropped es i (k, Some v) at)

    by : (o : Option (List ℕ × ℤ)) → slice_get table p ≡ o → Advances n table es p i (cond (is_row o k v) (Some (p + 1)) None)
    by None past = ap (λ rows. compared (n + p) rows (present (drop i es))) (dropped_past table p past) ∙ ap (compared (n + p) []) due
    by (Some r) here = again (same_row r (k, v)) refl
      where
        opened : compared_from n table es p i ≡ cond (same_row r (k, v)) (compared (suc (n + p)) (drop (suc p) table) (present (drop (suc i) es))) (No (n + p))
        opened = ap (λ rows. compared (n + p) rows (present (drop i es))) (dropped table p r here) ∙ ap (compared (n + p) (r ∷ drop (suc p) table)) due

        shifted : compared (suc (n + p)) (drop (suc p) table) (present (drop (suc i) es)) ≡ compared_from n table es (p + 1) (i + 1)
        shifted =
            let first : suc (n + p) ≡ n + (p + 1) = omega arith in
            ap (λ m. compared m (drop (suc p) table) (present (drop (suc i) es))) first
            ∙ ap (λ m. compared (n + (p + 1)) (drop m table) (present (drop (suc i) es))) (one_more p)
            ∙ ap (λ m. compared (n + (p + 1)) (drop (p + 1) table) (present (drop m es))) (one_more i)

        again : (b : Bool) → same_row r (k, v) ≡ b → Advances n table es p i (cond b (Some (p + 1)) None)
        again true e =
            let within = slice_get_within table p r here in
            (omega (arith, within), opened ∙ ap (λ b. cond b (compared (suc (n + p)) (drop (suc p) table) (present (drop (suc i) es))) (No (n + p))) e ∙ shifted)
        again false e = opened ∙ ap (λ b. cond b (compared (suc (n + p)) (drop (suc p) table) (present (drop (suc i) es))) (No (n + p))) e

-- from the first row and the first key
pub compared_first : (n : ℕ) (table : Rows) (es : Values) → compared n table (present es) ≡ compared_from n table es 0 0
compared_first n table es = let same : n ≡ n + 0 = omega arith in ap (λ m. compared m table (present es)) same

-- behind the last key: all rows were due, or one is too many
pub compared_last : (n : ℕ) (table : Rows) (es : Values) (p i : ℕ) → length es ≤ i → length table ≤ p → compared_from n table es p i ≡ Yes
compared_last n table es p i none all =
    ap (λ ds. compared (n + p) (drop p table) (present ds)) (dropped_all es i none) ∙ ap (λ rows. compared (n + p) rows []) (dropped_all table p all)

pub compared_more : (n : ℕ) (table : Rows) (es : Values) (p i : ℕ) → length es ≤ i → p < length table → compared_from n table es p i ≡ No (n + p)
compared_more n table es p i none less =
    let w = dropped_some table p less in
    ap (λ ds. compared (n + p) (drop p table) (present ds)) (dropped_all es i none) ∙ ap (λ rows. compared (n + p) rows []) w.1

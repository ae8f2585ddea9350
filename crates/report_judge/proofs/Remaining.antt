-- The rows that are due: keys in order, those that have values.
use Rattle.std.proofs.Common.{◌≡◌, ℕ, ℤ, suc, ◌+◌, ◌-◌, Bool, true, false, cond, List, [], ◌∷◌, length, map, reverse, get_or, Option, Some, None, refl, sym, ap, subst, ◌∙◌, true≢false, arith}
use Rattle.std.specs.Prelude.{slice_get}
use Rattle.std.specs.List.{AllByRecursion, IsDistinct}
use Rattle.std.specs.List.Sorted.{IsSorted}
use Rattle.std.specs.Map.{keys_of, lookup}
use Rattle.std.specs.Ordering.{nat_cmp, is_lt, is_eq}
use Rattle.std.specs.Cmp.Lexicographic.{slice_cmp, nat_list_eq_equiv, texts_ties}
use Rattle.std.specs.declared.cmp.Ordering.TheVariants.{Less}
use Rattle.std.proofs.lemmas.List.{reverse-reverse}
use Rattle.txn_names.specs.Path.{label_eq}
use Rattle.txn_names.proofs.Exports.{same_label}
use Rattle.serial_spec.specs.Rows.{AreRisingKeys, IsRising, Rows, value_in}
use Rattle.serial_spec.specs.Serial.{Map}
use Rattle.serial_spec.proofs.Exports.{above_all, none_above, on_ordering, turned}
use Rattle.report_check.specs.Passing.{Read, Ended}
use Rattle.report_check.specs.Serving.{least, map_behind, wrong_lines}
use Rattle.report_check.specs.Verdicts.{IsRun, compared, first_wrong, served}
use Rattle.report_check.specs.declared.verdict.Verdict.{Verdict}
use Rattle.report_check.specs.declared.verdict.Verdict.TheVariants.{No}
use Rattle.report_tables.specs.Chained.{Leads}
use Rattle.report_tables.specs.Served.{AreServed}
use Rattle.report_tables.specs.Valued.{Values, joined, present, value_at, with_present}
use Rattle.report_tables.specs.declared.chains.Chain.{Chain}
use Rattle.report_judge.specs.Judging.{IsComparedBy}
use Rattle.report_judge.specs.Kept.{IsKept, IsSeen, known, line_of}
use Rattle.report_judge.specs.declared.seen.Seen.{Seen}

-- ---- keys in order

sorted_tail : (k : List ℕ) (ks : List (List ℕ)) → IsSorted (slice_cmp nat_cmp) (k ∷ ks) → IsSorted (slice_cmp nat_cmp) ks
sorted_tail k ks sorted n d low high =
    let next : suc n + 1 ≡ suc (n + 1) = omega arith in
    subst (λ m. is_lt (slice_cmp nat_cmp (get_or (k ∷ ks) m d) (get_or (k ∷ ks) (suc n) d)) ≡ false) next (sorted (suc n) d (omega arith) (omega (arith, high)))

sorted_head : (k q : List ℕ) (ks : List (List ℕ)) → IsSorted (slice_cmp nat_cmp) (k ∷ q ∷ ks) → is_lt (slice_cmp nat_cmp q k) ≡ false
sorted_head k q ks sorted = sorted 0 k (omega arith) (omega arith)

pub rising_keys : (ks : List (List ℕ)) → IsSorted (slice_cmp nat_cmp) ks → IsDistinct label_eq ks → AreRisingKeys ks
unfolding IsDistinct
rising_keys [] sorted distinct = tt
rising_keys (k ∷ []) sorted distinct = (tt, tt)
rising_keys (k ∷ q ∷ ks) sorted distinct =
    let rest = rising_keys (q ∷ ks) (sorted_tail k (q ∷ ks) sorted) distinct.1 in
    let step : slice_cmp nat_cmp k q ≡ Less = on_ordering (slice_cmp nat_cmp k q) (λ o. slice_cmp nat_cmp k q ≡ o → o ≡ Less) (λ _ _. refl)
    (λ _ e. absurd (true≢false (sym (texts_ties k q ∙ ap is_eq e) ∙ distinct.0.0)))
    (λ _ e. absurd (true≢false (sym (ap is_lt (turned k q e)) ∙ sorted_head k q ks sorted))) refl in
    ((step, above_all k q ks step rest.0), rest)

-- ---- those that have values

all_present : (P : List ℕ → Type 0) (es : Values) → AllByRecursion P (keys_of es) → AllByRecursion P (map (λ r. r.0) (present es))
all_present P [] all = tt
all_present P (e ∷ es) all = by e.1 (all_present P es all.1)
  where
    by : (o : Option ℤ) → AllByRecursion P (map (λ r. r.0) (present es)) → AllByRecursion P (map (λ r. r.0) (with_present e.0 o (present es)))
    by None rest = rest
    by (Some v) rest = (all.0, rest)

pub rising_present : (es : Values) → AreRisingKeys (keys_of es) → IsRising (present es)
rising_present [] rising = tt
rising_present (e ∷ es) rising = by e.1 (rising_present es rising.1)
  where
    by : (o : Option ℤ) → IsRising (present es) → IsRising (with_present e.0 o (present es))
    by None rest = rest
    by (Some v) rest = (all_present (λ q. slice_cmp nat_cmp e.0 q ≡ Less) es rising.0, rest)

pub value_present : (es : Values) (k : List ℕ) → AreRisingKeys (keys_of es) → value_in (present es) k ≡ value_at es k
value_present [] k rising = refl
value_present (e ∷ es) k rising = by e.1 (label_eq k e.0) refl (value_present es k rising.1)
  where
    by : (o : Option ℤ) (b : Bool) → label_eq k e.0 ≡ b → value_in (present es) k ≡ value_at es k → value_in (with_present e.0 o (present es)) k ≡ joined (cond b (Some o) (lookup (label_eq k) es))
    by None true t rest =
        ap (value_in (present es)) (same_label k e.0 t) ∙ none_above e.0 (present es) (all_present (λ q. slice_cmp nat_cmp e.0 q ≡ Less) es rising.0)
    by None false t rest = rest
    by (Some v) true t rest = ap (λ c. cond c (Some v) (value_in (present es) k)) (nat_list_eq_equiv.symm e.0 k ∙ t)
    by (Some v) false t rest = ap (λ c. cond c (Some v) (value_in (present es) k)) (nat_list_eq_equiv.symm e.0 k ∙ t) ∙ rest

-- ---- the second and the third pass

pub compared_by : (es fs : Values) (table : Rows) (n m : ℕ) (v : Verdict) → IsSorted (slice_cmp nat_cmp) (keys_of fs) → IsDistinct label_eq (keys_of fs)
    → ((k : List ℕ) → lookup (label_eq k) fs ≡ lookup (label_eq k) es) → m ≡ n → v ≡ compared m table (present fs) → IsComparedBy es table n v
compared_by es fs table n m v sorted distinct same at is =
    let rising = rising_keys (keys_of fs) sorted distinct in
    record {
      due = present fs;
      rising = rising_present fs rising;
      left = λ k. value_present fs k rising ∙ ap joined (same k);
      verdict = is ∙ ap (λ l. compared l table (present fs)) at;
    }

-- the root's chain
pub root_leads : (r : Read) (s : Seen) → IsKept r s → (c : Chain) × (slice_get s.transactions.chains.items 0 ≡ Some c)
    × Leads s.transactions.accesses.items (known s) c.first None c.last (reverse (served r))
root_leads r s kept = by s.transactions.chains.items refl
  where
    by : (cs : List Chain) → s.transactions.chains.items ≡ cs → (c : Chain) × (slice_get s.transactions.chains.items 0 ≡ Some c)
        × Leads s.transactions.accesses.items (known s) c.first None c.last (reverse (served r))
    by [] e = let level = kept.transactions.in_chains.level in absurd (omega (arith, level, ap (λ (xs : List Chain). length xs) e))
    by (c ∷ cs) e =
        let at : slice_get s.transactions.chains.items 0 ≡ Some c = ap (λ xs. slice_get xs 0) e in
        (c, at, kept.transactions.in_chains.each 0 [] c refl at refl)

module _ (r : Read) (s : Seen) (kept : IsKept r s) (new : Values) (wrong : Option ℕ) (served_all : AreServed (reverse (served r)) s.values.entries new wrong) where
  opening_map : value_at s.values.entries ≡ value_in r.opening
  opening_map = λ i k. kept.values k i

  pub wrong_is : wrong ≡ first_wrong r
  wrong_is =
      served_all.wrong_line ∙ ap (λ xs. least (wrong_lines (value_at s.values.entries) xs)) (reverse-reverse (served r))
      ∙ ap (λ (m : Map). least (wrong_lines m (served r))) opening_map

  pub left_is : value_at new ≡ map_behind (value_in r.opening) (served r)
  left_is = served_all.values ∙ ap (map_behind (value_at s.values.entries)) (reverse-reverse (served r)) ∙ ap (λ (m : Map). map_behind m (served r)) opening_map

  -- a reply was wrong
  pub run_wrong : (n : ℕ) → wrong ≡ Some n → IsRun r (first_wrong r) (No n)
  run_wrong n e = subst (λ (o : Option ℕ). IsRun r o (No n)) (sym e ∙ wrong_is) refl

  -- none was
  pub run_right : (after : ℕ) (v : Verdict) → wrong ≡ None → r.part ≡ Ended → after ≡ line_of r → IsComparedBy new s.table.items (after - (1 + length s.table.items)) v → IsRun r (first_wrong r) v
  run_right after v e ended at by = subst (λ (o : Option ℕ). IsRun r o v) (sym e ∙ wrong_is) (record {
    due = by.due;
    rising = by.rising;
    left = (λ i k. by.left k i) ∙ left_is;
    verdict = by.verdict ∙ ap (λ rows. compared (after - (1 + length s.table.items)) rows by.due) kept.table ∙ ap (λ n. compared n r.table by.due) first;
  })
    where
      first : after - (1 + length s.table.items) ≡ 3 + length r.opening + length r.history
      first =
          let line : after ≡ 4 + length r.opening + length r.history + length r.table = at ∙ ap (λ q. Rattle.report_judge.specs.Kept.lines_before q + length r.opening + length r.history + length r.table) ended in
          omega (arith, line, ap (λ (rows : Rows). length rows) kept.table)

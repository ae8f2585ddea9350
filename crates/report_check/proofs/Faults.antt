-- What a verdict of no says: that no text that begins so is a report, or that the transactions are no serial run to the final rows.
use Rattle.std.proofs.Common.{◌≡◌, ℕ, suc, ◌+◌, ◌<◌, ◌≤◌, List, [], ◌∷◌, ◌++◌, length, false, cond, eqb, Option, Some, None, Result, Ok, Err, refl, sym, ap, ◌∙◌, subst, arith, append_assoc}
use Rattle.std.specs.Prelude.{◌&&◌}
use Rattle.std.specs.List.{AllByRecursion, list_any}
use Rattle.std.specs.Option.{ok_or}
use Rattle.std.specs.Ordering.{int_eq}
use Rattle.std.proofs.lemmas.Bool.{and_from, not_from_false, or_parts}
use Rattle.std.proofs.lemmas.Bool.Decides.{Decides-int_eq}
use Rattle.txn_names.specs.Path.{label_eq}
use Rattle.txn_names.proofs.Exports.{label_eq_self, on_test}
use Rattle.line_language.specs.Report.{line}
use Rattle.serial_spec.specs.Rows.{Rows, value_in}
use Rattle.line_language.specs.Steps as steps
use Rattle.line_language.specs.Words.{cut_at}
use Rattle.line_language.proofs.Exports.{Lacks, cut_behind, cut_some}
use Rattle.report_check.specs.Laws.{FaultsStay, ServedIsAccepted, ended_lines}
use Rattle.report_check.specs.Passing.{Read, has_ended, next, read_from, unread}
use Rattle.report_check.specs.Verdicts.{IsJudged, IsRun, compared}
use Rattle.report_check.specs.declared.verdict.Verdict.TheVariants.{Yes, No}
use Rattle.report_check.proofs.Served.{accesses_are_items}
use Rattle.report_check.proofs.Sound.{read_done}

-- ---- the first pass

same_err : (m n : ℕ) → ◌≡◌ {A = Result Read ℕ} (Err m) (Err n) → m ≡ n
same_err m n h = cc

-- a fault is in one of the lines that are read
later : (n j : ℕ) (r : Read) (ps : List (List ℕ)) → read_from n r ps ≡ Err j → n ≤ j
later n j r [] h = omega (arith, same_err n j h)
later n j r (p ∷ []) h = on_test (eqb (length p) 0 && has_ended r.part) (λ b. ◌≡◌ {A = Result Read ℕ} (cond b (Ok r) (Err n)) (Err j) → n ≤ j) (λ _ e. cc) (λ _ e. omega (arith, same_err n j e)) h
later n j r (p ∷ q ∷ ps) h = by (next r p) (λ s e. later (n + 1) j s (q ∷ ps) e) h
  where
    by : (o : Option Read) → ((s : Read) → read_from (n + 1) s (q ∷ ps) ≡ Err j → n + 1 ≤ j) → steps.◌>>=◌ (ok_or o n) (λ more. read_from (n + 1) more (q ∷ ps)) ≡ Err j → n ≤ j
    by (Some s) rest e = omega (arith, rest s e)
    by None rest e = omega (arith, same_err n j e)

-- so what stands behind its line is no matter
stays : (n j : ℕ) (r : Read) (ps : List (List ℕ)) (q t : List ℕ) (qs ts : List (List ℕ)) → read_from n r (ps ++ q ∷ qs) ≡ Err j → j < n + length ps → read_from n r (ps ++ t ∷ ts) ≡ Err j
stays n j r [] q t qs ts h lt = absurd (omega (arith, later n j r (q ∷ qs) h, lt))
stays n j r (p ∷ []) q t qs ts h lt = by (next r p) h
  where
    by : (o : Option Read) → steps.◌>>=◌ (ok_or o n) (λ more. read_from (n + 1) more (q ∷ qs)) ≡ Err j → steps.◌>>=◌ (ok_or o n) (λ more. read_from (n + 1) more (t ∷ ts)) ≡ Err j
    by (Some s) e = absurd (omega (arith, later (n + 1) j s (q ∷ qs) e, lt))
    by None e = e
stays n j r (p ∷ u ∷ ps) q t qs ts h lt = by (next r p) (λ s e. stays (n + 1) j s (u ∷ ps) q t qs ts e (omega (arith, lt))) h
  where
    by : (o : Option Read) → ((s : Read) → read_from (n + 1) s (u ∷ (ps ++ q ∷ qs)) ≡ Err j → read_from (n + 1) s (u ∷ (ps ++ t ∷ ts)) ≡ Err j)
        → steps.◌>>=◌ (ok_or o n) (λ more. read_from (n + 1) more (u ∷ (ps ++ q ∷ qs))) ≡ Err j → steps.◌>>=◌ (ok_or o n) (λ more. read_from (n + 1) more (u ∷ (ps ++ t ∷ ts))) ≡ Err j
    by (Some s) rest e = rest s e
    by None rest e = e

lacks : (p : List ℕ) → list_any (λ b. eqb b 10) p ≡ false → Lacks 10 p
lacks [] h = refl
lacks (b ∷ p) h = let q = or_parts (eqb b 10) (list_any (λ c. eqb c 10) p) h in and_from _ _ (not_from_false (eqb b 10) q.0) (lacks p q.1)

cut_ended : (ps : List (List ℕ)) (rest : List ℕ) → AllByRecursion (λ p. list_any (λ b. eqb b 10) p ≡ false) ps → cut_at 10 (ended_lines ps ++ rest) ≡ ps ++ cut_at 10 rest
cut_ended [] rest all = refl
cut_ended (p ∷ ps) rest all =
    ap (cut_at 10) (append_assoc (line p) (ended_lines ps) rest ∙ append_assoc p (10 ∷ []) (ended_lines ps ++ rest))
    ∙ cut_behind 10 p (ended_lines ps ++ rest) (lacks p all.0) ∙ ap (λ qs. p ∷ qs) (cut_ended ps rest all.1)

pub faults_stay : FaultsStay
faults_stay ps rest other n all h le =
    let q = cut_some 10 rest in
    let t = cut_some 10 other in
    let before = ap (read_from 1 unread) (sym (cut_ended ps rest all ∙ ap (λ qs. ps ++ qs) q.2)) ∙ h in
    let behind = ap (read_from 1 unread) (cut_ended ps other all ∙ ap (λ qs. ps ++ qs) t.2) ∙ stays 1 n unread ps q.0 t.0 q.1 t.1 before (omega (arith, le)) in
    subst (λ j. IsJudged j (No n)) (sym behind) refl

-- ---- the others

pub same_table : (n : ℕ) (rows : Rows) → Yes ≡ compared n rows rows
same_table n [] = refl
same_table n (r ∷ rows) =
    same_table (suc n) rows ∙ sym (ap (λ b. cond b (compared (suc n) rows rows) (No n)) (and_from (label_eq r.0 r.0) (int_eq r.1 r.1) (label_eq_self r.0) ((Decides-int_eq r.1 r.1).1 refl)))

pub served_is_accepted : ServedIsAccepted
served_is_accepted bs r e runs =
    let law = accesses_are_items (1 + length r.opening) r.history [] (value_in r.opening) in
    subst (λ j. IsJudged j Yes) (sym e) (subst (λ o. IsRun r o Yes) (sym (law.1.1 runs.0))
    (record { due = r.table; rising = (read_done bs r e).kept.last; left = sym runs.1 ∙ sym law.0; verdict = same_table (3 + length r.opening + length r.history) r.table }))

-- Lines: which of them are too long, and how reading goes on behind one.
use Rattle.std.proofs.Common.{◌≡◌, ℕ, ℤ, pos, negsuc, suc, ◌+◌, ◌*◌, ◌^◌, ◌<◌, ◌≤◌, Bool, true, false, cond, ◌&&◌, List, [], ◌∷◌, ◌++◌, length, Option, Some, None, is_some, unwrap_or, Result, Ok, Err, ◌⊎◌, inl, inr, refl, sym, ap, subst, ◌∙◌, true≢false, arith, lit<, length-append, append_assoc}
use Rattle.std.specs.Prelude.{codes, decimal, nat_eq}
use Rattle.std.specs.Option.{ok_or}
use Rattle.std.specs.Str.{bytes_eq}
use Rattle.std.proofs.lemmas.Bool.{and_from, false_from_ne_true, ltb-true, ne_eqb, not_from_false, eqb-true}
use Rattle.std.proofs.lemmas.Slice.Eq.{bytes_eq-Decides}
use Rattle.line_language.specs.Printing.{spelled_number}
use Rattle.line_language.specs.Steps.{◌>>=◌}
use Rattle.line_language.specs.Words.{before, behind, cut_at}
use Rattle.line_language.proofs.Exports.{Lacks-append, cut_behind, cut_lacking, cut_some, pick, entry_short, length-number, entries_read_back, rows_read_back}
use Rattle.line_language.specs.Reading.{entry_of, row_of}
use Rattle.line_language.specs.declared.entry.ReportEntry.{ReportEntry}
use Rattle.line_language.specs.declared.entry.ReportEntry.TheVariants as told
use Rattle.report_check.specs.Passing.{Part, Start, Opening, Entries, Final, Ended, Read, at_part, entry_in, entry_next, final_next, has_ended, may_add_row, may_end, may_follow, middle_next, next, next_at, opening_next, read_from, with_entry, with_opening, with_row}
use Rattle.report_judge.specs.Judging.{IsLine}
use Rattle.report_judge.specs.Kept.{line_of, lines_before}

same_read : (r s : Read) → Some r ≡ Some s → r ≡ s
same_read r s e = ap (λ o. unwrap_or o r) e

no_read : {P : Type 0} (s : Read) → ◌≡◌ {A = Option Read} None (Some s) → P
no_read s e = absurd (true≢false (sym (ap is_some e)))

-- ---- the next line has the next number

abbrev after : Part → Read → ℕ
after q r = (lines_before q + length r.opening + length r.history + length r.table) + 1

counts : (q : Part) (r s x : Read) → Some x ≡ Some s → line_of x ≡ after q r → line_of s ≡ after q r
counts q r s x e is = subst (λ (z : Read). line_of z ≡ after q r) (same_read x s e) is

entry_counts : (r s : Read) (n : ℕ) (o : Option ReportEntry) → n ≡ 2 → entry_next r o ≡ Some s → line_of s ≡ (n + length r.opening + length r.history + length r.table) + 1
entry_counts r s n None two h = no_read s h
entry_counts r s n (Some x) two h =
    pick (may_follow r.history (entry_in r.labels x)) (Some (with_entry r x)) None (Some s) h
    (λ _ e. subst (λ (z : Read). line_of z ≡ (n + length r.opening + length r.history + length r.table) + 1) (same_read (with_entry r x) s e) (omega (arith, two))) (λ _ e. no_read s e)

middle_counts : (r s : Read) (p : List ℕ) (n : ℕ) → n ≡ 2 → middle_next r p ≡ Some s → line_of s ≡ (n + length r.opening + length r.history + length r.table) + 1
middle_counts r s p n two h =
    pick (bytes_eq p (codes "table")) (cond (may_end r) (Some (at_part Final r)) None) (entry_next r (entry_of p)) (Some s) h
    (λ _ g. pick (may_end r) (Some (at_part Final r)) None (Some s) g
    (λ _ e. subst (λ (z : Read). line_of z ≡ (n + length r.opening + length r.history + length r.table) + 1) (same_read (at_part Final r) s e) (omega (arith, two))) (λ _ e. no_read s e))
    (λ _ g. entry_counts r s n (entry_of p) two g)

opening_counts : (r s : Read) (p : List ℕ) (o : Option (List ℕ × ℤ)) → opening_next r p o ≡ Some s → line_of s ≡ after Opening r
opening_counts r s p None h = middle_counts r s p 2 refl h
opening_counts r s p (Some row) h =
    pick (may_add_row r.opening row.0) (Some (with_opening r row)) None (Some s) h
    (λ _ e. counts Opening r s (with_opening r row) e (omega (arith, length-append r.opening (row ∷ [])))) (λ _ e. no_read s e)

final_counts : (r s : Read) (o : Option (List ℕ × ℤ)) → final_next r o ≡ Some s → line_of s ≡ after Final r
final_counts r s None h = no_read s h
final_counts r s (Some row) h =
    pick (may_add_row r.table row.0) (Some (with_row r row)) None (Some s) h
    (λ _ e. counts Final r s (with_row r row) e (omega (arith, length-append r.table (row ∷ [])))) (λ _ e. no_read s e)

next_counts : (q : Part) (r s : Read) (p : List ℕ) → next_at q r p ≡ Some s → line_of s ≡ after q r
next_counts Start r s p h =
    pick (bytes_eq p (codes "open")) (Some (at_part Opening r)) None (Some s) h (λ _ e. counts Start r s (at_part Opening r) e (omega arith)) (λ _ e. no_read s e)
next_counts Opening r s p h = opening_counts r s p (row_of p) h
next_counts Entries r s p h = middle_counts r s p 2 refl h
next_counts Final r s p h =
    pick (bytes_eq p (codes "end")) (Some (at_part Ended r)) (final_next r (row_of p)) (Some s) h
    (λ _ e. counts Final r s (at_part Ended r) e (omega arith)) (λ _ g. final_counts r s (row_of p) g)
next_counts Ended r s p h = no_read s h

pub next_line : (r s : Read) (p : List ℕ) → next r p ≡ Some s → line_of s ≡ line_of r + 1
next_line r s p h = next_counts r.part r s p h

-- ---- no line of a report is longer than the longest entry

module _ (w : List ℕ) (long : 633 < length w) where
  long_word : (v : List ℕ) → length v ≤ 633 → bytes_eq w v ≡ false
  long_word v short = false_from_ne_true _ (λ e. let same = ap (λ (xs : List ℕ). length xs) ((bytes_eq-Decides w v).0 e) in omega (arith, long, short, same))

  long_entry : entry_of w ≡ None
  long_entry = by (entry_of w) refl
    where
      by : (o : Option ReportEntry) → entry_of w ≡ o → o ≡ None
      by None e = refl
      by (Some x) e =
          let read = (entries_read_back w x).0 e in
          absurd (omega (arith, long, entry_short x read.0, ap (λ (xs : List ℕ). length xs) read.1))

  long_row : row_of w ≡ None
  long_row = by (row_of w) refl
    where
      by : (o : Option (List ℕ × ℤ)) → row_of w ≡ o → o ≡ None
      by None e = refl
      by (Some row) e =
          let read = (rows_read_back w row.0 row.1).0 e in
          absurd (omega (
            arith,
            long,
            read.0.short,
            length-number row.1 read.1,
            ap (λ (xs : List ℕ). length xs) read.2,
            length-append {A = ℕ} (row.0 ++ codes "=") (spelled_number row.1),
            length-append {A = ℕ} row.0 (codes "="),
          ))

  long_middle : (r : Read) → middle_next r w ≡ None
  long_middle r =
      ap (λ b. cond b (cond (may_end r) (Some (at_part Final r)) None) (entry_next r (entry_of w))) (long_word (codes "table") (omega arith)) ∙ ap (entry_next r) long_entry

  long_at : (q : Part) (r : Read) → next_at q r w ≡ None
  long_at Start r = ap (λ b. cond b (Some (at_part Opening r)) None) (long_word (codes "open") (omega arith))
  long_at Opening r = ap (opening_next r w) long_row ∙ long_middle r
  long_at Entries r = long_middle r
  long_at Final r = ap (λ b. cond b (Some (at_part Ended r)) (final_next r (row_of w))) (long_word (codes "end") (omega arith)) ∙ ap (final_next r) long_row
  long_at Ended r = refl

  pub too_long : (r : Read) → next r w ≡ None
  too_long r = long_at r.part r

-- ---- behind a line

-- what comes of a line, and of what stands behind it
abbrev then : ℕ → Option Read → List ℕ → List (List ℕ) → Result Read ℕ
then n None q qs = Err n
then n (Some x) q qs = read_from (n + 1) x (q ∷ qs)

read_then : (n : ℕ) (r : Read) (p q : List ℕ) (qs : List (List ℕ)) (o : Option Read) → next r p ≡ o → read_from n r (p ∷ q ∷ qs) ≡ then n o q qs
read_then n r p q qs o e = ap (λ x. ok_or x n >>= (λ more. read_from (n + 1) more (q ∷ qs))) e ∙ by o
  where
    by : (x : Option Read) → (ok_or x n >>= (λ more. read_from (n + 1) more (q ∷ qs))) ≡ then n x q qs
    by None = refl
    by (Some y) = refl

pub line_read : (n : ℕ) (r s : Read) (p rest : List ℕ) → IsLine p → next r p ≡ Some s → read_from n r (cut_at 10 (p ++ 10 ∷ rest)) ≡ read_from (n + 1) s (cut_at 10 rest)
line_read n r s p rest line reads =
    let some = cut_some 10 rest in
    ap (read_from n r) (cut_behind 10 p rest line ∙ ap (λ ps. p ∷ ps) some.2) ∙ read_then n r p some.0 some.1 (Some s) reads ∙ ap (read_from (n + 1) s) (sym some.2)

pub line_faulty : (n : ℕ) (r : Read) (p rest : List ℕ) → IsLine p → next r p ≡ None → read_from n r (cut_at 10 (p ++ 10 ∷ rest)) ≡ Err n
line_faulty n r p rest line reads =
    let some = cut_some 10 rest in
    ap (read_from n r) (cut_behind 10 p rest line ∙ ap (λ ps. p ∷ ps) some.2) ∙ read_then n r p some.0 some.1 None reads

-- ---- bytes that are more than a line may have

-- bytes are a line so far, or have one in front
pub record IsSplit (bs : List ℕ) : Type 0 where
  pub front : List ℕ
  pub behind : List ℕ
  pub is : bs ≡ front ++ 10 ∷ behind
  pub line : IsLine front

pub split : (bs : List ℕ) → IsLine bs ⊎ IsSplit bs
split [] = inl refl
split (b ∷ bs) = by (nat_eq b 10) refl (split bs)
  where
    by : (t : Bool) → nat_eq b 10 ≡ t → IsLine bs ⊎ IsSplit bs → IsLine (b ∷ bs) ⊎ IsSplit (b ∷ bs)
    by true e more = inr (record { front = []; behind = bs; is = ap (λ x. x ∷ bs) (eqb-true b 10 e); line = refl })
    by false e (inl line) = inl (and_from _ _ (not_from_false (nat_eq b 10) e) line)
    by false e (inr s) = inr (record { front = b ∷ s.front; behind = s.behind; is = ap (λ xs. b ∷ xs) s.is; line = and_from _ _ (not_from_false (nat_eq b 10) e) s.line })

some_bytes : (xs : List ℕ) → 0 < length xs → nat_eq (length xs) 0 ≡ false
some_bytes xs h = ne_eqb (length xs) 0 (λ e. omega (arith, e, h))

pub long_faulty : (n : ℕ) (r : Read) (p rest : List ℕ) → IsLine p → 633 < length p → read_from n r (cut_at 10 (p ++ rest)) ≡ Err n
long_faulty n r p rest line long = by (split rest)
  where
    by : IsLine rest ⊎ IsSplit rest → read_from n r (cut_at 10 (p ++ rest)) ≡ Err n
    by (inl whole) =
        let more = length-append p rest in
        ap (read_from n r) (cut_lacking 10 (p ++ rest) (Lacks-append 10 p rest line whole))
        ∙ ap (λ b. cond (b && has_ended r.part) (Ok r) (Err n)) (some_bytes (p ++ rest) (omega (arith, long, more)))
    by (inr s) =
        let more = length-append p s.front in
        ap (λ xs. read_from n r (cut_at 10 (p ++ xs))) s.is
        ∙ ap (λ xs. read_from n r (cut_at 10 xs)) (sym (append_assoc p s.front (10 ∷ s.behind)))
        ∙ line_faulty n r (p ++ s.front) s.behind (Lacks-append 10 p s.front line s.line) (too_long (p ++ s.front) (omega (arith, long, more)) r)

-- ---- a line that is cut off

pub cut_line : (bs rest : List ℕ) → behind 10 bs ≡ Some rest → (bs ≡ before 10 bs ++ 10 ∷ rest) × IsLine (before 10 bs)
cut_line [] rest e = absurd (true≢false (sym (ap is_some e)))
cut_line (b ∷ bs) rest e = by (nat_eq b 10) refl e (cut_line bs rest)
  where
    by : (t : Bool) → nat_eq b 10 ≡ t → cond t (Some bs) (behind 10 bs) ≡ Some rest → (behind 10 bs ≡ Some rest → (bs ≡ before 10 bs ++ 10 ∷ rest) × IsLine (before 10 bs))
        → (b ∷ bs ≡ cond t [] (b ∷ before 10 bs) ++ 10 ∷ rest) × IsLine (cond t [] (b ∷ before 10 bs))
    by true t f more =
        let same : bs ≡ rest = ap (λ o. unwrap_or o bs) f in
        ((λ i. eqb-true b 10 t i ∷ same i), refl)
    by false t f more = let w = more f in (ap (λ xs. b ∷ xs) w.0, and_from _ _ (not_from_false (nat_eq b 10) t) w.1)

pub cut_none : (bs : List ℕ) → behind 10 bs ≡ None → IsLine bs
cut_none [] e = refl
cut_none (b ∷ bs) e = by (nat_eq b 10) refl e (cut_none bs)
  where
    by : (t : Bool) → nat_eq b 10 ≡ t → cond t (Some bs) (behind 10 bs) ≡ None → (behind 10 bs ≡ None → IsLine bs) → IsLine (b ∷ bs)
    by true t f more = absurd (true≢false (ap is_some f))
    by false t f more = and_from _ _ (not_from_false (nat_eq b 10) t) (more f)

-- the report ends with the line feed behind `end`
pub read_last : (n : ℕ) (r : Read) (p : List ℕ) → IsLine p → read_from n r (cut_at 10 (p ++ [])) ≡ cond (nat_eq (length p) 0 && has_ended r.part) (Ok r) (Err n)
read_last n r p line = ap (λ xs. read_from n r (cut_at 10 xs)) (append_none p) ∙ ap (read_from n r) (cut_lacking 10 p line)
  where
    append_none : (xs : List ℕ) → xs ++ [] ≡ xs
    append_none [] = refl
    append_none (x ∷ xs) = ap (λ ys. x ∷ ys) (append_none xs)

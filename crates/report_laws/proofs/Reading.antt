-- The lines of a report are read one after another.
use Rattle.std.proofs.Common.{◌≡◌, ℕ, ℤ, pos, negsuc, suc, ◌+◌, ◌<◌, ◌≤◌, ◌^◌, List, [], ◌∷◌, ◌++◌, length, true, false, cond, Option, Some, None, refl, sym, ap, ◌∙◌, subst, arith, append_assoc, append-nil, length-append}
use Rattle.std.specs.Prelude.{codes, decimal, map}
use Rattle.std.specs.List.{AllByRecursion}
use Rattle.std.specs.Option.{ok_or}
use Rattle.std.specs.Result.{result_ok}
use Rattle.std.specs.Str.{bytes_eq}
use Rattle.std.specs.Ordering.{is_lt}
use Rattle.std.proofs.lemmas.Bool.{and_from, lt-ltb, ltb-true}
use Rattle.txn_names.specs.Text.{IsKey, is_key_byte}
use Rattle.txn_names.specs.Reading.{label_of}
use Rattle.txn_names.proofs.Exports.{on_test}
use Rattle.serial_spec.specs.declared.limits.TheConstants.{MOST_ROWS}
use Rattle.serial_spec.specs.Operations.{is_i64}
use Rattle.line_language.specs.Printing.{spelled_number}
use Rattle.serial_spec.specs.Rows.{IsRising, Rows}
use Rattle.line_language.specs.Words.{before, behind}
use Rattle.line_language.specs.Steps as steps
use Rattle.line_language.proofs.Exports.{Lacks, Lacks-append, Lacks-from_all, is_word, IsGap, decimal_lacks, space, before_lacking, rows_read_back}
use Rattle.line_language.specs.Numbers.{number_of}
use Rattle.line_language.specs.Reading.{◌>>=◌, abort_of, count_of, entry_of, line_entry_of, row_of, star_entry_of, told_of}
use Rattle.line_language.specs.declared.entry.ReportEntry.{ReportEntry}
use Rattle.report_check.specs.Passing.{Part, Start, Opening, Entries, Final, Ended, Read, at_part, entry_in, entry_next, final_next, is_past, may_add_row, may_end, may_follow, middle_next, next, next_at, opening_next, read_from, with_entry}
use Rattle.report_laws.specs.Whole.{IsRow}

some_none : {X : Type 0} (x : X) → Some x ≡ None → ⊥
some_none x e = cc

-- ---- from one state to another

-- these lines lead from the first state to the second, whatever follows them
pub record Leads (r : Read) (ps : List (List ℕ)) (s : Read) : Type 0 where
  pub goes : (n : ℕ) (rest : List (List ℕ)) → 0 < length rest → (m : ℕ) × (read_from n r (ps ++ rest) ≡ read_from m s rest)

pub leads_none : (r : Read) → Leads r [] r
leads_none r = record { goes = λ n rest some. (n, refl) }

one_line : (n : ℕ) (r s : Read) (p : List ℕ) (rest : List (List ℕ)) → 0 < length rest → next r p ≡ Some s → read_from n r (p ∷ rest) ≡ read_from (n + 1) s rest
one_line n r s p [] some e = absurd (omega (arith, some))
one_line n r s p (q ∷ qs) some e = ap (λ o. steps.◌>>=◌ (ok_or o n) (λ more. read_from (n + 1) more (q ∷ qs))) e

pub leads_one : (r s : Read) (p : List ℕ) → next r p ≡ Some s → Leads r (p ∷ []) s
leads_one r s p e = record { goes = λ n rest some. (n + 1, one_line n r s p rest some e) }

pub leads_both : (r s t : Read) (ps qs : List (List ℕ)) → Leads r ps s → Leads s qs t → Leads r (ps ++ qs) t
leads_both r s t ps qs a b = record {
  goes = λ n rest some.
      let first = a.goes n (qs ++ rest) (omega (arith, some, length-append qs rest)) in
      let second = b.goes first.0 rest some in
      (second.0, ap (read_from n r) (append_assoc ps qs rest) ∙ first.1 ∙ second.1);
}

-- ---- rows

abbrev pub row_text : List ℕ × ℤ → List ℕ
row_text r = r.0 ++ codes "=" ++ spelled_number r.1

pub row_again : (r : List ℕ × ℤ) → IsRow r → row_of (row_text r) ≡ Some r
row_again r is = (rows_read_back (row_text r) r.0 r.1).1 (is.key, is.value, refl)

past : (front : Rows) (r : List ℕ × ℤ) (rest : Rows) → IsRising (front ++ r ∷ rest) → is_past front r.0 ≡ true
past [] r rest rising = refl
past (a ∷ []) r rest rising = ap is_lt rising.0.0
past (a ∷ b ∷ front) r rest rising = past (b ∷ front) r rest rising.1

may_add : (front : Rows) (r : List ℕ × ℤ) (rest : Rows) → IsRising (front ++ r ∷ rest) → length (front ++ r ∷ rest) ≤ MOST_ROWS → may_add_row front r.0 ≡ true
may_add front r rest rising few = and_from _ _ (lt-ltb (length front) MOST_ROWS (omega (arith, few, length-append front (r ∷ rest)))) (past front r rest rising)

more_rows : (front : Rows) (r : List ℕ × ℤ) (rest : Rows) → (front ++ r ∷ []) ++ rest ≡ front ++ r ∷ rest
more_rows front r rest = append_assoc front (r ∷ []) rest

abbrev pub opened : Rows → Read
opened rows = record { part = Opening; opening = rows; labels = []; history = []; table = [] }

open_row : (front : Rows) (r : List ℕ × ℤ) → IsRow r → may_add_row front r.0 ≡ true → next (opened front) (row_text r) ≡ Some (opened (front ++ r ∷ []))
open_row front r is may =
    ap (opening_next (opened front) (row_text r)) (row_again r is) ∙ ap (λ b. cond b (Some (opened (front ++ r ∷ []))) None) may

pub opening_leads : (front rows : Rows) → AllByRecursion IsRow rows → IsRising (front ++ rows) → length (front ++ rows) ≤ MOST_ROWS → Leads (opened front) (map row_text rows) (opened (front ++ rows))
opening_leads front [] all rising few = subst (λ rs. Leads (opened front) [] (opened rs)) (sym (append-nil front)) (leads_none (opened front))
opening_leads front (r ∷ rows) all rising few =
    let same = more_rows front r rows in
    let rest = opening_leads (front ++ r ∷ []) rows all.1 (subst IsRising (sym same) rising) (subst (λ rs. length rs ≤ MOST_ROWS) (sym same) few) in
    leads_both (opened front) (opened (front ++ r ∷ [])) (opened (front ++ r ∷ rows)) (row_text r ∷ []) (map row_text rows)
    (leads_one (opened front) (opened (front ++ r ∷ [])) (row_text r) (open_row front r all.0 (may_add front r rows rising few)))
    (subst (λ rs. Leads (opened (front ++ r ∷ [])) (map row_text rows) (opened rs)) same rest)

-- the final rows

abbrev pub with_table : Read → Rows → Read
with_table r rows = record { part = Final; opening = r.opening; labels = r.labels; history = r.history; table = rows }

not_end : (r : List ℕ × ℤ) → IsRow r → bytes_eq (row_text r) (codes "end") ≡ false
not_end r is = on_test (bytes_eq (row_text r) (codes "end")) (λ b. b ≡ false)
    (λ same. absurd (some_none r (sym (row_again r is) ∙ ap row_of (is_word (row_text r) (codes "end") same)))) (λ _. refl)

final_row : (s : Read) (front : Rows) (r : List ℕ × ℤ) → IsRow r → may_add_row front r.0 ≡ true → next (with_table s front) (row_text r) ≡ Some (with_table s (front ++ r ∷ []))
final_row s front r is may =
    ap (λ b. cond b (Some (at_part Ended (with_table s front))) (final_next (with_table s front) (row_of (row_text r)))) (not_end r is)
    ∙ ap (final_next (with_table s front)) (row_again r is) ∙ ap (λ b. cond b (Some (with_table s (front ++ r ∷ []))) None) may

pub final_leads : (s : Read) (front rows : Rows) → AllByRecursion IsRow rows → IsRising (front ++ rows) → length (front ++ rows) ≤ MOST_ROWS → Leads (with_table s front) (map row_text rows) (with_table s (front ++ rows))
final_leads s front [] all rising few = subst (λ rs. Leads (with_table s front) [] (with_table s rs)) (sym (append-nil front)) (leads_none (with_table s front))
final_leads s front (r ∷ rows) all rising few =
    let same = more_rows front r rows in
    let rest = final_leads s (front ++ r ∷ []) rows all.1 (subst IsRising (sym same) rising) (subst (λ rs. length rs ≤ MOST_ROWS) (sym same) few) in
    leads_both (with_table s front) (with_table s (front ++ r ∷ [])) (with_table s (front ++ r ∷ rows)) (row_text r ∷ []) (map row_text rows)
    (leads_one (with_table s front) (with_table s (front ++ r ∷ [])) (row_text r) (final_row s front r all.0 (may_add front r rows rising few)))
    (subst (λ rs. Leads (with_table s (front ++ r ∷ [])) (map row_text rows) (with_table s rs)) same rest)

-- ---- no bytes are both a row and an entry: an entry has a space

pub number_lacks : (c : ℕ) → IsGap c → (v : ℤ) → is_i64 v ≡ true → Lacks c (spelled_number v)
number_lacks c g (pos n) h = decimal_lacks c g n (omega (arith, ltb-true n (2 ^ 63) h))
number_lacks c g (negsuc n) h =
    Lacks-append c (45 ∷ []) (decimal (suc n)) (Lacks-from_all c is_key_byte g.key (45 ∷ []) refl) (decimal_lacks c g (suc n) (omega (arith, ltb-true n (2 ^ 63) h)))

pub row_lacks : (c : ℕ) → IsGap c → Lacks c (61 ∷ []) → (k : List ℕ) (v : ℤ) → IsKey k → is_i64 v ≡ true → Lacks c (k ++ codes "=" ++ spelled_number v)
row_lacks c g sign k v key value = Lacks-append c (k ++ codes "=") (spelled_number v) (Lacks-append c k (61 ∷ []) (Lacks-from_all c is_key_byte g.key k key.plain) sign) (number_lacks c g v value)

no_entry : (bs : List ℕ) → behind 32 bs ≡ None → entry_of bs ≡ None
no_entry bs none = on_test (bytes_eq (before 32 bs) (codes "*")) (λ b. cond b (star_entry_of bs) (line_entry_of bs) ≡ None)
    (λ _. no_rest (behind 32 bs) abort_of none) (λ _. by (result_ok (label_of (before 32 bs))))
  where
    no_rest : (o : Option (List ℕ)) (f : List ℕ → Option ReportEntry) → o ≡ None → (o >>= f) ≡ None
    no_rest None f h = refl
    no_rest (Some x) f h = cc

    by : (o : Option (List ℕ)) → (o >>= λ l. behind 32 bs >>= λ r. number_of (before 32 r) >>= λ z. count_of z >>= λ n. behind 32 r >>= λ t. told_of l n t) ≡ None
    by None = refl
    by (Some l) = no_rest (behind 32 bs) _ none

pub entry_is_no_row : (bs : List ℕ) (x : ReportEntry) → entry_of bs ≡ Some x → row_of bs ≡ None
entry_is_no_row bs x e = by (row_of bs) refl
  where
    by : (o : Option (List ℕ × ℤ)) → row_of bs ≡ o → o ≡ None
    by None f = refl
    by (Some r) f =
        let is = (rows_read_back bs r.0 r.1).0 f in
        let none = no_entry bs (before_lacking 32 bs (subst (Lacks 32) (sym is.2) (row_lacks 32 space refl r.0 r.1 is.0 is.1))).1 in
        absurd (some_none x (sym e ∙ none))

-- ---- an entry

abbrev pub IsMiddle : Part → Type 0
IsMiddle Opening = Unit {0}
IsMiddle Entries = Unit {0}
IsMiddle q = ⊥

in_middle : (q : Part) (r : Read) (p : List ℕ) → IsMiddle q → row_of p ≡ None → next_at q r p ≡ middle_next r p
in_middle Opening r p m none = ap (opening_next r p) none
in_middle Entries r p m none = refl
in_middle Start r p m none = absurd m
in_middle Final r p m none = absurd m
in_middle Ended r p m none = absurd m

not_table : (p : List ℕ) (x : ReportEntry) → entry_of p ≡ Some x → bytes_eq p (codes "table") ≡ false
not_table p x e = on_test (bytes_eq p (codes "table")) (λ b. b ≡ false) (λ same. absurd (some_none x (sym e ∙ ap entry_of (is_word p (codes "table") same)))) (λ _. refl)

pub entry_leads : (r : Read) (p : List ℕ) (x : ReportEntry) → IsMiddle r.part → entry_of p ≡ Some x → may_follow r.history (entry_in r.labels x) ≡ true → Leads r (p ∷ []) (with_entry r x)
entry_leads r p x m e may =
    leads_one r (with_entry r x) p
    (in_middle r.part r p m (entry_is_no_row p x e)
    ∙ ap (λ b. cond b (cond (may_end r) (Some (at_part Final r)) None) (entry_next r (entry_of p))) (not_table p x e)
    ∙ ap (entry_next r) e ∙ ap (λ b. cond b (Some (with_entry r x)) None) may)

pub table_leads : (r : Read) → IsMiddle r.part → may_end r ≡ true → Leads r (codes "table" ∷ []) (at_part Final r)
table_leads r m may = leads_one r (at_part Final r) (codes "table") (in_middle r.part r (codes "table") m refl ∙ ap (λ b. cond b (Some (at_part Final r)) None) may)

pub end_leads : (r : Read) → r.part ≡ Final → Leads r (codes "end" ∷ []) (at_part Ended r)
end_leads r is = leads_one r (at_part Ended r) (codes "end") (ap (λ q. next_at q r (codes "end")) is)

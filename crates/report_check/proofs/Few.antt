-- How much a report may have: each line that is read keeps to the bounds.
use Rattle.std.proofs.Common.{◌≡◌, ℕ, ℤ, suc, ◌<◌, ◌≤◌, List, [], ◌∷◌, ◌++◌, length, true, cond, Option, Some, None, refl, arith, length-append}
use Rattle.std.specs.Prelude.{◌&&◌, is_some, nat_lt, position, unwrap_or}
use Rattle.std.proofs.lemmas.Bool.{and_parts, ltb-true}
use Rattle.txn_names.specs.Path.{label_eq, parent}
use Rattle.serial_spec.specs.declared.limits.TheConstants.{MOST_ROWS, MOST_SESSIONS, MOST_TRANSACTIONS}
use Rattle.serial_spec.specs.History.{History, Effect, Begins, Accesses, Commits, Aborts, Nothing, begun, begun_by, is_absent, is_active, status}
use Rattle.serial_spec.specs.Rows.{Rows}
use Rattle.line_language.specs.declared.entry.ReportEntry.{ReportEntry}
use Rattle.line_language.specs.declared.entry.ReportEntry.TheVariants as told
use Rattle.report_check.specs.Passing.{Part, Read, at_part, entry_in, is_next, is_past, may_add_row, may_do, session_of, unread, with_entry, with_label, with_opening, with_row}

pub record IsFew (r : Read) : Type 0 where
  pub opening : length r.opening ≤ 4096
  pub table : length r.table ≤ 4096
  pub labels : length r.labels ≤ 64
  pub begins : length (begun r.history) ≤ 16384

pub few_unread : IsFew unread
few_unread = record { opening = omega arith; table = omega arith; labels = omega arith; begins = omega arith }

pub few_at : (q : Part) (r : Read) → IsFew r → IsFew (at_part q r)
few_at q r f = record { opening = f.opening; table = f.table; labels = f.labels; begins = f.begins }

-- ---- rows

few_more : (rows : Rows) (row : List ℕ × ℤ) → may_add_row rows row.0 ≡ true → length (rows ++ row ∷ []) ≤ 4096
few_more rows row may =
    let lt : length rows < 4096 = ltb-true (length rows) MOST_ROWS (and_parts (nat_lt (length rows) MOST_ROWS) (is_past rows row.0) may).0 in
    omega (arith, length-append rows (row ∷ []))

pub few_opening : (r : Read) (row : List ℕ × ℤ) → may_add_row r.opening row.0 ≡ true → IsFew r → IsFew (with_opening r row)
few_opening r row may f = record { opening = few_more r.opening row may; table = f.table; labels = f.labels; begins = f.begins }

pub few_row : (r : Read) (row : List ℕ × ℤ) → may_add_row r.table row.0 ≡ true → IsFew r → IsFew (with_row r row)
few_row r row may f = record { opening = f.opening; table = few_more r.table row may; labels = f.labels; begins = f.begins }

-- ---- entries

pub few_begins : (h : History) (x : Effect) → may_do h x ≡ true → length (begun h) ≤ 16384 → length (begun_by x (begun h)) ≤ 16384
few_begins h (Begins t) may few =
    let lt : length (begun h) < 16384 = ltb-true (length (begun h)) MOST_TRANSACTIONS (and_parts (is_absent (status h t) && is_active h (parent t)) (nat_lt (length (begun h)) MOST_TRANSACTIONS) may).1 in
    let all : length (t ∷ begun h) ≡ suc (length (begun h)) = refl in
    omega arith
few_begins h (Accesses t a r) may few = few
few_begins h (Commits t) may few = few
few_begins h (Aborts t) may few = few
few_begins h Nothing may few = few

few_labels : (labels : List (List ℕ)) (l : List ℕ) → nat_lt (session_of labels l) MOST_SESSIONS ≡ true → length labels ≤ 64 → length (with_label labels l) ≤ 64
few_labels labels l h few = by (position (label_eq l) labels) h
  where
    by : (o : Option ℕ) → nat_lt (unwrap_or o (length labels)) MOST_SESSIONS ≡ true → length (cond (is_some o) labels (labels ++ l ∷ [])) ≤ 64
    by (Some s) e = few
    by None e =
        let lt : length labels < 64 = ltb-true (length labels) MOST_SESSIONS e in
        omega (arith, length-append labels (l ∷ []))

pub few_entry : (r : Read) (x : ReportEntry) → is_next r.history (entry_in r.labels x).by (entry_in r.labels x).event (entry_in r.labels x).answer ≡ true
    → (begins : length (begun (with_entry r x).history) ≤ 16384) → IsFew r → IsFew (with_entry r x)
few_entry r (told.Line l n e a) next begins f = record {
  opening = f.opening;
  table = f.table;
  labels = few_labels r.labels l (and_parts (nat_lt (session_of r.labels l) MOST_SESSIONS) _ (and_parts _ _ next).0).0 f.labels;
  begins = begins;
}
few_entry r (told.Victim t) next begins f = record { opening = f.opening; table = f.table; labels = f.labels; begins = begins }
few_entry r (told.Close t) next begins f = record { opening = f.opening; table = f.table; labels = f.labels; begins = begins }

-- A report's lines, one after another.
use Rattle.std.proofs.Common.{◌≡◌, ℕ, ℤ, ◌+◌, ◌<◌, zero, suc, List, [], ◌∷◌, ◌++◌, length, take, drop, get_or, reverse, Option, None, Some, option_to_list, refl, sym, ap, ◌∙◌, append_assoc, append-nil, arith, take-append-drop}
use Rattle.std.specs.Prelude.{slice_get}
use Rattle.std.proofs.lemmas.List.{reverse-append}
use Rattle.serial_spec.specs.declared.entry.Entry.{Entry}
use Rattle.serial_spec.specs.Rows.{Rows}
use Rattle.line_language.specs.Report.{line, spelled_history, spelled_rows}
use Rattle.durable_top.specs.declared.store.Row.{Row}
use Rattle.durable_top.specs.Store.{plain}
use Rattle.report_text.specs.Lines.{entry_line, entry_lines, row_line, row_lines}
use Rattle.report_text.specs.Rows.{numbered_row, numbered_rows}

-- ---- rows

pub spelled_rows-append : (xs ys : Rows) → spelled_rows (xs ++ ys) ≡ spelled_rows xs ++ spelled_rows ys
spelled_rows-append [] ys = refl
spelled_rows-append (x ∷ xs) ys = ap (λ z. row_line x ++ z) (spelled_rows-append xs ys) ∙ sym (append_assoc (row_line x) (spelled_rows xs) (spelled_rows ys))

-- up to the row at k, and that row
pub spelled_rows-at : (xs : Rows) (k : ℕ) → spelled_rows (take (k + 1) xs) ≡ spelled_rows (take k xs) ++ row_lines (slice_get xs k)
spelled_rows-at [] zero = refl
spelled_rows-at [] (suc k) = let next : suc k + 1 ≡ suc (k + 1) = omega arith in rw next refl
spelled_rows-at (x ∷ xs) zero = append-nil (row_line x)
spelled_rows-at (x ∷ xs) (suc k) =
    let next : suc k + 1 ≡ suc (k + 1) = omega arith in
    rw next (ap (λ z. row_line x ++ z) (spelled_rows-at xs k) ∙ sym (append_assoc (row_line x) (spelled_rows (take k xs)) (row_lines (slice_get xs k))))

-- those before the row at k, that row, and those behind it
pub spelled_rows-parted : (xs : Rows) (k : ℕ) → (spelled_rows (take k xs) ++ row_lines (slice_get xs k)) ++ spelled_rows (drop (k + 1) xs) ≡ spelled_rows xs
spelled_rows-parted xs k =
    ap (λ z. z ++ spelled_rows (drop (k + 1) xs)) (sym (spelled_rows-at xs k))
    ∙ sym (spelled_rows-append (take (k + 1) xs) (drop (k + 1) xs))
    ∙ ap spelled_rows (take-append-drop (k + 1) xs)

-- ---- entries, which a history lists from the newest

spelled_history-append : (labels : List (List ℕ)) (h g : List Entry) → spelled_history labels (h ++ g) ≡ spelled_history labels g ++ spelled_history labels h
spelled_history-append labels [] g = sym (append-nil (spelled_history labels g))
spelled_history-append labels (e ∷ h) g = ap (λ z. z ++ entry_line labels e) (spelled_history-append labels h g) ∙ append_assoc (spelled_history labels g) (spelled_history labels h) (entry_line labels e)

-- the entries of the first part, and then those of the second
pub spelled-append : (labels : List (List ℕ)) (xs ys : List Entry) → spelled_history labels (reverse (xs ++ ys)) ≡ spelled_history labels (reverse xs) ++ spelled_history labels (reverse ys)
spelled-append labels xs ys = ap (spelled_history labels) (reverse-append xs ys) ∙ spelled_history-append labels (reverse ys) (reverse xs)

-- up to the entry at k, and that entry
taken : (xs : List Entry) (k : ℕ) → take (k + 1) xs ≡ take k xs ++ option_to_list (slice_get xs k)
taken [] zero = refl
taken [] (suc k) = let next : suc k + 1 ≡ suc (k + 1) = omega arith in rw next refl
taken (x ∷ xs) zero = refl
taken (x ∷ xs) (suc k) = let next : suc k + 1 ≡ suc (k + 1) = omega arith in rw next (ap (λ (zs : List Entry). x ∷ zs) (taken xs k))

one_spelled : (labels : List (List ℕ)) (x : Option Entry) → spelled_history labels (reverse (option_to_list x)) ≡ entry_lines labels x
one_spelled labels None = refl
one_spelled labels (Some e) = refl

spelled-at : (labels : List (List ℕ)) (xs : List Entry) (k : ℕ)
    → spelled_history labels (reverse (take (k + 1) xs)) ≡ spelled_history labels (reverse (take k xs)) ++ entry_lines labels (slice_get xs k)
spelled-at labels xs k =
    ap (λ (zs : List Entry). spelled_history labels (reverse zs)) (taken xs k)
    ∙ spelled-append labels (take k xs) (option_to_list (slice_get xs k))
    ∙ ap (λ z. spelled_history labels (reverse (take k xs)) ++ z) (one_spelled labels (slice_get xs k))

-- behind the first n the place k is the place n + k of all
dropped : (xs : List Entry) (n k : ℕ) → slice_get (drop n xs) k ≡ slice_get xs (n + k)
dropped xs zero k = let same : zero + k ≡ k = omega arith in rw same refl
dropped [] (suc n) k = refl
dropped (x ∷ xs) (suc n) k = let next : suc n + k ≡ suc (n + k) = omega arith in rw next (dropped xs n k)

-- of those behind the first n: up to the entry at k, and that entry
pub spelled-on : (labels : List (List ℕ)) (xs : List Entry) (n k : ℕ)
    → spelled_history labels (reverse (take (k + 1) (drop n xs))) ≡ spelled_history labels (reverse (take k (drop n xs))) ++ entry_lines labels (slice_get xs (n + k))
spelled-on labels xs n k =
    spelled-at labels (drop n xs) k
    ∙ ap (λ (x : Option Entry). spelled_history labels (reverse (take k (drop n xs))) ++ entry_lines labels x) (dropped xs n k)

-- and those before the entry at k, that entry, and those behind it
pub spelled-parted : (labels : List (List ℕ)) (xs : List Entry) (n k : ℕ)
    → (spelled_history labels (reverse (take k (drop n xs))) ++ entry_lines labels (slice_get xs (n + k))) ++ spelled_history labels (reverse (drop (k + 1) (drop n xs)))
    ≡ spelled_history labels (reverse (drop n xs))
spelled-parted labels xs n k =
    ap (λ z. z ++ spelled_history labels (reverse (drop (k + 1) (drop n xs)))) (sym (spelled-on labels xs n k))
    ∙ sym (spelled-append labels (take (k + 1) (drop n xs)) (drop (k + 1) (drop n xs)))
    ∙ ap (λ (zs : List Entry). spelled_history labels (reverse zs)) (take-append-drop (k + 1) (drop n xs))

-- ---- rows as the program holds them

abbrev key_value : Row → List ℕ × ℤ
key_value r = (r.key, r.value)

-- the row at k, as keys and values
pub plain-at : (rows : List Row) (k : ℕ) (r : Row) → k < length rows → r ≡ get_or rows k r → slice_get (plain rows) k ≡ Some (r.key, r.value)
plain-at [] k r h e = absurd (omega (arith, h))
plain-at (x ∷ rows) zero r h e = ap (λ q. Some (key_value q)) (sym e)
plain-at (x ∷ rows) (suc k) r h e = plain-at rows k r (omega (arith, h)) e

pub plain-take : (rows : List Row) (k : ℕ) → plain (take k rows) ≡ take k (plain rows)
plain-take rows zero = refl
plain-take [] (suc k) = refl
plain-take (x ∷ rows) (suc k) = ap (λ rs. key_value x ∷ rs) (plain-take rows k)

-- ---- rows with the numbers of their commits

numbered-append : (xs ys : List Row) → numbered_rows (xs ++ ys) ≡ numbered_rows xs ++ numbered_rows ys
numbered-append [] ys = refl
numbered-append (x ∷ xs) ys =
    ap (λ z. line (numbered_row x) ++ z) (numbered-append xs ys) ∙ sym (append_assoc (line (numbered_row x)) (numbered_rows xs) (numbered_rows ys))

-- up to the row at k, and that row
pub numbered-at : (xs : List Row) (k : ℕ) (r : Row) → k < length xs → r ≡ get_or xs k r
    → numbered_rows (take (k + 1) xs) ≡ numbered_rows (take k xs) ++ line (numbered_row r)
numbered-at [] k r h same = absurd (omega (arith, h))
numbered-at (x ∷ xs) zero r h same = append-nil (line (numbered_row x)) ∙ ap (λ q. line (numbered_row q)) (sym same)
numbered-at (x ∷ xs) (suc k) r h same =
    let next : suc k + 1 ≡ suc (k + 1) = omega arith in
    rw next
    (ap (λ z. line (numbered_row x) ++ z) (numbered-at xs k r (omega (arith, h)) same)
    ∙ sym (append_assoc (line (numbered_row x)) (numbered_rows (take k xs)) (line (numbered_row r))))

-- those before the row at k, that row, and those behind it
pub numbered-parted : (xs : List Row) (k : ℕ) (r : Row) → k < length xs → r ≡ get_or xs k r
    → (numbered_rows (take k xs) ++ line (numbered_row r)) ++ numbered_rows (drop (k + 1) xs) ≡ numbered_rows xs
numbered-parted xs k r h same =
    ap (λ z. z ++ numbered_rows (drop (k + 1) xs)) (sym (numbered-at xs k r h same))
    ∙ sym (numbered-append (take (k + 1) xs) (drop (k + 1) xs))
    ∙ ap numbered_rows (take-append-drop (k + 1) xs)

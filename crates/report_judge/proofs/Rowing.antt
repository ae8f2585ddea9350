-- Rows, one more at the end.
use Rattle.std.proofs.Common.{◌≡◌, ℕ, ℤ, zero, suc, ◌-◌, Bool, true, false, cond, ◌&&◌, List, [], ◌∷◌, ◌++◌, length, map, Option, Some, None, option_map, refl, sym, ap, subst, ◌∙◌, arith}
use Rattle.std.specs.Prelude.{slice_get, nat_lt}
use Rattle.std.specs.List.{AllByRecursion}
use Rattle.std.specs.Map.{keys_of, lookup}
use Rattle.std.specs.Ordering.{nat_cmp, is_lt, is_eq}
use Rattle.std.specs.Cmp.Lexicographic.{slice_cmp, nat_list_eq_equiv, texts_ties}
use Rattle.std.specs.declared.cmp.Ordering.{Ordering}
use Rattle.std.specs.declared.cmp.Ordering.TheVariants.{Less, Equal, Greater}
use Rattle.std.proofs.lemmas.Bool.{false≢true, and_parts}
use Rattle.std.proofs.lemmas.Cmp.{nat_list_cmp_total}
use Rattle.txn_names.specs.Path.{label_eq}
use Rattle.serial_spec.specs.declared.limits.TheConstants.{MOST_ROWS}
use Rattle.serial_spec.specs.Rows.{IsRising, Rows, value_in}
use Rattle.session_text.proofs.Exports.{all_pushed}
use Rattle.report_check.specs.Passing.{is_past, may_add_row}
use Rattle.report_tables.specs.Valued.{joined, value_at}
use Rattle.report_judge.specs.Kept.{is_past_key, may_come, opened}

-- ---- the last row

abbrev pub last_key : Rows → Option (List ℕ)
last_key rows = option_map (λ r. r.0) (slice_get rows (length rows - 1))

pub past_last : (rows : Rows) (k : List ℕ) → is_past rows k ≡ is_past_key (last_key rows) k
past_last [] k = refl
past_last (r ∷ []) k = refl
past_last (r ∷ s ∷ rows) k =
    let near : length (s ∷ rows) - 1 ≡ length rows = omega arith in
    let far : length (r ∷ s ∷ rows) - 1 ≡ suc (length rows) = omega arith in
    past_last (s ∷ rows) k ∙ ap (λ n. is_past_key (option_map (λ (x : List ℕ × ℤ). x.0) (slice_get (s ∷ rows) n)) k) near
    ∙ ap (λ n. is_past_key (option_map (λ (x : List ℕ × ℤ). x.0) (slice_get (r ∷ s ∷ rows) n)) k) (sym far)

pub may_come_is : (rows : Rows) (n : ℕ) (last : Option (List ℕ)) (k : List ℕ) → n ≡ length rows → last ≡ last_key rows → may_come n last k ≡ may_add_row rows k
may_come_is rows n last k at same =
    ap (λ m. nat_lt m MOST_ROWS && is_past_key last k) at ∙ ap (λ o. nat_lt (length rows) MOST_ROWS && is_past_key o k) same
    ∙ ap (λ b. nat_lt (length rows) MOST_ROWS && b) (sym (past_last rows k))

-- ---- opened rows

pub keys_opened : (rows : Rows) → keys_of (opened rows) ≡ map (λ r. r.0) rows
keys_opened [] = refl
keys_opened (r ∷ rows) = ap (λ ks. r.0 ∷ ks) (keys_opened rows)

pub length_opened : (rows : Rows) → length (opened rows) ≡ length rows
length_opened [] = refl
length_opened (r ∷ rows) = ap suc (length_opened rows)

key_at : (rows : Rows) (n : ℕ) → slice_get (keys_of (opened rows)) n ≡ option_map (λ r. r.0) (slice_get rows n)
key_at [] n = refl
key_at (r ∷ rows) zero = refl
key_at (r ∷ rows) (suc n) = key_at rows n

pub last_opened : (rows : Rows) (n : ℕ) → n ≡ length rows → slice_get (keys_of (opened rows)) (n - 1) ≡ last_key rows
last_opened rows n at = key_at rows (n - 1) ∙ ap (λ m. option_map (λ (x : List ℕ × ℤ). x.0) (slice_get rows (m - 1))) at

pub opened_more : (rows : Rows) (k : List ℕ) (v : ℤ) → opened rows ++ (k, Some v) ∷ [] ≡ opened (rows ++ (k, v) ∷ [])
opened_more [] k v = refl
opened_more (r ∷ rows) k v = ap (λ es. (r.0, Some r.1) ∷ es) (opened_more rows k v)

pub value_opened : (rows : Rows) (k : List ℕ) → value_at (opened rows) k ≡ value_in rows k
value_opened [] k = refl
value_opened (r ∷ rows) k = by (label_eq k r.0) ∙ ap (λ b. cond b (Some r.1) (value_at (opened rows) k)) (nat_list_eq_equiv.symm k r.0) ∙ ap (cond (label_eq r.0 k) (Some r.1)) (value_opened rows k)
  where
    by : (b : Bool) → joined (cond b (Some (Some r.1)) (lookup (label_eq k) (opened rows))) ≡ cond b (Some r.1) (value_at (opened rows) k)
    by true = refl
    by false = refl

-- ---- a key above all others

is_less : (o : Ordering) → is_lt o ≡ true → o ≡ Less
is_less Less e = refl
is_less Equal e = absurd (false≢true e)
is_less Greater e = absurd (false≢true e)

past_below : (r : List ℕ × ℤ) (rows : Rows) (k : List ℕ) → IsRising (r ∷ rows) → is_past (r ∷ rows) k ≡ true → slice_cmp nat_cmp r.0 k ≡ Less
past_below r [] k rising past = is_less (slice_cmp nat_cmp r.0 k) past
past_below r (s ∷ rows) k rising past = nat_list_cmp_total.trans r.0 s.0 k rising.0.0 (past_below s rows k rising.1 past)

past_tail : (r : List ℕ × ℤ) (rows : Rows) (k : List ℕ) → is_past (r ∷ rows) k ≡ true → is_past rows k ≡ true
past_tail r [] k past = refl
past_tail r (s ∷ rows) k past = past

keys_more : (rows : Rows) (k : List ℕ) (v : ℤ) → map (λ r. r.0) (rows ++ (k, v) ∷ []) ≡ map (λ r. r.0) rows ++ k ∷ []
keys_more [] k v = refl
keys_more (r ∷ rows) k v = ap (λ ks. r.0 ∷ ks) (keys_more rows k v)

pub rising_more : (rows : Rows) (k : List ℕ) (v : ℤ) → IsRising rows → is_past rows k ≡ true → IsRising (rows ++ (k, v) ∷ [])
rising_more [] k v rising past = (tt, tt)
rising_more (r ∷ rows) k v rising past = (
  subst (λ ks. AllByRecursion (λ q. slice_cmp nat_cmp r.0 q ≡ Less) ks) (sym (keys_more rows k v))
      (all_pushed (λ q. slice_cmp nat_cmp r.0 q ≡ Less) (map (λ q. q.0) rows) k rising.0 (past_below r rows k rising past)),
  rising_more rows k v rising.1 (past_tail r rows k past),
)

-- so it is new
pub past_new : (rows : Rows) (k : List ℕ) → IsRising rows → is_past rows k ≡ true → lookup (label_eq k) (opened rows) ≡ None
past_new [] k rising past = refl
past_new (r ∷ rows) k rising past =
    let apart : label_eq k r.0 ≡ false = nat_list_eq_equiv.symm k r.0 ∙ texts_ties r.0 k ∙ ap is_eq (past_below r rows k rising past) in
    ap (λ b. cond b (Some (Some r.1)) (lookup (label_eq k) (opened rows))) apart ∙ past_new rows k rising.1 (past_tail r rows k past)

pub may_past : (rows : Rows) (k : List ℕ) → may_add_row rows k ≡ true → is_past rows k ≡ true
may_past rows k may = (and_parts (nat_lt (length rows) MOST_ROWS) (is_past rows k) may).1

-- A row is read exactly where the bytes spell it.
use Rattle.std.proofs.Common.{◌≡◌, ℕ, ℤ, List, ◌∷◌, ◌++◌, Some, Ok, refl, sym, ap, ◌∙◌, subst, append_assoc}
use Rattle.std.specs.Prelude.{codes, IsTrue}
use Rattle.std.specs.Result.{result_ok}
use Rattle.txn_names.specs.Text.{IsKey, is_key_byte}
use Rattle.txn_names.specs.Reading.{key_of}
use Rattle.serial_spec.specs.Operations.{is_i64}
use Rattle.line_language.specs.Printing.{spelled_number}
use Rattle.line_language.specs.Numbers.{number_of}
use Rattle.line_language.specs.Words.{before, behind}
use Rattle.line_language.proofs.Bytes.{Lacks, Lacks-from_all}
use Rattle.line_language.proofs.ReadBack.{numbers_read_back}
use Rattle.line_language.specs.Reading.{row_of}
use Rattle.line_language.specs.Laws.{RowsReadBack}
use Rattle.line_language.proofs.Parts.{before_next, bind_some, key_is, key_read, parted, same_some, was_ok}

row_parts : (bs r k : List ℕ) (v : ℤ) → behind 61 bs ≡ Some r → before 61 bs ≡ k → r ≡ spelled_number v → bs ≡ k ++ codes "=" ++ spelled_number v
row_parts bs r k v h front back = parted 61 bs r h ∙ ap (λ w. w ++ 61 ∷ r) front ∙ ap (λ w. k ++ 61 ∷ w) back ∙ sym (append_assoc k (codes "=") (spelled_number v))

row_from : (bs r j k : List ℕ) (u v : ℤ) → key_of (before 61 bs) ≡ Ok j → behind 61 bs ≡ Some r → number_of r ≡ Some u → ◌≡◌ {A = List ℕ × ℤ} (j, u) (k, v)
    → IsKey k × IsTrue (is_i64 v) × (bs ≡ k ++ codes "=" ++ spelled_number v)
row_from bs r j k u v key h value same =
    let is_key = key_is (before 61 bs) j key in
    let is_value = (numbers_read_back r u).0 value in
    subst (λ (p : List ℕ × ℤ). IsKey p.0 × IsTrue (is_i64 p.1) × (bs ≡ p.0 ++ codes "=" ++ spelled_number p.1)) same
    (is_key.0, is_value.0, row_parts bs r j u h is_key.1 is_value.1)

row_reads : (bs k : List ℕ) (v : ℤ) → row_of bs ≡ Some (k, v) → IsKey k × IsTrue (is_i64 v) × (bs ≡ k ++ codes "=" ++ spelled_number v)
row_reads bs k v h =
    let key = bind_some (result_ok (key_of (before 61 bs))) _ (k, v) h in
    let rest = bind_some (behind 61 bs) _ (k, v) key.2 in
    let value = bind_some (number_of rest.0) _ (k, v) rest.2 in
    row_from bs rest.0 key.0 k value.0 v (was_ok _ key.0 key.1) rest.1 value.1 (same_some (key.0, value.0) (k, v) value.2)

row_again : (k : List ℕ) (v : ℤ) → IsKey k → IsTrue (is_i64 v) → row_of (k ++ 61 ∷ spelled_number v) ≡ Some (k, v)
row_again k v h i =
    let lacks : Lacks 61 k = Lacks-from_all 61 is_key_byte refl k h.plain in
    let p = before_next 61 k (spelled_number v) lacks in
    let key : key_of k ≡ Ok k = key_read k h in
    let value : number_of (spelled_number v) ≡ Some v = (numbers_read_back (spelled_number v) v).1 (i, refl) in
    rw (p.0, p.1, key, value) refl

pub rows_read_back : RowsReadBack
rows_read_back bs k v = (row_reads bs k v, λ h. ap row_of (h.2 ∙ append_assoc k (codes "=") (spelled_number v)) ∙ row_again k v h.0 h.1)

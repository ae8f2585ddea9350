-- What stands before a byte and behind it, and steps of reading.
use Rattle.std.proofs.Common.{◌≡◌, ℕ, List, [], ◌∷◌, ◌++◌, true, false, Bool, cond, not, nat_eq, Option, Some, None, Result, Ok, Err, refl, ap, ◌∙◌}
use Rattle.std.specs.List.{list_all}
use Rattle.std.specs.Result.{result_ok}
use Rattle.std.proofs.lemmas.Bool.{and_parts, not-true, eq-eqb, eqb-true}
use Rattle.txn_names.specs.Text.{IsKey, IsLabel}
use Rattle.txn_names.specs.Reading.{key_of, label_of}
use Rattle.line_language.specs.declared.fault.LineKind.TheVariants as kind
use Rattle.line_language.specs.Steps.{or_fault}
use Rattle.line_language.specs.Words.{before, behind}
use Rattle.line_language.proofs.Bytes.{Lacks}
use Rattle.line_language.proofs.Reading.{key_again, key_reads, label_again, label_reads, or_fault_ok}
use Rattle.line_language.specs.Reading.{◌>>=◌}

pub before_lacking : (c : ℕ) (w : List ℕ) → Lacks c w → (before c w ≡ w) × (behind c w ≡ None)
before_lacking c [] h = (refl, refl)
before_lacking c (b ∷ w) h =
    let p = and_parts (not (nat_eq b c)) (list_all (λ b. not (nat_eq b c)) w) h in
    let m = before_lacking c w p.1 in
    rw (not-true (nat_eq b c) p.0) (ap (λ ys. b ∷ ys) m.0, m.1)

pub before_next : (c : ℕ) (w r : List ℕ) → Lacks c w → (before c (w ++ c ∷ r) ≡ w) × (behind c (w ++ c ∷ r) ≡ Some r)
before_next c [] r h = rw (eq-eqb c c refl) (refl, refl)
before_next c (b ∷ w) r h =
    let p = and_parts (not (nat_eq b c)) (list_all (λ b. not (nat_eq b c)) w) h in
    let m = before_next c w r p.1 in
    rw (not-true (nat_eq b c) p.0) (ap (λ ys. b ∷ ys) m.0, m.1)

parted_by : (c b : ℕ) (bs r : List ℕ) (t : Bool) → nat_eq b c ≡ t → cond t (Some bs) (behind c bs) ≡ Some r
    → (behind c bs ≡ Some r → bs ≡ before c bs ++ c ∷ r) → b ∷ bs ≡ cond t [] (b ∷ before c bs) ++ c ∷ r
parted_by c b bs r true e h more = ap (λ d. d ∷ bs) (eqb-true b c e) ∙ ap (λ ys. c ∷ ys) (same h)
  where
    same : {x y : List ℕ} → Some x ≡ Some y → x ≡ y
    same h = cc
parted_by c b bs r false e h more = ap (λ ys. b ∷ ys) (more h)

-- the byte stands between the two parts
pub parted : (c : ℕ) (bs r : List ℕ) → behind c bs ≡ Some r → bs ≡ before c bs ++ c ∷ r
parted c [] r h = cc
parted c (b ∷ bs) r h = parted_by c b bs r (nat_eq b c) refl h (parted c bs r)

whole_by : (c b : ℕ) (bs : List ℕ) (t : Bool) → cond t (Some bs) (behind c bs) ≡ None → (behind c bs ≡ None → before c bs ≡ bs) → cond t [] (b ∷ before c bs) ≡ b ∷ bs
whole_by c b bs true h more = cc
whole_by c b bs false h more = ap (λ ys. b ∷ ys) (more h)

-- without the byte the first part is all
pub whole : (c : ℕ) (bs : List ℕ) → behind c bs ≡ None → before c bs ≡ bs
whole c [] h = refl
whole c (b ∷ bs) h = whole_by c b bs (nat_eq b c) h (whole c bs)

-- ---- steps

pub bind_some : {A B : Type 0} (o : Option A) (f : A → Option B) (y : B) → (o >>= f) ≡ Some y → (x : A) × (o ≡ Some x) × (f x ≡ Some y)
bind_some (Some x) f y h = (x, refl, h)
bind_some None f y h = cc

pub was_ok : {A E : Type 0} (r : Result A E) (x : A) → result_ok r ≡ Some x → r ≡ Ok x
was_ok (Ok y) x h = cc
was_ok (Err e) x h = cc

pub same_some : {A : Type 0} (x y : A) → Some x ≡ Some y → x ≡ y
same_some x y h = cc

-- ---- keys and labels

pub key_is : (w k : List ℕ) → key_of w ≡ Ok k → IsKey k × (w ≡ k)
key_is w k h = key_reads w k (ap (or_fault kind.Key) h)

pub key_read : (k : List ℕ) → IsKey k → key_of k ≡ Ok k
key_read k h = or_fault_ok kind.Key (key_of k) k (key_again k h)

pub label_is : (w l : List ℕ) → label_of w ≡ Ok l → IsLabel l × (w ≡ l)
label_is w l h = label_reads w l (ap (or_fault kind.Label) h)

pub label_read : (l : List ℕ) → IsLabel l → label_of l ≡ Ok l
label_read l h = or_fault_ok kind.Label (label_of l) l (label_again l h)

-- The last of the parts between slashes, and counts along a list.
use Rattle.std.proofs.Common.{◌≡◌, ℕ, suc, ◌+◌, Bool, true, false, cond, List, [], ◌∷◌, ◌++◌, Result, Ok, Err, refl, sym, ap, ◌∙◌, arith, add-one, append_assoc}
use Rattle.std.specs.Prelude.{OnOk}
use Rattle.line_language.specs.Words.{cut_at}
use Rattle.line_language.proofs.Exports.{cut_some}
use Rattle.tree_lines.specs.Lines.{indent, last_part}

pub last_behind : (bytes part more : List ℕ) → cut_at 47 bytes ≡ part ∷ cut_at 47 more → last_part (cut_at 47 bytes) ≡ last_part (cut_at 47 more)
last_behind bytes part more parts =
    let some = cut_some 47 more in
    ap last_part (parts ∙ ap (λ ps. part ∷ ps) some.2) ∙ ap last_part (sym some.2)

pub deeper : (out : List ℕ) (n : ℕ) → (out ++ indent n) ++ (32 ∷ 32 ∷ []) ≡ out ++ indent (n + 1)
deeper out n = append_assoc out (indent n) (32 ∷ 32 ∷ []) ∙ ap (λ k. out ++ indent k) (sym (add-one n))

pub count_on : (b : Bool) (k n : ℕ) (all : ℕ) → k + cond b (suc n) n ≡ all → cond b (k + 1) k + n ≡ all
count_on true k n all e = omega (arith, e)
count_on false k n all e = e

-- ---- bytes behind bytes

pub then_put : {y z : List ℕ} (x a b : List ℕ) → y ≡ x ++ a → z ≡ y ++ b → z ≡ x ++ (a ++ b)
then_put x a b p q = q ∙ ap (λ xs. xs ++ b) p ∙ append_assoc x a b

pub on_done : {A E : Type 0} (x : Result A E) {P Q : Type 0} → OnOk x P → (P → Q) → OnOk x Q
on_done (Ok a) is also = also is
on_done (Err e) is also = is

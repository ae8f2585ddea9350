-- Bytes behind bytes, and one more of a list.
use Rattle.std.proofs.Common.{◌≡◌, ℕ, List, ◌∷◌, ◌++◌, Result, Ok, Err, ◌+◌, sym, ap, ◌∙◌, add-one, append-nil, append_assoc}
use Rattle.std.specs.Prelude.{OnOk}
use Rattle.line_language.specs.Words.{cut_at}
use Rattle.line_language.proofs.Exports.{cut_some}
use Rattle.tree_pictures.specs.Frame.{note_line, notes, step_of, time_if, times_to}
use Rattle.tree_pictures.specs.Scale.{plus, product}
use Rattle.tree_pictures.specs.declared.scale.Scale.{Scale}

pub then_put : {y z : List ℕ} (x a b : List ℕ) → y ≡ x ++ a → z ≡ y ++ b → z ≡ x ++ (a ++ b)
then_put x a b p q = q ∙ ap (λ xs. xs ++ b) p ∙ append_assoc x a b

pub on_done : {A E : Type 0} (x : Result A E) {P Q : Type 0} → OnOk x P → (P → Q) → OnOk x Q
on_done (Ok a) is also = also is
on_done (Err e) is also = is

-- what was to come comes still, but for what was put
pub then_rest : {y all : List ℕ} (x a b : List ℕ) → y ≡ x ++ a → x ++ (a ++ b) ≡ all → y ++ b ≡ all
then_rest x a b p q = ap (λ xs. xs ++ b) p ∙ append_assoc x a b ∙ q

-- a line of the notes was put
pub next_note : {z all : List ℕ} (x : List ℕ) (y : ℕ) (bytes line more : List ℕ) → cut_at 10 bytes ≡ line ∷ cut_at 10 more → z ≡ x ++ note_line y line → x ++ notes y (cut_at 10 bytes) ≡ all → z ++ notes (plus y 170) (cut_at 10 more) ≡ all
next_note x y bytes line more parts put q =
    let some = cut_some 10 more in
    let rest = notes (plus y 170) (cut_at 10 more) in
    then_rest x (note_line y line) rest put
    (ap (λ xs. x ++ (note_line y line ++ xs)) (ap (notes (plus y 170)) some.2)
    ∙ sym (ap (λ xs. x ++ xs) (ap (notes y) (parts ∙ ap (λ ps. line ∷ ps) some.2))) ∙ q)

-- ---- times

pub times_none : (sc : Scale) (x : List ℕ) → x ≡ x ++ times_to sc 0
unfolding times_to
times_none sc x = sym (append-nil x)

-- a time was put
pub next_time : {y z : List ℕ} (sc : Scale) (x : List ℕ) (k n : ℕ) → y ≡ x ++ times_to sc k → z ≡ y ++ time_if sc n → n ≡ product (step_of sc) k → z ≡ x ++ times_to sc (k + 1)
unfolding times_to
next_time sc x k n before put at =
    then_put x (times_to sc k) (time_if sc n) before put
    ∙ ap (λ m. x ++ (times_to sc k ++ time_if sc m)) at
    ∙ ap (λ j. x ++ times_to sc j) (sym (add-one k))

-- The rows of a picture.
use Rattle.std.proofs.Common.{◌≡◌, ◌==◌, false, if◌then◌else◌, get_or, ◌<◌, ◌≤◌, ℕ, zero, suc, ◌+◌, ◌-◌, ◌*◌, ◌/◌, List, [], ◌∷◌, ◌++◌, length, take, drop, refl, sym, ap, ◌∙◌, arith, inl, inr}
use Rattle.std.proofs.lemmas.Bool.{cases_lt}
use Rattle.std.proofs.lemmas.List.{length-drop, length-take, take-append-drop}
use Rattle.serial_spec.specs.History.{Name}
use Rattle.report_trees.specs.declared.outcomes.Shown.{Shown}
use Rattle.std.specs.List.{flat_map}
use Rattle.std.proofs.Math.Nat.{mul-le-mul_left}
use Rattle.tree_pictures.specs.Bars.{bar_rows, groups, joint_bar, own_bar, row_bar}
use Rattle.tree_pictures.specs.Laws.{RowsAreFew, RowsHaveAll}
use Rattle.tree_pictures.specs.Scale.{row_count, together_of}
use Rattle.tree_pictures.specs.declared.scale.Scale.{Scale}
use Rattle.tree_pictures.proofs.Parts.{then_rest}

-- one row of those that are left
pub one_row : {X : Type 0} (all row n : ℕ) (xs : List X) → row < all → groups (all - row) n xs ≡ take n xs ∷ groups (all - (row + 1)) n (drop n xs)
one_row all row n xs lt =
    let left : all - row ≡ suc (all - (row + 1)) = omega arith in
    ap (λ k. groups k n xs) left

-- a row was put
pub next_row : {whole : List ℕ} (z x : List ℕ) (ts : List Name) (sc : Scale) (all row n : ℕ) (ss : List Shown) → row < all → z ≡ x ++ row_bar ts sc row (take n ss) → x ++ bar_rows ts sc row (groups (all - row) n ss) ≡ whole → z ++ bar_rows ts sc (row + 1) (groups (all - (row + 1)) n (drop n ss)) ≡ whole
next_row z x ts sc all row n ss lt put q =
    let more : row + 1 ≡ suc row = omega arith in
    let rest = groups (all - (row + 1)) n (drop n ss) in
    ap (λ k. z ++ bar_rows ts sc k rest) more
    ∙ then_rest x (row_bar ts sc row (take n ss)) (bar_rows ts sc (suc row) rest) put
    (sym (ap (λ gs. x ++ bar_rows ts sc row gs) (one_row all row n ss lt)) ∙ q)

-- a row of several transactions
pub joint_row : (ts : List Name) (sc : Scale) (row : ℕ) (d : Shown) (ss : List Shown) → 1 ≤ length ss → (length (take (length ss - 1) (drop 1 ss)) == 0) ≡ false → joint_bar ts sc row (get_or ss 0 d) ss ≡ row_bar ts sc row ss
joint_row ts sc row d [] some alone = absurd (omega (arith, some))
joint_row ts sc row d (s ∷ ss) some alone =
    let same : length (take (length (s ∷ ss) - 1) ss) ≡ length ss = omega (arith, length-take (length (s ∷ ss) - 1) ss) in
    sym (ap (λ b. if b then own_bar ts sc row s else joint_bar ts sc row s (s ∷ ss)) (ap (λ n. n == 0) (sym same) ∙ alone))

-- ---- laws

groups_whole : {X : Type 0} (rows n : ℕ) (xs : List X) → length xs ≤ n * rows → flat_map (λ g. g) (groups rows n xs) ≡ xs
groups_whole zero n [] few = refl
groups_whole zero n (x ∷ xs) few = absurd (omega (arith, few))
groups_whole (suc rows) n xs few =
    ap (λ ys. take n xs ++ ys) (groups_whole rows n (drop n xs) (omega (arith, length-drop n xs, few)))
    ∙ take-append-drop n xs

-- the quotient, rounded up, is enough
enough : (t n : ℕ) → 0 < n → t ≤ n * ((t + (n - 1)) / n)
enough t n some = omega arith

pub rows_have_all : RowsHaveAll
rows_have_all ss =
    let n = together_of (length ss) in
    groups_whole (row_count (length ss) n) n ss (enough (length ss) n (omega arith))

few_quotient : (q n x : ℕ) → n * q ≤ x → x + 1 < 2001 * n → q ≤ 2000
few_quotient q n x low high =
    elim (cases_lt q 2001) [
      | inl lt ↦ omega (arith, lt)
      | inr le ↦ absurd (omega (arith, mul-le-mul_left n le, low, high))
    ]

pub rows_are_few : RowsAreFew
rows_are_few t =
    let n = together_of t in
    few_quotient (row_count t n) n (t + (n - 1)) (omega arith) (omega arith)

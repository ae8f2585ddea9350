-- The last word of bytes, as words are cut off their front.
use Rattle.std.proofs.Common.{◌≡◌, ℕ, ◌+◌, ◌-◌, ◌≤◌, List, length, drop, sym, ap, ◌∙◌, arith, length-drop}
use Rattle.std.proofs.lemmas.List.{drop-drop}

-- without its first word, bytes end as before, or are no longer than that
ends : (xs : List ℕ) (m k : ℕ) → 8 + (m - 8) ≡ m + k → drop (m - 8) (drop 8 xs) ≡ drop k (drop m xs)
ends xs m k e = drop-drop (m - 8) 8 xs ∙ ap (λ (n : ℕ). drop n xs) e ∙ sym (drop-drop k m xs)

last_by : (xs ys : List ℕ) (m k : ℕ) → 8 + (m - 8) ≡ m + k → drop m xs ≡ drop m ys → drop (m - 8) (drop 8 xs) ≡ drop (m - 8) (drop 8 ys)
last_by xs ys m k e h = ends xs m k e ∙ ap (λ (zs : List ℕ). drop k zs) h ∙ sym (ends ys m k e)

pub last_stays : (xs ys : List ℕ) → length xs ≡ length ys → drop (length xs - 8) xs ≡ drop (length ys - 8) ys
    → drop (length (drop 8 xs) - 8) (drop 8 xs) ≡ drop (length (drop 8 ys) - 8) (drop 8 ys)
last_stays xs ys len h =
    let m : ℕ = length xs - 8 in
    let ours : length (drop 8 xs) ≡ m = length-drop 8 xs in
    let theirs : length (drop 8 ys) ≡ m = length-drop 8 ys ∙ ap (λ (n : ℕ). n - 8) (sym len) in
    let same : drop m xs ≡ drop m ys = h ∙ ap (λ (n : ℕ). drop (n - 8) ys) (sym len) in
    ap (λ (n : ℕ). drop (n - 8) (drop 8 xs)) ours
    ∙ last_by xs ys m (8 - m) (omega arith) same
    ∙ ap (λ (n : ℕ). drop (n - 8) (drop 8 ys)) (sym theirs)

-- bytes no longer than a word are their last word
pub short_last : (xs ys : List ℕ) → length xs ≤ 8 → length xs ≡ length ys → drop (length xs - 8) xs ≡ drop (length ys - 8) ys → xs ≡ ys
short_last xs ys short len h =
    let ours : length xs - 8 ≡ 0 = omega (arith, short) in
    let theirs : length ys - 8 ≡ 0 = omega (arith, short, len) in
    sym (ap (λ (n : ℕ). drop n xs) ours) ∙ h ∙ ap (λ (n : ℕ). drop n ys) theirs

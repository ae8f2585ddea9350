-- The branch by which one name parts from another, found by how many labels names share.
use Rattle.std.proofs.Common.{◌≡◌, ℕ, zero, suc, ◌+◌, ◌<◌, ◌≤◌, nat_lt, true, false, ◌&&◌, [], ◌∷◌, length, take, inl, inr, refl, sym, ap, subst, ◌∙◌, arith}
use Rattle.std.specs.Cmp.{both_ways}
use Rattle.std.proofs.lemmas.Bool.{cases_lt, false≢true, ltb-true, lt-ltb}
use Rattle.std.proofs.lemmas.List.{length-take-le}
use Rattle.txn_names.specs.Path.{Path, is_front, meet}
use Rattle.txn_names.proofs.Exports.{is_front-take, is_front-trans, label_eq_self, length-front, meet-greatest, meet-le, take-front, take-meet}
use Rattle.serial_spec.specs.Waits.{branch_of}

fronts_of : (j k : ℕ) (b : Path) → j ≤ k → is_front (take j b) (take k b) ≡ true
fronts_of zero k b h = refl
fronts_of (suc j) zero b h = absurd (omega (arith, h))
fronts_of (suc j) (suc k) [] h = refl
fronts_of (suc j) (suc k) (x ∷ xs) h =
    ap (λ c. c && is_front (take j xs) (take k xs)) (label_eq_self x) ∙ fronts_of j k xs (omega (arith, h))

-- one that is no ancestor goes on past where the two part
meets_before : (t b : Path) → is_front b t ≡ false → meet t b < length b
meets_before t b apart =
    elim (cases_lt (meet t b) (length b)) [
      | inl below ↦ below
      | inr here ↦
          let ends : meet t b ≡ length b = omega (arith, here, (meet-le t b).1) in
          let same : take (length b) t ≡ b = ap (λ n. take n t) (sym ends) ∙ take-meet t b ∙ ap (λ n. take n b) ends ∙ whole b in
          absurd (false≢true (sym apart ∙ subst (λ (x : Path). is_front x t ≡ true) same (is_front-take (length b) t)))
    ]
  where
    whole : (x : Path) → take (length x) x ≡ x
    whole [] = refl
    whole (y ∷ ys) = ap (λ zs. y ∷ zs) (whole ys)

-- u is in the branch of b exactly where it shares more labels with b than t does
pub in_branch : (t b u : Path) → is_front b t ≡ false → nat_lt (meet t b) (meet u b) ≡ is_front (branch_of t b) u
in_branch t b u apart = both_ways (nat_lt (meet t b) (meet u b)) (is_front (branch_of t b) u) there back
  where
    there : nat_lt (meet t b) (meet u b) ≡ true → is_front (branch_of t b) u ≡ true
    there e =
        let more = ltb-true (meet t b) (meet u b) e in
        let shared : is_front (take (meet u b) b) u ≡ true = subst (λ (x : Path). is_front x u ≡ true) (take-meet u b) (is_front-take (meet u b) u) in
        is_front-trans (branch_of t b) (take (meet u b) b) u (fronts_of (meet t b + 1) (meet u b) b (omega (arith, more))) shared

    back : is_front (branch_of t b) u ≡ true → nat_lt (meet t b) (meet u b) ≡ true
    back e =
        let below = meets_before t b apart in
        let long : length (branch_of t b) ≡ meet t b + 1 = length-take-le (meet t b + 1) b (omega (arith, below)) in
        let same : take (meet t b + 1) u ≡ take (meet t b + 1) b = ap (λ n. take n u) (sym long) ∙ take-front (branch_of t b) u e in
        let fits = length-front (branch_of t b) u e in
        let met = meet-greatest u b (meet t b + 1) (omega (arith, fits, long)) (omega (arith, below)) same in
        lt-ltb (meet t b) (meet u b) (omega (arith, met))

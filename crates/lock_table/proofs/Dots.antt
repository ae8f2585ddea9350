-- The first bytes of a key, up to a dot.
use Rattle.std.proofs.Common.{◌≡◌, ◌<◌, ◌≤◌, ◌+◌, ◌-◌, ℕ, true, false, cond, nat_eq, ◌++◌, ◌∷◌, inl, inr, List, length, length-drop, drop, take, get_or, get_or-drop, Option, Some, None, is_some, sym, ap, ◌∙◌, true≢false, arith}
use Rattle.std.specs.List.{list_all, position, position_or_len}
use Rattle.std.proofs.lemmas.Bool.{and_parts, cases_lt, eq-eqb, eqb-true, lt-ltb}
use Rattle.std.proofs.lemmas.List.{drop_more, length-take-le, take-append-drop, take_all}
use Rattle.std.proofs.lemmas.List.Folds.{list_all-append}
use Rattle.std.proofs.lemmas.List.Quantifiers.{position-Some}
use Rattle.std.proofs.lemmas.List.Sums.{fails_before_first}
use Rattle.txn_names.specs.Groups.{has}
use Rattle.txn_names.specs.Text.{IsKey, is_key_byte}
use Rattle.txn_names.proofs.Exports.{dot_behind, has_rest}

-- they are a key
pub front_is_key : (n : ℕ) (k : List ℕ) → 0 < n → n < length k → IsKey k → IsKey (take n k)
front_is_key n k some less is =
    let long = length-take-le n k (omega (arith, less)) in
    record {
      some = omega (arith, long, some);
      short = omega (arith, long, less, is.short);
      plain = (and_parts (list_all is_key_byte (take n k)) (list_all is_key_byte (drop n k)) (sym (list_all-append is_key_byte (take n k) (drop n k)) ∙ ap (list_all is_key_byte) (take-append-drop n k) ∙ is.plain)).0;
    }

-- and a group of it
pub has_front : (n : ℕ) (k : List ℕ) → n < length k → get_or k n 0 ≡ 46 → has (take n k) k ≡ true
has_front n k less dot =
    let whole : take n k ++ 46 ∷ drop (n + 1) k ≡ k =
    ap (λ (b : ℕ). take n k ++ b ∷ drop (n + 1) k) (sym dot)
    ∙ ap (λ (xs : List ℕ). take n k ++ xs) (sym (drop_more k n 0 less))
    ∙ take-append-drop n k in
    ap (has (take n k)) (sym whole) ∙ has_rest (take n k) (drop (n + 1) k)

-- ---- the first dot from a place on

-- what is looked for in the rest of the bytes
pub in_rest : (k bytes : List ℕ) (from : ℕ) → bytes ≡ k → (o : Option ℕ) → o ≡ position (λ b. nat_eq b 46) (take (length bytes - from) (drop from bytes)) → o ≡ position (λ b. nat_eq b 46) (drop from k)
in_rest k bytes from same o is =
    is
    ∙ ap (position (λ b. nat_eq b 46)) (take_all (length bytes - from) (drop from bytes) (omega (arith, length-drop from bytes)))
    ∙ ap (λ (xs : List ℕ). position (λ b. nat_eq b 46) (drop from xs)) same

module _ (k : List ℕ) (from : ℕ) where
  -- behind a group a dot stands there
  dot_from : (g : List ℕ) → has g k ≡ true → from ≤ length g → (length g - from < length (drop from k)) × (nat_eq (get_or (drop from k) (length g - from) 0) 46 ≡ true)
  dot_from g there le =
      let dot = dot_behind g k 0 there in
      let back : from + (length g - from) ≡ length g = omega (arith, le) in
      (omega (arith, dot.0, le, length-drop from k), eq-eqb _ 46 (get_or-drop from k (length g - from) 0 ∙ ap (λ (n : ℕ). get_or k n 0) back ∙ dot.1))

  module _ (n : ℕ) (at : position (λ b. nat_eq b 46) (drop from k) ≡ Some n) where
    found : (n < length (drop from k)) × (nat_eq (get_or (drop from k) n 0) 46 ≡ true) × ((i : ℕ) → i < n → nat_eq (get_or (drop from k) i 0) 46 ≡ false)
    found = position-Some (λ b. nat_eq b 46) (drop from k) n 0 at

    pub dot_within : from + n < length k
    dot_within = omega (arith, found.0, length-drop from k)

    pub dot_there : get_or k (from + n) 0 ≡ 46
    dot_there = sym (get_or-drop from k n 0) ∙ eqb-true _ 46 found.1

    pub dot_first : (g : List ℕ) → has g k ≡ true → from ≤ length g → from + n ≤ length g
    dot_first g there le =
        elim (cases_lt (length g) (from + n)) [
          | inl less ↦ absurd (true≢false (sym (dot_from g there le).1 ∙ found.2 (length g - from) (omega (arith, less, le))))
          | inr far ↦ far
        ]

  -- without one no group ends there
  pub no_dot_from : position (λ b. nat_eq b 46) (drop from k) ≡ None → (g : List ℕ) → has g k ≡ true → from ≤ length g → ⊥
  no_dot_from none g there le =
      let dot = dot_from g there le in
      elim (cases_lt (position_or_len (λ b. nat_eq b 46) (drop from k)) (length (drop from k))) [
        | inl within ↦ true≢false (ap is_some (sym (ap (λ b. cond b (Some (position_or_len (λ b. nat_eq b 46) (drop from k))) None) (lt-ltb _ _ within)) ∙ none))
        | inr past ↦ true≢false (sym dot.1 ∙ fails_before_first (λ b. nat_eq b 46) (drop from k) (length g - from) 0 (omega (arith, dot.0, past)))
      ]

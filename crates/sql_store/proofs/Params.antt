-- The parameters of several rows, filled in one row after another.
use Rattle.std.proofs.Common.{◌≡◌, ◌<◌, ◌≤◌, ◌+◌, ◌-◌, ◌*◌, inl, inr, subst, drop, length-take, ℕ, zero, suc, ℤ, true, List, [], ◌∷◌, ◌++◌, length, take, set, get_or, is_some, refl, sym, ap, ◌∙◌, append_assoc, length-set, arith}
use Rattle.std.proofs.lemmas.Bool.{and_parts}
use Rattle.std.proofs.lemmas.List.{take_more, take_more_set, map-append}
use Rattle.sqlite_value.specs.declared.value.ValueRef.{ValueRef}
use Rattle.sqlite_value.specs.Value.{owned}
use Rattle.sqlite.specs.declared.types.Value.TheVariants.{Text, Int}
use Rattle.sqlite.specs.Values.{bound, bound_value}
use Rattle.txn_names.specs.declared.change.Change.{Change}
use Rattle.sql_store.specs.Asked.{have_values, value_of, params_all, IsPiece, IsPieceLen}

params_push : (number : ℤ) (cs : List Change) (c : Change) → params_all number (cs ++ c ∷ []) ≡ params_all number cs ++ (Text c.key ∷ Int (value_of c) ∷ Int number ∷ [])
params_push number [] c = refl
params_push number (d ∷ cs) c = ap (λ l. Text d.key ∷ Int (value_of d) ∷ Int number ∷ l) (params_push number cs c)

-- three values behind one another
three_more : (ps : List ValueRef) (at : ℕ) (a b c : ValueRef) → at + 2 < length ps → take (at + 3) (set (set (set ps at a) (at + 1) b) (at + 2) c) ≡ take at ps ++ (a ∷ b ∷ c ∷ [])
three_more ps at a b c low =
    let one = set ps at a in
    let two = set one (at + 1) b in
    let last : at + 3 ≡ at + 2 + 1 = omega arith in
    let mid : at + 2 ≡ at + 1 + 1 = omega arith in
    ap (λ n. take n (set two (at + 2) c)) last
    ∙ take_more_set two (at + 2) c (omega (arith, length-set one (at + 1) b, length-set ps at a))
    ∙ ap (λ n. take n two ++ c ∷ []) mid
    ∙ ap (λ l. l ++ c ∷ []) (take_more_set one (at + 1) b (omega (arith, length-set ps at a)) ∙ ap (λ l. l ++ b ∷ []) (take_more_set ps at a (omega arith)))
    ∙ append_assoc (take at ps ++ a ∷ []) (b ∷ []) (c ∷ [])
    ∙ append_assoc (take at ps) (a ∷ []) (b ∷ c ∷ [])

pub three_same : (ps : List ValueRef) (i j k : ℕ) (a b c : ValueRef) → length (set (set (set ps i a) j b) k c) ≡ length ps
three_same ps i j k a b c = length-set (set (set ps i a) j b) k c ∙ length-set (set ps i a) j b ∙ length-set ps i a

-- one more row is filled in
pub params_more : (ps : List ValueRef) (rows : List Change) (number : ℤ) (i : ℕ) (d : Change) (a b c : ValueRef)
    → bound_value (owned a) ≡ Text d.key → bound_value (owned b) ≡ Int (value_of d) → bound_value (owned c) ≡ Int number
    → d ≡ get_or rows i d → i < length rows → 3 * i + 2 < length ps → bound (take (3 * i) ps) ≡ params_all number (take i rows)
    → bound (take (3 * (i + 1)) (set (set (set ps (3 * i) a) (3 * i + 1) b) (3 * i + 2) c)) ≡ params_all number (take (i + 1) rows)
params_more ps rows number i d a b c key value count is low room filled =
    let at : 3 * (i + 1) ≡ 3 * i + 3 = omega arith in
    let row : take (i + 1) rows ≡ take i rows ++ d ∷ [] = take_more rows i d low ∙ ap (λ w. take i rows ++ w ∷ []) (sym is) in
    ap (λ n. bound (take n (set (set (set ps (3 * i) a) (3 * i + 1) b) (3 * i + 2) c))) at
    ∙ ap bound (three_more ps (3 * i) a b c room)
    ∙ map-append (λ v. bound_value (owned v)) (take (3 * i) ps) (a ∷ b ∷ c ∷ [])
    ∙ ap (λ l. l ++ (bound_value (owned a) ∷ bound_value (owned b) ∷ bound_value (owned c) ∷ [])) filled
    ∙ ap (λ v. params_all number (take i rows) ++ (v ∷ bound_value (owned b) ∷ bound_value (owned c) ∷ [])) key
    ∙ ap (λ v. params_all number (take i rows) ++ (Text d.key ∷ v ∷ bound_value (owned c) ∷ [])) value
    ∙ ap (λ v. params_all number (take i rows) ++ (Text d.key ∷ Int (value_of d) ∷ v ∷ [])) count
    ∙ sym (params_push number (take i rows) d)
    ∙ ap (params_all number) (sym row)

-- of fewer changes none is a removal either
pub fewer : (m n : ℕ) (cs : List Change) → m ≤ n → have_values (take n cs) ≡ true → have_values (take m cs) ≡ true
fewer zero n cs low h = refl
fewer (suc m) zero cs low h = absurd (omega (arith, low))
fewer (suc m) (suc n) [] low h = refl
fewer (suc m) (suc n) (c ∷ cs) low h = let parts = and_parts (is_some c.value) (have_values (take n cs)) h in rw parts.0 (fewer m n cs (omega (arith, low)) parts.1)

-- nor of those that are left behind some of them
pub later : (m n k : ℕ) (cs : List Change) → k ≡ n - m → have_values (take n cs) ≡ true → have_values (take k (drop m cs)) ≡ true
later zero n k cs is h = let same : n ≡ k = omega arith in subst (λ j. have_values (take j cs) ≡ true) same h
later (suc m) zero k cs is h = let none : 0 ≡ k = omega arith in subst (λ j. have_values (take j (drop (suc m) cs)) ≡ true) none refl
later (suc m) (suc n) zero [] is h = refl
later (suc m) (suc n) (suc k) [] is h = refl
later (suc m) (suc n) k (c ∷ cs) is h = later m n k cs (omega arith) (and_parts (is_some c.value) (have_values (take n cs)) h).1

-- the changes that go together are a piece
pub piece_of : (fresh size : ℕ) (cs : List Change) → 0 < length cs → fresh ≤ length cs → have_values (take fresh cs) ≡ true → IsPieceLen fresh size → IsPiece (take size cs)
piece_of fresh size cs some low values (inl (few, is)) = inl (omega (arith, length-take size cs))
piece_of fresh size cs some low values (inr (inl (four, less, is))) = inr (record { values = fewer size fresh cs (omega arith) values; count = inl (omega (arith, length-take size cs)) })
piece_of fresh size cs some low values (inr (inr (many, is))) = inr (record { values = fewer size fresh cs (omega arith) values; count = inr (omega (arith, length-take size cs)) })

-- behind them stand those that are left of the counted ones
pub piece_within : (fresh size most : ℕ) → 0 < most → fresh ≤ most → IsPieceLen fresh size → size + (fresh - size) ≤ most
piece_within fresh size most some low (inl (few, is)) = omega arith
piece_within fresh size most some low (inr (inl (four, less, is))) = omega arith
piece_within fresh size most some low (inr (inr (many, is))) = omega arith

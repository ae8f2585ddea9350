-- Rows of a store in the byte order of their keys.
use Rattle.std.proofs.Common.{◌≡◌, ℕ, List, [], ◌∷◌, ◌+◌, ◌-◌, ◌<◌, true, false, true≢false, zero, suc, length, drop, get_or, map, arith, refl, sym, ap, ◌∙◌, subst}
use Rattle.std.specs.Cmp.Lexicographic.{slice_cmp}
use Rattle.std.proofs.lemmas.List.{drop_more}
use Rattle.std.specs.Ordering.{nat_cmp, is_ge}
use Rattle.std.specs.declared.cmp.Ordering.{Ordering}
use Rattle.std.specs.declared.cmp.Ordering.TheVariants.{Less, Equal, Greater}
use Rattle.serial_spec.specs.Rows.{IsRising}
use Rattle.serial_spec.proofs.Exports.{above_all}
use Rattle.durable_top.specs.declared.store.Row.{Row}
use Rattle.durable_top.specs.Store.{plain}

-- ---- rows in byte order, from the last one on

-- one more row before them
pub rising_before : (rows : List Row) (i j : ℕ) (a b : Row) → j ≡ i + 1 → j < length rows → a ≡ get_or rows i a → b ≡ get_or rows j b
    → slice_cmp nat_cmp a.key b.key ≡ Less → IsRising (plain (drop j rows)) → IsRising (plain (drop i rows))
rising_before rows i j a b is within at_a at_b less rising =
    let Rises : List Row → Type 0 = λ rs. IsRising (plain rs) in
    let next : drop j rows ≡ b ∷ drop (j + 1) rows = drop_more rows j b within ∙ ap (λ q. q ∷ drop (j + 1) rows) (sym at_b) in
    let here : drop i rows ≡ a ∷ drop j rows =
    drop_more rows i a (omega arith) ∙ ap (λ q. q ∷ drop (i + 1) rows) (sym at_a) ∙ ap (λ n. a ∷ drop n rows) (sym is) in
    let behind : Rises (b ∷ drop (j + 1) rows) = subst Rises next rising in
    subst Rises (sym (here ∙ ap (λ rs. a ∷ rs) next))
    ((less, above_all a.key b.key (map (λ r. r.0) (plain (drop (j + 1) rows))) less behind.0), behind)

-- and each row is below the next
pub rising_at : (rows : List Row) (i : ℕ) (a b : Row) → suc i < length rows → a ≡ get_or rows i a → b ≡ get_or rows (suc i) b
    → IsRising (plain rows) → slice_cmp nat_cmp a.key b.key ≡ Less
rising_at [] i a b within at_a at_b rising = absurd (omega arith)
rising_at (r ∷ []) i a b within at_a at_b rising = absurd (omega arith)
rising_at (r ∷ q ∷ rs) zero a b within at_a at_b rising =
    ap (λ (x : Row). slice_cmp nat_cmp x.key b.key) at_a ∙ ap (λ (x : Row). slice_cmp nat_cmp r.key x.key) at_b ∙ rising.0.0
rising_at (r ∷ q ∷ rs) (suc i) a b within at_a at_b rising = rising_at (q ∷ rs) i a b (omega arith) at_a at_b rising.1

-- what a test for not below tells
pub less_from_ge : (o : Ordering) → is_ge o ≡ false → o ≡ Less
less_from_ge Less e = refl
less_from_ge Equal e = absurd (true≢false e)
less_from_ge Greater e = absurd (true≢false e)

pub not_less_from_ge : (o : Ordering) → is_ge o ≡ true → o ≡ Less → ⊥
not_less_from_ge o e f = true≢false (sym e ∙ ap is_ge f)

-- the last row alone, or none
pub rising_end : (rows : List Row) → IsRising (plain (drop (length rows - 1) rows))
rising_end [] = tt
rising_end (r ∷ []) = (tt, tt)
rising_end (r ∷ q ∷ rs) =
    let last : suc (length (q ∷ rs) - 1) ≡ length (r ∷ q ∷ rs) - 1 = omega arith in
    subst (λ (n : ℕ). IsRising (plain (drop n (r ∷ q ∷ rs)))) last (rising_end (q ∷ rs))

-- Whoever keeps another from an access of a target is in a list of the target.
use Rattle.std.proofs.Common.{◌≡◌, ◌<◌, ℕ, Bool, true, false, ◌&&◌, cond, inl, inr, List, [], ◌∷◌, length, take, refl, sym, ap, subst, ◌∙◌, true≢false, arith}
use Rattle.std.proofs.lemmas.Bool.{and_from, cases_lt, false_from_ne_true, false≢true, ne_eqb}
use Rattle.std.proofs.lemmas.List.{length-take-le, take_all}
use Rattle.txn_names.specs.Groups.{IsGroupBefore, has}
use Rattle.txn_names.proofs.Exports.{dot_behind, same_front, on_test, same_label}
use Rattle.txn_cells.specs.Cells as cells
use Rattle.txn_cells.specs.Kept.{cells_in}
use Rattle.txn_cells.proofs.Exports.{nothing_there}
use Rattle.std.specs.Map.{lookup}
use Rattle.txn_names.specs.Path.{label_eq}
use Rattle.serial_spec.specs.declared.operation.Kind.{Kind}
use Rattle.serial_spec.specs.declared.operation.Kind.TheVariants.{Read, Write}
use Rattle.serial_spec.specs.declared.target.Asked.TheVariants.{At, Over}
use Rattle.serial_spec.specs.declared.target.Target.{Target}
use Rattle.serial_spec.specs.declared.target.Target.TheVariants.{Key, Group}
use Rattle.serial_spec.specs.Locks.{conflicts}
use Rattle.serial_spec.specs.Targets.{kind_of, meets}
use Rattle.lock_table.specs.declared.modes.Modes.{Modes}
use Rattle.lock_table.specs.Inherited.{free, whole}
use Rattle.lock_table.specs.Locked as one
use Rattle.lock_table.specs.Targeted.{AreListed, AreSums, AreWriters, Targeted, is_listed, modes_at}
use Rattle.lock_table.proofs.Blockers.{stands_there}
use Rattle.lock_table.proofs.Reaching.{reads}

-- what is free keeps nobody out
free_lets : (x : Kind) → conflicts (whole free) x ≡ false
free_lets Read = refl
free_lets Write = refl

-- a lock that conflicts has a place
has_place_there : (table : one.Table) (k : List ℕ) (x : Kind) (u : ℕ) → conflicts (whole (one.modes_in table u k)) x ≡ true → one.has_place table u k ≡ true
has_place_there table k x u e =
    on_test (one.has_place table u k) (λ b. one.has_place table u k ≡ b → b ≡ true)
    (λ _ _. refl)
    (λ _ none. absurd (false≢true (sym (ap (cells.stands (λ modes. conflicts (whole modes) x)) (nothing_there (lookup (label_eq k) (cells_in table u)) none)) ∙ stands_there table k x u e)))
    refl

module _ (l : Targeted) (writers : AreWriters l.keys l.writers) (sums : AreSums l.sums) where
  of_key : (k : List ℕ) → 0 < length k → (u : ℕ) (x : Kind) (v : Target) → meets v (Key k) ≡ true → conflicts (whole (modes_at l u v)) x ≡ true
      → (place : ℕ) × (place < length k) × (is_listed l (Key k) place u ≡ true)
  of_key k some u x (Key q) m c = (0, some, subst (λ (w : List ℕ). one.has_place l.keys u w ≡ true) (same_label q k m) (has_place_there l.keys q x u c))
  of_key k some u x (Group []) m c = absurd (true≢false (sym c ∙ ap (λ (n : Modes). conflicts (whole n) x) (sums.none u) ∙ free_lets x))
  of_key k some u x (Group (d ∷ g)) m c =
      let f : List ℕ = d ∷ g in
      let dot = dot_behind f k 0 m in
      let front : f ≡ take (length f) k = same_front f k m in
      let here : (has f k && one.has_place l.sums u f) ≡ true = and_from _ _ m (has_place_there l.sums f x u c) in (
        length f,
        dot.0,
        ap (λ b. cond b (one.has_place l.keys u k) (has (take (length f) k) k && one.has_place l.sums u (take (length f) k))) (ne_eqb (length f) 0 (λ e. omega (arith, e)))
            ∙ subst (λ (w : List ℕ). (has w k && one.has_place l.sums u w) ≡ true) front here,
      )

  of_group : (g : List ℕ) → 0 < length g → (u : ℕ) (v : Target) → meets v (Group g) ≡ true → conflicts (whole (modes_at l u v)) Read ≡ true
      → (place : ℕ) × (place < 1) × (is_listed l (Group g) place u ≡ true)
  of_group g some u (Key k) m c =
      let wrote = writers.marked u g k some m (sym (reads (whole (one.modes_in l.keys u k))) ∙ c) in
      (0, omega arith, has_place_there l.writers g Read u (reads (whole (one.modes_in l.writers u g)) ∙ wrote))
  of_group g some u (Group f) m c = absurd (false≢true m)

  pub key_listed : (k : List ℕ) → 0 < length k → AreListed l (Key k)
  key_listed k some u a same r = of_key k some u (kind_of a) r.0 r.1 r.2

  pub group_listed : (g : List ℕ) → 0 < length g → AreListed l (Group g)
  group_listed g some u (At q o) same r = absurd (apart q g same)
    where
      apart : (q g : List ℕ) → Key q ≡ Group g → ⊥
      apart q g e = cc
  group_listed g some u (Over f) same r = of_group g some u r.0 r.1 r.2

-- ---- the list at a place

module _ (l : Targeted) (k : List ℕ) (place : ℕ) (other : place ≡ 0 → ⊥) (u : ℕ) where
  further : is_listed l (Key k) place u ≡ (has (take place k) k && one.has_place l.sums u (take place k))
  further = ap (λ b. cond b (one.has_place l.keys u k) (has (take place k) k && one.has_place l.sums u (take place k))) (ne_eqb place 0 other)

  -- a group of so many bytes is the key's first ones
  pub listed_at_group : (g : List ℕ) → has g k ≡ true → length g ≡ place → one.has_place l.sums u g ≡ is_listed l (Key k) place u
  listed_at_group g there long =
      let front : g ≡ take place k = same_front g k there ∙ ap (λ n. take n k) long in
      subst (λ (w : List ℕ). one.has_place l.sums u g ≡ (has w k && one.has_place l.sums u w)) front (sym (ap (λ b. b && one.has_place l.sums u g) there)) ∙ sym further

  -- where nobody has locked a group the list has nobody
  pub listed_nowhere : l.sums ≡ one.nothing → false ≡ is_listed l (Key k) place u
  listed_nowhere bare = sym (further ∙ ap (λ (sums : one.Table). has (take place k) k && one.has_place sums u (take place k)) bare ∙ and_false (has (take place k) k))
    where
      and_false : (b : Bool) → (b && false) ≡ false
      and_false true = refl
      and_false false = refl

  -- without one the list has nobody
  pub listed_at_none : ((g : List ℕ) → IsGroupBefore k place g → ⊥) → false ≡ is_listed l (Key k) place u
  listed_at_none none = sym (further ∙ ap (λ b. b && one.has_place l.sums u (take place k)) (false_from_ne_true (has (take place k) k) absent))
    where
      absent : has (take place k) k ≡ true → ⊥
      absent there =
          let dot = dot_behind (take place k) k 0 there in
          elim (cases_lt (length k) place) [
            | inl past ↦ let whole_key = take_all place k (omega (arith, past)) in let size = ap (λ (w : List ℕ). length w) whole_key in omega (arith, dot.0, size)
            | inr within ↦ let size = length-take-le place k within in none (take place k) (there, omega (arith, size, other), size)
          ]

-- What is held at a key, as one of those that hold it is looked for, put in, set and taken out.
use Rattle.std.proofs.Common.{◌≡◌, ◌<◌, ◌≤◌, ◌+◌, ℕ, suc, Bool, true, false, cond, not, nat_eq, ◌&&◌, ◌||◌, List, [], ◌∷◌, length, get_or, set, Option, Some, None, unwrap_or, is_some, refl, sym, ap, subst, ◌∙◌, arith}
use Rattle.std.specs.Prelude.{slice_get}
use Rattle.std.specs.List.{insert, remove, zip}
use Rattle.std.specs.List.Sorted.{IsStrictlyIncreasing}
use Rattle.std.specs.Map.{keys_of, lookup}
use Rattle.std.proofs.lemmas.Cmp.{nat_eq_equiv}
use Rattle.std.proofs.lemmas.List.Edits.{length-insert, length-remove}
use Rattle.std.proofs.lemmas.Map.{lookup-insert, none_passes_from_lookup}
use Rattle.std.proofs.lemmas.Map.Entries.{length-keys_of}
use Rattle.std.proofs.lemmas.Option.{get_or_from_slice_get, slice_get-get_or, slice_get_within}
use Rattle.txn_cells.specs.Cells.{joined_here}
use Rattle.txn_cells.specs.Kept.{Held, IsChangedAt, content_of, holds}
use Rattle.txn_cells.proofs.ByKey.{any_at, rises, rising_without}
use Rattle.txn_cells.proofs.Puts.{none_from, on_number}
use Rattle.txn_cells.proofs.Reserving.{found_by_key}
use Rattle.txn_cells.proofs.Zipped.{found-remove, found-set, found_at, zip-insert}

pub length-zip : {K X : Type 0} (ns : List K) (cs : List X) → length cs ≡ length ns → length (zip ns cs) ≡ length ns
length-zip [] cs same = refl
length-zip (n ∷ ns) [] same = absurd (omega (arith, same))
length-zip (n ∷ ns) (c ∷ cs) same = ap suc (length-zip ns cs (omega (arith, same)))

pub bare_from : {X : Type 0} (xs : List X) → length xs ≡ 0 → xs ≡ []
bare_from [] none = refl
bare_from (x ∷ xs) none = absurd (omega (arith, none))

-- ---- one is changed

-- one that has a place has it still, and no more do
still : {V : Type 0} (held : Held V) (t u : ℕ) → holds held t ≡ true → cond (nat_eq t u) true (holds held u) ≡ holds held u
still held t u there =
    on_number t u (λ b. cond b true (holds held u) ≡ holds held u)
    (λ e. subst (λ (v : ℕ). true ≡ holds held v) e (sym there))
    (λ _. refl)

pub still_or : {V : Type 0} (held : Held V) (t u : ℕ) → holds held t ≡ true → (nat_eq t u || holds held u) ≡ holds held u
still_or held t u there =
    on_number t u (λ b. (b || holds held u) ≡ holds held u)
    (λ e. subst (λ (v : ℕ). true ≡ holds held v) e (sym there))
    (λ _. refl)

-- an empty place is as none
empty_as_none : {V : Type 0} (held : Held V) (t u : ℕ) → holds held t ≡ false → cond (nat_eq t u) None (content_of held u) ≡ content_of held u
empty_as_none held t u none =
    on_number t u (λ b. cond b None (content_of held u) ≡ content_of held u)
    (λ e. subst (λ (v : ℕ). None ≡ content_of held v) e (sym (ap (λ o. unwrap_or o None) (none_from (lookup (nat_eq t) held) none))))
    (λ _. refl)

module _ {V : Type 0} (old new : Held V) (t : ℕ) (now : Option (Option V)) (changed : IsChangedAt old new t now) (u : ℕ) where
  pub changed_content : content_of new u ≡ cond (nat_eq t u) (unwrap_or now None) (content_of old u)
  changed_content = ap (λ o. unwrap_or o None) (changed u) ∙ by (nat_eq t u)
    where
      by : (b : Bool) → unwrap_or (cond b now (lookup (nat_eq u) old)) None ≡ cond b (unwrap_or now None) (content_of old u)
      by true = refl
      by false = refl

  pub changed_holds : holds new u ≡ cond (nat_eq t u) (is_some now) (holds old u)
  changed_holds = ap is_some (changed u) ∙ by (nat_eq t u)
    where
      by : (b : Bool) → is_some (cond b now (lookup (nat_eq u) old)) ≡ cond b (is_some now) (holds old u)
      by true = refl
      by false = refl

module _ {V : Type 0} (old new : Held V) (t : ℕ) where
  -- ---- an empty place is put in

  module _ (changed : IsChangedAt old new t (Some None)) (u : ℕ) where
    pub put_contents : holds old t ≡ false → content_of new u ≡ content_of old u
    put_contents fresh = changed_content old new t (Some None) changed u ∙ empty_as_none old t u fresh

    pub put_holds : holds new u ≡ (nat_eq t u || holds old u)
    put_holds = changed_holds old new t (Some None) changed u ∙ by (nat_eq t u)
      where
        by : (b : Bool) → cond b true (holds old u) ≡ (b || holds old u)
        by true = refl
        by false = refl

  -- ---- one is set

  pub set_holds : (c : Option V) → IsChangedAt old new t (Some c) → holds old t ≡ true → (u : ℕ) → holds new u ≡ holds old u
  set_holds c changed there u = changed_holds old new t (Some c) changed u ∙ still old t u there

  -- ---- one is taken out

  pub taken_holds : IsChangedAt old new t None → (u : ℕ) → holds new u ≡ (not (nat_eq t u) && holds old u)
  taken_holds changed u = changed_holds old new t None changed u ∙ by (nat_eq t u)
    where
      by : (b : Bool) → cond b false (holds old u) ≡ (not b && holds old u)
      by true = refl
      by false = refl

-- who has no place has nothing to lose
module _ {V : Type 0} (held : Held V) (t : ℕ) (fresh : holds held t ≡ false) where
  pub nothing_had : content_of held t ≡ None
  nothing_had = ap (λ o. unwrap_or o None) (none_from (lookup (nat_eq t) held) fresh)

  pub out_already : IsChangedAt held held t None
  out_already u =
      on_number t u (λ b. lookup (nat_eq u) held ≡ cond b None (lookup (nat_eq u) held))
      (λ e. subst (λ (v : ℕ). lookup (nat_eq v) held ≡ None) e (none_from (lookup (nat_eq t) held) fresh))
      (λ _. refl)

-- what is added in a place that is new is added to nothing
pub put_joined : {V : Type 0} (old new : Held V) (t : ℕ) (join : Option V → V) → holds old t ≡ false → IsChangedAt old new t (Some None)
    → (u : ℕ) → cond (nat_eq t u) (Some (join None)) (content_of new u) ≡ joined_here (content_of old) t join u
put_joined old new t join fresh changed u =
    on_number t u (λ b. cond b (Some (join None)) (content_of new u) ≡ cond b (Some (join (content_of old u))) (content_of old u))
    (λ e. ap (λ o. Some (join o)) (sym (subst (λ (v : ℕ). content_of old v ≡ None) e (nothing_had old t fresh))))
    (λ _. put_contents old new t changed u fresh)

-- who stands at an index has a place
pub holds_at : {V : Type 0} (held : Held V) (t i : ℕ) → slice_get (keys_of held) i ≡ Some t → holds held t ≡ true
holds_at held t i at = found_by_key (nat_eq t) held ∙ any_at (keys_of held) t i at

-- the same numbers are as many
pub as_many : {V : Type 0} (old new : Held V) → keys_of new ≡ keys_of old → length new ≤ length old
as_many old new same = omega (arith, ap length same, length-keys_of old, length-keys_of new)

pub key_within : {V : Type 0} (held : Held V) (i : ℕ) → i < length held → (t : ℕ) × (slice_get (keys_of held) i ≡ Some t)
key_within held i within = (get_or (keys_of held) i 0, slice_get-get_or (keys_of held) i 0 (omega (arith, within, length-keys_of held)))

-- ---- rising numbers, and beside each what it has

module _ {V : Type 0} (ns : List ℕ) (cs : List (Option V)) (rising : IsStrictlyIncreasing ns) (same : length cs ≡ length ns) (t i : ℕ) where
  -- an empty place
  module _ (within : i ≤ length ns) where
    pub put_same : length (insert cs i None) ≡ length (insert ns i t)
    put_same = let a = length-insert ns i t within in let b = length-insert cs i None (omega (arith, within, same)) in omega (arith, a, b, same)

    pub put_cell : holds (zip ns cs) t ≡ false → IsChangedAt (zip ns cs) (zip (insert ns i t) (insert cs i None)) t (Some None)
    put_cell fresh u =
        ap (λ (h : Held V). lookup (nat_eq u) h) (zip-insert ns cs i t None same within)
        ∙ lookup-insert nat_eq_equiv t None u (zip ns cs) i (none_passes_from_lookup (nat_eq t) (zip ns cs) (none_from (lookup (nat_eq t) (zip ns cs)) fresh))

    pub put_more : length (zip (insert ns i t) (insert cs i None)) ≡ length (zip ns cs) + 1
    put_more = let a = length-zip ns cs same in let b = length-zip (insert ns i t) (insert cs i None) put_same in let c = length-insert ns i t within in omega (arith, a, b, c)

  module _ (at : slice_get ns i ≡ Some t) where
    within : i < length ns
    within = slice_get_within ns i t at

    number : get_or ns i 0 ≡ t
    number = get_or_from_slice_get ns i t 0 at

    pub has_content : (d : Option V) → content_of (zip ns cs) t ≡ get_or cs i d
    has_content d = ap (λ o. unwrap_or o None) (found_at ns cs t i d (rises ns t rising) same within number)

    pub set_cell : (c : Option V) → IsChangedAt (zip ns cs) (zip ns (set cs i c)) t (Some c)
    set_cell c = found-set ns cs t i c (rises ns t rising) same within number

    -- ---- taken out

    pub taken_cell : IsChangedAt (zip ns cs) (zip (remove ns i) (remove cs i)) t None
    taken_cell = found-remove ns cs t i (rises ns t rising) same within number

    pub taken_rising : IsStrictlyIncreasing (remove ns i)
    taken_rising = rising_without ns t i rising at

    pub taken_same : length (remove cs i) ≡ length (remove ns i)
    taken_same = let a = length-remove ns i within in let b = length-remove cs i (omega (arith, within, same)) in omega (arith, a, b, same)

    pub taken_fewer : length (zip (remove ns i) (remove cs i)) ≤ length (zip ns cs)
    taken_fewer = let a = length-zip ns cs same in let b = length-zip (remove ns i) (remove cs i) taken_same in let c = length-remove ns i within in omega (arith, a, b, c)

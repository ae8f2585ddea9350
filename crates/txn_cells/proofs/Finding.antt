-- Those that hold a key in an order of no account, found by number, and beside them their numbers, rising.
use Rattle.std.proofs.Common.{◌≡◌, ◌≤◌, ◌+◌, ◌++◌, ℕ, zero, suc, true, false, cond, not, nat_eq, ◌&&◌, ◌||◌, List, [], ◌∷◌, length, get_or, take, Option, Some, None, unwrap_or, is_some, refl, sym, ap, ◌∙◌, arith}
use Rattle.std.specs.Prelude.{slice_get}
use Rattle.std.specs.List.{insert, list_any, position, position_or_len, remove, take-map}
use Rattle.std.specs.List.Sorted.{IsStrictlyIncreasing}
use Rattle.std.specs.Map.{keys_of, lookup}
use Rattle.std.proofs.lemmas.Bool.{eqb-true, false≢true, or_parts}
use Rattle.std.proofs.lemmas.Cmp.{nat_eq_equiv}
use Rattle.std.proofs.lemmas.List.{length-append}
use Rattle.std.proofs.lemmas.List.Edits.{length-insert, length-remove}
use Rattle.std.proofs.lemmas.List.Quantifiers.{position-Some}
use Rattle.std.proofs.lemmas.Map.Entries.{length-keys_of, lookup_from_place}
use Rattle.std.proofs.lemmas.Option.{slice_get-get_or, slice_get_within}
use Rattle.indexmap.specs.IndexMap.{IndexMap, insert_entry}
use Rattle.indexmap.proofs.CallerLemmas.{insert_entry-new}
use Rattle.serial_spec.proofs.Exports.{take_next}
use Rattle.txn_cells.specs.Kept.{AreHolders, Held, IsChangedAt, content_of, holds}
use Rattle.txn_cells.proofs.ByKey.{any-insert, any-taken, any_at, distinct, none_before, rising_without}
use Rattle.txn_cells.proofs.Holding.{put_holds, set_holds, taken_holds}
use Rattle.txn_cells.proofs.Puts.{none_from}
use Rattle.txn_cells.proofs.Reserving.{found_by_key}

-- a number that is found is at its place
pub number_found : (t : ℕ) (ns : List ℕ) (p : ℕ) → position (nat_eq t) ns ≡ Some p → slice_get ns p ≡ Some t
number_found t ns p e =
    let found = position-Some (nat_eq t) ns p 0 e in
    slice_get-get_or ns p 0 found.0 ∙ ap (λ (n : ℕ). Some n) (sym (eqb-true t (get_or ns p 0) found.1))

pub entry_at : {V : Type 0} (held : Held V) (t p : ℕ) → slice_get (keys_of held) p ≡ Some t → (c : Option V) × (slice_get held p ≡ Some (t, c))
entry_at [] t p is = absurd (false≢true (ap is_some is))
entry_at (e ∷ held) t zero is = (e.1, ap (λ (n : ℕ). Some (n, e.1)) (ap (λ o. unwrap_or o t) is))
entry_at (e ∷ held) t (suc p) is = entry_at held t p is

-- ---- the numbers beside

pub own_numbers : {V : Type 0} (held : Held V) → IsStrictlyIncreasing (keys_of held) → AreHolders (keys_of held) held
own_numbers held rising = record { rising = rising; each = λ u. sym (found_by_key (nat_eq u) held); count = length-keys_of held }

module _ {V : Type 0} (ns : List ℕ) (old new : Held V) (are : AreHolders ns old) (t : ℕ) where
  pub holders_put : (i : ℕ) → i ≤ length ns → IsStrictlyIncreasing (insert ns i t) → IsChangedAt old new t (Some None) → length new ≡ length old + 1 → AreHolders (insert ns i t) new
  holders_put i within rising changed more = record {
    rising = rising;
    each = λ u. any-insert ns t i u ∙ ap (λ b. nat_eq t u || b) (are.each u) ∙ sym (put_holds old new t changed u);
    count = omega (arith, length-insert ns i t within, are.count, more);
  }

  pub holders_set : (c : Option V) → holds old t ≡ true → IsChangedAt old new t (Some c) → length new ≡ length old → AreHolders ns new
  holders_set c there changed same = record {
    rising = are.rising;
    each = λ u. are.each u ∙ sym (set_holds old new t c changed there u);
    count = omega (arith, are.count, same);
  }

  module _ (i : ℕ) (at : slice_get ns i ≡ Some t) where
    -- whose number is there holds the key
    pub there : holds old t ≡ true
    there = sym (are.each t) ∙ any_at ns t i at

    pub holders_left : IsChangedAt old new t None → length new + 1 ≡ length old → AreHolders (remove ns i) new
    holders_left changed fewer = record {
      rising = rising_without ns t i are.rising at;
      each = λ u. any-taken ns t i are.rising at u ∙ ap (λ b. not (nat_eq t u) && b) (are.each u) ∙ sym (taken_holds old new t changed u);
      count = omega (arith, length-remove ns i (slice_get_within ns i t at), are.count, fewer);
    }

-- ---- one that goes last

or_len-absent : (t : ℕ) (ns : List ℕ) → list_any (nat_eq t) ns ≡ false → position_or_len (nat_eq t) ns ≡ length ns
or_len-absent t [] none = refl
or_len-absent t (n ∷ ns) none =
    let parts = or_parts (nat_eq t n) (list_any (nat_eq t) ns) none in
    let more : 1 + position_or_len (nat_eq t) ns ≡ suc (length ns) = omega (arith, or_len-absent t ns parts.1) in
    ap (λ b. cond (not b) (1 + position_or_len (nat_eq t) ns) 0) parts.0 ∙ more

key_last : {V : Type 0} (held : Held V) (t : ℕ) (c : Option V) → slice_get (keys_of (held ++ (t, c) ∷ [])) (length (keys_of held)) ≡ Some t
key_last [] t c = refl
key_last (e ∷ held) t c = key_last held t c

module _ {V S : Type 0} (m : IndexMap ℕ (Option V) S) (now : Held V) (t : ℕ) (c : Option V) (fresh : holds m.entries t ≡ false) (is : now ≡ insert_entry nat_eq m.entries t c) where
  last : now ≡ m.entries ++ (t, c) ∷ []
  last = is ∙ insert_entry-new nat_eq m t c (none_from (lookup (nat_eq t) m.entries) fresh)

  pub last_more : length now ≡ length m.entries + 1
  last_more = omega (arith, ap length last, length-append m.entries ((t, c) ∷ []))

  pub last_at : (i : ℕ) → i ≡ position_or_len (nat_eq t) (keys_of m.entries) → slice_get (keys_of now) i ≡ Some t
  last_at i at =
      ap (λ (es : Held V). slice_get (keys_of es) i) last
      ∙ ap (λ (n : ℕ). slice_get (keys_of (m.entries ++ (t, c) ∷ [])) n) (at ∙ or_len-absent t (keys_of m.entries) (sym (found_by_key (nat_eq t) m.entries) ∙ fresh))
      ∙ key_last m.entries t c

-- ---- one after the other

module _ {V : Type 0} (held : Held V) (t i : ℕ) (rising : IsStrictlyIncreasing (keys_of held)) (at : slice_get (keys_of held) i ≡ Some t) where
  pub not_before : lookup (nat_eq t) (take i held) ≡ None
  not_before =
      none_from (lookup (nat_eq t) (take i held))
      (found_by_key (nat_eq t) (take i held)
      ∙ ap (list_any (nat_eq t)) (sym (take-map (λ e. e.0) i held))
      ∙ none_before (keys_of held) t i rising at)

  pub next_is : take (i + 1) held ≡ take i held ++ (t, content_of held t) ∷ []
  next_is =
      let e = entry_at held t i at in
      let is = lookup_from_place nat_eq_equiv held i t e.0 (distinct (keys_of held) rising) e.1 in
      take_next held i (t, e.0) e.1 ∙ ap (λ (c : Option V). take i held ++ (t, c) ∷ []) (sym (ap (λ o. unwrap_or o None) is))

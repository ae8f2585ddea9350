-- The sums over groups beside the values of keys: what a value that is set does to them, and how they are made.
use Rattle.std.proofs.Common.{◌≡◌, ℕ, ℤ, zero, suc, pos, neg_ℤ, ◌+◌, ◌*◌, ◌^◌, ◌<◌, ◌≤◌, ◌+ℤ◌, ◌-ℤ◌, ◌≤ℤ◌, true, cond, List, [], ◌∷◌, length, take, take_all, Option, Some, None, is_some, unwrap_or, refl, sym, ap, subst, ◌∙◌, arith, true≢false}
use Rattle.std.specs.Prelude.{slice_get}
use Rattle.std.specs.List.{AllByRecursion, IsDistinct}
use Rattle.std.specs.Map.{keys_of, values_of}
use Rattle.std.proofs.lemmas.Bool.{false≢true}
use Rattle.std.proofs.lemmas.Int.{ints}
use Rattle.indexmap.specs.IndexMap.{set_value_at}
use Rattle.txn_names.specs.Path.{label_eq}
use Rattle.txn_names.specs.Groups.{has}
use Rattle.txn_names.specs.Text.{IsKey}
use Rattle.txn_names.proofs.Exports.{on_test}
use Rattle.serial_spec.specs.Operations.{amount}
use Rattle.serial_spec.specs.Serial.{Map, put}
use Rattle.serial_spec.specs.Sums.{sum_in}
use Rattle.serial_spec.proofs.Exports.{sum_in-else, sum_in-put}
use Rattle.report_tables.specs.inner.Tallied.{AreCounted, AreNamed, AreTallied, HaveRoom, IsFine, IsSmall, IsValue, Sums, by_key, raised}
use Rattle.report_tables.specs.Valued.{Values, value_at}
use Rattle.report_tables.proofs.Running.{value_here, value_put}
use Rattle.report_tables.proofs.Speaking.{keys_set}
use Rattle.report_tables.proofs.Summing.{part_of, sum_is_total, total, total_more}
use Rattle.report_tables.proofs.Tallying.{length_raised, named_raised, raised_all}

-- ---- an entry by its number

pub key_here : {X : Type 0} (es : List (List ℕ × X)) (n : ℕ) (k : List ℕ) (v : X) → slice_get es n ≡ Some (k, v) → slice_get (keys_of es) n ≡ Some k
key_here [] n k v at = absurd (false≢true (ap is_some at))
key_here (e ∷ es) zero k v at = ap (λ o. Some (unwrap_or o e).0) at
key_here (e ∷ es) (suc n) k v at = key_here es n k v at

pub value_there : {X : Type 0} (es : List (List ℕ × X)) (n : ℕ) (k : List ℕ) (v : X) → slice_get es n ≡ Some (k, v) → slice_get (values_of es) n ≡ Some v
value_there [] n k v at = absurd (false≢true (ap is_some at))
value_there (e ∷ es) zero k v at = ap (λ o. Some (unwrap_or o e).1) at
value_there (e ∷ es) (suc n) k v at = value_there es n k v at

pub set_past : {X : Type 0} (es : List (List ℕ × X)) (n : ℕ) (w : X) → slice_get es n ≡ None → es ≡ set_value_at es n w
set_past [] n w past = refl
set_past (e ∷ es) zero w past = absurd (true≢false (ap is_some past))
set_past {X} (e ∷ es) (suc n) w past = ap (λ (xs : List (List ℕ × X)). e ∷ xs) (set_past es n w past)

pub set_valueless : {X : Type 0} (es : List (List ℕ × X)) (n : ℕ) (w : X) → slice_get (values_of es) n ≡ None → es ≡ set_value_at es n w
set_valueless [] n w past = refl
set_valueless (e ∷ es) zero w past = absurd (true≢false (ap is_some past))
set_valueless {X} (e ∷ es) (suc n) w past = ap (λ (xs : List (List ℕ × X)). e ∷ xs) (set_valueless es n w past)

pub key_past : {X : Type 0} (es : List (List ℕ × X)) (n : ℕ) (k : List ℕ) → slice_get es n ≡ None → slice_get (keys_of es) n ≡ Some k → ⊥
key_past [] n k past at = false≢true (ap is_some at)
key_past (e ∷ es) zero k past at = true≢false (ap is_some past)
key_past (e ∷ es) (suc n) k past at = key_past es n k past at

pub length_set : {X : Type 0} (es : List (List ℕ × X)) (n : ℕ) (w : X) → length (set_value_at es n w) ≡ length es
length_set [] n w = refl
length_set (e ∷ es) zero w = refl
length_set (e ∷ es) (suc n) w = ap suc (length_set es n w)

-- ---- how large a sum may be

fine_keys : (es : Values) → AllByRecursion IsFine es → AllByRecursion IsKey (keys_of es)
fine_keys [] fine = tt
fine_keys (e ∷ es) fine = (fine.0.key, fine_keys es fine.1)

part_bound : (g : List ℕ) (e : List ℕ × Option ℤ) → IsFine e → (neg_ℤ (pos (2 ^ 63)) ≤ℤ part_of g e.0 e.1) × (part_of g e.0 e.1 ≤ℤ pos (2 ^ 63))
part_bound g e fine =
    on_test (has g e.0) (λ b. (neg_ℤ (pos (2 ^ 63)) ≤ℤ cond b (amount e.1) (pos 0)) × (cond b (amount e.1) (pos 0) ≤ℤ pos (2 ^ 63)))
    (λ _. (fine.value.least, fine.value.most)) (λ _. (omega (arith, ints), omega (arith, ints)))

pub total_bound : (g : List ℕ) (es : Values) → AllByRecursion IsFine es → (neg_ℤ (pos (length es * 2 ^ 63)) ≤ℤ total g es) × (total g es ≤ℤ pos (length es * 2 ^ 63))
total_bound g [] fine = (omega (arith, ints), omega (arith, ints))
total_bound g (e ∷ es) fine =
    let rest = total_bound g es fine.1 in
    let one = part_bound g e fine.0 in
    let low = rest.0 in
    let high = rest.1 in
    let least = one.0 in
    let most = one.1 in
    (omega (arith, ints, low, least), omega (arith, ints, high, most))

pub sum_total : (g : List ℕ) (es : Values) → IsDistinct label_eq (keys_of es) → AllByRecursion IsFine es → sum_in (value_at es) g ≡ total g es
sum_total g es distinct fine = sum_is_total g es distinct (fine_keys es fine)

sum_small : (g : List ℕ) (es : Values) → length es < 2 ^ 63 → IsDistinct label_eq (keys_of es) → AllByRecursion IsFine es → IsSmall (sum_in (value_at es) g)
sum_small g es few distinct fine =
    let b = total_bound g es fine in
    let low = b.0 in
    let high = b.1 in
    let same = sum_total g es distinct fine in
    record { least = omega (arith, ints, low, same, few); most = omega (arith, ints, high, same, few) }

-- ---- a value that is set

fine_set : (es : Values) (n : ℕ) (k : List ℕ) (w : Option ℤ) → slice_get (keys_of es) n ≡ Some k → IsValue w → AllByRecursion IsFine es → AllByRecursion IsFine (set_value_at es n w)
fine_set [] n k w at value fine = tt
fine_set (e ∷ es) zero k w at value fine = (record { key = fine.0.key; value = value }, fine.1)
fine_set (e ∷ es) (suc n) k w at value fine = (fine.0, fine_set es n k w at value fine.1)

fine_at : (es : Values) (n : ℕ) (k : List ℕ) → slice_get (keys_of es) n ≡ Some k → AllByRecursion IsFine es → IsKey k
fine_at [] n k at fine = absurd (false≢true (ap is_some at))
fine_at (e ∷ es) zero k at fine = subst IsKey (ap (λ o. unwrap_or o k) at) fine.0.key
fine_at (e ∷ es) (suc n) k at fine = fine_at es n k at fine.1

module _ (es : Values) (ss : Sums) (n : ℕ) (k : List ℕ) (v w : Option ℤ) (d : ℤ) (counted : AreCounted es ss) (at : slice_get es n ≡ Some (k, v)) (value : IsValue w) (change : d ≡ amount w -ℤ amount v) where
  abbrev then : Values
  then = set_value_at es n w

  key : slice_get (keys_of es) n ≡ Some k
  key = key_here es n k v at

  then_few : length then < 2 ^ 63
  then_few = (let few = counted.few in let same = length_set es n w in omega (arith, few, same))

  then_distinct : IsDistinct label_eq (keys_of then)
  then_distinct = subst (λ (ks : List (List ℕ)). IsDistinct label_eq ks) (sym (keys_set es n w)) counted.distinct

  then_fine : AllByRecursion IsFine then
  then_fine = fine_set es n k w key value counted.fine

  then_map : value_at then ≡ put (value_at es) k w
  then_map = λ i q. value_put es n k q w counted.distinct key i

  sum_then : (g : List ℕ) → sum_in (value_at es) g +ℤ by_key k d g ≡ sum_in (value_at then) g
  sum_then g =
      on_test (has g k) (λ b. has g k ≡ b → sum_in (value_at es) g +ℤ cond b d (pos 0) ≡ sum_in (value_at then) g)
      (λ is _.
      let old : value_at es k ≡ v = value_here es n k v counted.distinct key (value_there es n k v at) in
      let more : sum_in (put (value_at es) k w) g ≡ sum_in (value_at es) g +ℤ (amount w -ℤ amount (value_at es k)) = sum_in-put (value_at es) g k w (fine_at es n k key counted.fine) is in
      let same : sum_in (value_at then) g ≡ sum_in (put (value_at es) k w) g = ap (λ (m : Map). sum_in m g) then_map in
      let was : amount (value_at es k) ≡ amount v = ap amount old in
      omega (arith, ints, more, same, was, change))
      (λ other _.
      let kept : sum_in (put (value_at es) k w) g ≡ sum_in (value_at es) g = sum_in-else (value_at es) g k w other in
      let same : sum_in (value_at then) g ≡ sum_in (put (value_at es) k w) g = ap (λ (m : Map). sum_in m g) then_map in
      omega (arith, ints, kept, same))
      refl

  pub set_room : HaveRoom (λ g. has g k ≡ true) d ss
  set_room = each ss counted.sums
    where
      each : (xs : Sums) → AllByRecursion (λ s. s.1 ≡ sum_in (value_at es) s.0) xs → HaveRoom (λ g. has g k ≡ true) d xs
      each [] all = tt
      each (s ∷ xs) all = (
        (λ is.
            let own = all.0 in
            let due : by_key k d s.0 ≡ d = ap (λ b. cond b d (pos 0)) is in
            let later = sum_then s.0 in
            let same : sum_in (value_at then) s.0 ≡ s.1 +ℤ d = omega (arith, ints, own, due, later) in
            subst IsSmall same (sum_small s.0 then then_few then_distinct then_fine)),
        each xs all.1,
      )

  pub set_counted : AreCounted then (raised (by_key k d) ss)
  set_counted = record {
    few = then_few;
    distinct = then_distinct;
    fine = then_fine;
    sums = raised_all (by_key k d) (λ s. s.1 ≡ sum_in (value_at es) s.0) (λ s. s.1 ≡ sum_in (value_at then) s.0) ss
        (λ s own. ap (λ t. t +ℤ by_key k d s.0) own ∙ sum_then s.0) counted.sums;
  }

pub tallied_set : (es : Values) (ss : Sums) (n : ℕ) (k : List ℕ) (v w : Option ℤ) (d : ℤ) → AreTallied es ss → slice_get es n ≡ Some (k, v) → IsValue w → d ≡ amount w -ℤ amount v
    → AreTallied (set_value_at es n w) (raised (by_key k d) ss)
tallied_set es ss n k v w d tallied at value change = record {
  named = named_raised (by_key k d) ss tallied.named;
  counted = λ some. set_counted es ss n k v w d (tallied.counted (subst (λ m. 0 < m) (length_raised (by_key k d) ss) some)) at value change;
}

-- the sum with this number is that of its group
pub sum_at : (es : Values) (ss : Sums) (n : ℕ) (f g : List ℕ) (s : ℤ) → AreTallied es ss → slice_get ss n ≡ Some (f, s) → slice_get (keys_of ss) n ≡ Some g → s ≡ sum_in (value_at es) g
sum_at es ss n f g s tallied at named = find ss n (λ some. (tallied.counted some).sums) at ∙ ap (sum_in (value_at es)) (ap (λ o. unwrap_or o g) (sym (key_here ss n f s at) ∙ named))
  where
    find : (xs : Sums) (i : ℕ) → (0 < length xs → AllByRecursion (λ t. t.1 ≡ sum_in (value_at es) t.0) xs) → slice_get xs i ≡ Some (f, s) → s ≡ sum_in (value_at es) f
    find [] i all here = absurd (false≢true (ap is_some here))
    find (x ∷ xs) zero all here = subst (λ (t : List ℕ × ℤ). t.1 ≡ sum_in (value_at es) t.0) (ap (λ o. unwrap_or o x) here) (all (omega arith)).0
    find (x ∷ xs) (suc i) all here = find xs i (λ _. (all (omega arith)).1) here

-- ---- how they are made

-- so many of the keys are counted
abbrev pub Counted : Values → ℕ → Sums → Type 0
Counted es n ss = AllByRecursion (λ s. s.1 ≡ total s.0 (take n es)) ss

length_front : (es : Values) (n : ℕ) → length (take n es) ≤ n
length_front [] zero = omega arith
length_front [] (suc n) = omega arith
length_front (e ∷ es) zero = omega arith
length_front (e ∷ es) (suc n) = (let rest = length_front es n in omega (arith, rest))

pub count_room : (es : Values) (n : ℕ) (k : List ℕ) (v : Option ℤ) (ss : Sums) → n < 2 ^ 63 → IsValue v → AllByRecursion IsFine (take n es) → Counted es n ss → HaveRoom (λ g. has g k ≡ true) (amount v) ss
count_room es n k v [] few value fine counted = tt
count_room es n k v (s ∷ ss) few value fine counted = (
  (λ is.
      let b = total_bound s.0 (take n es) fine in
      let low = b.0 in
      let high = b.1 in
      let short = length_front es n in
      let least = value.least in
      let most = value.most in
      let own = counted.0 in
      record { least = omega (arith, ints, low, short, least, own, few); most = omega (arith, ints, high, short, most, own, few) }),
  count_room es n k v ss few value fine counted.1,
)

pub count_more : (es : Values) (n : ℕ) (k : List ℕ) (v : Option ℤ) (ss : Sums) → slice_get es n ≡ Some (k, v) → Counted es n ss → Counted es (n + 1) (raised (by_key k (amount v)) ss)
count_more es n k v ss at counted =
    raised_all (by_key k (amount v)) (λ s. s.1 ≡ total s.0 (take n es)) (λ s. s.1 ≡ total s.0 (take (n + 1) es)) ss
    (λ s own. ap (λ t. t +ℤ by_key k (amount v) s.0) own ∙ sym (total_more s.0 es n k v at)) counted

pub fine_more : (es : Values) (n : ℕ) (k : List ℕ) (v : Option ℤ) → slice_get es n ≡ Some (k, v) → IsFine (k, v) → AllByRecursion IsFine (take n es) → AllByRecursion IsFine (take (n + 1) es)
fine_more [] n k v at one front = absurd (false≢true (ap is_some at))
fine_more (e ∷ es) zero k v at one front = (subst IsFine (sym (ap (λ o. unwrap_or o e) at)) one, tt)
fine_more (e ∷ es) (suc n) k v at one front =
    let more : suc n + 1 ≡ suc (n + 1) = omega arith in
    subst (λ m. AllByRecursion IsFine (take m (e ∷ es))) (sym more) (front.0, fine_more es n k v at one front.1)

pub count_last : (es : Values) (n : ℕ) (ss : Sums) → length es ≤ n → length es < 2 ^ 63 → IsDistinct label_eq (keys_of es) → AllByRecursion IsFine (take n es) → Counted es n ss → AreCounted es ss
count_last es n ss over few distinct fine counted =
    let all : take n es ≡ es = take_all n es over in
    let fine_now = subst (λ (xs : Values). AllByRecursion IsFine xs) all fine in
    record { few = few; distinct = distinct; fine = fine_now; sums = each fine_now ss (subst (λ (xs : Values). AllByRecursion (λ s. s.1 ≡ total s.0 xs) ss) all counted) }
  where
    each : AllByRecursion IsFine es → (xs : Sums) → AllByRecursion (λ s. s.1 ≡ total s.0 es) xs → AllByRecursion (λ s. s.1 ≡ sum_in (value_at es) s.0) xs
    each fine_now [] own = tt
    each fine_now (s ∷ xs) own = (own.0 ∙ sym (sum_total s.0 es distinct fine_now), each fine_now xs own.1)

-- ---- no values

-- so many of the groups have bytes, and the sum 0
abbrev pub Cleared : Sums → ℕ → Type 0
Cleared ss n = AllByRecursion (λ s. (0 < length s.0) × (s.1 ≡ pos 0)) (take n ss)

pub clear_more : (ss : Sums) (n : ℕ) → ((g : List ℕ) → slice_get (keys_of ss) n ≡ Some g → 0 < length g) → Cleared ss n → Cleared (set_value_at ss n (pos 0)) (n + 1)
clear_more [] n named front = let more : n + 1 ≡ suc n = omega arith in subst (λ m. Cleared [] m) (sym more) tt
clear_more (s ∷ ss) zero named front = ((named s.0 refl, refl), tt)
clear_more (s ∷ ss) (suc n) named front =
    let more : suc n + 1 ≡ suc (n + 1) = omega arith in
    subst (λ m. Cleared (s ∷ set_value_at ss n (pos 0)) m) (sym more) (front.0, clear_more ss n named front.1)

pub clear_last : (ss : Sums) (n : ℕ) → length ss ≤ n → Cleared ss n → AreNamed ss × AllByRecursion (λ s. s.1 ≡ pos 0) ss
clear_last [] n over all = (tt, tt)
clear_last (s ∷ ss) zero over all = absurd (omega (arith, over))
clear_last (s ∷ ss) (suc n) over all = let rest = clear_last ss n (omega (arith, over)) all.1 in ((all.0.0, rest.0), (all.0.1, rest.1))

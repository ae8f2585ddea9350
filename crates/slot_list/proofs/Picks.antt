-- What stands in the slots with some numbers, where a slot or a number changes.
use Rattle.std.proofs.Common.{◌≡◌, ℕ, zero, suc, ◌+◌, ◌-◌, ◌<◌, ◌≤◌, List, [], ◌∷◌, ◌++◌, length, take, set, refl, sym, ap, subst, ◌∙◌, arith, Option, Some, None}
use Rattle.std.specs.Prelude.{slice_get}
use Rattle.std.specs.List.{AllByRecursion, insert, remove, cons_option}
use Rattle.std.proofs.lemmas.Option.{none-some, same_Some}
use Rattle.std.proofs.lemmas.List.{length-set}
use Rattle.slot_list.specs.Slots.{IsKept, AreDistinct, picked, members}
use Rattle.slot_list.proofs.Numbers.{all_insert, all_remove, all_take, all_front, all_end, all_last, all_at, all_more, distinct_insert, distinct_remove, distinct_end, distinct_front, last_unlike, unlike_removed, take_front, take_insert, take_remove, length_insert, length_remove, length_end}

-- ---- one slot

module _ {X : Type 0} where
  pub get_set : (xs : List X) (n : ℕ) (x : X) → n < length xs → slice_get (set xs n x) n ≡ Some x
  get_set [] n x h = absurd (omega (arith, h))
  get_set (y ∷ xs) zero x h = refl
  get_set (y ∷ xs) (suc n) x h = get_set xs n x (omega (arith, h))

  pub get_other : (xs : List X) (n m : ℕ) (x : X) → (n ≡ m → ⊥) → slice_get (set xs n x) m ≡ slice_get xs m
  get_other [] n m x h = refl
  get_other (y ∷ xs) zero zero x h = absurd (h refl)
  get_other (y ∷ xs) zero (suc m) x h = refl
  get_other (y ∷ xs) (suc n) zero x h = refl
  get_other (y ∷ xs) (suc n) (suc m) x h = get_other xs n m x (λ e. h (ap suc e))

  pub get_front : (xs ys : List X) (n : ℕ) → n < length xs → slice_get (xs ++ ys) n ≡ slice_get xs n
  get_front [] ys n h = absurd (omega (arith, h))
  get_front (x ∷ xs) ys zero h = refl
  get_front (x ∷ xs) ys (suc n) h = get_front xs ys n (omega (arith, h))

  pub get_end : (xs : List X) (x : X) → slice_get (xs ++ x ∷ []) (length xs) ≡ Some x
  get_end [] x = refl
  get_end (y ∷ xs) x = get_end xs x

  pub some_at : (xs : List X) (n : ℕ) → n < length xs → (x : X) × (slice_get xs n ≡ Some x)
  some_at [] n h = absurd (omega (arith, h))
  some_at (x ∷ xs) zero h = (x, refl)
  some_at (x ∷ xs) (suc n) h = some_at xs n (omega (arith, h))

-- ---- what the numbers pick

module _ {X : Type 0} where
  abbrev Within : List X → List ℕ → Type 0
  Within xs ns = AllByRecursion (λ n. n < length xs) ns

  pub picked_length : (xs : List X) (ns : List ℕ) → Within xs ns → length (picked xs ns) ≡ length ns
  picked_length xs [] h = refl
  picked_length xs (n ∷ ns) h = rw ((some_at xs n h.0).1) (ap suc (picked_length xs ns h.1))

  pub picked_at : (xs : List X) (ns : List ℕ) (i n : ℕ) → Within xs ns → slice_get ns i ≡ Some n → slice_get (picked xs ns) i ≡ slice_get xs n
  picked_at xs [] i n h e = absurd (none-some n e)
  picked_at xs (m ∷ ns) zero n h e = rw ((some_at xs m h.0).1) (sym ((some_at xs m h.0).1) ∙ ap (slice_get xs) (same_Some m n e))
  picked_at xs (m ∷ ns) (suc i) n h e = rw ((some_at xs m h.0).1) (picked_at xs ns i n h.1 e)

  pub picked_past : (xs : List X) (ns : List ℕ) (i : ℕ) → Within xs ns → length ns ≤ i → slice_get (picked xs ns) i ≡ None
  picked_past xs [] i h e = refl
  picked_past xs (m ∷ ns) zero h e = absurd (omega (arith, e))
  picked_past xs (m ∷ ns) (suc i) h e = rw ((some_at xs m h.0).1) (picked_past xs ns i h.1 (omega (arith, e)))

  pub picked_insert : (xs : List X) (ns : List ℕ) (i n : ℕ) (x : X) → Within xs ns → slice_get xs n ≡ Some x → picked xs (insert ns i n) ≡ insert (picked xs ns) i x
  picked_insert xs [] zero n x h e = rw e refl
  picked_insert xs [] (suc i) n x h e = rw e refl
  picked_insert xs (m ∷ ns) zero n x h e = rw e refl
  picked_insert xs (m ∷ ns) (suc i) n x h e = rw ((some_at xs m h.0).1) (ap (λ l. (some_at xs m h.0).0 ∷ l) (picked_insert xs ns i n x h.1 e))

  pub picked_remove : (xs : List X) (ns : List ℕ) (i : ℕ) → Within xs ns → picked xs (remove ns i) ≡ remove (picked xs ns) i
  picked_remove xs [] zero h = refl
  picked_remove xs [] (suc i) h = refl
  picked_remove xs (m ∷ ns) zero h = rw ((some_at xs m h.0).1) refl
  picked_remove xs (m ∷ ns) (suc i) h = rw ((some_at xs m h.0).1) (ap (λ l. (some_at xs m h.0).0 ∷ l) (picked_remove xs ns i h.1))

  pub picked_kept : (xs : List X) (ns : List ℕ) (n : ℕ) (x : X) → AllByRecursion (λ m. n ≡ m → ⊥) ns → picked (set xs n x) ns ≡ picked xs ns
  picked_kept xs [] n x h = refl
  picked_kept xs (m ∷ ns) n x h = rw (get_other xs n m x h.0, picked_kept xs ns n x h.1) refl

  pub picked_set : (xs : List X) (ns : List ℕ) (i n : ℕ) (x : X) → Within xs ns → AreDistinct ns → slice_get ns i ≡ Some n → picked (set xs n x) ns ≡ set (picked xs ns) i x
  picked_set xs [] i n x h d e = absurd (none-some n e)
  picked_set xs (m ∷ ns) zero n x h d e =
      let same : m ≡ n = same_Some m n e in
      let here : slice_get (set xs n x) m ≡ Some x = ap (slice_get (set xs n x)) same ∙ get_set xs n x (subst (λ k. k < length xs) same h.0) in
      rw (here, picked_kept xs ns n x (subst (λ k. AllByRecursion (λ l. k ≡ l → ⊥) ns) same d.0), (some_at xs m h.0).1) refl
  picked_set xs (m ∷ ns) (suc i) n x h d e =
      let other : n ≡ m → ⊥ = λ same. all_at (λ k. m ≡ k → ⊥) ns i n d.0 e (sym same) in
      rw (get_other xs n m x other, (some_at xs m h.0).1) (ap (λ l. (some_at xs m h.0).0 ∷ l) (picked_set xs ns i n x h.1 d.1 e))

  pub picked_end : (xs ys : List X) (ns : List ℕ) → Within xs ns → picked (xs ++ ys) ns ≡ picked xs ns
  picked_end xs ys [] h = refl
  picked_end xs ys (m ∷ ns) h = rw (get_front xs ys m h.0, picked_end xs ys ns h.1) refl

-- ---- the steps

module _ {X : Type 0} (slots : List X) (order : List ℕ) (len : ℕ) (kept : IsKept (length slots) order len) where
  front_within : (n : ℕ) → AllByRecursion (λ m. m < length slots) (take n order)
  front_within n = all_take (λ m. m < length slots) order n kept.within

  front_distinct : (ns : List ℕ) (n : ℕ) → AreDistinct ns → AreDistinct (take n ns)
  front_distinct ns zero d = tt
  front_distinct [] (suc n) d = tt
  front_distinct (m ∷ ns) (suc n) d = (all_take (λ k. m ≡ k → ⊥) ns n d.0, front_distinct ns n d.1)

  pub members_length : length (members slots order len) ≡ len
  members_length = picked_length slots (take len order) (front_within len) ∙ length_front order len (omega (arith, kept.count, kept.some))
    where
      length_front : (ns : List ℕ) (n : ℕ) → n ≤ length ns → length (take n ns) ≡ n
      length_front ns zero h = refl
      length_front [] (suc n) h = absurd (omega (arith, h))
      length_front (m ∷ ns) (suc n) h = ap suc (length_front ns n (omega (arith, h)))

  front_at : (ns : List ℕ) (n i m : ℕ) → i < n → slice_get ns i ≡ Some m → slice_get (take n ns) i ≡ Some m
  front_at ns zero i m h e = absurd (omega (arith, h))
  front_at [] (suc n) i m h e = e
  front_at (k ∷ ns) (suc n) zero m h e = e
  front_at (k ∷ ns) (suc n) (suc i) m h e = front_at ns n i m (omega (arith, h)) e

  pub member_is : (i n : ℕ) → i < len → slice_get order i ≡ Some n → slice_get (members slots order len) i ≡ slice_get slots n
  member_is i n h e = picked_at slots (take len order) i n (front_within len) (front_at order len i n h e)

  pub none_past : (i : ℕ) → len ≤ i → slice_get (members slots order len) i ≡ None
  none_past i h = picked_past slots (take len order) i (front_within len) (omega (arith, h, sym (picked_length slots (take len order) (front_within len)) ∙ members_length))

  -- a slot that was free takes a member
  pub put_free : (base new : List ℕ) (n i : ℕ) (x : X) → order ≡ base ++ n ∷ [] → new ≡ insert base i n → len < length slots → i ≤ len
      → IsKept (length (set slots n x)) new (len + 1) × (members (set slots n x) new (len + 1) ≡ insert (members slots order len) i x)
  put_free base new n i x was is free at =
      let long : length base + 1 ≡ length slots = sym (length_end base n) ∙ ap length (sym was) ∙ kept.count in
      let same : length (set slots n x) ≡ length slots = length-set slots n x in
      let distinct : AreDistinct (base ++ n ∷ []) = subst AreDistinct was kept.once in
      let within : AllByRecursion (λ m. m < length slots) (base ++ n ∷ []) = subst (AllByRecursion (λ m. m < length slots)) was kept.within in
      let others : AllByRecursion (λ m. n ≡ m → ⊥) base = last_unlike base n distinct in
      let here : n < length slots = all_last (λ m. m < length slots) base n within in
      let bound : AllByRecursion (λ m. m < length slots) base = all_front (λ m. m < length slots) base (n ∷ []) within in
      let front : take len order ≡ take len base = ap (take len) was ∙ take_front base (n ∷ []) len (omega (arith, long, free)) in
      let next : len + 1 ≡ suc len = omega arith in
      let numbers : take (len + 1) new ≡ insert (take len base) i n = ap (λ k. take k new) next ∙ ap (take (suc len)) is ∙ take_insert base len i n at (omega (arith, long, free)) in
      let some : members (set slots n x) new (len + 1) ≡ insert (picked (set slots n x) (take len base)) i x =
      ap (picked (set slots n x)) numbers
      ∙ picked_insert (set slots n x) (take len base) i n x (subst (λ k. AllByRecursion (λ m. m < k) (take len base)) (sym same) (all_take (λ m. m < length slots) base len bound)) (get_set slots n x here) in (
        record {
          count = ap length is ∙ length_insert base i n (omega (arith, long, free, at)) ∙ long ∙ sym same;
          some = omega (arith, same, free);
          within = subst (λ k. AllByRecursion (λ m. m < k) new) (sym same) (subst (AllByRecursion (λ m. m < length slots)) (sym is) (all_insert (λ m. m < length slots) base i n here bound));
          once = subst AreDistinct (sym is) (distinct_insert base i n others (distinct_front base n distinct));
        },
        some ∙ ap (λ l. insert l i x) (picked_kept slots (take len base) n x (all_take (λ m. n ≡ m → ⊥) base len others) ∙ ap (picked slots) (sym front)),
      )

  -- the member at a place leaves its slot, which takes what is of no account
  pub take_out : (new : List ℕ) (n i : ℕ) (x : X) → new ≡ remove order i ++ n ∷ [] → slice_get order i ≡ Some n → i < len
      → IsKept (length (set slots n x)) new (len - 1) × (members (set slots n x) new (len - 1) ≡ remove (members slots order len) i)
  take_out new n i x is e at =
      let same : length (set slots n x) ≡ length slots = length-set slots n x in
      let few : len ≤ length order = omega (arith, kept.some, kept.count) in
      let long : length (remove order i) + 1 ≡ length slots = length_remove order i (omega (arith, at, few)) ∙ kept.count in
      let here : n < length slots = all_at (λ m. m < length slots) order i n kept.within e in
      let others : AllByRecursion (λ m. n ≡ m → ⊥) (remove order i) = unlike_removed order i n kept.once e in
      let next : suc (len - 1) ≡ len = omega (arith, at) in
      let numbers : take (len - 1) new ≡ remove (take len order) i =
      ap (take (len - 1)) is ∙ take_front (remove order i) (n ∷ []) (len - 1) (omega (arith, long, kept.some, at))
      ∙ take_remove order (len - 1) i (omega (arith, at)) (omega (arith, at, few)) ∙ ap (λ k. remove (take k order) i) next in
      let front : AllByRecursion (λ m. n ≡ m → ⊥) (remove (take len order) i) =
      unlike_removed (take len order) i n (front_distinct order len kept.once) (front_at order len i n at e) in (
        record {
          count = ap length is ∙ length_end (remove order i) n ∙ long ∙ sym same;
          some = omega (arith, same, kept.some, at);
          within = subst (λ k. AllByRecursion (λ m. m < k) new) (sym same)
              (subst (AllByRecursion (λ m. m < length slots)) (sym is) (all_end (λ m. m < length slots) (remove order i) n (all_remove (λ m. m < length slots) order i kept.within) here));
          once = subst AreDistinct (sym is) (distinct_end (remove order i) n others (distinct_remove order i kept.once));
        },
        ap (picked (set slots n x)) numbers ∙ picked_kept slots (remove (take len order) i) n x front ∙ picked_remove slots (take len order) i (front_within len),
      )

  -- another member takes a place
  pub put_over : (n i : ℕ) (x : X) → slice_get order i ≡ Some n → i < len
      → IsKept (length (set slots n x)) order len × (members (set slots n x) order len ≡ set (members slots order len) i x)
  put_over n i x e at =
      let same : length (set slots n x) ≡ length slots = length-set slots n x in (
        record {
          count = kept.count ∙ sym same;
          some = omega (arith, same, kept.some);
          within = subst (λ k. AllByRecursion (λ m. m < k) order) (sym same) kept.within;
          once = kept.once;
        },
        picked_set slots (take len order) i n x (front_within len) (front_distinct order len kept.once) (front_at order len i n at e),
      )

-- a new slot takes a member
pub put_new : {X : Type 0} (slots : List X) (order new : List ℕ) (n i : ℕ) (x : X) → IsKept (length slots) order (length slots)
    → n ≡ length slots → new ≡ insert order i n → i ≤ length slots
    → IsKept (length (slots ++ x ∷ [])) new (length slots + 1) × (members (slots ++ x ∷ []) new (length slots + 1) ≡ insert (members slots order (length slots)) i x)
put_new {X} slots order new n i x kept is made at =
    let longer : length (slots ++ x ∷ []) ≡ length slots + 1 = length_end slots x in
    let next : length slots + 1 ≡ suc (length slots) = omega arith in
    let more : AllByRecursion (λ m. m < length slots + 1) order = all_more (λ m. m < length slots) (λ m. m < length slots + 1) (λ m h. omega (arith, h)) order kept.within in
    let others : AllByRecursion (λ m. n ≡ m → ⊥) order = all_more (λ m. m < length slots) (λ m. n ≡ m → ⊥) (λ m h e. omega (arith, h, e, is)) order kept.within in
    let within : AllByRecursion (λ m. m < length (slots ++ x ∷ [])) order = subst (λ k. AllByRecursion (λ m. m < k) order) (sym longer) more in
    let front : AllByRecursion (λ m. m < length slots) (take (length slots) order) = all_take (λ m. m < length slots) order (length slots) kept.within in
    let numbers : take (length slots + 1) new ≡ insert (take (length slots) order) i n =
    ap (λ k. take k new) next ∙ ap (take (suc (length slots))) made ∙ take_insert order (length slots) i n at (omega (arith, kept.count)) in (
      record {
        count = ap length made ∙ length_insert order i n (omega (arith, kept.count, at)) ∙ ap (λ k. k + 1) kept.count ∙ sym longer;
        some = omega (arith, longer);
        within = subst (AllByRecursion (λ m. m < length (slots ++ x ∷ []))) (sym made) (all_insert (λ m. m < length (slots ++ x ∷ [])) order i n (omega (arith, longer, is)) within);
        once = subst AreDistinct (sym made) (distinct_insert order i n others kept.once);
      },
      ap (picked (slots ++ x ∷ [])) numbers
          ∙ picked_insert (slots ++ x ∷ []) (take (length slots) order) i n x
          (subst (λ k. AllByRecursion (λ m. m < k) (take (length slots) order)) (sym longer) (all_more (λ m. m < length slots) (λ m. m < length slots + 1) (λ m h. omega (arith, h)) (take (length slots) order) front))
          (ap (slice_get (slots ++ x ∷ [])) is ∙ get_end slots x)
          ∙ ap (λ l. insert l i x) (picked_end slots (x ∷ []) (take (length slots) order) front),
    )

-- a list of no length is empty, and no other
pub empty_is : {X : Type 0} (xs : List X) → length xs ≡ 0 → xs ≡ []
empty_is [] h = refl
empty_is (x ∷ xs) h = absurd (omega (arith, h))

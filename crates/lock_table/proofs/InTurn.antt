-- The groups of a key, gone through from shorter to longer ones.
use Rattle.std.proofs.Common.{◌≡◌, ◌<◌, ◌≤◌, ◌+◌, ◌-◌, ℕ, suc, nat_eq, Bool, true, false, ◌&&◌, cond, inl, inr, List, length, take, Option, Some, None, refl, sym, ap, subst, ◌∙◌, arith}
use Rattle.std.specs.Prelude.{IfNone, IfSome, nat_lt}
use Rattle.std.proofs.lemmas.Bool.{and_parts, cases_lt, eqb-true, lt-ltb, ltb-true}
use Rattle.txn_names.specs.Path.{label_eq}
use Rattle.txn_names.specs.Groups.{has}
use Rattle.txn_names.proofs.Exports.{dot_behind, on_test, same_front}
use Rattle.serial_spec.specs.declared.mode.Mode.TheVariants as mode
use Rattle.lock_table.specs.declared.modes.Modes.{Modes}
use Rattle.lock_table.specs.Inherited.{with_held}
use Rattle.lock_table.specs.Locked as one
use Rattle.lock_table.specs.Targeted.{IsGroupFrom, IsGroupOf, IsMarkedAt, IsMarkedUpTo, IsShorter, first_unmarked, marked_below}
use Rattle.lock_table.proofs.Reaching.{one_marked}

-- each group that is shorter than this one has fewer bytes; without one, each group of the key
abbrev pub reach : List ℕ → Option (List ℕ) → ℕ
reach k None = length k
reach k (Some f) = length f

-- how far there is to go
abbrev pub ahead : List ℕ → Option (List ℕ) → ℕ
ahead k None = 0
ahead k (Some f) = suc (length k - length f)

-- the first group of so many bytes at least
pub record IsNext (k : List ℕ) (least : ℕ) (o : Option (List ℕ)) : Type 0 where
  pub some : IfSome o (IsGroupFrom k least)
  pub first : IfSome o (λ g. (f : List ℕ) → IsGroupFrom k least f → length g ≤ length f)
  pub none : IfNone o ((f : List ℕ) → IsGroupFrom k least f → ⊥)

-- as it is asked behind a group's bytes
pub next_behind : (k f bytes : List ℕ) → bytes ≡ f → (o : Option (List ℕ)) → IfSome o (IsGroupFrom k (length bytes + 1))
    → IfSome o (λ g. (h : List ℕ) → IsGroupFrom k (length bytes + 1) h → length g ≤ length h) → IfNone o ((h : List ℕ) → IsGroupFrom k (length bytes + 1) h → ⊥)
    → IsNext k (length f + 1) o
next_behind k f bytes same o some first none = subst (λ (b : List ℕ). IsNext k (length b + 1) o) same (record { some = some; first = first; none = none })

pub next_is_group : (k : List ℕ) (least : ℕ) (o : Option (List ℕ)) → IfSome o (IsGroupFrom k least) → IfSome o (IsGroupOf k)
next_is_group k least None some = tt
next_is_group k least (Some f) some = (some.0, some.1)

-- none lies between
pub none_between : (k : List ℕ) (least : ℕ) (o : Option (List ℕ)) → IsNext k least o → (g : List ℕ) → has g k ≡ true → 0 < length g → least ≤ length g → length g < reach k o → ⊥
none_between k least None next g there some le less = next.none g (there, some, le)
none_between k least (Some f) next g there some le less = let up = next.first g (there, some, le) in omega (arith, up, less)

not_back : (k : List ℕ) (least : ℕ) (o : Option (List ℕ)) → IfSome o (IsGroupFrom k least) → least ≤ length k → least ≤ reach k o
not_back k least None some within = within
not_back k least (Some f) some within = some.2

-- the one behind a group lies behind it
past : (k f : List ℕ) (o : Option (List ℕ)) → IfSome o (IsGroupFrom k (length f + 1)) → has f k ≡ true → length f + 1 ≤ reach k o
past k f o some here = let dot = dot_behind f k 0 here in not_back k (length f + 1) o some (omega (arith, dot.0))

pub nearer : (k f : List ℕ) (o : Option (List ℕ)) → IfSome o (IsGroupFrom k (length f + 1)) → ahead k o < ahead k (Some f)
nearer k f None some = omega arith
nearer k f (Some g) some = let dot = dot_behind g k 0 some.0 in let up = some.2 in omega (arith, dot.0, up)

module _ (k f : List ℕ) (o : Option (List ℕ)) (next : IsNext k (length f + 1) o) (here : has f k ≡ true) where
  -- a group that is before the next one is before this one, or is it
  pub passed : (P : List ℕ → Type 0) → ((g : List ℕ) → has g k ≡ true → 0 < length g → length g < length f → P g) → P f
      → (g : List ℕ) → has g k ≡ true → 0 < length g → length g < reach k o → P g
  passed P before now g there some less =
      elim (cases_lt (length g) (length f)) [
        | inl shorter ↦ before g there some shorter
        | inr rest ↦ elim (cases_lt (length f) (length g)) [
          | inl longer ↦ absurd (none_between k (length f + 1) o next g there some (omega (arith, longer)) less)
          | inr most ↦
              let size : length f ≡ length g = omega (arith, rest, most) in
              subst P (same_front f k here ∙ ap (λ (n : ℕ). take n k) size ∙ sym (same_front g k there)) now
        ]
      ]

  -- ---- the first that is not marked

  module _ (writers : one.Table) (t : ℕ) (first : Option (List ℕ)) (b : Bool) (low : IfSome first (λ e. length e < length f)) where
    pub marked_still : ((g : List ℕ) → has g k ≡ true → 0 < length g → length g < length f → IsShorter first g → IsMarkedAt writers t g)
        → (b ≡ true → IsMarkedAt writers t f)
        → (g : List ℕ) → has g k ≡ true → 0 < length g → length g < reach k o → IsShorter (first_unmarked first b f) g → IsMarkedAt writers t g
    marked_still before is =
        passed (λ g. IsShorter (first_unmarked first b f) g → IsMarkedAt writers t g)
        (λ g there some less short. before g there some less (looser first b g short))
        (now first b low is)
      where
        looser : (o : Option (List ℕ)) (c : Bool) (g : List ℕ) → IsShorter (first_unmarked o c f) g → IsShorter o g
        looser None c g s = tt
        looser (Some e) c g s = s

        now : (o : Option (List ℕ)) (c : Bool) → IfSome o (λ e. length e < length f) → (c ≡ true → IsMarkedAt writers t f) → IsShorter (first_unmarked o c f) f → IsMarkedAt writers t f
        now None true l m s = m refl
        now None false l m s = absurd (omega (arith, s))
        now (Some e) c l m s = absurd (omega (arith, s, l))

    pub low_still : IfSome (first_unmarked first b f) (λ e. length e < reach k o)
    low_still = by first b low
      where
        by : (o2 : Option (List ℕ)) (c : Bool) → IfSome o2 (λ e. length e < length f) → IfSome (first_unmarked o2 c f) (λ e. length e < reach k o)
        by None true l = tt
        by None false l = let up = past k f o next.some here in omega (arith, up)
        by (Some e) c l = let up = past k f o next.some here in omega (arith, up, l)

pub unmarked_is_group : (k f : List ℕ) (o : Option (List ℕ)) (b : Bool) → IfSome o (IsGroupOf k) → IsGroupOf k f → IfSome (first_unmarked o b f) (IsGroupOf k)
unmarked_is_group k f None true old new = tt
unmarked_is_group k f None false old new = new
unmarked_is_group k f (Some e) b old new = old

-- no group is left
pub none_left : (o : Option (List ℕ)) → ((f : List ℕ) → o ≡ Some f → ⊥) → o ≡ None
none_left None not_some = refl
none_left (Some f) not_some = absurd (not_some f refl)

-- before the first group there is none to be marked
pub marked_to_first : (writers : one.Table) (t : ℕ) (k : List ℕ) (o : Option (List ℕ)) → IsNext k 1 o → IsMarkedUpTo writers t k o
marked_to_first writers t k o next = record {
  group = next_is_group k 1 o next.some;
  marked = λ g there some short. absurd (none_between k 1 o next g there some (omega (arith, some)) (reaches o g there short));
}
  where
    reaches : (p : Option (List ℕ)) (g : List ℕ) → has g k ≡ true → IsShorter p g → length g < reach k p
    reaches None g there short = (dot_behind g k 0 there).0
    reaches (Some f) g there short = short

-- ---- marks

raised : (m : Modes) → m.held ≡ mode.Write → m ≡ with_held m mode.Write
raised m e = ap (λ h. record m { held = h }) e

shorter : (k : List ℕ) (o : Option (List ℕ)) (g : List ℕ) → length g < reach k o → IsShorter o g
shorter k None g less = tt
shorter k (Some f) g less = less

neither_less : (l n m : ℕ) → n ≤ l → m ≤ l → nat_lt l n ≡ nat_lt l m
neither_less l n m a b = grind (arith, a, b)

same_side : (l n m : ℕ) → n ≤ m → (n ≤ l → l < m → ⊥) → nat_lt l n ≡ nat_lt l m
same_side l n m le none =
    elim (cases_lt l n) [
      | inl less ↦ lt-ltb l n less ∙ sym (lt-ltb l m (omega (arith, less, le)))
      | inr far ↦ elim (cases_lt l m) [ inl within ↦ absurd (none far within) | inr past_both ↦ neither_less l n m far past_both ]
    ]

module _ (writers : one.Table) (t : ℕ) (k : List ℕ) where
  -- those that are marked already
  pub marked_first : (o : Option (List ℕ)) → IsMarkedUpTo writers t k o → (u : ℕ) (g : List ℕ) → one.modes_in writers u g ≡ marked_below writers t k (reach k o) u g
  marked_first o is u g =
      let m = one.modes_in writers u g in
      on_test (nat_eq t u && (has g k && (nat_lt 0 (length g) && nat_lt (length g) (reach k o)))) (λ b. (nat_eq t u && (has g k && (nat_lt 0 (length g) && nat_lt (length g) (reach k o)))) ≡ b → m ≡ cond b (with_held m mode.Write) m)
      (λ _ e.
      let p = and_parts (nat_eq t u) _ e in
      let q = and_parts (has g k) _ p.1 in
      let r = and_parts (nat_lt 0 (length g)) _ q.1 in
      raised m (subst (λ (v : ℕ). IsMarkedAt writers v g) (eqb-true t u p.0) (is.marked g q.0 (ltb-true 0 (length g) r.0) (shorter k o g (ltb-true (length g) (reach k o) r.1)))))
      (λ _ _. refl) refl

  -- where none lies between
  marked_on : (n m u : ℕ) → n ≤ m → ((g : List ℕ) → has g k ≡ true → 0 < length g → n ≤ length g → length g < m → ⊥) → (g : List ℕ) → marked_below writers t k n u g ≡ marked_below writers t k m u g
  marked_on n m u le none g =
      let x = one.modes_in writers u g in
      on_test (has g k) (λ h. has g k ≡ h → cond (nat_eq t u && (h && (nat_lt 0 (length g) && nat_lt (length g) n))) (with_held x mode.Write) x ≡ cond (nat_eq t u && (h && (nat_lt 0 (length g) && nat_lt (length g) m))) (with_held x mode.Write) x)
      (λ _ i. on_test (nat_lt 0 (length g)) (λ z. nat_lt 0 (length g) ≡ z → cond (nat_eq t u && (true && (z && nat_lt (length g) n))) (with_held x mode.Write) x ≡ cond (nat_eq t u && (true && (z && nat_lt (length g) m))) (with_held x mode.Write) x)
      (λ _ z. ap (λ b. cond (nat_eq t u && (true && (true && b))) (with_held x mode.Write) x) (same_side (length g) n m le (none g i (ltb-true 0 (length g) z))))
      (λ _ _. refl) refl)
      (λ _ _. refl) refl

  -- and one more
  pub marked_next : (f : List ℕ) (o : Option (List ℕ)) → IsNext k (length f + 1) o → IsGroupOf k f → (u : ℕ) (g : List ℕ)
      → cond (nat_eq t u && label_eq f g) (with_held (marked_below writers t k (length f) u g) mode.Write) (marked_below writers t k (length f) u g) ≡ marked_below writers t k (reach k o) u g
  marked_next f o next is u g =
      one_marked writers t k (length f) u f is.0 is.1 refl g
      ∙ marked_on (length f + 1) (reach k o) u (past k f o next.some is.0) (none_between k (length f + 1) o next) g

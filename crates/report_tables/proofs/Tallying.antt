-- What is added to the sums of groups.
use Rattle.std.proofs.Common.{◌≡◌, ℕ, ℤ, zero, suc, pos, ◌+◌, ◌<◌, ◌≤◌, ◌+ℤ◌, nat_lt, ◌&&◌, true, false, cond, Bool, List, [], ◌∷◌, length, Some, None, is_some, unwrap_or, refl, sym, ap, ap₂, subst, ◌∙◌, arith, true≢false}
use Rattle.std.specs.Prelude.{slice_get, FitsSigned}
use Rattle.std.specs.Int.{w128}
use Rattle.std.specs.List.{AllByRecursion, IsDistinct}
use Rattle.std.specs.Map.{keys_of, lookup, values_of}
use Rattle.std.proofs.lemmas.Bool.{false≢true}
use Rattle.std.proofs.lemmas.Bool.Decides.{nat_tests}
use Rattle.std.proofs.Common.{to_z, of_z}
use Rattle.std.proofs.lemmas.Int.{ints, to_z-of_z}
use Rattle.indexmap.specs.IndexMap.{set_value_at}
use Rattle.txn_names.specs.Path.{label_eq}
use Rattle.txn_names.specs.Groups.{IsGroupBefore, has}
use Rattle.txn_names.proofs.Exports.{dot_behind, label_eq_self, on_label, on_test, same_label}
use Rattle.report_tables.specs.inner.Tallied.{AreNamed, HaveRoom, IsSmall, Sums, at_group, by_key, raised}

-- ---- as the code adds

module _ (s d : ℤ) (own : FitsSigned w128 s) (more : FitsSigned w128 d) (small : IsSmall (s +ℤ d)) where
  pub fits_added : FitsSigned w128 (to_z w128 (of_z w128 s) +ℤ to_z w128 (of_z w128 d))
  fits_added =
      let low = small.least in
      let high = small.most in
      let first = to_z-of_z w128 s own in
      let second = to_z-of_z w128 d more in
      omega (arith, ints, low, high, first, second)

  pub added : to_z w128 (of_z w128 (to_z w128 (of_z w128 s) +ℤ to_z w128 (of_z w128 d))) ≡ s +ℤ d
  added = to_z-of_z w128 (to_z w128 (of_z w128 s) +ℤ to_z w128 (of_z w128 d)) fits_added ∙ ap₂ ◌+ℤ◌ (to_z-of_z w128 s own) (to_z-of_z w128 d more)

-- ---- lists of sums

pub keys_raised : (f : List ℕ → ℤ) (ss : Sums) → keys_of (raised f ss) ≡ keys_of ss
keys_raised f [] = refl
keys_raised f (e ∷ ss) = ap (λ ks. e.0 ∷ ks) (keys_raised f ss)

pub length_raised : (f : List ℕ → ℤ) (ss : Sums) → length (raised f ss) ≡ length ss
length_raised f [] = refl
length_raised f (e ∷ ss) = ap suc (length_raised f ss)

pub raised_none : (f : List ℕ → ℤ) (ss : Sums) → AllByRecursion (λ e. f e.0 ≡ pos 0) ss → raised f ss ≡ ss
raised_none f [] all = refl
raised_none f (e ∷ ss) all =
    let same : e.1 +ℤ f e.0 ≡ e.1 = (let none : f e.0 ≡ pos 0 = all.0 in omega (arith, ints, none)) in
    ap₂ (λ s (rest : Sums). (e.0, s) ∷ rest) same (raised_none f ss all.1)

pub raised_same : (f h : List ℕ → ℤ) (ss : Sums) → ((g : List ℕ) → f g ≡ h g) → raised f ss ≡ raised h ss
raised_same f h [] same = refl
raised_same f h (e ∷ ss) same = ap₂ (λ d (rest : Sums). (e.0, e.1 +ℤ d) ∷ rest) (same e.0) (raised_same f h ss same)

pub raised_both : (f h : List ℕ → ℤ) (ss : Sums) → raised f (raised h ss) ≡ raised (λ g. h g +ℤ f g) ss
raised_both f h [] = refl
raised_both f h (e ∷ ss) =
    let same : (e.1 +ℤ h e.0) +ℤ f e.0 ≡ e.1 +ℤ (h e.0 +ℤ f e.0) = omega (arith, ints) in
    ap₂ (λ s (rest : Sums). (e.0, s) ∷ rest) same (raised_both f h ss)

pub raised_all : (f : List ℕ → ℤ) (P Q : List ℕ × ℤ → Type 0) (ss : Sums) → ((e : List ℕ × ℤ) → P e → Q (e.0, e.1 +ℤ f e.0)) → AllByRecursion P ss → AllByRecursion Q (raised f ss)
raised_all f P Q [] one all = tt
raised_all f P Q (e ∷ ss) one all = (one e all.0, raised_all f P Q ss one all.1)

pub named_raised : (f : List ℕ → ℤ) (ss : Sums) → AreNamed ss → AreNamed (raised f ss)
named_raised f ss named = raised_all f (λ e. 0 < length e.0) (λ e. 0 < length e.0) ss (λ e some. some) named

-- ---- one group

others : (g : List ℕ) (d : ℤ) (ss : Sums) → AllByRecursion (λ k. label_eq g k ≡ false) (keys_of ss) → AllByRecursion (λ e. at_group g d e.0 ≡ pos 0) ss
others g d [] all = tt
others g d (e ∷ ss) all = (ap (λ b. cond b d (pos 0)) all.0, others g d ss all.1)

unnamed : (g : List ℕ) (ss : Sums) → lookup (label_eq g) ss ≡ None → AllByRecursion (λ k. label_eq g k ≡ false) (keys_of ss)
unnamed g [] h = tt
unnamed g (e ∷ ss) h =
    on_test (label_eq g e.0) (λ b. label_eq g e.0 ≡ b → cond b (Some e.1) (lookup (label_eq g) ss) ≡ None → AllByRecursion (λ k. label_eq g k ≡ false) (e.0 ∷ keys_of ss))
    (λ _ _ some. absurd (true≢false (ap is_some some))) (λ _ apart rest. (apart, unnamed g ss rest)) refl h

-- it is none of those that are summed
pub raised_nowhere : (g : List ℕ) (d : ℤ) (ss : Sums) → lookup (label_eq g) ss ≡ None → ss ≡ raised (at_group g d) ss
raised_nowhere g d ss h = sym (raised_none (at_group g d) ss (others g d ss (unnamed g ss h)))

-- its sum is set
pub raised_at : (ss : Sums) (i : ℕ) (g : List ℕ) (s d : ℤ) → IsDistinct label_eq (keys_of ss) → slice_get (keys_of ss) i ≡ Some g → slice_get (values_of ss) i ≡ Some s
    → set_value_at ss i (s +ℤ d) ≡ raised (at_group g d) ss
unfolding IsDistinct
raised_at [] i g s d distinct at is = absurd (false≢true (ap is_some at))
raised_at (e ∷ ss) zero g s d distinct at is =
    let same : e.0 ≡ g = ap (λ o. unwrap_or o g) at in
    let old : e.1 ≡ s = ap (λ o. unwrap_or o s) is in
    let own : label_eq g e.0 ≡ true = ap (label_eq g) same ∙ label_eq_self g in
    let rest = subst (λ (k : List ℕ). AllByRecursion (λ q. label_eq k q ≡ false) (keys_of ss)) same distinct.0 in
    ap₂ (λ t (more : Sums). (e.0, t) ∷ more) (ap (λ t. t +ℤ d) (sym old) ∙ ap (λ b. e.1 +ℤ cond b d (pos 0)) (sym own)) (sym (raised_none (at_group g d) ss (others g d ss rest)))
raised_at (e ∷ ss) (suc i) g s d distinct at is =
    let apart : label_eq g e.0 ≡ false = differs (keys_of ss) i distinct.0 at in
    let kept : e.1 ≡ e.1 +ℤ at_group g d e.0 = (let none : at_group g d e.0 ≡ pos 0 = ap (λ b. cond b d (pos 0)) apart in omega (arith, ints, none)) in
    ap₂ (λ t (more : Sums). (e.0, t) ∷ more) kept (raised_at ss i g s d distinct.1 at is)
  where
    differs : (ks : List (List ℕ)) (n : ℕ) → AllByRecursion (λ q. label_eq e.0 q ≡ false) ks → slice_get ks n ≡ Some g → label_eq g e.0 ≡ false
    differs [] n all there = absurd (false≢true (ap is_some there))
    differs (q ∷ ks) zero all there =
        let same : q ≡ g = ap (λ o. unwrap_or o g) there in
        on_label g e.0 (λ b. b ≡ false) (λ is. absurd (true≢false (sym (ap (label_eq e.0) same ∙ ap (label_eq e.0) is ∙ label_eq_self e.0) ∙ all.0))) (λ _. refl)
    differs (q ∷ ks) (suc n) all there = differs ks n all.1 there

-- and there is room for it
pub room_at : (P : List ℕ → Type 0) (ss : Sums) (i : ℕ) (g : List ℕ) (s d : ℤ) → HaveRoom P d ss → slice_get (keys_of ss) i ≡ Some g → slice_get (values_of ss) i ≡ Some s → P g → IsSmall (s +ℤ d)
room_at P [] i g s d room at is own = absurd (false≢true (ap is_some at))
room_at P (e ∷ ss) zero g s d room at is own =
    let same : e.0 ≡ g = ap (λ o. unwrap_or o g) at in
    let old : e.1 ≡ s = ap (λ o. unwrap_or o s) is in
    subst (λ (t : ℤ). IsSmall (t +ℤ d)) old (room.0 (subst P (sym same) own))
room_at P (e ∷ ss) (suc i) g s d room at is own = room_at P ss i g s d room.1 at is own

-- ---- the groups of a key, by their length

-- d for those of fewer bytes
abbrev pub upto : List ℕ → ℤ → ℕ → List ℕ → ℤ
upto k d n g = cond (has g k && nat_lt (length g) n) d (pos 0)

pub upto_first : (k : List ℕ) (d : ℤ) (ss : Sums) → AreNamed ss → ss ≡ raised (upto k d 1) ss
upto_first k d ss named = sym (raised_none (upto k d 1) ss (none ss named))
  where
    long : (n : ℕ) → 0 < n → nat_lt n 1 ≡ false
    long n h = grind (arith, h, nat_tests)

    neither : (b : Bool) → cond (b && false) d (pos 0) ≡ pos 0
    neither true = refl
    neither false = refl

    none : (xs : Sums) → AreNamed xs → AllByRecursion (λ e. upto k d 1 e.0 ≡ pos 0) xs
    none [] all = tt
    none (e ∷ xs) all = (ap (λ b. cond (has e.0 k && b) d (pos 0)) (long (length e.0) all.0) ∙ neither (has e.0 k), none xs all.1)

pub upto_last : (k : List ℕ) (d : ℤ) (n : ℕ) (ss : Sums) → length k ≤ n → raised (upto k d n) ss ≡ raised (by_key k d) ss
upto_last k d n ss all = raised_same (upto k d n) (by_key k d) ss same
  where
    below : (m : ℕ) → m < length k → nat_lt m n ≡ true
    below m h = grind (arith, h, all, nat_tests)

    same : (g : List ℕ) → upto k d n g ≡ by_key k d g
    same g = on_test (has g k) (λ b. has g k ≡ b → cond (b && nat_lt (length g) n) d (pos 0) ≡ cond b d (pos 0))
        (λ is _. ap (λ b. cond b d (pos 0)) (below (length g) (dot_behind g k 0 is).0)) (λ _ _. refl) refl

module _ (k : List ℕ) (d : ℤ) (n : ℕ) (some : 0 < n) where
  next_is : (m : ℕ) → (m ≡ n → ⊥) → nat_lt m (n + 1) ≡ nat_lt m n
  next_is m apart = grind (arith, apart, nat_tests)

  -- a group of another length, or none of the key, is due the same
  other : (g : List ℕ) → (has g k ≡ true → length g ≡ n → ⊥) → upto k d (n + 1) g ≡ upto k d n g
  other g apart =
      on_test (has g k) (λ b. has g k ≡ b → cond (b && nat_lt (length g) (n + 1)) d (pos 0) ≡ cond (b && nat_lt (length g) n) d (pos 0))
      (λ is _. ap (λ b. cond b d (pos 0)) (next_is (length g) (apart is))) (λ _ _. refl) refl

  -- no dot stands there
  pub upto_none : (ss : Sums) → ((g : List ℕ) → IsGroupBefore k n g → ⊥) → raised (upto k d n) ss ≡ raised (upto k d (n + 1)) ss
  upto_none ss none = raised_same (upto k d n) (upto k d (n + 1)) ss (λ g. sym (other g (λ is long. none g (is, omega (arith, some, long), long))))

  module _ (f : List ℕ) (own : IsGroupBefore k n f) (alone : (g : List ℕ) → IsGroupBefore k n g → f ≡ g) where
    own_before : upto k d n f ≡ pos 0
    own_before = ap (λ b. cond b d (pos 0)) (last (has f k) (nat_lt (length f) n) (late (length f) own.2))
      where
        late : (m : ℕ) → m ≡ n → nat_lt m n ≡ false
        late m h = grind (arith, h, nat_tests)

        last : (b c : Bool) → c ≡ false → (b && c) ≡ false
        last true c h = h
        last false c h = refl

    own_then : upto k d (n + 1) f ≡ d
    own_then = ap₂ (λ b c. cond (b && c) d (pos 0)) own.0 (early (length f) own.2)
      where
        early : (m : ℕ) → m ≡ n → nat_lt m (n + 1) ≡ true
        early m h = grind (arith, h, nat_tests)

    -- the group before it is raised
    pub upto_more : (ss : Sums) → raised (at_group f d) (raised (upto k d n) ss) ≡ raised (upto k d (n + 1)) ss
    upto_more ss = raised_both (at_group f d) (upto k d n) ss ∙ raised_same (λ g. upto k d n g +ℤ at_group f d g) (upto k d (n + 1)) ss each
      where
        each : (g : List ℕ) → upto k d n g +ℤ at_group f d g ≡ upto k d (n + 1) g
        each g = on_label f g (λ b. upto k d n g +ℤ cond b d (pos 0) ≡ upto k d (n + 1) g)
            (λ is.
            let before : upto k d n g ≡ pos 0 = ap (upto k d n) (sym is) ∙ own_before in
            let then : upto k d (n + 1) g ≡ d = ap (upto k d (n + 1)) (sym is) ∙ own_then in
            omega (arith, ints, before, then))
            (λ apart.
            let same : upto k d (n + 1) g ≡ upto k d n g = other g (λ is long. true≢false (sym (ap (label_eq f) (sym (alone g (is, omega (arith, some, long), long))) ∙ label_eq_self f) ∙ apart)) in
            omega (arith, ints, same))

    pub room_more : (ss : Sums) → HaveRoom (λ g. has g k ≡ true) d ss → HaveRoom (λ g. label_eq f g ≡ true) d (raised (upto k d n) ss)
    room_more ss room = raised_all (upto k d n) (λ e. has e.0 k ≡ true → IsSmall (e.1 +ℤ d)) (λ e. label_eq f e.0 ≡ true → IsSmall (e.1 +ℤ d)) ss
        (λ e one is.
        let same = same_label f e.0 is in
        let none : upto k d n e.0 ≡ pos 0 = ap (upto k d n) (sym same) ∙ own_before in
        let before : (e.1 +ℤ upto k d n e.0) +ℤ d ≡ e.1 +ℤ d = omega (arith, ints, none) in
        subst IsSmall (sym before) (one (ap (λ g. has g k) (sym same) ∙ own.0)))
        room

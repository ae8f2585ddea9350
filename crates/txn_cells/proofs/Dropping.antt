-- A transaction and all below it are dropped: itself, then the subtree of one child after the other.
use Rattle.std.proofs.Common.{◌≡◌, ℕ, zero, suc, ◌<◌, ◌-◌, Bool, true, false, cond, not, nat_eq, ◌&&◌, List, length, Option, Some, None, is_some, refl, sym, ap, ◌∙◌, true≢false, arith}
use Rattle.std.specs.Prelude.{slice_get, IfSome}
use Rattle.std.proofs.lemmas.Bool.{false≢true, eq-eqb}
use Rattle.std.proofs.lemmas.Option.{slice_get_within}
use Rattle.txn_names.specs.Path.{Path}
use Rattle.txn_names.proofs.Exports.{is_front_self}
use Rattle.txn_tree.specs.States.{States, names}
use Rattle.txn_tree.specs.Numbered.{is_front_of, is_parent_of, is_under}
use Rattle.txn_tree.specs.Siblings.{HasBranches, IsBefore, IsFirst, IsNext, is_child_at, is_sibling_at}
use Rattle.txn_tree.proofs.Exports.{child_under, under-trans, siblings_are_children, subtree, none_before_first, before_next}
use Rattle.txn_cells.specs.Kept.{Table, content, has_place}
use Rattle.txn_cells.proofs.Puts.{on_number}

-- u has nothing left, and no place
pub record IsGone {V : Type 0} (now : Table V) (u : ℕ) : Type 0 where
  pub contents : (q : List ℕ) → content now u q ≡ None
  pub places : (q : List ℕ) → has_place now u q ≡ false

-- u has what it had
pub record IsKept {V : Type 0} (old now : Table V) (u : ℕ) : Type 0 where
  pub contents : (q : List ℕ) → content now u q ≡ content old u q
  pub places : (q : List ℕ) → has_place now u q ≡ has_place old u q

-- those that pass have nothing left, and all others have what they had
pub record IsDropped {V : Type 0} (gone : ℕ → Bool) (old new : Table V) : Type 0 where
  pub contents : (u : ℕ) (q : List ℕ) → content new u q ≡ cond (gone u) None (content old u q)
  pub places : (u : ℕ) (q : List ℕ) → has_place new u q ≡ (not (gone u) && has_place old u q)

module _ {V : Type 0} (gone : ℕ → Bool) (old new : Table V) (dropped : IsDropped gone old new) where
  gone_now : (u : ℕ) → gone u ≡ true → IsGone new u
  gone_now u e = record {
    contents = λ q. dropped.contents u q ∙ ap (λ b. cond b None (content old u q)) e;
    places = λ q. dropped.places u q ∙ ap (λ b. not b && has_place old u q) e;
  }

  kept_now : (u : ℕ) → gone u ≡ false → IsKept old new u
  kept_now u e = record {
    contents = λ q. dropped.contents u q ∙ ap (λ b. cond b None (content old u q)) e;
    places = λ q. dropped.places u q ∙ ap (λ b. not b && has_place old u q) e;
  }

  gone_still : (u : ℕ) → IsGone old u → IsGone new u
  gone_still u is = by (gone u) refl
    where
      by : (b : Bool) → gone u ≡ b → IsGone new u
      by true e = gone_now u e
      by false e = let k = kept_now u e in record { contents = λ q. k.contents q ∙ is.contents q; places = λ q. k.places q ∙ is.places q }

-- t is gone, and all below those of its children that come before the next one
pub record IsDropping {V : Type 0} (tree : States) (t : ℕ) (old now : Table V) (next : Option ℕ) : Type 0 where
  pub outside : (u : ℕ) → is_under tree t u ≡ false → IsKept old now u
  pub itself : IsGone now t
  pub below : (c : ℕ) → is_child_at tree t c ≡ true → IsBefore next c → (u : ℕ) → is_under tree c u ≡ true → IsGone now u
  pub coming : IfSome next (λ c. (is_child_at tree t c ≡ true) × (t < c) × (c < length (names tree)))

child_within : (tree : States) (t c : ℕ) → is_child_at tree t c ≡ true → c < length (names tree)
child_within tree t c e = by (slice_get (names tree) t) (slice_get (names tree) c) refl e
  where
    by : (a b : Option Path) → slice_get (names tree) c ≡ b → is_parent_of a b ≡ true → c < length (names tree)
    by (Some a) (Some b) at f = slice_get_within (names tree) c b at
    by (Some a) None at f = absurd (false≢true f)
    by None b at f = absurd (false≢true f)

module _ {V : Type 0} (tree : States) (t : ℕ) (old : Table V) where
  -- t alone is dropped
  pub dropping_first : is_under tree t t ≡ true → (now : Table V) → IsDropped (nat_eq t) old now → (next : Option ℕ) → IsFirst (is_child_at tree t) next → IfSome next (λ c. t < c) → IsDropping tree t old now next
  dropping_first begun now dropped next first later = record {
    outside = λ u out. kept_now (nat_eq t) old now dropped u (on_number t u (λ b. b ≡ false) (λ e. absurd (true≢false (sym begun ∙ ap (is_under tree t) e ∙ out))) (λ _. refl));
    itself = gone_now (nat_eq t) old now dropped t (eq-eqb t t refl);
    below = λ c child before. absurd (none_before_first (is_child_at tree t) next first c child before);
    coming = by next first later;
  }
    where
      by : (o : Option ℕ) → IsFirst (is_child_at tree t) o → IfSome o (λ c. t < c) → IfSome o (λ c. (is_child_at tree t c ≡ true) × (t < c) × (c < length (names tree)))
      by None f l = tt
      by (Some c) f l = (f.0, l, child_within tree t c f.0)

  -- one child more
  pub dropping_next : (now : Table V) (c : ℕ) → IsDropping tree t old now (Some c) → (new : Table V) → IsDropped (is_under tree c) now new → (next : Option ℕ) → IsNext (is_sibling_at tree c) c next → IsDropping tree t old new next
  dropping_next now c is new dropped next after = record {
    outside = λ u out.
        let k = is.outside u out in
        let n = kept_now (is_under tree c) now new dropped u (by u (is_under tree c u) refl out) in
        record { contents = λ q. n.contents q ∙ k.contents q; places = λ q. n.places q ∙ k.places q };
    itself = gone_still (is_under tree c) now new dropped t is.itself;
    below =
        before_next (is_child_at tree t) (is_sibling_at tree c) (λ d. (u : ℕ) → is_under tree d u ≡ true → IsGone new u) c next (siblings_are_children tree t c is.coming.0) after
        (λ d child less u under. gone_still (is_under tree c) now new dropped u (is.below d child less u under))
        (λ u under. gone_now (is_under tree c) now new dropped u under);
    coming = more next after;
  }
    where
      by : (u : ℕ) (b : Bool) → is_under tree c u ≡ b → is_under tree t u ≡ false → is_under tree c u ≡ false
      by u true e out = absurd (true≢false (sym (under-trans tree t c u (child_under tree t c is.coming.0) e) ∙ out))
      by u false e out = e

      more : (o : Option ℕ) → IsNext (is_sibling_at tree c) c o → IfSome o (λ d. (is_child_at tree t d ≡ true) × (t < d) × (d < length (names tree)))
      more None f = tt
      more (Some d) f =
          let child : is_child_at tree t d ≡ true = sym (siblings_are_children tree t c is.coming.0 d) ∙ f.1 in
          let less = is.coming.1 in (child, omega (arith, f.0, less), child_within tree t d child)

  -- no child is left
  pub dropping_all : HasBranches tree t → (now : Table V) → IsDropping tree t old now None → IsDropped (is_under tree t) old now
  dropping_all branches now is = record {
    contents = λ u q. by_content u q (is_under tree t u) refl;
    places = λ u q. by_place u q (is_under tree t u) refl;
  }
    where
      gone : (u : ℕ) → is_under tree t u ≡ true → IsGone now u
      gone = subtree tree (IsGone now) t branches is.itself (λ c child u under. is.below c child tt u under)

      by_content : (u : ℕ) (q : List ℕ) (b : Bool) → is_under tree t u ≡ b → content now u q ≡ cond (is_under tree t u) None (content old u q)
      by_content u q true e = (gone u e).contents q ∙ ap (λ b. cond b None (content old u q)) (sym e)
      by_content u q false e = (is.outside u e).contents q ∙ ap (λ b. cond b None (content old u q)) (sym e)

      by_place : (u : ℕ) (q : List ℕ) (b : Bool) → is_under tree t u ≡ b → has_place now u q ≡ (not (is_under tree t u) && has_place old u q)
      by_place u q true e = (gone u e).places q ∙ ap (λ b. not b && has_place old u q) (sym e)
      by_place u q false e = (is.outside u e).places q ∙ ap (λ b. not b && has_place old u q) (sym e)

-- how far there is to go
abbrev pub ahead : ℕ → Option ℕ → ℕ
ahead n None = zero
ahead n (Some c) = suc (n - c)

pub ahead_less : (siblings : ℕ → Bool) (n c : ℕ) → c < n → (next : Option ℕ) → IsNext siblings c next → ahead n next < suc (n - c)
ahead_less siblings n c within None f = omega arith
ahead_less siblings n c within (Some d) f = let less = f.0 in omega (arith, less, within)

-- one that has not begun has nobody below it
pub nobody_under : (tree : States) (t : ℕ) → slice_get (names tree) t ≡ None → (u : ℕ) → is_under tree t u ≡ false
nobody_under tree t none u = ap (λ o. is_front_of o (slice_get (names tree) u)) none

pub begun_under : (tree : States) (t : ℕ) → is_some (slice_get (names tree) t) ≡ true → is_under tree t t ≡ true
begun_under tree t = by (slice_get (names tree) t)
  where
    by : (o : Option Path) → is_some o ≡ true → is_front_of o o ≡ true
    by None e = absurd (false≢true e)
    by (Some p) e = is_front_self p

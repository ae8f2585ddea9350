-- Places that are made, none of which goes.
use Rattle.std.proofs.Common.{◌≡◌, ◌<◌, ℕ, nat_eq, Bool, true, ◌&&◌, List, length, inl, inr, refl, sym, ap, ◌∙◌}
use Rattle.std.specs.Prelude.{nat_lt}
use Rattle.std.proofs.lemmas.Bool.{and_parts, and_from, or_cases, or_left, or_right, eqb-true, eq-eqb, lt-ltb}
use Rattle.txn_names.specs.Path.{label_eq}
use Rattle.txn_names.specs.Groups.{has}
use Rattle.txn_names.proofs.Exports.{label_eq_self, same_label}
use Rattle.txn_cells.specs.Cells.{with_childs, with_place}
use Rattle.serial_spec.specs.declared.operation.Kind.{Kind}
use Rattle.serial_spec.specs.declared.operation.Kind.TheVariants.{Write}
use Rattle.serial_spec.specs.declared.target.Target.{Target}
use Rattle.serial_spec.specs.declared.target.Target.TheVariants.{Key, Group}
use Rattle.lock_table.specs.Locked as one
use Rattle.lock_table.specs.Targeted.{AtGroups, HasModes, HasPlaces, IsUpTo, MayGoUpTo, MayHold, has_place, modes_at, with_groups}

-- nothing is made as yet
pub up_to_none : {X : Type 0} (old wanted : ℕ → X → Bool) → ((u : ℕ) (x : X) → old u x ≡ true → wanted u x ≡ true) → IsUpTo old old wanted
up_to_none old wanted all = record { kept = λ u x e. e; added = all }

pub up_to_same : {X : Type 0} (old now next wanted : ℕ → X → Bool) → IsUpTo old now wanted → ((u : ℕ) (x : X) → next u x ≡ now u x) → IsUpTo old next wanted
up_to_same old now next wanted so same = record { kept = λ u x e. same u x ∙ so.kept u x e; added = λ u x e. so.added u x (sym (same u x) ∙ e) }

-- one more place that is wanted
pub up_to_next : (old now next wanted : ℕ → List ℕ → Bool) (t : ℕ) (k : List ℕ) → IsUpTo old now wanted
    → ((u : ℕ) (q : List ℕ) → next u q ≡ with_place now t k u q) → wanted t k ≡ true → IsUpTo old next wanted
up_to_next old now next wanted t k so made is = record {
  kept = λ u q e. made u q ∙ or_right (nat_eq t u && label_eq k q) (now u q) (so.kept u q e);
  added = λ u q e. by u q (sym (made u q) ∙ e);
}
  where
    by : (u : ℕ) (q : List ℕ) → with_place now t k u q ≡ true → wanted u q ≡ true
    by u q e =
        elim (or_cases (nat_eq t u && label_eq k q) (now u q) e) [
          | inl here ↦
              let p = and_parts (nat_eq t u) (label_eq k q) here in
              ap (λ (v : ℕ). wanted v q) (sym (eqb-true t u p.0)) ∙ ap (wanted t) (sym (same_label k q p.1)) ∙ is
          | inr there ↦ so.added u q there
        ]

-- ---- one of three tables

pub sums_same : (keys sums sums2 writers : one.Table) → ((u : ℕ) (g : List ℕ) → one.has_place sums2 u g ≡ one.has_place sums u g)
    → HasPlaces (record { keys = keys; sums = sums2; writers = writers }) (has_place (record { keys = keys; sums = sums; writers = writers }))
sums_same keys sums sums2 writers same u (Key k) = refl
sums_same keys sums sums2 writers same u (Group g) = same u g

-- its modes too
pub sums_modes_same : (keys sums sums2 writers : one.Table) → ((u : ℕ) (g : List ℕ) → one.modes_in sums2 u g ≡ one.modes_in sums u g)
    → HasModes (record { keys = keys; sums = sums2; writers = writers }) (modes_at (record { keys = keys; sums = sums; writers = writers }))
sums_modes_same keys sums sums2 writers same u (Key k) = refl
sums_modes_same keys sums sums2 writers same u (Group g) = same u g

module _ (keys keys2 sums writers writers2 : one.Table) where
  pub keys_same : ((u : ℕ) (q : List ℕ) → one.has_place keys2 u q ≡ one.has_place keys u q)
      → HasPlaces (record { keys = keys2; sums = sums; writers = writers2 }) (has_place (record { keys = keys; sums = sums; writers = writers }))
  keys_same same u (Key k) = same u k
  keys_same same u (Group g) = refl

  pub keys_modes_same : ((u : ℕ) (q : List ℕ) → one.modes_in keys2 u q ≡ one.modes_in keys u q)
      → HasModes (record { keys = keys2; sums = sums; writers = writers2 }) (modes_at (record { keys = keys; sums = sums; writers = writers }))
  keys_modes_same same u (Key k) = same u k
  keys_modes_same same u (Group g) = refl

  -- a key that has a place now may be locked
  pub may_hold : (t : ℕ) (k : List ℕ) (x : Kind) → (x ≡ Write → AtGroups k (λ g. one.has_place writers2 t g ≡ true))
      → ((u : ℕ) (q : List ℕ) → one.has_place keys2 u q ≡ with_place (one.has_place keys) t k u q) → MayHold (record { keys = keys2; sums = sums; writers = writers2 }) t k x
  may_hold t k x marks made = record {
    place = made t k ∙ or_left (nat_eq t t && label_eq k k) (one.has_place keys t k) (and_from (nat_eq t t) (label_eq k k) (eq-eqb t t refl) (label_eq_self k));
    marks = marks;
  }

pub placed_there : (old new : ℕ → List ℕ → Bool) (t : ℕ) (k : List ℕ) → ((u : ℕ) (q : List ℕ) → new u q ≡ with_place old t k u q) → new t k ≡ true
placed_there old new t k made = made t k ∙ or_left (nat_eq t t && label_eq k k) (old t k) (and_from (nat_eq t t) (label_eq k k) (eq-eqb t t refl) (label_eq_self k))

-- ---- a parent's places

-- the parent has a place wherever the child has one
childs_up : (old new : ℕ → List ℕ → Bool) (child p : ℕ) → ((u : ℕ) (q : List ℕ) → new u q ≡ with_childs old child p u q) → (q : List ℕ) → new child q ≡ true → new p q ≡ true
childs_up old new child p made q e = made p q ∙ or_left (nat_eq p p && old child q) (old p q) (and_from (nat_eq p p) (old child q) (eq-eqb p p refl) (there (sym (made child q) ∙ e)))
  where
    there : with_childs old child p child q ≡ true → old child q ≡ true
    there h =
        elim (or_cases (nat_eq p child && old child q) (old child q) h) [
          | inl new_place ↦ (and_parts (nat_eq p child) (old child q) new_place).1
          | inr before ↦ before
        ]

pub may_go_up : (keys keys2 sums sums2 writers writers2 : one.Table) (child p : ℕ)
    → ((u : ℕ) (q : List ℕ) → one.has_place keys2 u q ≡ with_childs (one.has_place keys) child p u q)
    → ((u : ℕ) (g : List ℕ) → one.has_place sums2 u g ≡ with_childs (one.has_place sums) child p u g)
    → ((u : ℕ) (g : List ℕ) → one.has_place writers2 u g ≡ with_childs (one.has_place writers) child p u g)
    → MayGoUpTo (record { keys = keys2; sums = sums2; writers = writers2 }) child p
may_go_up keys keys2 sums sums2 writers writers2 child p keys_made sums_made marks_made = record {
  places = by;
  marks = childs_up (one.has_place writers) (one.has_place writers2) child p marks_made;
}
  where
    by : (s : Target) → has_place (record { keys = keys2; sums = sums2; writers = writers2 }) child s ≡ true → has_place (record { keys = keys2; sums = sums2; writers = writers2 }) p s ≡ true
    by (Key q) = childs_up (one.has_place keys) (one.has_place keys2) child p keys_made q
    by (Group g) = childs_up (one.has_place sums) (one.has_place sums2) child p sums_made g

-- ---- the groups of a key

pub group_wanted : (place : ℕ → List ℕ → Bool) (t : ℕ) (k g : List ℕ) → has g k ≡ true → 0 < length g → with_groups place t k t g ≡ true
group_wanted place t k g there some =
    or_left (nat_eq t t && (has g k && nat_lt 0 (length g))) (place t g)
    (and_from (nat_eq t t) _ (eq-eqb t t refl) (and_from (has g k) _ there (lt-ltb 0 (length g) some)))

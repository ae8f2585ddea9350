-- What a transaction has at a target or a key, its lock or what it left there: each entry changes it as a step on numbers does.
use Rattle.std.proofs.Common.{◌≡◌, ℕ, zero, suc, Bool, true, false, cond, not, ◌&&◌, ◌||◌, nat_eq, List, [], ◌∷◌, ◌++◌, Option, Some, None, refl, sym, ap, subst, ◌∙◌}
use Rattle.std.specs.Prelude.{slice_get}
use Rattle.std.proofs.lemmas.Bool.{false≢true}
use Rattle.txn_names.specs.Path.{path_eq, is_front, parent}
use Rattle.txn_names.proofs.Exports.{on_test, same_path, path_eq_self, is_front-parent}
use Rattle.txn_tree.specs.States.{States, names}
use Rattle.txn_tree.specs.Asked.{is_name, IsNumberOf}
use Rattle.txn_cells.specs.Cells.{is_it}
use Rattle.serial_spec.specs.declared.target.Asked.{Asked}
use Rattle.serial_spec.specs.declared.operation.Reply.{Reply}
use Rattle.serial_spec.specs.declared.entry.Entry.{Entry}
use Rattle.serial_spec.specs.History.{Name, History, Effect, Begins, Accesses, Commits, Aborts, Nothing, effect, is_active, has_begun}
use Rattle.serial_spec.specs.Rows.{Rows}
use Rattle.serial_spec.specs.Legal.{AreAllowed}
use Rattle.txn_history.specs.Steps.{acts_next, Before}
use Rattle.txn_history.proofs.Exports.{active_after, before_each, ancestors_act}
use Rattle.manager_core.specs.Kept.{content_of}
use Rattle.manager_core.specs.Tables.{IsParentNumber, is_below}
use Rattle.manager_core.proofs.Locks.{name_at}

-- an access raises what its transaction has, and a commit merges it into what the parent has
abbrev pub value_next : {X : Type 0} → (Asked → Reply → X → X) → (X → X → X) → Effect → Name → (Name → X) → X → X
value_next raise merge (Accesses t a r) u all v = cond (path_eq t u) (raise a r v) v
value_next raise merge (Commits t) u all v = cond (path_eq (parent t) u) (merge (all t) v) v
value_next raise merge x u all v = v

-- the value is told by the entries so, and whoever has not begun has nothing
pub record IsTold {X : Type 0} (nothing : X) (value : History → Name → X) (raise : Asked → Reply → X → X) (merge : X → X → X) : Type 0 where
  pub next : (e : Entry) (h : History) (u : Name) → value (e ∷ h) u ≡ value_next raise merge (effect e) u (value h) (value h u)
  pub empty : (rows : Rows) (h : History) → AreAllowed rows h → (l : List ℕ) (ls : Name) → has_begun h (l ∷ ls) ≡ false → value h (l ∷ ls) ≡ nothing

module _ {X : Type 0} (nothing : X) (value : History → Name → X) (raise : Asked → Reply → X → X) (merge : X → X → X)
    (told : IsTold nothing value raise merge) (rows : Rows) (e : Entry) (h : History) (allowed : AreAllowed rows (e ∷ h)) where
  abbrev pub content : History → Option Name → X
  content g o = content_of nothing value g o

  content_after : (x : Effect) → effect e ≡ x → (u : Name)
      → content (e ∷ h) (Some u) ≡ cond (acts_next x u (is_active h u)) (value_next raise merge x u (value h) (value h u)) nothing
  content_after x does u =
      let step : content (e ∷ h) (Some u) ≡ cond (acts_next (effect e) u (is_active h u)) (value_next raise merge (effect e) u (value h) (value h u)) nothing =
      λ i. cond (active_after rows e h allowed u i) (told.next e h u i) nothing in
      step ∙ ap (λ y. cond (acts_next y u (is_active h u)) (value_next raise merge y u (value h) (value h u)) nothing) does

  before : (x : Effect) → effect e ≡ x → Before h x
  before x does = subst (Before h) does (before_each rows e h allowed)

  -- an entry that does nothing
  pub content_nothing : (o : Option Name) → effect e ≡ Nothing → content h o ≡ content (e ∷ h) o
  content_nothing None does = refl
  content_nothing (Some u) does = sym (content_after Nothing does u)

  -- an access that was answered
  pub content_raised : (t : Name) (asked : Asked) (r : Reply) → effect e ≡ Accesses t asked r → (o : Option Name)
      → cond (is_name o t) (raise asked r (content h o)) (content h o) ≡ content (e ∷ h) o
  content_raised t asked r does None = refl
  content_raised t asked r does (Some u) =
      raised (path_eq t u) (is_active h u) (value h u)
      (λ b. subst (λ (v : Name). is_active h v ≡ true) (same_path t u b) (before (Accesses t asked r) does))
      ∙ sym (content_after (Accesses t asked r) does u)
    where
      raised : (b a : Bool) (v : X) → (b ≡ true → a ≡ true) → cond b (raise asked r (cond a v nothing)) (cond a v nothing) ≡ cond a (cond b (raise asked r v) v) nothing
      raised true a v f = rw (f refl) refl
      raised false a v f = refl

  -- a commit
  pub content_merged : (tree : States) (t : Name) (child : ℕ) (above : Option ℕ) (n : ℕ) → effect e ≡ Commits t → IsNumberOf tree t child → IsParentNumber tree t above
      → cond (nat_eq child n) nothing (cond (is_it above n) (merge (content h (slice_get (names tree) child)) (content h (slice_get (names tree) n))) (content h (slice_get (names tree) n)))
      ≡ content (e ∷ h) (slice_get (names tree) n)
  content_merged tree t child above n does number above_is =
      (λ i. cond (number n i) nothing (cond (above_is n i) (merge (childs i) (content h (slice_get (names tree) n))) (content h (slice_get (names tree) n))))
      ∙ by (slice_get (names tree) n)
    where
      acts : is_active h t ≡ true
      acts = before (Commits t) does

      childs : content h (slice_get (names tree) child) ≡ value h t
      childs = ap (content h) (name_at tree t child number) ∙ ap (λ b. cond b (value h t) nothing) acts

      merged : (c p a : Bool) (own all : X) → (p ≡ true → a ≡ true)
          → cond c nothing (cond p (merge all (cond a own nothing)) (cond a own nothing)) ≡ cond (not c && a) (cond p (merge all own) own) nothing
      merged true p a own all f = refl
      merged false true a own all f = rw (f refl) refl
      merged false false a own all f = refl

      by : (o : Option Name) → cond (is_name o t) nothing (cond (is_name o (parent t)) (merge (value h t) (content h o)) (content h o)) ≡ content (e ∷ h) o
      by None = refl
      by (Some u) =
          merged (path_eq t u) (path_eq (parent t) u) (is_active h u) (value h u) (value h t)
          (λ b. subst (λ (v : Name). is_active h v ≡ true) (same_path (parent t) u b) (ancestors_act rows h allowed.0 t (parent t) acts (is_front-parent t)))
          ∙ sym (content_after (Commits t) does u)

  -- an abort
  pub content_dropped : (t : Name) → effect e ≡ Aborts t → (o : Option Name) → cond (is_below o t) nothing (content h o) ≡ content (e ∷ h) o
  content_dropped t does None = refl
  content_dropped t does (Some u) = dropped (is_front t u) (is_active h u) (value h u) ∙ sym (content_after (Aborts t) does u)
    where
      dropped : (b a : Bool) (v : X) → cond b nothing (cond a v nothing) ≡ cond (not b && a) v nothing
      dropped true a v = refl
      dropped false a v = refl

  -- a begin
  pub content_begun : (t : Name) → effect e ≡ Begins t → (xs : List Name) (n : ℕ) → content h (slice_get xs n) ≡ content (e ∷ h) (slice_get (xs ++ t ∷ []) n)
  content_begun t does = by
    where
      unlocked : (u : Name) → path_eq t u ≡ true → value h u ≡ nothing
      unlocked u same = subst (λ (v : Name). value h v ≡ nothing) (same_path t u same) (at t (before (Begins t) does))
        where
          at : (v : Name) → Before h (Begins v) → value h v ≡ nothing
          at [] b = absurd (false≢true b.0)
          at (l ∷ ls) b = told.empty rows h allowed.0 l ls b.1

      nothing_of : (b : Bool) (v : X) → v ≡ nothing → cond b v nothing ≡ nothing
      nothing_of true v p = p
      nothing_of false v p = refl

      stays : (u : Name) → content h (Some u) ≡ content (e ∷ h) (Some u)
      stays u =
          on_test (path_eq t u) (λ b. content h (Some u) ≡ cond (b || is_active h u) (value h u) nothing)
          (λ same. let none = unlocked u same in nothing_of (is_active h u) (value h u) none ∙ sym (nothing_of true (value h u) none))
          (λ other. refl)
          ∙ sym (content_after (Begins t) does u)

      new_one : nothing ≡ content (e ∷ h) (Some t)
      new_one =
          sym (nothing_of (acts_next (Begins t) t (is_active h t)) (value h t) (unlocked t (path_eq_self t)))
          ∙ sym (content_after (Begins t) does t)

      by : (xs : List Name) (m : ℕ) → content h (slice_get xs m) ≡ content (e ∷ h) (slice_get (xs ++ t ∷ []) m)
      by [] zero = new_one
      by [] (suc m) = refl
      by (x ∷ xs) zero = stays x
      by (x ∷ xs) (suc m) = by xs m

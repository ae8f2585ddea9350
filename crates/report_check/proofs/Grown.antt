-- The tree of transactions that a report tells of: whoever began did so below one that was live, and none is live below one that has committed.
use Rattle.std.proofs.Common.{◌≡◌, ◌⊎◌, inl, inr, ℕ, ◌<◌, List, [], ◌∷◌, length, true, false, Bool, cond, not, refl, sym, ◌∙◌, subst, arith, ⊎_elim}
use Rattle.std.specs.Prelude.{◌||◌, ◌&&◌}
use Rattle.std.proofs.lemmas.Bool.{and_parts, not-true, or_cases, or_right, true≢false}
use Rattle.txn_names.specs.Path.{path_eq, parent}
use Rattle.txn_names.proofs.Exports.{same_path, path_eq_self}
use Rattle.serial_spec.specs.declared.entry.Entry.{Entry}
use Rattle.serial_spec.specs.History.{History, Name, Effect, Begins, Accesses, Commits, Aborts, Nothing, Absent, Live, Committed, Aborted, effect, has_aborted, has_begun, has_committed, is_absent, status, is_abort, is_active, is_begin, is_commit, is_live, is_live_status, is_orphan}
use Rattle.serial_spec.specs.Allowed.{has_live_child}
use Rattle.txn_history.proofs.Exports.{none_begun}
use Rattle.report_check.specs.Passing.{may_do}

pub record IsGrown (h : History) : Type 0 where
  pub rootless : has_begun h [] ≡ false
  pub uncommitted : has_committed h [] ≡ false
  pub down : (l : List ℕ) (ls : Name) → has_begun h (l ∷ ls) ≡ true → (parent (l ∷ ls) ≡ []) ⊎ (has_begun h (parent (l ∷ ls)) ≡ true)
  pub closed : (l : List ℕ) (ls : Name) → has_begun h (l ∷ ls) ≡ true → has_committed h (parent (l ∷ ls)) ≡ true → is_live h (l ∷ ls) ≡ false

-- who begins or commits has a name
abbrev pub IsNamed : Effect → Type 0
IsNamed (Begins t) = 0 < length t
IsNamed (Commits t) = 0 < length t
IsNamed x = Unit {0}

-- ---- tests

abbrev live_of : Bool → Bool → Bool → Bool
live_of b a c = is_live_status (cond b (cond a Aborted (cond c Committed Live)) Absent)

-- one that has ended stays so
dead_stays : (i b j a k c : Bool) → b ≡ true → live_of b a c ≡ false → live_of (i || b) (j || a) (k || c) ≡ false
dead_stays true true true a k c h d = refl
dead_stays true true false true k c h d = refl
dead_stays true true false false true c h d = refl
dead_stays true true false false false true h d = refl
dead_stays true true false false false false h d = d
dead_stays false true true a k c h d = refl
dead_stays false true false true k c h d = refl
dead_stays false true false false true c h d = refl
dead_stays false true false false false true h d = refl
dead_stays false true false false false false h d = d
dead_stays i false j a k c h d = absurd (true≢false (sym h))

live_began : (b a c : Bool) → live_of b a c ≡ true → b ≡ true
live_began true a c h = refl
live_began false a c h = absurd (true≢false (sym h))

live_uncommitted : (b a c : Bool) → live_of b a c ≡ true → c ≡ true → false ≡ true
live_uncommitted true true c h k = h
live_uncommitted true false true h k = h
live_uncommitted true false false h k = k
live_uncommitted false a c h k = h

-- ---- who acts

acts : (h : History) (t : Name) → is_active h t ≡ true → is_live h t ≡ true
acts h t e = (and_parts (is_live h t) (not (is_orphan h t)) e).0

-- whoever is live is the root, or has begun
live_is_begun : (h : History) (t : Name) → is_live h t ≡ true → (t ≡ []) ⊎ (has_begun h t ≡ true)
live_is_begun h [] e = inl refl
live_is_begun h (l ∷ ls) e = inr (live_began (has_begun h (l ∷ ls)) (has_aborted h (l ∷ ls)) (has_committed h (l ∷ ls)) e)

live_not_committed : (h : History) (t : Name) → has_committed h [] ≡ false → is_live h t ≡ true → has_committed h t ≡ true → false ≡ true
live_not_committed h [] root e c = sym root ∙ c
live_not_committed h (l ∷ ls) root e c = live_uncommitted (has_begun h (l ∷ ls)) (has_aborted h (l ∷ ls)) (has_committed h (l ∷ ls)) e c

-- ---- one more entry

root_begin : (x : Effect) → IsNamed x → is_begin [] x ≡ false
root_begin (Begins []) n = absurd (omega (arith, n))
root_begin (Begins (l ∷ ls)) n = refl
root_begin (Accesses t a r) n = refl
root_begin (Commits t) n = refl
root_begin (Aborts t) n = refl
root_begin Nothing n = refl

root_commit : (x : Effect) → IsNamed x → is_commit [] x ≡ false
root_commit (Begins t) n = refl
root_commit (Accesses t a r) n = refl
root_commit (Commits []) n = absurd (omega (arith, n))
root_commit (Commits (l ∷ ls)) n = refl
root_commit (Aborts t) n = refl
root_commit Nothing n = refl

neither : (a b : Bool) → a ≡ false → b ≡ false → (a || b) ≡ false
neither false false h k = refl
neither true b h k = absurd (true≢false h)
neither false true h k = absurd (true≢false k)

-- the parent of one that begins is live
parent_live : (h : History) (x : Effect) (t : Name) → may_do h x ≡ true → is_begin t x ≡ true → is_live h (parent t) ≡ true
parent_live h (Begins u) t m b =
    let both = and_parts (is_absent (status h u) && is_active h (parent u)) _ m in
    let active = and_parts (is_absent (status h u)) (is_active h (parent u)) both.0 in
    subst (λ v. is_live h (parent v) ≡ true) (same_path u t b) (acts h (parent u) active.1)
parent_live h (Accesses u a r) t m b = absurd (true≢false (sym b))
parent_live h (Commits u) t m b = absurd (true≢false (sym b))
parent_live h (Aborts u) t m b = absurd (true≢false (sym b))
parent_live h Nothing t m b = absurd (true≢false (sym b))

-- a child of one that commits is not live
child_ended : (h : History) (x : Effect) (t : Name) → may_do h x ≡ true → is_commit (parent t) x ≡ true → has_begun h t ≡ true → is_live h t ≡ false
child_ended h (Begins u) t m c b = absurd (true≢false (sym c))
child_ended h (Accesses u a r) t m c b = absurd (true≢false (sym c))
child_ended h (Commits u) t m c b =
    let none = not-true (has_live_child h u) (and_parts _ _ m).1 in
    let found = none_begun (λ v. path_eq (parent v) u && is_live h v) t h none b in
    after_true (path_eq (parent t) u) (is_live h t) (subst (λ v. path_eq v u ≡ true) (same_path u (parent t) c) (path_eq_self u)) found
  where
    after_true : (a b : Bool) → a ≡ true → (a && b) ≡ false → b ≡ false
    after_true true b h k = k
    after_true false b h k = absurd (true≢false (sym h))
child_ended h (Aborts u) t m c b = absurd (true≢false (sym c))
child_ended h Nothing t m c b = absurd (true≢false (sym c))

-- a begin begins no one who commits by it
begins_alone : (x : Effect) (t u : Name) → is_commit u x ≡ true → is_begin t x ≡ false
begins_alone (Begins v) t u c = absurd (true≢false (sym c))
begins_alone (Accesses v a r) t u c = refl
begins_alone (Commits v) t u c = refl
begins_alone (Aborts v) t u c = refl
begins_alone Nothing t u c = refl

pub grown_more : (h : History) (e : Entry) → IsGrown h → may_do h (effect e) ≡ true → IsNamed (effect e) → IsGrown (e ∷ h)
grown_more h e g m named = record { rootless = neither _ _ (root_begin x named) g.rootless; uncommitted = neither _ _ (root_commit x named) g.uncommitted; down = down; closed = closed }
  where
    x : Effect
    x = effect e

    down : (l : List ℕ) (ls : Name) → (is_begin (l ∷ ls) x || has_begun h (l ∷ ls)) ≡ true
        → (parent (l ∷ ls) ≡ []) ⊎ ((is_begin (parent (l ∷ ls)) x || has_begun h (parent (l ∷ ls))) ≡ true)
    down l ls b = ⊎_elim
        (λ (i : is_begin (l ∷ ls) x ≡ true). ⊎_elim (λ (r : parent (l ∷ ls) ≡ []). inl r) (λ (k : has_begun h (parent (l ∷ ls)) ≡ true). inr (or_right _ _ k))
        (live_is_begun h (parent (l ∷ ls)) (parent_live h x (l ∷ ls) m i)))
        (λ (k : has_begun h (l ∷ ls) ≡ true). ⊎_elim (λ (r : parent (l ∷ ls) ≡ []). inl r) (λ (k2 : has_begun h (parent (l ∷ ls)) ≡ true). inr (or_right _ _ k2)) (g.down l ls k))
        (or_cases _ _ b)

    stays : (l : List ℕ) (ls : Name) → has_begun h (l ∷ ls) ≡ true → is_live h (l ∷ ls) ≡ false → is_live (e ∷ h) (l ∷ ls) ≡ false
    stays l ls b d = dead_stays (is_begin (l ∷ ls) x) (has_begun h (l ∷ ls)) (is_abort (l ∷ ls) x) (has_aborted h (l ∷ ls)) (is_commit (l ∷ ls) x) (has_committed h (l ∷ ls)) b d

    closed : (l : List ℕ) (ls : Name) → (is_begin (l ∷ ls) x || has_begun h (l ∷ ls)) ≡ true
        → (is_commit (parent (l ∷ ls)) x || has_committed h (parent (l ∷ ls))) ≡ true → is_live (e ∷ h) (l ∷ ls) ≡ false
    closed l ls b c = ⊎_elim
        (λ (k : is_commit (parent (l ∷ ls)) x ≡ true).
        let old = subst (λ i. (i || has_begun h (l ∷ ls)) ≡ true) (begins_alone x (l ∷ ls) (parent (l ∷ ls)) k) b in
        stays l ls old (child_ended h x (l ∷ ls) m k old))
        (λ (k : has_committed h (parent (l ∷ ls)) ≡ true). ⊎_elim
        (λ (i : is_begin (l ∷ ls) x ≡ true). absurd (true≢false (sym (live_not_committed h (parent (l ∷ ls)) g.uncommitted (parent_live h x (l ∷ ls) m i) k))))
        (λ (old : has_begun h (l ∷ ls) ≡ true). stays l ls old (g.closed l ls old k))
        (or_cases _ _ b))
        (or_cases _ _ c)

pub grown_none : IsGrown []
grown_none = record { rootless = refl; uncommitted = refl; down = λ l ls b. absurd (true≢false (sym b)); closed = λ l ls b c. absurd (true≢false (sym b)) }

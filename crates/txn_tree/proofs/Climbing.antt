-- Who is active, found from parent to parent.
use Rattle.std.proofs.Common.{◌≡◌, ◌+◌, ◌<◌, ℕ, Bool, true, false, not, ◌&&◌, List, [], ◌∷◌, length, Option, Some, None, option_map, refl, sym, ap, ◌∙◌, true≢false, arith}
use Rattle.std.specs.Prelude.{slice_get, if◌then◌else◌, is_some, IfSome}
use Rattle.std.proofs.lemmas.Bool.{false≢true}
use Rattle.std.proofs.lemmas.Bool.{lt-ltb}
use Rattle.txn_names.specs.Path.{Path, parent, top_of}
use Rattle.txn_names.proofs.Exports.{same_path, parent-cons}
use Rattle.serial_spec.specs.History.{or_else}
use Rattle.txn_tree.specs.States.{States, IsTree, names, is_aborted, is_live}
use Rattle.txn_tree.specs.Asked.{has_aborted_in, is_active_in, is_live_in, is_orphan_in, top_aborted_in}
use Rattle.txn_tree.specs.Numbered.{IsUpward, has_parent, is_active_at, is_active_named, is_parent_of, status_at, status_named, top_aborted_at, top_aborted_named}
use Rattle.txn_tree.proofs.Links.{some_label}
use Rattle.txn_tree.proofs.Orphans.{active_parts, child_active}

-- a live one is active just where its parent is
live_by_parent : (tree : States) → IsUpward tree → (t : Path) → is_live_in tree t ≡ true → is_active_in tree t ≡ is_active_in tree (parent t)
live_by_parent tree upward t live = by (is_active_in tree t) (is_active_in tree (parent t)) refl refl
  where
    by : (a b : Bool) → is_active_in tree t ≡ a → is_active_in tree (parent t) ≡ b → a ≡ b
    by true b e f = sym (upward t e) ∙ f
    by false true e f = sym e ∙ child_active tree t live (active_parts tree (parent t) f).1
    by false false e f = refl

pub active_by_parent : (tree : States) → IsUpward tree → (n p : ℕ) → is_live (status_at tree n) ≡ true
    → is_parent_of (slice_get (names tree) p) (slice_get (names tree) n) ≡ true → is_active_at tree n ≡ is_active_at tree p
active_by_parent tree upward n p = by (slice_get (names tree) n) (slice_get (names tree) p)
  where
    by : (t u : Option Path) → is_live (status_named tree t) ≡ true → is_parent_of u t ≡ true → is_active_named tree t ≡ is_active_named tree u
    by None None live e = refl
    by None (Some u) live e = absurd (false≢true e)
    by (Some t) None live e = absurd (false≢true e)
    by (Some t) (Some u) live e = live_by_parent tree upward t live ∙ ap (is_active_in tree) (same_path (parent t) u e)

-- the root is no orphan
pub active_below_root : (tree : States) (n : ℕ) → is_live (status_at tree n) ≡ true → has_parent (slice_get (names tree) n) ≡ false → is_active_at tree n ≡ true
active_below_root tree n = by (slice_get (names tree) n)
  where
    by : (t : Option Path) → is_live (status_named tree t) ≡ true → has_parent t ≡ false → is_active_named tree t ≡ true
    by None live e = absurd (false≢true live)
    by (Some []) live e = refl
    by (Some (l ∷ [])) live e = child_active tree (l ∷ []) live refl
    by (Some (l ∷ m ∷ ms)) live e = absurd (true≢false (sym (lt-ltb 1 (length (l ∷ m ∷ ms)) (omega arith)) ∙ e))

pub not_active : (tree : States) (n : ℕ) → is_live (status_at tree n) ≡ false → is_active_at tree n ≡ false
not_active tree n = by (slice_get (names tree) n)
  where
    by : (t : Option Path) → is_live (status_named tree t) ≡ false → is_active_named tree t ≡ false
    by None e = refl
    by (Some t) e = ap (λ b. b && not (is_orphan_in tree t)) e

-- ---- the topmost aborted one

-- the topmost of a path is that of its parent, or the path itself
top_of-parent : (passes : Path → Bool) (l : List ℕ) (ls : Path)
    → top_of passes (l ∷ ls) ≡ or_else (top_of passes (parent (l ∷ ls))) (if passes (l ∷ ls) then Some (l ∷ ls) else None)
top_of-parent passes l [] = refl
top_of-parent passes l (m ∷ ms) =
    by (top_of-parent (λ (u : Path). passes (l ∷ u)) m ms) (passes (l ∷ []))
    ∙ ap (λ (u : Path). or_else (top_of passes u) (if passes (l ∷ m ∷ ms) then Some (l ∷ m ∷ ms) else None)) (sym (parent-cons l m ms))
  where
    below : Path → Bool
    below u = passes (l ∷ u)

    mapped : (o : Option Path) (b : Bool)
        → option_map (λ (u : Path). l ∷ u) (or_else o (if b then Some (m ∷ ms) else None))
        ≡ or_else (option_map (λ (u : Path). l ∷ u) o) (if b then Some (l ∷ m ∷ ms) else None)
    mapped None true = refl
    mapped None false = refl
    mapped (Some u) b = refl

    by : top_of below (m ∷ ms) ≡ or_else (top_of below (parent (m ∷ ms))) (if below (m ∷ ms) then Some (m ∷ ms) else None)
        → (b : Bool) → (if b then Some (l ∷ []) else option_map (λ (u : Path). l ∷ u) (top_of below (m ∷ ms)))
        ≡ or_else (if b then Some (l ∷ []) else option_map (λ (u : Path). l ∷ u) (top_of below (parent (m ∷ ms))))
        (if passes (l ∷ m ∷ ms) then Some (l ∷ m ∷ ms) else None)
    by last true = refl
    by last false =
        ap (option_map (λ (u : Path). l ∷ u)) last
        ∙ mapped (top_of below (parent (m ∷ ms))) (below (m ∷ ms))

-- what stands at a number that may be there
abbrev pub top_above : States → Option ℕ → Option Path
top_above tree None = None
top_above tree (Some n) = top_aborted_at tree n

abbrev pub name_by : States → Option ℕ → Option Path
name_by tree None = None
name_by tree (Some n) = slice_get (names tree) n

-- what is left to climb falls, since a parent has a smaller number
abbrev pub left_above : Option ℕ → ℕ
left_above None = 0
left_above (Some n) = n + 1

pub lower : (p : Option ℕ) (n : ℕ) → IfSome p (λ q. q < n) → left_above p < n + 1
lower None n earlier = omega arith
lower (Some q) n earlier = omega (arith, earlier)

-- once a transaction is passed, its parent is left to look at, and it is the topmost so far if it has aborted
pub climbed : (tree : States) → IsTree tree → (n : ℕ) (p top : Option ℕ) (b : Bool) → b ≡ is_aborted (status_at tree n)
    → is_some p ≡ has_parent (slice_get (names tree) n)
    → IfSome p (λ q. is_parent_of (slice_get (names tree) q) (slice_get (names tree) n) ≡ true)
    → or_else (top_aborted_at tree n) (name_by tree top)
    ≡ or_else (top_above tree p) (name_by tree (if b then Some n else top))
climbed tree is n p top b aborted some above = go (slice_get (names tree) n) refl p some above
  where
    ends : (o : Option Path) (t : Path) (b : Bool) → slice_get (names tree) n ≡ Some t
        → or_else (or_else o (if b then Some t else None)) (name_by tree top)
        ≡ or_else o (name_by tree (if b then Some n else top))
    ends (Some u) t b at = refl
    ends None t true at = sym at
    ends None t false at = refl

    -- of a name, when the topmost above it is known
    named : (l : List ℕ) (ls : Path) (o : Option Path) → slice_get (names tree) n ≡ Some (l ∷ ls)
        → top_aborted_in tree (parent (l ∷ ls)) ≡ o
        → or_else (top_aborted_named tree (slice_get (names tree) n)) (name_by tree top)
        ≡ or_else o (name_by tree (if b then Some n else top))
    named l ls o at e =
        let here : has_aborted_in tree (l ∷ ls) ≡ b = ap (λ x. is_aborted (status_named tree x)) (sym at) ∙ sym aborted in
        ap (λ x. or_else (top_aborted_named tree x) (name_by tree top)) at
        ∙ ap (λ x. or_else x (name_by tree top)) (top_of-parent (has_aborted_in tree) l ls)
        ∙ ap (λ x. or_else (or_else x (if has_aborted_in tree (l ∷ ls) then Some (l ∷ ls) else None)) (name_by tree top)) e
        ∙ ap (λ x. or_else (or_else o (if x then Some (l ∷ ls) else None)) (name_by tree top)) here
        ∙ ends o (l ∷ ls) b at

    go : (t : Option Path) → slice_get (names tree) n ≡ t → (p : Option ℕ) → is_some p ≡ has_parent (slice_get (names tree) n)
        → IfSome p (λ q. is_parent_of (slice_get (names tree) q) (slice_get (names tree) n) ≡ true)
        → or_else (top_aborted_at tree n) (name_by tree top)
        ≡ or_else (top_above tree p) (name_by tree (if b then Some n else top))
    go None at None some above =
        ap (λ x. or_else (top_aborted_named tree x) (name_by tree top)) at
        ∙ ap (λ x. name_by tree (if x then Some n else top)) (sym (aborted ∙ ap (λ x. is_aborted (status_named tree x)) at))
    go None at (Some q) some above = absurd (true≢false (some ∙ ap has_parent at))
    go (Some []) at p some above = absurd (true≢false (some_label (names tree) n [] is.named at))
    go (Some (l ∷ [])) at None some above = named l [] None at refl
    go (Some (l ∷ m ∷ ms)) at None some above =
        absurd (true≢false (sym (lt-ltb 1 (length (l ∷ m ∷ ms)) (omega arith)) ∙ sym (some ∙ ap has_parent at)))
    go (Some (l ∷ ls)) at (Some q) some above = under (slice_get (names tree) q) refl (ap (is_parent_of (slice_get (names tree) q)) (sym at) ∙ above)
      where
        under : (u : Option Path) → slice_get (names tree) q ≡ u → is_parent_of (slice_get (names tree) q) (Some (l ∷ ls)) ≡ true
            → or_else (top_aborted_at tree n) (name_by tree top)
            ≡ or_else (top_aborted_at tree q) (name_by tree (if b then Some n else top))
        under None there e = absurd (true≢false (sym e ∙ ap (λ x. is_parent_of x (Some (l ∷ ls))) there))
        under (Some u) there e =
            let same = same_path (parent (l ∷ ls)) u (sym (ap (λ x. is_parent_of x (Some (l ∷ ls))) there) ∙ e) in
            named l ls (top_aborted_at tree q) at
            (ap (top_aborted_in tree) same ∙ ap (top_aborted_named tree) (sym there))

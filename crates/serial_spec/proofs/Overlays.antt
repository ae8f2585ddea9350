-- One change after another, from the last to the first.
use Rattle.std.proofs.Common.{◌≡◌, ℕ, ℤ, cond, map, Option, Some, None, get_or, ◌<◌, ◌+◌, zero, suc, List, [], ◌∷◌, length, drop, refl, sym, ap, subst, ◌∙◌, arith}
use Rattle.std.specs.List.{AllByRecursion}
use Rattle.std.specs.Ordering.{nat_cmp}
use Rattle.std.specs.Cmp.Lexicographic.{slice_cmp}
use Rattle.std.specs.declared.cmp.Ordering.TheVariants.{Less}
use Rattle.std.proofs.lemmas.List.{drop_more}
use Rattle.txn_names.specs.Path.{label_eq}
use Rattle.txn_names.specs.declared.change.Change.{Change}
use Rattle.txn_names.proofs.Exports.{same_label, on_test}
use Rattle.serial_spec.specs.Changes.{AreRising, change_at, overlay}
use Rattle.serial_spec.specs.History.{or_else}
use Rattle.serial_spec.specs.Values.{value_or}
use Rattle.serial_spec.specs.Serial.{Map, put}
use Rattle.serial_spec.proofs.Ordered.{unequal}

-- a rising change is below all those behind it
pub change_below : (cs : List Change) (i : ℕ) (c : Change) → AreRising cs → i < length cs → c ≡ get_or cs i c
    → AllByRecursion (λ q. slice_cmp nat_cmp c.key q ≡ Less) (map (λ d. d.key) (drop (suc i) cs))
change_below [] i c h within is = absurd (omega arith)
change_below (d ∷ cs) zero c h within is = subst (λ (x : Change). AllByRecursion (λ q. slice_cmp nat_cmp x.key q ≡ Less) (map (λ e. e.key) cs)) (sym is) h.0
change_below (d ∷ cs) (suc i) c h within is = change_below cs i c h.1 (omega arith) is

no_change : (k : List ℕ) (cs : List Change) → AllByRecursion (λ q. slice_cmp nat_cmp k q ≡ Less) (map (λ c. c.key) cs) → change_at cs k ≡ None
no_change k [] h = refl
no_change k (c ∷ cs) h =
    ap (λ x. or_else x (cond (label_eq c.key k) (Some c.value) None)) (no_change k cs h.1) ∙ ap (λ b. cond b (Some c.value) None) (unequal k c.key h.0)

pub overlay_before : (c : Change) (cs : List Change) (m : Map) → AllByRecursion (λ q. slice_cmp nat_cmp c.key q ≡ Less) (map (λ d. d.key) cs)
    → put (overlay cs m) c.key c.value ≡ overlay (c ∷ cs) m
overlay_before c cs m h = λ i k.
    on_test (label_eq c.key k) (λ b. label_eq c.key k ≡ b → cond b c.value (value_or (change_at cs k) (m k)) ≡ value_or (or_else (change_at cs k) (cond b (Some c.value) None)) (m k))
    (λ t _. sym (ap (λ x. value_or (or_else x (Some c.value)) (m k)) (ap (change_at cs) (sym (same_label c.key k t)) ∙ no_change c.key cs h)))
    (λ _ _. kept (change_at cs k) (m k)) refl i
  where
    kept : (x : Option (Option ℤ)) (y : Option ℤ) → value_or x y ≡ value_or (or_else x None) y
    kept None y = refl
    kept (Some v) y = refl

-- the change at this place, and those behind it
pub changes_from : (cs : List Change) (i left : ℕ) (c : Change) → left ≡ i + 1 → i < length cs → c ≡ get_or cs i c → drop i cs ≡ c ∷ drop left cs
changes_from cs i left c next within is =
    drop_more cs i c within ∙ ap (λ (d : Change). d ∷ drop (i + 1) cs) (sym is) ∙ ap (λ n. c ∷ drop n cs) (sym next)

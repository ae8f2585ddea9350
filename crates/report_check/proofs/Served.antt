-- The accesses of the second pass and the items of the definitions.
use Rattle.std.proofs.Common.{◌≡◌, ℕ, suc, ◌+◌, List, [], ◌∷◌, ◌++◌, length, true, false, Bool, cond, None, refl, sym, ap, ap₂, ◌∙◌}
use Rattle.txn_names.specs.Path.{path_eq, parent}
use Rattle.serial_spec.specs.declared.target.Asked.{Asked}
use Rattle.serial_spec.specs.declared.operation.Reply.{Reply}
use Rattle.serial_spec.specs.History.{History, Name, Effect, Begins, Accesses, Commits, Aborts, Nothing, effect}
use Rattle.serial_spec.specs.Items.{Items, Access, Block, items, with_item}
use Rattle.serial_spec.specs.Serial.{Map, Replies, after_asked, map_after, reply_at}
use Rattle.serial_spec.specs.Flat.{same_reply}
use Rattle.serial_spec.proofs.Exports.{same_reply-Decides}
use Rattle.report_check.specs.Serving.{PlacedAccess, accesses_of, least, map_behind, with_access, wrong_lines}
use Rattle.report_check.specs.Laws.{AccessesAreItems}

-- the accesses lead where the items lead, and none is wrong where the items are a serial run
record Fit (m : Map) (xs : List PlacedAccess) (ys : Items) : Type 0 where
  left : map_behind m xs ≡ map_after m ys
  right : wrong_lines m xs ≡ [] → Replies m ys
  back : Replies m ys → wrong_lines m xs ≡ []

-- ---- blocks

behind_both : (m : Map) (xs ys : List PlacedAccess) → map_behind m (xs ++ ys) ≡ map_behind (map_behind m ys) xs
behind_both m [] ys = refl
behind_both m (a ∷ xs) ys = ap (λ (n : Map). after_asked n a.asked) (behind_both m xs ys)

wrong_both : (m : Map) (xs ys : List PlacedAccess) → wrong_lines m (xs ++ ys) ≡ wrong_lines (map_behind m ys) xs ++ wrong_lines m ys
wrong_both m [] ys = refl
wrong_both m (a ∷ xs) ys =
    ap₂ (λ (n : Map) ws. cond (same_reply a.reply (reply_at n a.asked)) ws (a.line ∷ ws)) (behind_both m xs ys) (wrong_both m xs ys)
    ∙ either (same_reply a.reply (reply_at (map_behind (map_behind m ys) xs) a.asked))
  where
    either : (t : Bool)
        → cond t (wrong_lines (map_behind m ys) xs ++ wrong_lines m ys) (a.line ∷ (wrong_lines (map_behind m ys) xs ++ wrong_lines m ys))
        ≡ cond t (wrong_lines (map_behind m ys) xs) (a.line ∷ wrong_lines (map_behind m ys) xs) ++ wrong_lines m ys
    either true = refl
    either false = refl

none_left : {X : Type 0} (xs ys : List X) → xs ++ ys ≡ [] → (xs ≡ []) × (ys ≡ [])
none_left [] ys h = (refl, h)
none_left (x ∷ xs) ys h = cc

fit_block : (m : Map) (bs xs : List PlacedAccess) (c ys : Items) → ((n : Map) → Fit n bs c) → Fit m xs ys → Fit m (bs ++ xs) (Block c ys)
fit_block m bs xs c ys block fit = record {
  left = behind_both m bs xs ∙ ap (λ (n : Map). map_behind n bs) fit.left ∙ (block (map_after m ys)).left;
  right = λ h. let p = none_left (wrong_lines (map_behind m xs) bs) (wrong_lines m xs) (sym (wrong_both m bs xs) ∙ h) in
      (fit.right p.1, (block (map_after m ys)).right (sym (ap (λ (n : Map). wrong_lines n bs) fit.left) ∙ p.0));
  back = λ h. wrong_both m bs xs ∙ ap₂ (λ a b. a ++ b) (ap (λ (n : Map). wrong_lines n bs) fit.left ∙ (block (map_after m ys)).back h.1) (fit.back h.0);
}

-- ---- accesses

fit_access : (m : Map) (n : ℕ) (a : Asked) (r : Reply) (xs : List PlacedAccess) (ys : Items) → Fit m xs ys
    → Fit m (record { line = n; asked = a; reply = r } ∷ xs) (Access a r ys)
fit_access m n a r xs ys fit = record {
  left = ap (λ (l : Map). after_asked l a) fit.left;
  right = λ h. by_test (same_reply r (reply_at (map_behind m xs) a)) refl h;
  back = λ h. again (same_reply r (reply_at (map_behind m xs) a)) refl h;
}
  where
    by_test : (t : Bool) → same_reply r (reply_at (map_behind m xs) a) ≡ t → cond t (wrong_lines m xs) (n ∷ wrong_lines m xs) ≡ [] → Replies m ys × (r ≡ reply_at (map_after m ys) a)
    by_test true e h = (fit.right h, (same_reply-Decides r (reply_at (map_behind m xs) a)).0 e ∙ ap (λ (l : Map). reply_at l a) fit.left)
    by_test false e h = cc

    again : (t : Bool) → same_reply r (reply_at (map_behind m xs) a) ≡ t → Replies m ys × (r ≡ reply_at (map_after m ys) a) → cond t (wrong_lines m xs) (n ∷ wrong_lines m xs) ≡ []
    again true e h = fit.back h.0
    again false e h =
        let is = (same_reply-Decides r (reply_at (map_behind m xs) a)).1 (h.1 ∙ ap (λ (l : Map). reply_at l a) (sym fit.left)) in
        cc

-- ---- histories

fit_either : (m : Map) (t : Bool) (xs1 xs2 : List PlacedAccess) (ys1 ys2 : Items) → Fit m xs1 ys1 → Fit m xs2 ys2 → Fit m (cond t xs1 xs2) (cond t ys1 ys2)
fit_either m true xs1 xs2 ys1 ys2 a b = a
fit_either m false xs1 xs2 ys1 ys2 a b = b

fit_effect : (t : Name) (x : Effect) (n : ℕ) (before : Name → List PlacedAccess) (own : Name → Items) → ((u : Name) (m : Map) → Fit m (before u) (own u))
    → (m : Map) → Fit m (with_access t x n before) (with_item t x own)
fit_effect t (Begins u) n before own fit m = fit t m
fit_effect t (Accesses u a r) n before own fit m = fit_either m (path_eq u t) _ _ _ _ (fit_access m n a r (before t) (own t) (fit t m)) (fit t m)
fit_effect t (Commits u) n before own fit m = fit_either m (path_eq (parent u) t) _ _ _ _ (fit_block m (before u) (before t) (own u) (own t) (fit u) (fit t m)) (fit t m)
fit_effect t (Aborts u) n before own fit m = fit t m
fit_effect t Nothing n before own fit m = fit t m

fit_all : (n : ℕ) (h : History) (t : Name) (m : Map) → Fit m (accesses_of n h t) (items h t)
fit_all n [] t m = record { left = refl; right = λ h. tt; back = λ h. refl }
fit_all n (e ∷ h) t m = fit_effect t (effect e) (n + suc (length h)) (accesses_of n h) (items h) (fit_all n h) m

-- ---- the least of none

least_none : (ns : List ℕ) → least ns ≡ None → ns ≡ []
least_none [] h = refl
least_none (n ∷ ns) h = cc

pub accesses_are_items : AccessesAreItems
accesses_are_items n h t m =
    let fit = fit_all n h t m in
    (fit.left, (λ none. fit.right (least_none (wrong_lines m (accesses_of n h t)) none), λ is. ap least (fit.back is)))

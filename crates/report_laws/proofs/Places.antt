-- The number of a session is the place of its label among those that were named, in the order in which they were.
use Rattle.std.proofs.Common.{◌≡◌, ℕ, suc, ◌+◌, ◌<◌, ◌⊎◌, inl, inr, List, [], ◌∷◌, ◌++◌, length, get_or, true, false, cond, not, Some, None, refl, sym, ap, ◌∙◌, subst, arith, one-add, append_assoc, length-append}
use Rattle.std.specs.Prelude.{◌||◌, is_some, nat_lt, unwrap_or}
use Rattle.std.specs.List.{IsDistinct, list_any, position_or_len}
use Rattle.std.proofs.lemmas.Bool.{lt-ltb}
use Rattle.std.proofs.lemmas.Bool.Decides.{nat_tests}
use Rattle.std.proofs.lemmas.Cmp.{nat_list_eq_equiv}
use Rattle.std.proofs.lemmas.Map.Keys.{IsDistinct-push}
use Rattle.txn_names.specs.Path.{label_eq}
use Rattle.txn_names.proofs.Exports.{label_eq_self, on_label, on_test}
use Rattle.report_check.specs.Passing.{session_of, with_label}

abbrev Labels : Type 0
Labels = List (List ℕ)

abbrev place : List ℕ → Labels → ℕ
place l ls = position_or_len (label_eq l) ls

record IsIn (l : List ℕ) (ls : Labels) : Type 0 where
  within : place l ls < length ls
  stays : (more : Labels) → place l (ls ++ more) ≡ place l ls
  found : get_or ls (place l ls) [] ≡ l
  there : list_any (label_eq l) ls ≡ true

record IsOut (l : List ℕ) (ls : Labels) : Type 0 where
  last : place l ls ≡ length ls
  seam : (more : Labels) → place l (ls ++ l ∷ more) ≡ length ls
  none : list_any (label_eq l) ls ≡ false

in_front : (l x : List ℕ) (xs : Labels) → label_eq l x ≡ true → l ≡ x → IsIn l (x ∷ xs)
in_front l x xs e same =
    let first : (ys : Labels) → place l (x ∷ ys) ≡ 0 = λ ys. ap (λ b. cond (not b) (1 + place l ys) 0) e in
    record {
      within = omega (arith, first xs);
      stays = λ more. first (xs ++ more) ∙ sym (first xs);
      found = ap (λ n. get_or (x ∷ xs) n []) (first xs) ∙ sym same;
      there = ap (λ b. b || list_any (label_eq l) xs) e;
    }

module _ (l x : List ℕ) (xs : Labels) (e : label_eq l x ≡ false) where
  later : (ys : Labels) → place l (x ∷ ys) ≡ suc (place l ys)
  later ys = ap (λ b. cond (not b) (1 + place l ys) 0) e ∙ one-add (place l ys)

  in_later : IsIn l xs → IsIn l (x ∷ xs)
  in_later is = record {
    within = omega (arith, later xs, is.within);
    stays = λ more. later (xs ++ more) ∙ ap suc (is.stays more) ∙ sym (later xs);
    found = ap (λ n. get_or (x ∷ xs) n []) (later xs) ∙ is.found;
    there = ap (λ b. b || list_any (label_eq l) xs) e ∙ is.there;
  }

  out_later : IsOut l xs → IsOut l (x ∷ xs)
  out_later is = record {
    last = later xs ∙ ap suc is.last;
    seam = λ more. later (xs ++ l ∷ more) ∙ ap suc (is.seam more);
    none = ap (λ b. b || list_any (label_eq l) xs) e ∙ is.none;
  }

  either_later : IsIn l xs ⊎ IsOut l xs → IsIn l (x ∷ xs) ⊎ IsOut l (x ∷ xs)
  either_later (inl is) = inl (in_later is)
  either_later (inr is) = inr (out_later is)

in_or_out : (l : List ℕ) (ls : Labels) → IsIn l ls ⊎ IsOut l ls
in_or_out l [] = inr (record { last = refl; seam = λ more. ap (λ b. cond (not b) (1 + place l more) 0) (label_eq_self l); none = refl })
in_or_out l (x ∷ xs) = on_test (label_eq l x) (λ _. IsIn l (x ∷ xs) ⊎ IsOut l (x ∷ xs))
    (λ e. inl (in_front l x xs e (on_label l x (λ _. l ≡ x) (λ same. same) (λ other. absurd (false_true (sym other ∙ e))))))
    (λ e. either_later l x xs e (in_or_out l xs))
  where
    false_true : false ≡ true → ⊥
    false_true e = cc

-- ---- in the words of the definition

in_session : (l : List ℕ) (ls : Labels) → IsIn l ls → (session_of ls l ≡ place l ls) × (with_label ls l ≡ ls)
in_session l ls is =
    let t = lt-ltb (place l ls) (length ls) is.within in
    (ap (λ b. unwrap_or (cond b (Some (place l ls)) None) (length ls)) t, ap (λ b. cond (is_some (cond b (Some (place l ls)) None)) ls (ls ++ l ∷ [])) t)

out_session : (l : List ℕ) (ls : Labels) → IsOut l ls → (session_of ls l ≡ length ls) × (with_label ls l ≡ ls ++ l ∷ [])
out_session l ls is =
    let t : nat_lt (place l ls) (length ls) ≡ false = grind (arith, nat_tests, is.last) in
    (ap (λ b. unwrap_or (cond b (Some (place l ls)) None) (length ls)) t, ap (λ b. cond (is_some (cond b (Some (place l ls)) None)) ls (ls ++ l ∷ [])) t)

-- the label stands among all at the number that it had when it was named
pub record IsPlaced (all labels : Labels) (l : List ℕ) : Type 0 where
  pub same : session_of labels l ≡ session_of all l
  pub within : session_of all l < length all
  pub found : get_or all (session_of all l) [] ≡ l
  pub more : Labels
  pub kept : all ≡ labels ++ more

placed_in : (labels more : Labels) (l : List ℕ) → IsIn l labels → IsIn l (labels ++ more) ⊎ IsOut l (labels ++ more) → IsPlaced (labels ++ more) labels l
placed_in labels more l is (inl of) =
    let here = in_session l labels is in
    let there = in_session l (labels ++ more) of in
    record {
      same = here.0 ∙ sym (is.stays more) ∙ sym there.0;
      within = subst (λ n. n < length (labels ++ more)) (sym there.0) of.within;
      found = ap (λ n. get_or (labels ++ more) n []) there.0 ∙ of.found;
      more = more;
      kept = refl;
    }
placed_in labels more l is (inr of) = absurd (omega (arith, is.stays more, of.last, is.within, length-append labels more))

placed_out : (labels more : Labels) (l : List ℕ) → IsOut l labels → IsIn l (labels ++ l ∷ more) ⊎ IsOut l (labels ++ l ∷ more) → IsPlaced (labels ++ l ∷ more) labels l
placed_out labels more l is (inl of) =
    let here = out_session l labels is in
    let there = in_session l (labels ++ l ∷ more) of in
    record {
      same = here.0 ∙ sym (is.seam more) ∙ sym there.0;
      within = subst (λ n. n < length (labels ++ l ∷ more)) (sym there.0) of.within;
      found = ap (λ n. get_or (labels ++ l ∷ more) n []) there.0 ∙ of.found;
      more = l ∷ more;
      kept = refl;
    }
placed_out labels more l is (inr of) = absurd (omega (arith, is.seam more, of.last, length-append labels (l ∷ more)))

pub placed : (all labels more : Labels) (l : List ℕ) → all ≡ with_label labels l ++ more → IsPlaced all labels l
placed all labels more l e = by (in_or_out l labels)
  where
    by : IsIn l labels ⊎ IsOut l labels → IsPlaced all labels l
    by (inl is) = subst (λ ls. IsPlaced ls labels l) (sym (e ∙ ap (λ ls. ls ++ more) (in_session l labels is).1)) (placed_in labels more l is (in_or_out l (labels ++ more)))
    by (inr is) =
        subst (λ ls. IsPlaced ls labels l) (sym (e ∙ ap (λ ls. ls ++ more) (out_session l labels is).1 ∙ append_assoc labels (l ∷ []) more))
        (placed_out labels more l is (in_or_out l (labels ++ l ∷ more)))

-- ---- labels are named once

pub still_distinct : (labels : Labels) (l : List ℕ) → IsDistinct label_eq labels → IsDistinct label_eq (with_label labels l)
still_distinct labels l d = by (in_or_out l labels)
  where
    by : IsIn l labels ⊎ IsOut l labels → IsDistinct label_eq (with_label labels l)
    by (inl is) = subst (IsDistinct label_eq) (sym (in_session l labels is).1) d
    by (inr is) = subst (IsDistinct label_eq) (sym (out_session l labels is).1) (IsDistinct-push nat_list_eq_equiv labels l d is.none)

-- and are those of which each of these is one
pub still_among : (labels : Labels) (l q : List ℕ) → list_any (label_eq q) (with_label labels l) ≡ true → (list_any (label_eq q) labels ≡ true) ⊎ (q ≡ l)
still_among labels l q h = by (in_or_out l labels)
  where
    at_end : (ls : Labels) → list_any (label_eq q) (ls ++ l ∷ []) ≡ true → (list_any (label_eq q) ls ≡ true) ⊎ (q ≡ l)
    at_end [] e = on_label q l (λ b. (b || false) ≡ true → (false ≡ true) ⊎ (q ≡ l)) (λ same _. inr same) (λ _ no2. inl no2) e
    at_end (x ∷ xs) e = on_test (label_eq q x) (λ b. (b || list_any (label_eq q) (xs ++ l ∷ [])) ≡ true → ((b || list_any (label_eq q) xs) ≡ true) ⊎ (q ≡ l)) (λ _ _. inl refl) (λ _ more. at_end xs more) e

    by : IsIn l labels ⊎ IsOut l labels → (list_any (label_eq q) labels ≡ true) ⊎ (q ≡ l)
    by (inl is) = inl (subst (λ ls. list_any (label_eq q) ls ≡ true) (in_session l labels is).1 h)
    by (inr is) = at_end labels (subst (λ ls. list_any (label_eq q) ls ≡ true) (out_session l labels is).1 h)

-- What a look-up finds in rising numbers beside what belongs to each.
use Rattle.std.proofs.Common.{◌≡◌, ℕ, zero, suc, ◌<◌, ◌≤◌, false, cond, nat_eq, ◌||◌, List, [], ◌∷◌, ◌++◌, length, get_or, set, Some, None, unwrap_or, is_some, refl, sym, ap, ◌∙◌, arith}
use Rattle.std.specs.Prelude.{slice_get}
use Rattle.std.specs.List.{insert, list_any, remove, zip}
use Rattle.std.specs.Map.{lookup}
use Rattle.std.proofs.lemmas.Bool.{eq-eqb, false≢true, ne_eqb}
use Rattle.std.proofs.lemmas.Map.Made.{keys_of-zip}
use Rattle.txn_cells.proofs.Puts.{none_from, on_number}
use Rattle.txn_cells.proofs.Reserving.{found_by_key}

-- no two numbers are equal, since they rise
abbrev pub Rises : List ℕ → Type 0
Rises ns = (j k : ℕ) → j < k → k < length ns → get_or ns j 0 < get_or ns k 0

rises_on : (n : ℕ) (ns : List ℕ) → Rises (n ∷ ns) → Rises ns
rises_on n ns rises j k less past = rises (suc j) (suc k) (omega (arith, less)) (omega (arith, past))

module _ {X : Type 0} where
  pub listed : (ns : List ℕ) (cs : List X) → length cs ≡ length ns → (u : ℕ) → is_some (lookup (nat_eq u) (zip ns cs)) ≡ list_any (nat_eq u) ns
  listed ns cs same u = found_by_key (nat_eq u) (zip ns cs) ∙ ap (list_any (nat_eq u)) (keys_of-zip ns cs same)

  -- what is beside a number
  pub found_at : (ns : List ℕ) (cs : List X) (t i : ℕ) (d : X) → Rises ns → length cs ≡ length ns → i < length ns → get_or ns i 0 ≡ t → lookup (nat_eq t) (zip ns cs) ≡ Some (get_or cs i d)
  found_at [] cs t i d rises same within at = absurd (omega (arith, within))
  found_at (n ∷ ns) [] t i d rises same within at = absurd (omega (arith, same))
  found_at (n ∷ ns) (c ∷ cs) t zero d rises same within at = ap (λ b. cond b (Some c) (lookup (nat_eq t) (zip ns cs))) (eq-eqb t n (sym at))
  found_at (n ∷ ns) (c ∷ cs) t (suc i) d rises same within at =
      ap (λ b. cond b (Some c) (lookup (nat_eq t) (zip ns cs))) (ne_eqb t n (λ e. let up = rises 0 (suc i) (omega arith) within in omega (arith, up, at, e)))
      ∙ found_at ns cs t i d (rises_on n ns rises) (omega (arith, same)) (omega (arith, within)) at

  -- one number has something else beside it
  pub found-set : (ns : List ℕ) (cs : List X) (t i : ℕ) (c : X) → Rises ns → length cs ≡ length ns → i < length ns → get_or ns i 0 ≡ t
      → (u : ℕ) → lookup (nat_eq u) (zip ns (set cs i c)) ≡ cond (nat_eq t u) (Some c) (lookup (nat_eq u) (zip ns cs))
  found-set [] cs t i c rises same within at u = absurd (omega (arith, within))
  found-set (n ∷ ns) [] t i c rises same within at u = absurd (omega (arith, same))
  found-set (n ∷ ns) (b ∷ cs) t zero c rises same within at u =
      on_number t u (λ a. cond (nat_eq u n) (Some c) (lookup (nat_eq u) (zip ns cs)) ≡ cond a (Some c) (cond (nat_eq u n) (Some b) (lookup (nat_eq u) (zip ns cs))))
      (λ e. ap (λ a. cond a (Some c) (lookup (nat_eq u) (zip ns cs))) (eq-eqb u n (sym e ∙ sym at)))
      (λ e. ap (λ a. cond a (Some c) (lookup (nat_eq u) (zip ns cs))) (apart e) ∙ sym (ap (λ a. cond a (Some b) (lookup (nat_eq u) (zip ns cs))) (apart e)))
    where
      apart : nat_eq t u ≡ false → nat_eq u n ≡ false
      apart e = ne_eqb u n (λ same_number. false≢true (sym e ∙ eq-eqb t u (sym at ∙ sym same_number)))
  found-set (n ∷ ns) (b ∷ cs) t (suc i) c rises same within at u =
      ap (cond (nat_eq u n) (Some b)) (found-set ns cs t i c (rises_on n ns rises) (omega (arith, same)) (omega (arith, within)) at u)
      ∙ on_number u n (λ a. cond a (Some b) (cond (nat_eq t u) (Some c) (lookup (nat_eq u) (zip ns cs))) ≡ cond (nat_eq t u) (Some c) (cond a (Some b) (lookup (nat_eq u) (zip ns cs))))
      (λ e. sym (ap (λ a. cond a (Some c) (Some b)) (ne_eqb t u (λ here. let up = rises 0 (suc i) (omega arith) within in omega (arith, up, at, e, here)))))
      (λ _. refl)

  -- one number is taken out, and what is beside it
  pub found-remove : (ns : List ℕ) (cs : List X) (t i : ℕ) → Rises ns → length cs ≡ length ns → i < length ns → get_or ns i 0 ≡ t
      → (u : ℕ) → lookup (nat_eq u) (zip (remove ns i) (remove cs i)) ≡ cond (nat_eq t u) None (lookup (nat_eq u) (zip ns cs))
  found-remove [] cs t i rises same within at u = absurd (omega (arith, within))
  found-remove (n ∷ ns) [] t i rises same within at u = absurd (omega (arith, same))
  found-remove (n ∷ ns) (b ∷ cs) t zero rises same within at u =
      on_number t u (λ a. lookup (nat_eq u) (zip ns cs) ≡ cond a None (cond (nat_eq u n) (Some b) (lookup (nat_eq u) (zip ns cs))))
      (λ e. none_from (lookup (nat_eq u) (zip ns cs)) (listed ns cs (omega (arith, same)) u ∙ later ns (λ k less. let up = rises 0 (suc k) (omega arith) (omega (arith, less)) in omega (arith, up, at, e))))
      (λ e. sym (ap (λ a. cond a (Some b) (lookup (nat_eq u) (zip ns cs))) (ne_eqb u n (λ same_number. false≢true (sym e ∙ eq-eqb t u (sym at ∙ sym same_number))))))
    where
      later : (xs : List ℕ) → ((k : ℕ) → k < length xs → u < get_or xs k 0) → list_any (nat_eq u) xs ≡ false
      later [] above = refl
      later (x ∷ xs) above =
          ap (λ a. a || list_any (nat_eq u) xs) (ne_eqb u x (λ e. let up = above 0 (omega arith) in omega (arith, up, e)))
          ∙ later xs (λ k less. above (suc k) (omega (arith, less)))
  found-remove (n ∷ ns) (b ∷ cs) t (suc i) rises same within at u =
      ap (cond (nat_eq u n) (Some b)) (found-remove ns cs t i (rises_on n ns rises) (omega (arith, same)) (omega (arith, within)) at u)
      ∙ on_number u n (λ a. cond a (Some b) (cond (nat_eq t u) None (lookup (nat_eq u) (zip ns cs))) ≡ cond (nat_eq t u) None (cond a (Some b) (lookup (nat_eq u) (zip ns cs))))
      (λ e. sym (ap (λ a. cond a None (Some b)) (ne_eqb t u (λ here. let up = rises 0 (suc i) (omega arith) within in omega (arith, up, at, e, here)))))
      (λ _. refl)

  -- one number is put in, and what is beside it
  pub zip-insert : (ns : List ℕ) (cs : List X) (i t : ℕ) (c : X) → length cs ≡ length ns → i ≤ length ns → zip (insert ns i t) (insert cs i c) ≡ insert (zip ns cs) i (t, c)
  zip-insert ns cs zero t c same within = refl
  zip-insert [] cs (suc i) t c same within = absurd (omega (arith, within))
  zip-insert (n ∷ ns) [] (suc i) t c same within = absurd (omega (arith, same))
  zip-insert (n ∷ ns) (b ∷ cs) (suc i) t c same within = ap (λ es. (n, b) ∷ es) (zip-insert ns cs i t c (omega (arith, same)) (omega (arith, within)))

pub zip-push : {K X : Type 0} (ks : List K) (xs : List X) (k : K) (x : X) → length xs ≡ length ks → zip (ks ++ k ∷ []) (xs ++ x ∷ []) ≡ zip ks xs ++ (k, x) ∷ []
zip-push [] [] k x same = refl
zip-push [] (y ∷ ys) k x same = absurd (omega (arith, same))
zip-push (j ∷ ks) [] k x same = absurd (omega (arith, same))
zip-push (j ∷ ks) (y ∷ ys) k x same = ap (λ es. (j, y) ∷ es) (zip-push ks ys k x (omega (arith, same)))

pub zip-get : {K X : Type 0} (ks : List K) (xs : List X) (i : ℕ) (k : K) (x : X) → slice_get ks i ≡ Some k → slice_get xs i ≡ Some x → slice_get (zip ks xs) i ≡ Some (k, x)
zip-get [] xs i k x at is = absurd (false≢true (ap is_some at))
zip-get (j ∷ ks) [] i k x at is = absurd (false≢true (ap is_some is))
zip-get (j ∷ ks) (y ∷ ys) zero k x at is = ap (λ a. Some (a, y)) (ap (λ o. unwrap_or o k) at) ∙ ap (λ b. Some (k, b)) (ap (λ o. unwrap_or o x) is)
zip-get (j ∷ ks) (y ∷ ys) (suc i) k x at is = zip-get ks ys i k x at is

-- what is put in is found where it was put
pub insert_at : {X : Type 0} (xs : List X) (i : ℕ) (x : X) → i ≤ length xs → slice_get (insert xs i x) i ≡ Some x
insert_at xs zero x within = refl
insert_at [] (suc i) x within = absurd (omega (arith, within))
insert_at (y ∷ xs) (suc i) x within = insert_at xs i x (omega (arith, within))

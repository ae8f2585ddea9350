-- Which line a verdict of no names: the first with a wrong reply, or that of the first row that differs.
use Rattle.std.proofs.Common.{◌≡◌, ℕ, ℤ, suc, ◌+◌, ◌≤◌, List, [], ◌∷◌, ◌++◌, length, min, true, false, Bool, cond, Option, Some, None, refl, sym, ap, ap₂, ◌∙◌, subst, arith}
use Rattle.std.specs.Prelude.{nat_le}
use Rattle.std.specs.List.{AllByRecursion}
use Rattle.std.specs.Ordering.{int_eq}
use Rattle.std.proofs.lemmas.Bool.{and_from, true≢false}
use Rattle.std.proofs.lemmas.Bool.Decides.{Decides-int_eq, nat_tests}
use Rattle.txn_names.specs.Path.{label_eq, path_eq, parent}
use Rattle.txn_names.proofs.Exports.{label_eq_self, on_test}
use Rattle.serial_spec.specs.declared.entry.Entry.{Entry}
use Rattle.serial_spec.specs.Flat.{same_reply}
use Rattle.serial_spec.specs.History.{History, Name, Effect, Begins, Accesses, Commits, Aborts, Nothing, effect}
use Rattle.serial_spec.specs.Items.{items}
use Rattle.serial_spec.specs.Rows.{Rows, value_in}
use Rattle.serial_spec.specs.Serial.{Map, Replies, reply_at}
use Rattle.serial_spec.proofs.Exports.{same_reply-Decides}
use Rattle.report_check.specs.Naming.{AccessesAreTold, IsAtRow, IsFirstDifferent, IsFirstWrong, IsTold, IsWrong, NamesTheReply, NamesTheRow}
use Rattle.report_check.specs.Passing.{Read}
use Rattle.report_check.specs.Serving.{PlacedAccess, accesses_of, least, map_behind, or_least, with_access, wrong_lines}
use Rattle.report_check.specs.Verdicts.{IsCompared, IsJudged, IsRun, compared, first_wrong, same_row, served}
use Rattle.report_check.specs.declared.verdict.Verdict.TheVariants.{No}
use Rattle.report_check.proofs.Served.{accesses_are_items}
use Rattle.report_check.proofs.Sound.{same_row_is}

-- ---- who tells of an access

all_both : (P : PlacedAccess → Type 0) (xs ys : List PlacedAccess) → AllByRecursion P xs → AllByRecursion P ys → AllByRecursion P (xs ++ ys)
all_both P [] ys a b = b
all_both P (x ∷ xs) ys a b = (a.0, all_both P xs ys a.1 b)

told_later : (n : ℕ) (e : Entry) (h : History) (xs : List PlacedAccess) → AllByRecursion (λ a. IsTold n h a) xs → AllByRecursion (λ a. IsTold n (e ∷ h) a) xs
told_later n e h [] all = tt
told_later n e h (x ∷ xs) all =
    let t = all.0 in
    (record { newer = e ∷ t.newer; entry = t.entry; older = t.older; whole = ap (λ (g : History). e ∷ g) t.whole; who = t.who; tells = t.tells; line = t.line }, told_later n e h xs all.1)

told_by : (n : ℕ) (e : Entry) (h : History) (t : Name) (x : Effect) → effect e ≡ x → ((u : Name) → AllByRecursion (λ a. IsTold n (e ∷ h) a) (accesses_of n h u))
    → AllByRecursion (λ a. IsTold n (e ∷ h) a) (with_access t x (n + suc (length h)) (accesses_of n h))
told_by n e h t (Begins u) is all = all t
told_by n e h t (Accesses u a r) is all = either (path_eq u t)
  where
    either : (b : Bool) → AllByRecursion (λ a. IsTold n (e ∷ h) a) (cond b (record { line = n + suc (length h); asked = a; reply = r } ∷ accesses_of n h t) (accesses_of n h t))
    either true = (record { newer = []; entry = e; older = h; whole = refl; who = u; tells = is; line = refl }, all t)
    either false = all t
told_by n e h t (Commits u) is all = either (path_eq (parent u) t)
  where
    either : (b : Bool) → AllByRecursion (λ a. IsTold n (e ∷ h) a) (cond b (accesses_of n h u ++ accesses_of n h t) (accesses_of n h t))
    either true = all_both (λ a. IsTold n (e ∷ h) a) (accesses_of n h u) (accesses_of n h t) (all u) (all t)
    either false = all t
told_by n e h t (Aborts u) is all = all t
told_by n e h t Nothing is all = all t

pub accesses_are_told : AccessesAreTold
accesses_are_told n [] t = tt
accesses_are_told n (e ∷ h) t = told_by n e h t (effect e) refl (λ u. told_later n e h (accesses_of n h u) (accesses_are_told n h u))

-- ---- the first wrong reply

some_line : (m n : ℕ) → Some m ≡ Some n → m ≡ n
some_line m n h = cc

or_least_le : (n : ℕ) (o : Option ℕ) → or_least n o ≤ n
or_least_le n None = omega arith
or_least_le n (Some m) = omega arith

-- one that is wrong is among those that are looked at
record IsSeen (m : Map) (all : List PlacedAccess) (n : ℕ) : Type 0 where
  line : ℕ
  is : least (wrong_lines m all) ≡ Some line
  below : line ≤ n

seen : (m : Map) (newer : List PlacedAccess) (a : PlacedAccess) (older : List PlacedAccess) → (a.reply ≡ reply_at (map_behind m older) a.asked → ⊥) → IsSeen m (newer ++ a ∷ older) a.line
seen m [] a older wrong = by (same_reply a.reply (reply_at (map_behind m older) a.asked)) refl
  where
    by : (b : Bool) → same_reply a.reply (reply_at (map_behind m older) a.asked) ≡ b → IsSeen m (a ∷ older) a.line
    by true e = absurd (wrong ((same_reply-Decides a.reply (reply_at (map_behind m older) a.asked)).0 e))
    by false e = record {
      line = or_least a.line (least (wrong_lines m older));
      is = ap (λ b. least (cond b (wrong_lines m older) (a.line ∷ wrong_lines m older))) e;
      below = or_least_le a.line (least (wrong_lines m older));
    }
seen m (b ∷ newer) a older wrong = by (same_reply b.reply (reply_at (map_behind m (newer ++ a ∷ older)) b.asked)) refl (seen m newer a older wrong)
  where
    ws : List ℕ
    ws = wrong_lines m (newer ++ a ∷ older)

    by : (t : Bool) → same_reply b.reply (reply_at (map_behind m (newer ++ a ∷ older)) b.asked) ≡ t → IsSeen m (newer ++ a ∷ older) a.line → IsSeen m (b ∷ (newer ++ a ∷ older)) a.line
    by true e s = record { line = s.line; is = ap (λ t. least (cond t (wrong_lines m (newer ++ a ∷ older)) (b.line ∷ wrong_lines m (newer ++ a ∷ older)))) e ∙ s.is; below = s.below }
    by false e s = record {
      line = min b.line s.line;
      is = ap (λ t. least (cond t (wrong_lines m (newer ++ a ∷ older)) (b.line ∷ wrong_lines m (newer ++ a ∷ older)))) e ∙ ap (λ o. Some (or_least b.line o)) s.is;
      below = omega (arith, s.below);
    }

record IsFound (m : Map) (all : List PlacedAccess) (n : ℕ) : Type 0 where
  access : PlacedAccess
  wrong : IsWrong m all access
  line : access.line ≡ n

found_later : (m : Map) (b : PlacedAccess) (all : List PlacedAccess) (n : ℕ) → IsFound m all n → IsFound m (b ∷ all) n
found_later m b all n f = record {
  access = f.access;
  wrong = record { newer = b ∷ f.wrong.newer; older = f.wrong.older; whole = ap (λ (xs : List PlacedAccess). b ∷ xs) f.wrong.whole; wrong = f.wrong.wrong };
  line = f.line;
}

found : (m : Map) (all : List PlacedAccess) (n : ℕ) → least (wrong_lines m all) ≡ Some n → IsFound m all n
found m [] n h = cc
found m (a ∷ rest) n h = by (λ is. found m rest n is) (same_reply a.reply (reply_at (map_behind m rest) a.asked)) refl h
  where
    here : same_reply a.reply (reply_at (map_behind m rest) a.asked) ≡ false → a.line ≡ n → IsFound m (a ∷ rest) n
    here e is = record {
      access = a;
      wrong = record { newer = []; older = rest; whole = refl; wrong = λ k. absurd (true≢false (sym ((same_reply-Decides a.reply (reply_at (map_behind m rest) a.asked)).1 k) ∙ e)) };
      line = is;
    }

    first : (least (wrong_lines m rest) ≡ Some n → IsFound m rest n) → same_reply a.reply (reply_at (map_behind m rest) a.asked) ≡ false → (o : Option ℕ) → least (wrong_lines m rest) ≡ o → or_least a.line o ≡ n → IsFound m (a ∷ rest) n
    first more e None l is = here e is
    first more e (Some k) l is = on_test (nat_le a.line k) (λ _. IsFound m (a ∷ rest) n) (λ t. here e (before a.line k t ∙ is)) (λ t. found_later m a rest n (more (l ∙ ap (λ z. Some z) (sym (behind a.line k t) ∙ is))))
      where
        before : (x y : ℕ) → nat_le x y ≡ true → x ≡ min x y
        before x y t = grind (arith, nat_tests)

        behind : (x y : ℕ) → nat_le x y ≡ false → min x y ≡ y
        behind x y t = grind (arith, nat_tests)

    by : (least (wrong_lines m rest) ≡ Some n → IsFound m rest n) → (t : Bool) → same_reply a.reply (reply_at (map_behind m rest) a.asked) ≡ t → least (cond t (wrong_lines m rest) (a.line ∷ wrong_lines m rest)) ≡ Some n → IsFound m (a ∷ rest) n
    by more true e is = found_later m a rest n (more is)
    by more false e is = first more e (least (wrong_lines m rest)) refl (some_line _ n is)

first_named : (m : Map) (all : List PlacedAccess) (n : ℕ) → least (wrong_lines m all) ≡ Some n → IsFirstWrong m all n
first_named m all n h =
    let f = found m all n h in
    record {
      access = f.access;
      wrong = f.wrong;
      line = f.line;
      first = λ a w.
          let s = subst (λ xs. IsSeen m xs a.line) (sym w.whole) (seen m w.newer a w.older w.wrong) in
          omega (arith, some_line n s.line (sym h ∙ s.is), s.below);
    }

same_no : (m n : ℕ) → No m ≡ No n → m ≡ n
same_no m n h = cc

reply_named : (r : Read) (n : ℕ) (o : Option ℕ) → first_wrong r ≡ o → IsRun r o (No n) → (Replies (value_in r.opening) (items r.history []) → ⊥) → IsFirstWrong (value_in r.opening) (served r) n
reply_named r n (Some k) e v wrong = first_named (value_in r.opening) (served r) n (e ∙ ap (λ z. Some z) (sym (same_no n k v)))
reply_named r n None e v wrong = absurd (wrong ((accesses_are_items (1 + length r.opening) r.history [] (value_in r.opening)).1.0 e))

pub names_the_reply : NamesTheReply
names_the_reply bs r n e v wrong = reply_named r n (first_wrong r) refl (subst (λ j. IsJudged j (No n)) e v) wrong

-- ---- the first row that differs

record IsParted (n m : ℕ) (rows due : Rows) : Type 0 where
  place : ℕ
  line : m ≡ n + place
  first : IsFirstDifferent place rows due

same_rows_test : (a b : List ℕ × ℤ) → a ≡ b → same_row a b ≡ true
same_rows_test a b e = subst (λ c. same_row a c ≡ true) e (and_from (label_eq a.0 a.0) (int_eq a.1 a.1) (label_eq_self a.0) ((Decides-int_eq a.1 a.1).1 refl))

same_some : (a b : List ℕ × ℤ) → Some a ≡ Some b → a ≡ b
same_some a b h = cc

parted : (n m : ℕ) (rows due : Rows) → No m ≡ compared n rows due → IsParted n m rows due
parted n m [] [] h = cc
parted n m [] (d ∷ due) h = record { place = 0; line = omega (arith, same_no m n h); first = record { before = refl; here = λ e. cc } }
parted n m (r ∷ rows) [] h = record { place = 0; line = omega (arith, same_no m n h); first = record { before = refl; here = λ e. cc } }
parted n m (r ∷ rows) (d ∷ due) h = by (λ is. parted (suc n) m rows due is) (same_row r d) refl h
  where
    by : (No m ≡ compared (suc n) rows due → IsParted (suc n) m rows due) → (t : Bool) → same_row r d ≡ t → No m ≡ cond t (compared (suc n) rows due) (No n) → IsParted n m (r ∷ rows) (d ∷ due)
    by more true e is =
        let p = more is in
        record { place = suc p.place; line = omega (arith, p.line); first = record { before = ap₂ (λ (x : List ℕ × ℤ) xs. x ∷ xs) (same_row_is r d e) p.first.before; here = p.first.here } }
    by more false e is = record { place = 0; line = omega (arith, same_no m n is); first = record { before = refl; here = λ k. absurd (true≢false (sym (same_rows_test r d (same_some r d k)) ∙ e)) } }

row_named : (r : Read) (n : ℕ) → IsCompared r (No n) → Replies (value_in r.opening) (items r.history []) → IsAtRow r n
row_named r n c right =
    let law = accesses_are_items (1 + length r.opening) r.history [] (value_in r.opening) in
    let p = parted (3 + length r.opening + length r.history) n r.table c.due c.verdict in
    record { due = c.due; rising = c.rising; runs = (right, sym law.0 ∙ sym c.left); place = p.place; line = p.line; first = p.first }

pub names_the_row : NamesTheRow
names_the_row bs r n e v right =
    let law = accesses_are_items (1 + length r.opening) r.history [] (value_in r.opening) in
    row_named r n (subst (λ o. IsRun r o (No n)) (law.1.1 right) (subst (λ j. IsJudged j (No n)) e v)) right

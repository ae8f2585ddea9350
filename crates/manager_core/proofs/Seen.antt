-- What a transaction sees, by the estate and by the history.
use Rattle.std.proofs.Common.{◌≡◌, ℕ, suc, ◌+◌, Bool, true, false, cond, ◌&&◌, ◌||◌, List, [], ◌∷◌, Option, Some, None, is_some, unwrap_or, refl, sym, ap, ◌∙◌, true≢false, arith}
use Rattle.std.specs.Prelude.{slice_get}
use Rattle.std.specs.List.{list_any, position, position_from}
use Rattle.std.specs.Map.{lookup}
use Rattle.std.proofs.lemmas.Bool.{false≢true}
use Rattle.std.proofs.lemmas.Iterator.Adapters.{position_from-zero}
use Rattle.txn_names.specs.Path.{Path, path_eq, is_front}
use Rattle.txn_names.proofs.Exports.{on_test, same_path, label_eq_self}
use Rattle.txn_tree.specs.declared.status.Status.{Status}
use Rattle.txn_tree.specs.declared.status.Status.TheVariants.{Absent}
use Rattle.txn_tree.specs.States.{States, names, is_absent}
use Rattle.txn_tree.specs.Asked.{is_absent_in, IsNumberOf}
use Rattle.txn_cells.proofs.Exports.{found_by_key}
use Rattle.version_stack.specs.Seen.{left_at as left_at_number, left_by, seen_by, seen_in}
use Rattle.inherit.specs.LocksAndVersions.{base_of}
use Rattle.serial_spec.specs.History.{Name, History, is_active}
use Rattle.serial_spec.specs.Items.{items}
use Rattle.serial_spec.specs.Values.{last_left, seen_of, seen}
use Rattle.serial_spec.specs.Rows.{Rows, value_in}
use Rattle.serial_spec.specs.Legal.{AreAllowed}
use Rattle.serial_spec.proofs.Exports.{seen_of-same}
use Rattle.txn_history.proofs.Exports.{ancestors_act, value_stored}
use Rattle.manager_core.specs.Kept.{AreTablesOf, content_of, left_at}
use Rattle.manager_core.specs.Tables.{Tabled}
use Rattle.manager_core.proofs.Locks.{name_at, present}

-- ---- a name is found under its number

record IsFound (p : Path → Bool) (xs : List Path) (a : ℕ) : Type 0 where
  pub place : ℕ
  pub name : Path
  pub at : slice_get xs place ≡ Some name
  pub passes : p name ≡ true
  pub first : position_from p a xs ≡ Some (a + place)

found_from : (p : Path → Bool) (a : ℕ) (xs : List Path) → list_any p xs ≡ true → IsFound p xs a
found_from p a [] any = absurd (false≢true any)
found_from p a (x ∷ xs) any =
    on_test (p x) (λ b. (b || list_any p xs) ≡ true → IsFound p (x ∷ xs) a)
    (λ e _. record { place = 0; name = x; at = refl; passes = e; first = ap (λ b. cond b (Some a) (position_from p (a + 1) xs)) e ∙ (let same : a ≡ a + 0 = omega arith in ap (λ n. Some n) same) })
    (λ e rest.
    let f = found_from p (a + 1) xs rest in
    record { place = suc f.place; name = f.name; at = f.at; passes = f.passes; first = ap (λ b. cond b (Some a) (position_from p (a + 1) xs)) e ∙ f.first ∙ (let same : a + 1 + f.place ≡ a + suc f.place = omega arith in ap (λ n. Some n) same) })
    any

-- whoever has begun stands among the names
among : (tree : States) (l : List ℕ) (ls : Name) → is_absent_in tree (l ∷ ls) ≡ false → list_any (path_eq (l ∷ ls)) (names tree) ≡ true
among tree l ls there = sym (found_by_key (path_eq (l ∷ ls)) tree) ∙ by (lookup (path_eq (l ∷ ls)) tree) there
  where
    by : (o : Option Status) → is_absent (unwrap_or o Absent) ≡ false → is_some o ≡ true
    by None e = absurd (true≢false e)
    by (Some s) e = refl

-- ---- what it left, and what it sees

module _ (rows : Rows) (h : History) (tables : Tabled) (allowed : AreAllowed rows h) (are : AreTablesOf rows h tables) (k : List ℕ) where
  left_as : (l : List ℕ) (ls : Name) → is_active h (l ∷ ls) ≡ true → left_by tables.tree tables.estate.versions k (l ∷ ls) ≡ last_left (items h (l ∷ ls)) k
  left_as l ls acts =
      let t : Name = l ∷ ls in
      let f = found_from (path_eq t) 0 (names tables.tree) (among tables.tree l ls (present h tables.tree are.in_tree t acts)) in
      let place : position (path_eq t) (names tables.tree) ≡ Some f.place = position_from-zero (path_eq t) (names tables.tree) ∙ f.first ∙ (let same : 0 + f.place ≡ f.place = omega arith in ap (λ m. Some m) same) in
      let name : slice_get (names tables.tree) f.place ≡ Some t = f.at ∙ ap (λ (u : Name). Some u) (sym (same_path t f.name f.passes)) in
      ap (left_at_number tables.estate.versions k) place
      ∙ are.estate.left f.place k
      ∙ ap (content_of None (left_at k) h) name
      ∙ ap (λ b. cond b (left_at k h t) None) acts

  -- the root sees the table
  base : base_of tables.estate k ≡ seen (value_in rows) h [] k
  base = are.current k ∙ value_stored rows h allowed k

  by_name : (t : Name) → is_active h t ≡ true → seen_of (left_by tables.tree tables.estate.versions k) t (base_of tables.estate k) ≡ seen (value_in rows) h t k
  by_name [] acts = base
  by_name (l ∷ ls) acts =
      seen_of-same (λ u. left_by tables.tree tables.estate.versions k (l ∷ u)) (λ u. last_left (items h (l ∷ u)) k) ls (base_of tables.estate k)
      (λ u front. left_as l u (ancestors_act rows h allowed (l ∷ ls) (l ∷ u) acts (ap (λ b. b && is_front u ls) (label_eq_self l) ∙ front)))
      ∙ ap (λ v. seen_of (λ u. last_left (items h (l ∷ u)) k) ls v) base

  pub seen_as : (t : Name) (n : ℕ) → is_active h t ≡ true → IsNumberOf tables.tree t n → seen_in tables.tree tables.estate.versions n k ≡ seen (value_in rows) h t k
  seen_as t n acts number = ap (seen_by tables.tree tables.estate.versions k) (name_at tables.tree t n number) ∙ by_name t acts

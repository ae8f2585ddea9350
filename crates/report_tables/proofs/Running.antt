-- The second pass, access by access.
use Rattle.std.proofs.Common.{◌≡◌, ℕ, ℤ, zero, suc, ◌+◌, ◌≤◌, Bool, true, false, cond, List, [], ◌∷◌, ◌++◌, length, reverse, Option, Some, None, is_some, unwrap_or, ◌⊎◌, inl, inr, refl, sym, ap, subst, ◌∙◌, true≢false, arith, length-append}
use Rattle.std.specs.Prelude.{slice_get}
use Rattle.std.specs.List.{AllByRecursion, IsDistinct}
use Rattle.std.specs.Map.{keys_of, values_of, lookup}
use Rattle.std.specs.Cmp.Lexicographic.{nat_list_eq_equiv}
use Rattle.std.proofs.lemmas.Bool.{false≢true}
use Rattle.std.proofs.lemmas.Map.Entries.{lookup_from_place}
use Rattle.indexmap.specs.IndexMap.{set_value_at}
use Rattle.txn_names.specs.Path.{label_eq}
use Rattle.txn_names.proofs.Exports.{same_label}
use Rattle.txn_history.proofs.Exports.{newest}
use Rattle.serial_spec.specs.Flat.{same_reply}
use Rattle.serial_spec.specs.Serial.{Map, after_asked, reply_at}
use Rattle.report_check.specs.Serving.{PlacedAccess, least, map_behind, or_least, wrong_lines}
use Rattle.report_tables.specs.Valued.{Values, joined, value_at}
use Rattle.report_tables.specs.Chained.{IsPlaced, Known, Leads}
use Rattle.report_tables.specs.Served.{AreServed, GoesOn, IsToldBy}
use Rattle.report_tables.specs.declared.chains.Access.{Access}
use Rattle.report_tables.proofs.Walking.{walk_ends}

-- ---- a value set by the number of its key

all_at : (P : List ℕ → Type 0) (ks : List (List ℕ)) (i : ℕ) (k : List ℕ) → AllByRecursion P ks → slice_get ks i ≡ Some k → P k
all_at P [] i k all at = absurd (false≢true (ap is_some at))
all_at P (q ∷ ks) zero k all at = subst P (ap (λ o. unwrap_or o k) at) all.0
all_at P (q ∷ ks) (suc i) k all at = all_at P ks i k all.1 at

entry_at : (es : Values) (i : ℕ) (k : List ℕ) (v : Option ℤ) → slice_get (keys_of es) i ≡ Some k → slice_get (values_of es) i ≡ Some v → slice_get es i ≡ Some (k, v)
entry_at [] i k v a b = absurd (false≢true (ap is_some a))
entry_at (e ∷ es) zero k v a b = let x : e.0 ≡ k = ap (λ o. unwrap_or o k) a in let y : e.1 ≡ v = ap (λ o. unwrap_or o v) b in λ i. Some (x i, y i)
entry_at (e ∷ es) (suc i) k v a b = entry_at es i k v a b

pub no_value : (es : Values) (i : ℕ) (k : List ℕ) → slice_get (keys_of es) i ≡ Some k → slice_get (values_of es) i ≡ None → ⊥
no_value [] i k a b = true≢false (sym (ap is_some a))
no_value (e ∷ es) zero k a b = true≢false (ap is_some b)
no_value (e ∷ es) (suc i) k a b = no_value es i k a b

pub value_here : (es : Values) (i : ℕ) (k : List ℕ) (v : Option ℤ) → IsDistinct label_eq (keys_of es) → slice_get (keys_of es) i ≡ Some k → slice_get (values_of es) i ≡ Some v → value_at es k ≡ v
value_here es i k v distinct a b = ap joined (lookup_from_place nat_list_eq_equiv es i k v distinct (entry_at es i k v a b))

pub value_put : (es : Values) (i : ℕ) (k q : List ℕ) (w : Option ℤ) → IsDistinct label_eq (keys_of es) → slice_get (keys_of es) i ≡ Some k
    → value_at (set_value_at es i w) q ≡ cond (label_eq k q) w (value_at es q)
unfolding IsDistinct
value_put [] i k q w distinct at = absurd (false≢true (ap is_some at))
value_put (e ∷ es) zero k q w distinct at =
    by (label_eq q e.0) ∙ ap (λ b. cond b w (joined (cond (label_eq q e.0) (Some e.1) (lookup (label_eq q) es)))) (nat_list_eq_equiv.symm q e.0 ∙ ap (λ x. label_eq x q) same)
  where
    same : e.0 ≡ k
    same = ap (λ o. unwrap_or o k) at

    by : (b : Bool) → joined (cond b (Some w) (lookup (label_eq q) es)) ≡ cond b w (joined (cond b (Some e.1) (lookup (label_eq q) es)))
    by true = refl
    by false = refl
value_put (e ∷ es) (suc i) k q w distinct at = by (label_eq q e.0) refl (value_put es i k q w distinct.1 at)
  where
    by : (b : Bool) → label_eq q e.0 ≡ b → value_at (set_value_at es i w) q ≡ cond (label_eq k q) w (value_at es q)
        → joined (cond b (Some e.1) (lookup (label_eq q) (set_value_at es i w))) ≡ cond (label_eq k q) w (joined (cond b (Some e.1) (lookup (label_eq q) es)))
    by true t more =
        let apart : label_eq k q ≡ false = ap (label_eq k) (same_label q e.0 t) ∙ nat_list_eq_equiv.symm k e.0 ∙ all_at (λ y. label_eq e.0 y ≡ false) (keys_of es) i k distinct.0 at in
        sym (ap (λ b. cond b w e.1) apart)
    by false t more = more

-- ---- one access more

module _ (old mid new : Values) (done : List PlacedAccess) (wrong told : Option ℕ) (a : Access) (p : PlacedAccess) (known : Known)
    (served : AreServed done old mid wrong) (placed : IsPlaced known a p) (one : IsToldBy a p.asked mid new wrong told) where
  abbrev m : Map
  m = value_at old

  abbrev behind : Map
  behind = map_behind m (reverse done)

  next_map : value_at new ≡ after_asked behind p.asked
  next_map = one.1.values ∙ ap (λ (n : Map). after_asked n p.asked) served.values

  fits_is : one.0 ≡ same_reply p.reply (reply_at behind p.asked)
  fits_is = one.1.reply ∙ ap (λ (n : Map). same_reply a.reply (reply_at n p.asked)) served.values ∙ ap (λ r. same_reply r (reply_at behind p.asked)) placed.reply

  least_by : (b : Bool) (ws : List ℕ) → cond b (least ws) (Some (or_least p.line (least ws))) ≡ least (cond b ws (p.line ∷ ws))
  least_by true ws = refl
  least_by false ws = refl

  next_wrong : told ≡ least (wrong_lines m (p ∷ reverse done))
  next_wrong =
      one.2 ∙ ap (λ o. cond one.0 o (Some (or_least a.line o))) served.wrong_line
      ∙ ap (λ l. cond one.0 (least (wrong_lines m (reverse done))) (Some (or_least l (least (wrong_lines m (reverse done)))))) placed.line
      ∙ ap (λ b. cond b (least (wrong_lines m (reverse done))) (Some (or_least p.line (least (wrong_lines m (reverse done)))))) fits_is
      ∙ least_by (same_reply p.reply (reply_at behind p.asked)) (wrong_lines m (reverse done))

  pub served_more : AreServed (done ++ p ∷ []) old new told
  served_more = record {
    keys = one.1.keys ∙ served.keys;
    values = next_map ∙ ap (map_behind m) (sym (newest done p));
    wrong_line = next_wrong ∙ ap (λ xs. least (wrong_lines m xs)) (sym (newest done p));
  }

-- ---- the walk

-- after so many turns so many are done, unless none is left
pub record IsUnderWay (acs : List Access) (known : Known) (last : Option ℕ) (ps : List PlacedAccess) (old : Values) (turn : ℕ) (at : Option ℕ) (now : Values) (wrong : Option ℕ) : Type 0 where
  pub done : List PlacedAccess
  pub rest : List PlacedAccess
  pub before : Option ℕ
  pub all : ps ≡ done ++ rest
  pub leads : Leads acs known at before last rest
  pub served : AreServed done old now wrong
  pub paced : (length done ≡ turn) ⊎ (rest ≡ [])

none_served : (old : Values) → AreServed [] old old None
none_served old = record { keys = refl; values = refl; wrong_line = refl }

pub under_way_first : (acs : List Access) (known : Known) (first last : Option ℕ) (ps : List PlacedAccess) (old : Values) → Leads acs known first None last ps
    → IsUnderWay acs known last ps old 0 first old None
under_way_first acs known first last ps old leads = record { done = []; rest = ps; before = None; all = refl; leads = leads; served = none_served old; paced = inl refl }

module _ (acs : List Access) (known : Known) (last : Option ℕ) (ps : List PlacedAccess) (old : Values) (turn : ℕ) (at : Option ℕ) (now new : Values) (wrong : Option ℕ) (r : Option ℕ × Option ℕ) where
  pub under_way_next : (u : IsUnderWay acs known last ps old turn at now wrong) → GoesOn acs known last u.rest now new wrong r → IsUnderWay acs known last ps old (turn + 1) r.0 new r.1
  under_way_next u goes = by u.rest u.all u.leads u.paced goes
    where
      by : (rest : List PlacedAccess) → ps ≡ u.done ++ rest → Leads acs known at u.before last rest → (length u.done ≡ turn) ⊎ (rest ≡ []) → GoesOn acs known last rest now new wrong r
          → IsUnderWay acs known last ps old (turn + 1) r.0 new r.1
      by [] all leads paced goes = record {
        done = u.done;
        rest = [];
        before = u.before;
        all = all;
        leads = (ap (λ (x : Option ℕ × Option ℕ). x.0) goes.0, leads.1);
        served = subst (λ (x : Option ℕ × Option ℕ). AreServed u.done old new x.1) (sym goes.0) (subst (λ (v : Values). AreServed u.done old v wrong) (sym goes.1) u.served);
        paced = inr refl;
      }
      by (p ∷ rest) all leads (inl pace) goes = record {
        done = u.done ++ p ∷ [];
        rest = rest;
        before = Some goes.0;
        all = all ∙ sym (append_more u.done);
        leads = goes.3;
        served = served_more old now new u.done wrong r.1 goes.1 p known u.served goes.2 goes.4;
        paced = inl (length-append u.done (p ∷ []) ∙ ap (λ n. n + 1) pace);
      }
        where
          append_more : (xs : List PlacedAccess) → (xs ++ p ∷ []) ++ rest ≡ xs ++ p ∷ rest
          append_more [] = refl
          append_more (x ∷ xs) = ap (λ ys. x ∷ ys) (append_more xs)
      by (p ∷ rest) all leads (inr none) goes = cc

-- when the turns are over none is left
pub under_way_last : (acs : List Access) (known : Known) (first last : Option ℕ) (ps : List PlacedAccess) (old : Values) (turn : ℕ) (at : Option ℕ) (now : Values) (wrong : Option ℕ)
    → Leads acs known first None last ps → length acs ≤ turn → IsUnderWay acs known last ps old turn at now wrong → AreServed ps old now wrong
under_way_last acs known first last ps old turn at now wrong leads over u = by u.rest u.all u.paced
  where
    append_none : (xs : List PlacedAccess) → xs ++ [] ≡ xs
    append_none [] = refl
    append_none (x ∷ xs) = ap (λ ys. x ∷ ys) (append_none xs)

    by : (rest : List PlacedAccess) → ps ≡ u.done ++ rest → (length u.done ≡ turn) ⊎ (rest ≡ []) → AreServed ps old now wrong
    by [] all paced = subst (λ (xs : List PlacedAccess). AreServed xs old now wrong) (sym (all ∙ append_none u.done)) u.served
    by (p ∷ rest) all (inl pace) =
        let few = walk_ends acs known first None last ps leads in
        let many = ap (λ (xs : List PlacedAccess). length xs) all in
        absurd (omega (arith, few, many, length-append u.done (p ∷ rest), pace, over))
    by (p ∷ rest) all (inr none) = cc

-- What each effect does to the transactions that are kept.
use Rattle.std.proofs.Common.{◌≡◌, ℕ, zero, suc, ◌+◌, ◌<◌, Bool, true, false, not, cond, ◌&&◌, ◌||◌, List, [], ◌∷◌, ◌++◌, length, Option, Some, None, is_some, option_map, ◌⊎◌, inl, inr, refl, sym, ap, subst, ◌∙◌, true≢false, arith}
use Rattle.std.specs.Prelude.{slice_get, nat_lt, nat_le, is_none}
use Rattle.std.proofs.lemmas.Bool.{false≢true, and_parts, and_from, false_from_ne_true}
use Rattle.std.proofs.lemmas.Bool.Decides.{nat_tests}
use Rattle.txn_names.specs.Path.{is_front, parent, path_eq}
use Rattle.txn_names.specs.Text.{IsName}
use Rattle.txn_names.proofs.Exports.{is_front-parent, is_front-trans, is_front_self}
use Rattle.txn_tree.specs.States.{IsTree, States, names, status_in, is_absent as is_absent_state, is_live as is_live_state, is_committed as is_committed_state, is_aborted as is_aborted_state}
use Rattle.txn_tree.specs.Asked.{is_absent_in, is_active_in, is_live_in, is_live_child_in, live_children_of, has_aborted_in, top_aborted_in}
use Rattle.txn_tree.specs.Causes.{cause_at_begin}
use Rattle.txn_tree.specs.declared.status.Status.{Status as State}
use Rattle.txn_tree.specs.declared.status.Status.TheVariants as state
use Rattle.txn_tree.specs.Linked.{update_at}
use Rattle.txn_tree.proofs.Exports.{keys-push, any_counted, active_parts, front_last}
use Rattle.serial_spec.specs.declared.limits.TheConstants.{MOST_TRANSACTIONS}
use Rattle.serial_spec.specs.declared.entry.Entry.{Entry}
use Rattle.serial_spec.specs.declared.target.Asked.{Asked}
use Rattle.serial_spec.specs.declared.entry.Refusal.TheVariants.{Used, NoParent, Orphan, Full}
use Rattle.serial_spec.specs.Allowed.{has_live_child}
use Rattle.serial_spec.specs.Causes.{when}
use Rattle.serial_spec.specs.History.{Name, History, Begins, Accesses, Commits, Aborts, Nothing, Absent, Live, Committed, Aborted, begun, effect, has_aborted, has_begun, has_committed, is_absent, is_active, is_live, is_live_status, or_else, status}
use Rattle.report_check.specs.Passing.{may_do}
use Rattle.report_check.specs.Serving.{accesses_of, with_access}
use Rattle.report_check.proofs.Exports.{IsGrown, IsNamed, grown_more}
use Rattle.report_tables.specs.Told.{AreChainsOf, AreTransactionsOf, IsTreeOf, places}
use Rattle.report_tables.specs.declared.transactions.Transactions.{Transactions}
use Rattle.report_tables.specs.Chained.{Asks, Known, chain_in, joined, led, no_chain, one_access}
use Rattle.report_tables.specs.declared.chains.Access.{Access}
use Rattle.report_tables.specs.declared.chains.Chain.{Chain}
use Rattle.report_tables.proofs.Leading.{AsksStill}
use Rattle.report_tables.proofs.Appending.{chains_accessed, chains_begun, chains_committed, chains_kept, chains_roomy}
use Rattle.report_tables.proofs.Trees.{absent_in, active_in, acts_as, counted, live_in, same_children, tree_aborts, tree_accessed, tree_begins, tree_commits, tree_idle}

-- ---- a begin

-- no cause of refusal holds exactly if the begin may come
begin_by : (a : Bool) (p : State) (o : Option Name) (f : Bool) → (is_aborted_state p ≡ true → is_some o ≡ true)
    → is_none (or_else (when (not a) Used) (or_else (when (is_absent_state p) NoParent) (or_else (option_map (λ q. Orphan q) o) (or_else (when (is_committed_state p) NoParent) (when f Full)))))
    ≡ ((a && (is_live_state p && not (is_some o))) && not f)
begin_by false p o f g = refl
begin_by true state.Absent o f g = refl
begin_by true state.Live None true g = refl
begin_by true state.Live None false g = refl
begin_by true state.Live (Some q) f g = refl
begin_by true state.Committed None f g = refl
begin_by true state.Committed (Some q) f g = refl
begin_by true state.Aborted None f g = absurd (false≢true (g refl))
begin_by true state.Aborted (Some q) f g = refl

not_full : (m n : ℕ) → not (nat_le m n) ≡ nat_lt n m
not_full m n = grind (arith, nat_tests)

aborted_top : (tree : States) (p : Name) → is_aborted_state (status_in tree p) ≡ true → is_some (top_aborted_in tree p) ≡ true
aborted_top tree [] e = absurd (false≢true e)
aborted_top tree (l ∷ ls) e = front_last (has_aborted_in tree) l ls ∙ by (is_some (top_aborted_in tree (parent (l ∷ ls)))) (has_aborted_in tree (l ∷ ls)) e
  where
    by : (a b : Bool) → b ≡ true → (a || b) ≡ true
    by true b e = refl
    by false b e = e

status_live : (b a c : Bool) → b ≡ true → a ≡ false → c ≡ false → is_live_status (cond b (cond a Aborted (cond c Committed Live)) Absent) ≡ true
status_live true false false e f g = refl
status_live true false true e f g = absurd (true≢false g)
status_live true true c e f g = absurd (true≢false f)
status_live false a c e f g = absurd (false≢true e)

module _ (h : History) (tree : States) (is : IsTreeOf h tree) where
  pub begin_is : (t : Name) → is_none (cause_at_begin tree t) ≡ may_do h (Begins t)
  begin_is t =
      let full : not (nat_le MOST_TRANSACTIONS (length tree)) ≡ nat_lt (length (begun h)) MOST_TRANSACTIONS =
      not_full MOST_TRANSACTIONS (length tree) ∙ ap (λ n. nat_lt n MOST_TRANSACTIONS) (counted h tree is) in
      begin_by (is_absent_in tree t) (status_in tree (parent t)) (top_aborted_in tree (parent t)) (nat_le MOST_TRANSACTIONS (length tree)) (aborted_top tree (parent t))
      ∙ (λ i. (absent_in h tree is t i && active_in h tree is (parent t) i) && full i)

  pub children_are : (t : Name) → has_live_child h t ≡ nat_lt 0 (live_children_of tree t)
  children_are t = sym (same_children h tree is t) ∙ any_counted (is_live_child_in tree t) (names tree)

  -- who is active has an active parent, which is live
  pub parent_lives : (t : Name) → IsGrown h → 0 < length t → is_active_in tree t ≡ true → is_live_in tree (parent t) ≡ true
  parent_lives [] grown some active = absurd (omega (arith, some))
  parent_lives (l ∷ ls) grown some active =
      let a = acts_as h (l ∷ ls) some (sym (active_in h tree is (l ∷ ls)) ∙ active) in
      let p = parent (l ∷ ls) in
      let live : is_live h (l ∷ ls) ≡ true = sym (live_in h tree is (l ∷ ls)) ∙ (active_parts tree (l ∷ ls) active).0 in
      let open_parent : has_committed h p ≡ false = false_from_ne_true _ (λ c. true≢false (sym live ∙ grown.closed l ls a.has_begun c)) in
      live_in h tree is p ∙ by p (grown.down l ls a.has_begun) open_parent (λ m ms f. a.unaborted m ms (is_front-trans (m ∷ ms) p (l ∷ ls) f (is_front-parent (l ∷ ls))))
    where
      by : (p : Name) → (p ≡ []) ⊎ (has_begun h p ≡ true) → has_committed h p ≡ false → ((m : List ℕ) (ms : Name) → is_front (m ∷ ms) p ≡ true → has_aborted h (m ∷ ms) ≡ false) → is_live h p ≡ true
      by [] b c f = refl
      by (m ∷ ms) (inl none) c f = cc
      by (m ∷ ms) (inr begun) c f = status_live (has_begun h (m ∷ ms)) (has_aborted h (m ∷ ms)) (has_committed h (m ∷ ms)) begun (f m ms (is_front_self (m ∷ ms))) c

-- ---- whoever has a chain

also_at : {X Y : Type 0} (xs : List X) (ys : List Y) (p : ℕ) (y : Y) → length xs ≡ length ys → slice_get ys p ≡ Some y → (x : X) × (slice_get xs p ≡ Some x)
also_at xs [] p y level at = absurd (false≢true (ap is_some at))
also_at [] (z ∷ ys) p y level at = absurd (omega (arith, level))
also_at (x ∷ xs) (z ∷ ys) zero y level at = (x, refl)
also_at (x ∷ xs) (z ∷ ys) (suc p) y level at = also_at xs ys p y (omega (arith, level)) at

-- ---- one entry more

module _ (base : ℕ) (known : Known) (h : History) (x y : Transactions) (e : Entry) (are : AreTransactionsOf base known h x) where
  in_chains_by : (acs : List Access) (cs : List Chain) → y.accesses.items ≡ acs → y.chains.items ≡ cs → AreChainsOf base known (e ∷ h) y.tree acs cs
      → AreChainsOf base known (e ∷ h) y.tree y.accesses.items y.chains.items
  in_chains_by acs cs same_acs same_cs chains =
      subst (λ (z : List Access). AreChainsOf base known (e ∷ h) y.tree z y.chains.items) (sym same_acs)
      (subst (λ (z : List Chain). AreChainsOf base known (e ∷ h) y.tree acs z) (sym same_cs) chains)

  pub done_begin : (t : Name) → IsName t → IsTree x.tree → cause_at_begin x.tree t ≡ None → effect e ≡ Begins t → y.tree ≡ x.tree ++ (t, state.Live) ∷ []
      → ((u : Name) → status_in y.tree u ≡ cond (path_eq t u) state.Live (status_in x.tree u))
      → y.accesses.items ≡ x.accesses.items → y.chains.items ≡ x.chains.items ++ no_chain ∷ [] → AreTransactionsOf base known (e ∷ h) y
  done_begin t name is free does last sets same_acs more_chains =
      let may : may_do h (Begins t) ≡ true = sym (begin_is h x.tree are.in_tree t) ∙ ap is_none free in
      let more : names y.tree ≡ names x.tree ++ t ∷ [] = ap names last ∙ keys-push x.tree t state.Live in
      let parts = and_parts (is_absent (status h t)) (is_active h (parent t)) (and_parts (is_absent (status h t) && is_active h (parent t)) _ may).0 in
      record {
        in_tree = tree_begins h e x.tree y.tree are.in_tree t does may name.some more sets;
        grown = grown_more h e are.grown (ap (may_do h) does ∙ may) (subst IsNamed (sym does) name.some);
        in_chains = in_chains_by x.accesses.items (x.chains.items ++ no_chain ∷ []) same_acs more_chains
            (chains_begun base known h e x.tree y.tree x.accesses.items x.chains.items t are.in_chains is name (absent_in h x.tree are.in_tree t ∙ parts.0) does more sets);
      }

  pub done_idle : effect e ≡ Nothing → y.tree ≡ x.tree → y.accesses.items ≡ x.accesses.items → y.chains.items ≡ x.chains.items → AreTransactionsOf base known (e ∷ h) y
  done_idle does same_tree same_acs same_cs = record {
    in_tree = subst (IsTreeOf (e ∷ h)) (sym same_tree) (tree_idle h e x.tree are.in_tree does);
    grown = grown_more h e are.grown (ap (may_do h) does) (subst IsNamed (sym does) tt);
    in_chains = in_chains_by x.accesses.items x.chains.items same_acs same_cs
        (chains_kept base known h e x.tree y.tree x.accesses.items x.chains.items are.in_chains (ap names same_tree)
        (λ t live. ap (λ s. is_live_in s t) (sym same_tree) ∙ live) (λ t gone. ap (λ s. is_absent_in s t) (sym same_tree) ∙ gone)
        (λ t. ap (λ z. with_access t z (base + suc (length h)) (accesses_of base h)) does));
  }

  pub done_abort : (t : Name) → IsName t → is_active_in x.tree t ≡ true → effect e ≡ Aborts t → names y.tree ≡ names x.tree
      → ((u : Name) → status_in y.tree u ≡ cond (path_eq t u) state.Aborted (status_in x.tree u))
      → y.accesses.items ≡ x.accesses.items → y.chains.items ≡ x.chains.items → AreTransactionsOf base known (e ∷ h) y
  done_abort t name active does same_names sets same_acs same_cs =
      let may : may_do h (Aborts t) ≡ true = sym (active_in h x.tree are.in_tree t) ∙ active in
      record {
        in_tree = tree_aborts h e x.tree y.tree are.in_tree t does may name.some same_names sets;
        grown = grown_more h e are.grown (ap (may_do h) does ∙ may) (subst IsNamed (sym does) tt);
        in_chains = in_chains_by x.accesses.items x.chains.items same_acs same_cs
            (chains_kept base known h e x.tree y.tree x.accesses.items x.chains.items are.in_chains same_names
            (λ u live. lived (path_eq t u) (status_in x.tree u) (sym (ap is_live_state (sets u)) ∙ live))
            (λ u gone. lacked (path_eq t u) (status_in x.tree u) (sym (ap is_absent_state (sets u)) ∙ gone))
            (λ u. ap (λ z. with_access u z (base + suc (length h)) (accesses_of base h)) does));
      }
    where
      lived : (b : Bool) (s : State) → is_live_state (cond b state.Aborted s) ≡ true → is_live_state s ≡ true
      lived true s g = absurd (false≢true g)
      lived false s g = g

      lacked : (b : Bool) (s : State) → is_absent_state (cond b state.Aborted s) ≡ true → is_absent_state s ≡ true
      lacked true s g = absurd (false≢true g)
      lacked false s g = g

  pub done_access : (t : Name) (q : Asked) (p n : ℕ) (a : Access) → IsTree x.tree → slice_get (places x.tree) p ≡ Some t → is_active_in x.tree t ≡ true
      → effect e ≡ Accesses t q a.reply → a.line ≡ base + suc (length h) → Asks known a.asked q → a.next ≡ None → n ≡ length x.accesses.items → y.tree ≡ x.tree
      → y.accesses.items ≡ led (x.accesses.items ++ a ∷ []) (chain_in (slice_get x.chains.items p)).last (Some n)
      → y.chains.items ≡ update_at x.chains.items p (λ q. joined q (one_access n)) → AreTransactionsOf base known (e ∷ h) y
  done_access t q p n a is at active does line asks ends last same_tree new_acs new_cs =
      let may : may_do h (Accesses t q a.reply) ≡ true = sym (active_in h x.tree are.in_tree t) ∙ active in
      let c0 = also_at x.chains.items (places x.tree) p t are.in_chains.level at in
      let live = (active_parts x.tree t active).0 in
      record {
        in_tree = subst (IsTreeOf (e ∷ h)) (sym same_tree) (tree_accessed h e x.tree are.in_tree t q a.reply does may);
        grown = grown_more h e are.grown (ap (may_do h) does ∙ may) (subst IsNamed (sym does) tt);
        in_chains = in_chains_by (led (x.accesses.items ++ a ∷ []) c0.0.last (Some n)) (update_at x.chains.items p (λ q. joined q (one_access n)))
            (new_acs ∙ ap (λ o. led (x.accesses.items ++ a ∷ []) (chain_in o).last (Some n)) c0.1) new_cs
            (subst (λ s. AreChainsOf base known (e ∷ h) s (led (x.accesses.items ++ a ∷ []) c0.0.last (Some n)) (update_at x.chains.items p (λ q. joined q (one_access n)))) (sym same_tree)
            (chains_accessed base known h e x.tree is x.accesses.items x.chains.items p t q a.reply a n are.in_chains at live does line asks refl ends last c0.0 c0.1));
      }

  pub done_commit : (t : Name) (k0 p : ℕ) → IsName t → IsTree x.tree → slice_get (places x.tree) k0 ≡ Some t → slice_get (places x.tree) p ≡ Some (parent t) → is_active_in x.tree t ≡ true
      → live_children_of x.tree t ≡ 0 → effect e ≡ Commits t → names y.tree ≡ names x.tree
      → ((u : Name) → status_in y.tree u ≡ cond (path_eq t u) state.Committed (status_in x.tree u))
      → y.accesses.items ≡ led x.accesses.items (chain_in (slice_get x.chains.items p)).last (chain_in (slice_get x.chains.items k0)).first
      → y.chains.items ≡ update_at x.chains.items p (λ q. joined q (chain_in (slice_get x.chains.items k0))) → AreTransactionsOf base known (e ∷ h) y
  done_commit t k0 p name is at0 at active none does same_names sets new_acs new_cs =
      let may : may_do h (Commits t) ≡ true = and_from _ _ (sym (active_in h x.tree are.in_tree t) ∙ active) (ap not (children_are h x.tree are.in_tree t ∙ ap (λ n. nat_lt 0 n) none)) in
      let c0 = also_at x.chains.items (places x.tree) p (parent t) are.in_chains.level at in
      let d = also_at x.chains.items (places x.tree) k0 t are.in_chains.level at0 in
      let live = (active_parts x.tree t active).0 in
      record {
        in_tree = tree_commits h e x.tree y.tree are.in_tree t does may name.some same_names sets;
        grown = grown_more h e are.grown (ap (may_do h) does ∙ may) (subst IsNamed (sym does) name.some);
        in_chains = in_chains_by (led x.accesses.items c0.0.last d.0.first) (update_at x.chains.items p (λ q. joined q d.0))
            (new_acs ∙ ap (λ o. led x.accesses.items (chain_in o).last (chain_in (slice_get x.chains.items k0)).first) c0.1 ∙ ap (λ o. led x.accesses.items c0.0.last (chain_in o).first) d.1)
            (new_cs ∙ ap (λ o. update_at x.chains.items p (λ q. joined q (chain_in o))) d.1)
            (chains_committed base known h e x.tree y.tree is x.accesses.items x.chains.items k0 p t are.in_chains at0 at name.some live
            (parent_lives h x.tree are.in_tree t are.grown name.some active) does same_names sets c0.0 d.0 c0.1 d.1);
      }

pub roomy : (base : ℕ) (known more : Known) (h : History) (x : Transactions) → AsksStill known more → AreTransactionsOf base known h x → AreTransactionsOf base more h x
roomy base known more h x still are =
    record { in_tree = are.in_tree; grown = are.grown; in_chains = chains_roomy base known more h x.tree x.accesses.items x.chains.items still are.in_chains }

-- What accesses of keys by numbers leave are rows: keys of the grammar, with numbers. A sum leaves nothing.
use Rattle.std.proofs.Common.{◌≡◌, ℕ, ℤ, List, [], ◌∷◌, true, cond, Option, Some, None, sym, ap, ◌∙◌, subst}
use Rattle.std.specs.List.{AllByRecursion}
use Rattle.txn_names.specs.Path.{parent, path_eq}
use Rattle.txn_names.specs.Text.{IsKey}
use Rattle.txn_names.proofs.Exports.{label_eq_self, on_label, on_test}
use Rattle.serial_spec.specs.declared.operation.Op.{Op}
use Rattle.serial_spec.specs.declared.operation.Reply.TheVariants.{Ok}
use Rattle.serial_spec.specs.declared.target.Asked.{Asked}
use Rattle.serial_spec.specs.declared.target.Asked.TheVariants.{At, Over}
use Rattle.serial_spec.specs.declared.entry.Answer.{Answer}
use Rattle.serial_spec.specs.declared.entry.Answer.TheVariants.{Done}
use Rattle.serial_spec.specs.declared.event.Event.{Event}
use Rattle.serial_spec.specs.declared.event.Event.TheVariants.{Begin, Access, Sum, Commit, Abort}
use Rattle.serial_spec.specs.Operations.{is_i64, value_after}
use Rattle.serial_spec.specs.History.{History, Name, Effect, Begins, Accesses, Commits, Aborts, Nothing, effect, effect_of}
use Rattle.serial_spec.specs.Items.{Items, None as NoItems, Access as Accessed, Block, after, chain, chain_of, items, with_item}
use Rattle.serial_spec.specs.Rows.{IsRising, Rows, value_in}
use Rattle.serial_spec.specs.Serial.{Map, map_after, put}
use Rattle.serial_spec.proofs.Exports.{none_above}
use Rattle.line_language.specs.Events.{IsEvent}
use Rattle.line_language.specs.Verbs.{IsOp}
use Rattle.line_language.proofs.Exports.{left_is}
use Rattle.report_laws.specs.Whole.{IsRow}

-- each key with a value is a row
abbrev pub HasRows : Map → Type 0
HasRows m = (k : List ℕ) (v : ℤ) → m k ≡ Some v → IsRow (k, v)

-- ---- one access

put_rows : (m : Map) (k : List ℕ) (o : Op) → IsKey k → IsOp o → HasRows m → HasRows (put m k (value_after (m k) o))
put_rows m k o key op rows q v = on_label k q (λ b. cond b (value_after (m k) o) (m q) ≡ Some v → IsRow (q, v))
    (λ same e. record { key = subst IsKey same key; value = left_is (m k) o v op (λ w is. (rows k w is).value) e })
    (λ _ e. rows q v e)

-- ---- items

-- what is asked at a key is of the grammar
abbrev pub IsOpAt : Asked → Type 0
IsOpAt (At k o) = IsKey k × IsOp o
IsOpAt (Over g) = Unit {0}

abbrev pub AreOps : Items → Type 0
AreOps NoItems = Unit {0}
AreOps (Accessed a r xs) = IsOpAt a × AreOps xs
AreOps (Block b xs) = AreOps b × AreOps xs

pub after_rows : (m : Map) (xs : Items) → AreOps xs → HasRows m → HasRows (map_after m xs)
after_rows m NoItems ops rows = rows
after_rows m (Accessed (At k o) r xs) ops rows = put_rows (map_after m xs) k o ops.0.0 ops.0.1 (after_rows m xs ops.1 rows)
after_rows m (Accessed (Over g) r xs) ops rows = after_rows m xs ops.1 rows
after_rows m (Block b xs) ops rows = after_rows (map_after m xs) b ops.0 (after_rows m xs ops.1 rows)

ops_both : (xs ys : Items) → AreOps xs → AreOps ys → AreOps (after xs ys)
ops_both NoItems ys a b = b
ops_both (Accessed q r xs) ys a b = (a.0, ops_both xs ys a.1 b)
ops_both (Block c xs) ys a b = (a.0, ops_both xs ys a.1 b)

ops_chain : (t : Name) (own : Name → Items) → ((u : Name) → AreOps (own u)) → AreOps (chain_of own t)
ops_chain [] own all = all []
ops_chain (l ∷ ls) own all = ops_both (chain_of (λ u. own (l ∷ u)) ls) (own []) (ops_chain ls (λ u. own (l ∷ u)) (λ u. all (l ∷ u))) (all [])

abbrev IsDoing : Effect → Type 0
IsDoing (Accesses t a r) = IsOpAt a
IsDoing x = Unit {0}

doing : (e : Event) (a : Answer) → IsEvent e → IsDoing (effect_of e a)
doing (Access t k o) (Done r) h = (h.1, h.2)
doing (Sum t g) (Done r) h = tt
doing (Begin t) (Done Ok) h = tt
doing (Commit t) (Done Ok) h = tt
doing (Abort t) (Done Ok) h = tt
doing e a h = tt

ops_step : (x : Effect) (own : Name → Items) (t : Name) → IsDoing x → ((u : Name) → AreOps (own u)) → AreOps (with_item t x own)
ops_step (Accesses u a r) own t is all = on_test (path_eq u t) (λ b. AreOps (cond b (Accessed a r (own t)) (own t))) (λ _. (is, all t)) (λ _. all t)
ops_step (Commits u) own t is all = on_test (path_eq (parent u) t) (λ b. AreOps (cond b (Block (own u) (own t)) (own t))) (λ _. (all u, all t)) (λ _. all t)
ops_step (Begins u) own t is all = all t
ops_step (Aborts u) own t is all = all t
ops_step Nothing own t is all = all t

abbrev pub AreEvents : History → Type 0
AreEvents h = AllByRecursion (λ e. IsEvent e.event) h

pub items_ops : (h : History) → AreEvents h → (t : Name) → AreOps (items h t)
items_ops [] events t = tt
items_ops (e ∷ h) events t = ops_step (effect e) (items h) t (doing e.event e.answer events.0) (items_ops h events.1)

pub chain_ops : (h : History) → AreEvents h → (t : Name) → AreOps (chain h t)
chain_ops h events t = ops_chain t (items h) (items_ops h events)

-- ---- tables

pub rows_have : (rows : Rows) → AllByRecursion IsRow rows → HasRows (value_in rows)
rows_have [] all k v = λ e. cc
rows_have (r ∷ rs) all k v = on_label r.0 k (λ b. cond b (Some r.1) (value_in rs k) ≡ Some v → IsRow (k, v))
    (λ same e. let eq : r.1 ≡ v = cc in record { key = subst IsKey same all.0.key; value = subst (λ (x : ℤ). is_i64 x ≡ true) eq all.0.value })
    (λ _ e. rows_have rs all.1 k v e)

-- a value of the rows behind the first is one of all
behind_first : (r : List ℕ × ℤ) (rs : Rows) → IsRising (r ∷ rs) → (k : List ℕ) (v : ℤ) → value_in rs k ≡ Some v → value_in (r ∷ rs) k ≡ Some v
behind_first r rs rising k v e = on_label r.0 k (λ b. cond b (Some r.1) (value_in rs k) ≡ Some v)
    (λ same. let none = none_above r.0 rs rising.0 in let both : None ≡ Some v = sym none ∙ ap (value_in rs) same ∙ e in cc)
    (λ _. e)

pub all_rows : (rows : Rows) → IsRising rows → HasRows (value_in rows) → AllByRecursion IsRow rows
all_rows [] rising has = tt
all_rows (r ∷ rs) rising has =
    (has r.0 r.1 (ap (λ b. cond b (Some r.1) (value_in rs r.0)) (label_eq_self r.0)), all_rows rs rising.1 (λ k v e. has k v (behind_first r rs rising k v e)))

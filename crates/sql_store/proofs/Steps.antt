-- One statement in a transaction, and several.
use Rattle.std.proofs.Common.{◌≡◌, ap, ℕ, ℤ, List, Option, Ok, Err, Result, OnOk, OnErr, IfOk, IfErr, IsErrOf, inl, inr, ◌∙◌, arith}
use Rattle.sqlite.proofs.StateLemmas.{survives_then}
use Rattle.std.specs.Global.{Vec}
use Rattle.sqlite.specs.Order.{Row as Values}
use Rattle.durable_top.specs.declared.store.Row.{Row}
use Rattle.durable_top.specs.declared.store.StoreFault.{StoreFault}
use Rattle.durable_top.specs.Store.{told}
use Rattle.sqlite.specs.declared.error.Error.{Error}
use Rattle.std.specs.Prelude.{IsTrue}
use Rattle.sqlite.specs.State.{State, HasCleanDisk, Survives, ExecutesInside, KeepsCommit}
use Rattle.sql_store.specs.Inside.{Steps, GoesOn}
use Rattle.sql_store.specs.Laid.{put}
use Rattle.sql_store.specs.Table.{table_of, IsReady, Makes}

-- what holds anyway holds at an error
pub on_err : {T E Q : Type 0} (r : Result T E) → Q → OnErr r Q
on_err (Ok x) q = tt
on_err (Err e) q = q

pub kept_by : (sql : List ℕ) (params : Values) (old new : State) (r : Result ℕ Error) → ExecutesInside 0 sql params old new r → KeepsCommit old new
kept_by sql params old new (Ok n) h = record { was_open = λ _. h.1.was_open; committed = λ _. h.1.committed_is }
kept_by sql params old new (Err e) (inl (ran, inl same)) = record { was_open = λ _. same.0.was_open; committed = λ _. same.0.committed_is }
kept_by sql params old new (Err e) (inl (ran, inr back)) = record { was_open = back.was_open; committed = λ h. (back.undone h).1 }
kept_by sql params old new (Err e) (inr late) = record { was_open = λ _. late.2.0.was_open; committed = λ _. late.2.0.committed_is }

-- a statement makes the change that it makes of the table
pub makes_by : (sql : List ℕ) (params : Values) (old new : State) (key : List ℕ) (entry : Option (ℤ × ℤ)) (count : ℕ) → ExecutesInside 0 sql params old new (Ok count)
    → (IsReady old.now → IsReady new.now × (table_of new.now ≡ put (table_of old.now) key entry) × (new.now.trees 0 ≡ old.now.trees 0)) → Makes key entry old new
makes_by sql params old new key entry count h done = record {
  was_open = h.1.was_open;
  inside = h.1.mode;
  kept = kept_by sql params old new (Ok count) h;
  ready = λ ready. (done ready).0;
  table = λ ready. (done ready).1;
  others = λ ready. (done ready).2;
}

pub at_both : {T E : Type 0} (r : Result T E) (P : T → Type 0) (Q : E → Type 0) (R : Type 0) → ((x : T) → P x → R) → ((e : E) → Q e → R) → IfOk r P → IfErr r Q → R
at_both (Ok x) P Q R f g h k = f x h
at_both (Err e) P Q R f g h k = g e k

pub on_ok_then : {T E P Q : Type 0} (r : Result T E) → (P → Q) → OnOk r P → OnOk r Q
on_ok_then (Ok x) f h = f h
on_ok_then (Err e) f h = tt

pub if_ok_both : {T E : Type 0} (r : Result T E) (P Q R : T → Type 0) → IfOk r P → IfOk r Q → ((x : T) → P x → Q x → R x) → IfOk r R
if_ok_both (Ok x) P Q R p q f = f x p q
if_ok_both (Err e) P Q R p q f = tt

-- ---- several steps inside a transaction

-- what holds of each value that is answered holds where one is answered
pub goes_on : {T E : Type 0} (r : Result T E) (old new : State) → (HasCleanDisk new → IsTrue old.in_transaction → IfOk r (λ _. IsTrue new.in_transaction × IsTrue old.is_open)) → OnOk r (GoesOn old new)
goes_on (Ok x) old new f = f
goes_on (Err e) old new f = tt

pub steps_by : (sql : List ℕ) (params : Values) (old new : State) (r : Result ℕ Error) → (HasCleanDisk new → IsTrue old.in_transaction → ExecutesInside 0 sql params old new r) → Survives old new (λ _. ⊥) → Steps old new
steps_by sql params old new r ran survives = record { kept = λ clean inside. kept_by sql params old new r (ran clean inside); survives = survives }

pub on_by : (sql : List ℕ) (params : Values) (old new : State) (count : ℕ) → (HasCleanDisk new → IsTrue old.in_transaction → ExecutesInside 0 sql params old new (Ok count)) → GoesOn old new
on_by sql params old new count ran clean inside = ((ran clean inside).1.mode, (ran clean inside).1.was_open)

pub steps_then : (a b c : State) → Steps a b → (HasCleanDisk b → IsTrue a.in_transaction → IsTrue b.in_transaction) → Steps b c → Steps a c
steps_then a b c p on q = record {
  kept = λ clean inside.
      let was : HasCleanDisk b = omega (arith, q.survives.clean, clean) in
      let first = p.kept was inside in
      let second = q.kept clean (on was inside) in
      record { was_open = λ h. first.was_open (second.was_open h); committed = λ h. second.committed h ∙ first.committed (second.was_open h) };
  survives = survives_then a b c _ _ (λ _. ⊥) (λ _ db none. none) (λ _ db none. none) p.survives q.survives;
}

pub clean_before : (b c : State) → Survives b c (λ _. ⊥) → HasCleanDisk c → HasCleanDisk b
clean_before b c s clean = omega (arith, s.clean, clean)

pub steps_from : (a b : State) → (HasCleanDisk b → IsTrue a.in_transaction → KeepsCommit a b) → Survives a b (λ _. ⊥) → Steps a b
steps_from a b kept survives = record { kept = kept; survives = survives }

pub ok_from : {T E Q : Type 0} (r : Result T E) (P : T → Type 0) → ((x : T) → P x → Q) → IfOk r P → OnOk r Q
ok_from (Ok x) P f h = f x h
ok_from (Err e) P f h = tt

pub on_ok_both : {T E P Q R : Type 0} (r : Result T E) → (P → Q → R) → OnOk r P → OnOk r Q → OnOk r R
on_ok_both (Ok x) f h k = f h k
on_ok_both (Err e) f h k = tt

-- what holds of the value and what holds anyway
pub if_ok_on : {T E Q : Type 0} (r : Result T E) (P R : T → Type 0) → ((x : T) → P x → Q → R x) → IfOk r P → OnOk r Q → IfOk r R
if_ok_on (Ok x) P R f h q = f x h q
if_ok_on (Err e) P R f h q = tt

-- what holds of the rows holds of the answer that is told
pub told_if : (r : Result (Vec Row) StoreFault) (P : List Row → Type 0) → IfOk r (λ rows. P rows.items) → IfOk (told r) P
told_if (Ok rows) P h = h
told_if (Err fault) P h = tt

pub told_err_if : (r : Result (Vec Row) StoreFault) (P : StoreFault → Type 0) → IfErr r P → IfErr (told r) P
told_err_if (Ok rows) P h = h
told_err_if (Err fault) P h = h

pub told_err : (r : Result (Vec Row) StoreFault) (fault : StoreFault) → IsErrOf (told r) fault → IsErrOf r fault
told_err (Ok rows) fault h = absurd cc
told_err (Err e) fault h = let same : e ≡ fault = cc in ap (λ x. Err x) same

pub on_both : {T E Q R : Type 0} (r : Result T E) (P : T → Type 0) → ((x : T) → P x → Q → R) → IfOk r P → OnOk r Q → OnOk r R
on_both (Ok x) P f h q = f x h q
on_both (Err e) P f h q = tt

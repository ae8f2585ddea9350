-- From what a write shows to the words of the contracts.
use Rattle.std.proofs.Common.{◌≡◌, ◌^◌, ◌<◌, ℕ, List, length, set, refl, sym, ap, ◌∙◌, subst, IsTrue, arith, inl, Ok, Err, OnOk, OnErr, IfErr, Result, is_err, true, false, true≢false}
use Rattle.sqlite_value.specs.Order.{Row}
use Rattle.std.proofs.lemmas.Result.{on_ok_weaker, on_err_weaker}
use Rattle.sqlite_trees.specs.declared.error.StoreError.{StoreError}
use Rattle.sqlite_trees.specs.declared.error.StoreError.TheVariants.{OutOfMemory}
use Rattle.sqlite_trees.specs.View.{View, KeepsSchema, IsFailure, SetsTree, OnlyWrites, IsQuiet}
use Rattle.sqlite_trees.specs.Objects.{FailsToRelist}
use Rattle.row_store.specs.declared.store.RowStore.{RowStore}
use Rattle.row_store.specs.Path.{State}
use Rattle.row_store.specs.RowView.{rows_in, now, row_view, Leads}
use Rattle.row_store.proofs.Views.{edited_shown, wrote, stayed}

pub failed : (old new : View) → new ≡ record old { cursors = new.cursors } → (e : StoreError) → IsFailure old new e
failed old new is e = record {
  kept = record {
    shape = ap (λ (v : View). v.shape) is;
    reals = ap (λ (v : View). v.reals) is;
    committed_shape = ap (λ (v : View). v.committed_shape) is;
    committed_reals = ap (λ (v : View). v.committed_reals) is;
    numbered = ap (λ (v : View). v.is_numbered) is;
    was_open = λ h. subst (λ b. IsTrue b) (ap (λ (v : View). v.is_open) is) h;
    committed = λ _. ap (λ (v : View). v.committed) is;
    marks = λ _. ap (λ (v : View). v.marks) is;
  };
  unchanged = λ _. is;
  refused = λ _ _. is;
}

pub keeps : (old new : View) → OnlyWrites old new → KeepsSchema old new
keeps old new is = record {
  shape = ap (λ (v : View). v.shape) is;
  reals = ap (λ (v : View). v.reals) is;
  committed_shape = ap (λ (v : View). v.committed_shape) is;
  committed_reals = ap (λ (v : View). v.committed_reals) is;
  numbered = ap (λ (v : View). v.is_numbered) is;
}

-- the rows of a tree that a call can name are edited
pub sets : (old new : RowStore) (t : ℕ) (edit : List Row → List Row) → t < 2 ^ 32 → t < length (now old).rows
    → Leads old new (record (now old) { rows = set (now old).rows t (edit (rows_in (now old).rows t)) }) → SetsTree (row_view old) (row_view new) t edit
sets old new t edit low within h =
    let seen = edited_shown (now old) t edit low within in
    record {
      sound = refl;
      is = wrote old new _ h ∙ (λ i. record (row_view old) { trees = (seen i).trees; shape = (seen i).shape; reals = (seen i).reals; cursors = (row_view new).cursors });
    }

pub frame : (old new : View) (t : ℕ) (edit : List Row → List Row) → SetsTree old new t edit → OnlyWrites old new
frame old new t edit h = λ i. record (h.is i) { trees = new.trees; cursors = new.cursors }

pub only : (old new : View) (t : ℕ) (edit : List Row → List Row) (r : Result (Unit {0}) StoreError) → OnOk r (SetsTree old new t edit) → OnErr r (new ≡ record old { cursors = new.cursors }) → OnlyWrites old new
only old new t edit (Ok x) h _ = frame old new t edit h
only old new t edit (Err e) _ h = λ i. record (h i) { trees = new.trees; cursors = new.cursors }

pub each_error : {X E : Type 0} (r : Result X E) (P : Type 0) (Q : E → Type 0) → ((e : E) → P → Q e) → OnErr r P → IfErr r Q
each_error (Ok x) P Q f h = h
each_error (Err e) P Q f h = f e h

pub memory_alone : {X : Type 0} (r : Result X StoreError) (Q : StoreError → Type 0) → Q OutOfMemory → IfErr r (λ e. e ≡ OutOfMemory) → IfErr r Q
memory_alone (Ok x) Q q h = h
memory_alone (Err e) Q q h = rw h q

pub quiet : (old new : RowStore) → (row_view new).committed ≡ (row_view old).committed
    → IsQuiet row_view (λ _. 0) (λ s db. db ≡ (row_view s).committed) (λ _. Unit {0}) old new
quiet old new same = record { shield = λ h. h; clean = omega arith; counts = omega arith; closes = λ _ h. inl h; outcomes = λ db h. h ∙ same }

-- a write to the rows of one tree
module _ (s new : RowStore) (t : ℕ) (edit : List Row → List Row) (low : t < 2 ^ 32) (within : t < length (now s).rows) (r : Result (Unit {0}) StoreError)
    (ok : OnOk r (Leads s new (record (now s) { rows = set (now s).rows t (edit (rows_in (now s).rows t)) }))) (err : OnErr r (Leads s new (now s))) where
  pub write_ok : OnOk r (SetsTree (row_view s) (row_view new) t edit)
  write_ok = on_ok_weaker r (λ h. sets s new t edit low within h) ok

  pub write_err : IfErr r (IsFailure (row_view s) (row_view new))
  write_err = each_error r _ _ (λ e h. failed (row_view s) (row_view new) (stayed s new h) e) err

  pub write_only : OnlyWrites (row_view s) (row_view new)
  write_only = only (row_view s) (row_view new) t edit r write_ok (on_err_weaker r (λ h. stayed s new h) err)

  pub write_schema : KeepsSchema (row_view s) (row_view new)
  write_schema = keeps (row_view s) (row_view new) write_only

  pub write_quiet : IsQuiet row_view (λ _. 0) (λ s db. db ≡ (row_view s).committed) (λ _. Unit {0}) s new
  write_quiet = quiet s new (ap (λ (v : View). v.committed) write_only)

pub both : {X E P Q R : Type 0} (r : Result X E) → (P → Q → R) → OnOk r P → OnOk r Q → OnOk r R
both (Ok x) f p q = f p q
both (Err e) f p q = q

pub led_quiet : (s new : RowStore) (t : State) (r : Result (Unit {0}) StoreError) → OnOk r (Leads s new t) → OnErr r (Leads s new (now s))
    → IsQuiet row_view (λ _. 0) (λ x db. db ≡ (row_view x).committed) (λ _. Unit {0}) s new
led_quiet s new t (Ok x) h _ = quiet s new (ap (λ (v : View). v.committed) (wrote s new t h))
led_quiet s new t (Err e) _ h = quiet s new (ap (λ (v : View). v.committed) (stayed s new h))

pub led_err : (s new : RowStore) (r : Result (Unit {0}) StoreError) → OnErr r (Leads s new (now s)) → IfErr r (IsFailure (row_view s) (row_view new))
led_err s new r h = each_error r _ _ (λ e led. failed (row_view s) (row_view new) (stayed s new led) e) h

pub fails_to_relist : (old new : View) → new ≡ record old { cursors = new.cursors } → (e : StoreError) → FailsToRelist old new e
fails_to_relist old new is e = record {
  shape = ap (λ (v : View). v.committed_shape) is;
  reals = ap (λ (v : View). v.committed_reals) is;
  numbered = ap (λ (v : View). v.is_numbered) is;
  was_open = λ h. subst (λ b. IsTrue b) (ap (λ (v : View). v.is_open) is) h;
  committed = λ _. ap (λ (v : View). v.committed) is;
  marks = λ _. ap (λ (v : View). v.marks) is;
  unchanged = λ _. is;
  refused = λ _ _. is;
}

pub any_error : {X E : Type 0} (r : Result X E) (Q : E → Type 0) → ((e : E) → Q e) → IfErr r Q
any_error (Ok x) Q f = tt
any_error (Err e) Q f = f e

pub went : {X E : Type 0} (r : Result X E) (P : Type 0) → OnOk r P → is_err r ≡ false → P
went (Ok x) P h so = h
went (Err e) P h so = absurd (true≢false so)

pub refused : {X E : Type 0} (r : Result X E) (P : Type 0) → OnErr r P → is_err r ≡ true → P
refused (Ok x) P h so = absurd (true≢false (sym so))
refused (Err e) P h so = h

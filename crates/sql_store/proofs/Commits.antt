-- A commit that changes nothing, and one under the number above the greatest.
use Rattle.std.proofs.Common.{◌≡◌, inl, inr, ℤ, pos, ◌+ℤ◌, List, Result, Err, true, refl, sym, subst, arith}
use Rattle.std.specs.Prelude.{OnOk}
use Rattle.sqlite.specs.Store.{Ghosts}
use Rattle.sqlite.specs.Held.{Held}
use Rattle.txn_names.specs.declared.change.Change.{Change}
use Rattle.serial_spec.specs.Rows.{value_in}
use Rattle.durable_top.specs.declared.store.StoreFault.{StoreFault}
use Rattle.durable_top.specs.Numbered.{Numbered, Commits, Follows}
use Rattle.durable_top.specs.Numbers.{Numbers, renumbered}
use Rattle.sql_store.specs.Asked.{Committed}
use Rattle.sql_store.specs.Calls.{IfClean}
use Rattle.sql_store.specs.inner.Commit.{TriesCommit}
use Rattle.sql_store.specs.Stored.{IsCounted}
use Rattle.sql_store.proofs.Steps.{on_ok_then}

module _ {S : Type 0} (g : Ghosts S) (changes : List Change) where
  -- a fault at which all is as it was
  pub tried_nothing : (Makes : Numbered → Numbered → Type 0) (number : ℤ) (before after : Numbers) (h : Held S) (fault : StoreFault)
      → after.rows ≡ before.rows → after.top ≡ before.top → TriesCommit g Makes number changes before after h h (Err fault)
  tried_nothing Makes number before after h fault rows top = record {
    ok = λ clean kept counted. tt;
    counted = λ clean kept counted. subst (λ r. IsCounted g true (value_in r) h) (sym rows) counted;
    still = λ kept. kept;
    crash = λ clean kept counted left may. inl may;
    settled = λ clean kept. tt;
    asked = λ clean. tt;
    refused = λ clean other. refl;
    kept = λ clean. record { was_open = λ o. o; committed = λ o. refl };
    spared = λ clean settled. record { was_open = λ o. o; now_is = λ o. refl; committed_is = λ o. refl; mode = refl };
    stays_open = λ clean was other. was;
    clean = omega arith;
    limit = refl;
    numbers = tt;
    stays = (rows, top);
  }

  module _ (before after : Numbers) (old new : Held S) (result : Result (Unit {0}) StoreFault) where
    -- under the number above the greatest
    pub tried_next : (number top : ℤ) → number ≡ top +ℤ pos 1 → TriesCommit g (Follows changes) number changes before after old new result
        → TriesCommit g (Commits changes) (top +ℤ pos 1) changes before after old new result
    tried_next number top next h = record {
      ok = λ clean kept counted. on_ok_then result (λ follows. inr follows) (h.ok clean kept counted);
      counted = h.counted;
      still = h.still;
      crash = λ clean kept counted left may. elim (h.crash clean kept counted left may) [ inl was ↦ inl was | inr follows ↦ inr (inr follows) ];
      settled = h.settled;
      asked = subst (λ n. IfClean g new (OnOk result (Committed g n changes old new))) next h.asked;
      refused = h.refused;
      kept = h.kept;
      spared = h.spared;
      stays_open = h.stays_open;
      clean = h.clean;
      limit = h.limit;
      numbers = subst (λ n. OnOk result (value_in after.rows ≡ renumbered n changes (value_in before.rows))) next h.numbers;
      stays = h.stays;
    }

-- Changes one after another.
use Rattle.std.proofs.Common.{◌≡◌, ℤ, true, List, refl, sym, ap, subst, ◌∙◌}
use Rattle.std.specs.Prelude.{IsTrue}
use Rattle.sqlite.specs.Effect.{Database}
use Rattle.sqlite.specs.Tree.{Trees}
use Rattle.sqlite.specs.State.{State, KeepsCommit}
use Rattle.sqlite.specs.Held.{Held, state}
use Rattle.sqlite.specs.Store.{Ghosts}
use Rattle.txn_names.specs.declared.change.Change.{Change}
use Rattle.durable_top.specs.Numbered.{overlay_numbered}
use Rattle.sql_store.specs.Table.{map_of, table_of, IsReady}
use Rattle.sql_store.specs.inner.Writes.{MakesAll, IsStored}

pub keeps_then : (a b c : State) → KeepsCommit a b → KeepsCommit b c → KeepsCommit a c
keeps_then a b c p q = record { was_open = λ h. p.was_open (q.was_open h); committed = λ h. q.committed h ∙ p.committed (q.was_open h) }

pub keeps_all : (a : State) → KeepsCommit a a
keeps_all a = record { was_open = λ h. h; committed = λ h. refl }

-- what is in the transaction at its commit is stored
pub stored_by : {S : Type 0} (number : ℤ) (changes : List Change) (g : Ghosts S) (old last : Held S) (db : Trees) → IsTrue (state g old).is_open → (IsTrue (state g old).is_open → (state g old).now ≡ (state g old).committed)
    → (IsReady (state g old).now → MakesAll number changes (state g (record old { in_transaction = true })) (state g last)) → db ≡ (state g last).now.trees → IsStored number changes (state g old) db
stored_by number changes g old last db was_open settle made is = (
  was_open,
  λ ready.
      let settled = settle was_open in
      let all = made (subst IsReady (sym settled) ready) in
      ap (λ (t : Trees). map_of (t 2)) is ∙ all.table ∙ ap (λ (d : Database). overlay_numbered number changes (table_of d)) settled,
)

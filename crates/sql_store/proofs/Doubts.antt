-- What a store without doubt knows, and that one in memory is without doubt.
use Rattle.std.proofs.Common.{◌≡◌, ℕ, ◌+◌, Bool, true, false, cond, refl, arith}
use Rattle.std.proofs.lemmas.Bool.{false≢true}
use Rattle.std.specs.Prelude.{IsTrue}
use Rattle.sqlite.specs.Held.{Held, state}
use Rattle.sqlite.specs.State.{HasCleanDisk}
use Rattle.sqlite_trees.proofs.Doubt as flag
use Rattle.row_store.specs.Steps.{over_memory}
use Rattle.row_store.specs.declared.store.RowStore.{RowStore}
use Rattle.sql_store.specs.Stored.{Stored, doubt_of}

pub no_doubt : (n : ℕ) (b : Bool) → n + cond b 0 1 ≡ 0 → (n ≡ 0) × (b ≡ true)
no_doubt n true h = (omega (arith, h), refl)
no_doubt n false h = absurd (omega (arith, h))

none_in : (n : ℕ) (b : Bool) → n ≡ 0 → IsTrue b → n + cond b 0 1 ≡ 0
none_in n true h known = omega (arith, h)
none_in n false h known = absurd (false≢true known)

pub memory_is_clean : (c : Held RowStore) → HasCleanDisk (state over_memory c)
memory_is_clean c = flag.no_doubt true refl

pub sure_in_memory : (s : Stored RowStore) → IsTrue s.is_known → doubt_of over_memory s ≡ 0
sure_in_memory s known = none_in _ s.is_known (memory_is_clean s.connection) known

-- A numbered table with an entry put into it, and with rows laid over it.
use Rattle.std.specs.Prelude.{ℕ, ℤ, if◌then◌else◌, List, Option, Some, None}
use Rattle.txn_names.specs.Path.{label_eq}
use Rattle.durable_top.specs.declared.store.Row.{Row}
use Rattle.durable_top.specs.Numbered.{Numbered, entries_in}

abbrev pub put : Numbered → List ℕ → Option (ℤ × ℤ) → Numbered
put m k e q = if label_eq k q then e else m q

abbrev pub entry_else : Option (ℤ × ℤ) → Option (ℤ × ℤ) → Option (ℤ × ℤ)
entry_else None e = e
entry_else (Some x) e = Some x

-- the table with these rows laid over it
abbrev pub laid : List Row → Numbered → Numbered
laid rows m k = entry_else (entries_in rows k) (m k)

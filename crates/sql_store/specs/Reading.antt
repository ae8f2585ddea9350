-- A row of the store, and the row of the database that it was read from.
use Rattle.std.specs.Prelude.{pos}
use Rattle.sqlite.specs.declared.types.Value.{Value}
use Rattle.sqlite.specs.declared.types.Value.TheVariants.{Text, Int}
use Rattle.sqlite.specs.Order.{column, Row as Shown}
use Rattle.durable_top.specs.declared.store.Row.{Row}

abbrev pub told : Row → Value × (Value × Value)
told r = (Text r.key, (Int r.value, Int r.commit))

abbrev pub seen : Shown → Value × (Value × Value)
seen r = (column r 0, (column r 1, column r 2))

-- a row of the old table has no number, and gets 0
abbrev pub seen_old : Shown → Value × (Value × Value)
seen_old r = (column r 0, (column r 1, Int (pos 0)))

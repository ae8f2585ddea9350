-- Rowids as a query shows them, one in a row.
use Rattle.std.specs.Prelude.{◌≡◌}
use Rattle.sqlite.specs.Effect.{Database}
use Rattle.sqlite.specs.Query.{Query}
use Rattle.sql_store.specs.Load.{ids_query, old_ids_query, IsAnswerOn}
use Rattle.std.specs.Prelude.{ℤ, Bool, true, ◌&&◌, if◌then◌else◌, List, [], ◌∷◌, Option, Some, None, is_some}
use Rattle.std.specs.Ordering.{is_lt, int_cmp}
use Rattle.sqlite.specs.Order.{Row, column}
use Rattle.sql_store.specs.Table.{int_in}

abbrev pub is_past : Option ℤ → ℤ → Bool
is_past None id = true
is_past (Some low) id = is_lt (int_cmp low id)

-- the rowid, where it is a whole number above the one before
abbrev pub next_id : Option ℤ → Option ℤ → Option ℤ
next_id low None = None
next_id low (Some id) = if is_past low id then Some id else None

-- the rowid of a row, the same way
abbrev pub id_after : Option ℤ → Row → Option ℤ
id_after low r = next_id low (int_in (column r 0))

-- the rowids are whole numbers, and rise
abbrev pub rises : Option ℤ → List Row → Bool
rises low [] = true
rises low (r ∷ rows) = is_some (id_after low r) && rises (id_after low r) rows

-- whether the rowids rise that this query shows
abbrev pub IsDecidedBy : Query → Database → Bool → Type 0
IsDecidedBy query db apart = (ids : List Row) × IsAnswerOn query db ids × (apart ≡ rises None ids)

-- whether the rowids rise that queries show of both tables
abbrev pub IsDecided : Database → Bool → Type 0
IsDecided db apart =
    (old_ids : List Row) × (ids : List Row)
    × IsAnswerOn old_ids_query db old_ids × IsAnswerOn ids_query db ids
    × (apart ≡ (rises None old_ids && rises None ids))

-- of a database of the old table alone it is decided once the new one is made
abbrev pub IsDecidedFirst : Database → Bool → Type 0
IsDecidedFirst db known =
    (mid : Database) × (mid.trees 0 ≡ db.trees 0) × (mid.trees 2 ≡ []) × IsDecided mid known

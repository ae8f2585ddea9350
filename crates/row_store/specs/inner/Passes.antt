-- The tests of a binary search.
use Rattle.std.specs.Prelude.{◌≡◌, ◌≢◌, Bool, not}
use Rattle.std.specs.Ordering.{is_lt, is_gt}
use Rattle.sqlite_value.specs.Value.{owned}
use Rattle.sqlite_value.specs.declared.keys.Collation.TheVariants.{Binary}
use Rattle.sqlite_value.specs.declared.keys.Order.{Order}
use Rattle.sqlite_value.specs.declared.value.Value.{Value}
use Rattle.sqlite_value.specs.declared.value.Value.TheVariants.{Null}
use Rattle.sqlite_value.specs.Order.{Row, column, value_cmp}
use Rattle.sqlite_value.specs.Keys.{ascending, entry_cmp, first_key, prefix_cmp}
use Rattle.sqlite_trees.specs.Tree.{rowid}
use Rattle.row_store.specs.declared.probe.Probe.{Probe}
use Rattle.row_store.specs.declared.probe.Probe.TheVariants.{BelowKey, UpToKey, BelowRowid, BelowEntry}

abbrev pub passes : Probe → Row → Bool
passes (BelowKey o key) e = is_lt (prefix_cmp o e key.now)
passes (UpToKey o key) e = not (is_gt (prefix_cmp o e key.now))
passes (BelowRowid id) e = is_lt (value_cmp (rowid e) (owned id))
passes (BelowEntry o other) e = is_lt (entry_cmp o e other.now)

-- the row's first value, where the order has the first column ascend by its bytes, or NULL
abbrev pub IsFirstIn : Order → Row → Value → Type 0
IsFirstIn o r v = v ≢ Null → (v ≡ column r 0) × (first_key o ≡ ascending Binary)

-- the first value of what is looked for, or NULL
abbrev pub IsFirst : Probe → Value → Type 0
IsFirst (BelowKey o key) v = IsFirstIn o key.now v
IsFirst (UpToKey o key) v = IsFirstIn o key.now v
IsFirst (BelowRowid id) v = v ≡ owned id
IsFirst (BelowEntry o other) v = IsFirstIn o other.now v

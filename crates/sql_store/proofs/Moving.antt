-- The rows of the old table were moved.
use Rattle.std.proofs.Common.{◌≡◌, List, [], ◌∷◌, length, refl, arith}
use Rattle.sqlite.specs.Store.{Ghosts}
use Rattle.sqlite.specs.Held.{Held}
use Rattle.durable_top.specs.declared.store.Row.{Row}
use Rattle.sql_store.specs.Asked.{MovesOver, MovesRows}

pub none_from : (rows : List Row) → length rows ≡ 0 → rows ≡ []
none_from [] e = refl
none_from (r ∷ rows) e = absurd (omega (arith, e))

pub moves_by : {S : Type 0} (g : Ghosts S) (old_rows new_rows : List Row) (old new : Held S) → (old_rows ≡ [] → ⊥) → new_rows ≡ [] → MovesOver g old_rows old new → MovesRows g old_rows new_rows old new
moves_by g [] new_rows old new some none moved = absurd (some refl)
moves_by g (r ∷ rows) new_rows old new some none moved = (none, moved)

-- where there are none all is as it was
pub moves_none : {S : Type 0} (g : Ghosts S) (old_rows new_rows : List Row) (old new : Held S) → old_rows ≡ [] → MovesRows g old_rows new_rows old new → new ≡ old
moves_none g [] new_rows old new none moves = moves
moves_none g (r ∷ rows) new_rows old new none moves = absurd cc

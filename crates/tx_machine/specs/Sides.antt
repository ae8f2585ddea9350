-- A store that is of one kind or of another.
use Rattle.std.specs.Prelude.{Option, Some, None}
use Rattle.tx_machine.specs.declared.store.EitherStore.{EitherStore}
use Rattle.tx_machine.specs.declared.store.EitherStore.TheVariants.{Memory, Database}

-- two states are both of the first kind, and this holds of the two; or both are of the second
abbrev pub OnOneSide : {M D : Type 0} → (M → M → Type 0) → (D → D → Type 0) → EitherStore M D
    → EitherStore M D → Type 0
OnOneSide P Q (Memory m) (Memory n) = P m n
OnOneSide P Q (Memory m) (Database e) = ⊥
OnOneSide P Q (Database d) (Memory n) = ⊥
OnOneSide P Q (Database d) (Database e) = Q d e

-- what is left of a store over a database, if it is one
abbrev pub database_left : {M D : Type 0} → Option (EitherStore M D) → Option D
database_left (Some (Database d)) = Some d
database_left (Some (Memory m)) = None
database_left None = None

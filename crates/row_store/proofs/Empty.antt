-- A store without rows lists no tables.
use Rattle.std.proofs.Common.{◌≡◌, List, [], ◌∷◌, refl, subst}
use Rattle.std.specs.List.{AllZip}
use Rattle.sqlite_schema.specs.declared.schema.Schema.{Schema}
use Rattle.sqlite_trees.specs.Tree.{Trees}
use Rattle.sqlite_trees.specs.Objects.{catalog_tree}
use Rattle.sqlite_catalog.specs.Listing.{IsSound, AreListed, IsTableRow, IsIndexRow, IsViewRow}

none_zip : {X Y : Type 0} (R : X → Y → Type 0) (ys : List Y) → AllZip R [] ys → ys ≡ []
none_zip R [] h = refl
none_zip R (y ∷ ys) h = absurd h

none_listed : (schema : Schema) → AreListed [] schema → schema ≡ record { tables = []; indexes = []; views = [] }
none_listed schema h =
    let tables = none_zip IsTableRow schema.tables h.tables in
    let indexes = none_zip (IsIndexRow schema.tables) schema.indexes h.indexes in
    let views = none_zip IsViewRow schema.views h.views in
    λ i. record { tables = tables i; indexes = indexes i; views = views i }

pub no_objects : (schema : Schema) (db : Trees) → db catalog_tree ≡ [] → IsSound schema db → schema ≡ record { tables = []; indexes = []; views = [] }
no_objects schema db none h = none_listed schema (subst (λ rows. AreListed rows schema) none h.lists.listed)

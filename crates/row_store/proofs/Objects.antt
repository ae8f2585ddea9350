-- A tree is made, dropped or listed otherwise.
use Rattle.std.proofs.Common.{◌≡◌, ◌≢◌, ◌^◌, ◌+◌, ◌<◌, ℕ, pos, List, [], ◌∷◌, length, set, refl, sym, ap, ◌∙◌, arith, false, ne_eqb}
use Rattle.sqlite_value.specs.Order.{Row}
use Rattle.sqlite_trees.specs.declared.store.Shape.TheVariants.{Absent}
use Rattle.sqlite_trees.specs.declared.schema.Object.{Object}
use Rattle.sqlite_trees.specs.Tree.{Trees, with_tree, put_row, without_rowid}
use Rattle.sqlite_trees.specs.View.{View}
use Rattle.sqlite_trees.specs.Objects.{catalog_tree, description, object_row, set_at, Creates, Destroys, Relists}
use Rattle.sqlite_trees.specs.Listing.{Heading, no_heading, reals_unless_absent, objects_from, objects_from-set, objects_from-unset}
use Rattle.sqlite_trees.proofs.StoreLemmas.{present_reals}
use Rattle.row_store.specs.declared.store.RowStore.{RowStore}
use Rattle.row_store.specs.Path.{State}
use Rattle.row_store.specs.RowView.{now, row_view, Leads}
use Rattle.row_store.proofs.Views.{set_same, edited_shown, listed_shown, wrote}

-- the tree has no rows, and is listed otherwise
labelled : (old new : RowStore) (t : ℕ) (h : Heading) (edit : List Row → List Row) → t < 2 ^ 32 → t < length (now old).headings
    → objects_from 0 (set (now old).headings t h) ≡ edit (objects_from 0 (now old).headings)
    → Leads old new (record (now old) { headings = set (now old).headings t h })
    → row_view new ≡ record (row_view old) {
      trees = with_tree (row_view old).trees catalog_tree (edit ((row_view old).trees catalog_tree));
      shape = set_at (row_view old).shape t h.0;
      reals = set_at (row_view old).reals t (reals_unless_absent h.0 h.1);
      cursors = (row_view new).cursors;
    }
labelled old new t h edit low within lists led =
    let seen = listed_shown (now old) t h edit low within lists in
    wrote old new _ led ∙ (λ i. record (row_view old) { trees = (seen i).trees; shape = (seen i).shape; reals = (seen i).reals; cursors = (row_view new).cursors })

pub creates : (old new : RowStore) (t : ℕ) (o : Object) → t < 2 ^ 32 → t < length (now old).headings → o.shape ≢ Absent → (row_view old).trees t ≡ []
    → Leads old new (record (now old) { headings = set (now old).headings t (o.shape, o.reals, description o) }) → Creates (row_view old) (row_view new) t o
creates old new t o low within there empty led =
    let h : Heading = (o.shape, o.reals, description o) in
    let edit = put_row (object_row t o) in
    let objects = edit ((row_view old).trees catalog_tree) in
    let is = labelled old new t h edit low within (objects_from-set (now old).headings 0 t t h (omega arith) within there) led in
    let trees : with_tree (row_view old).trees catalog_tree objects ≡ with_tree (with_tree (row_view old).trees t []) catalog_tree objects =
    ap (λ (db : Trees). with_tree db catalog_tree objects) (sym (ap (with_tree (row_view old).trees t) (sym empty) ∙ set_same (row_view old).trees t)) in
    let reals = present_reals o.shape o.reals there in
    record {
      sound = refl;
      is = is ∙ (λ i. record (row_view old) { trees = trees i; shape = set_at (row_view old).shape t o.shape; reals = set_at (row_view old).reals t (reals i); cursors = (row_view new).cursors });
    }

pub relists : (old new : RowStore) (t : ℕ) (o : Object) → t < 2 ^ 32 → t < length (now old).headings → o.shape ≢ Absent → (row_view old).shape t ≡ o.shape
    → Leads old new (record (now old) { headings = set (now old).headings t (o.shape, o.reals, description o) }) → Relists (row_view old) (row_view new) ((t, o) ∷ [])
relists old new t o low within there shaped led =
    let h : Heading = (o.shape, o.reals, description o) in
    let edit = put_row (object_row t o) in
    let is = labelled old new t h edit low within (objects_from-set (now old).headings 0 t t h (omega arith) within there) led in
    let shape : set_at (row_view old).shape t o.shape ≡ (row_view old).shape = ap (set_at (row_view old).shape t) (sym shaped) ∙ set_same (row_view old).shape t in
    let reals = present_reals o.shape o.reals there in
    record {
      sound = refl;
      is = is ∙ (λ i. record (row_view old) { trees = with_tree (row_view old).trees catalog_tree (edit ((row_view old).trees catalog_tree)); shape = shape i; reals = set_at (row_view old).reals t (reals i); cursors = (row_view new).cursors });
    }

pub destroys : (old mid new : RowStore) (t : ℕ) → t < 2 ^ 32 → t < length (now old).rows → t < length (now old).headings
    → Leads old mid (record (now old) { rows = set (now old).rows t [] })
    → Leads mid new (record (now mid) { headings = set (now mid).headings t no_heading }) → Destroys (row_view old) (row_view new) t
destroys old mid new t low within there first second =
    let emptied = edited_shown (now old) t (λ _. []) low within in
    let one = wrote old mid _ first ∙ (λ i. record (row_view old) { trees = (emptied i).trees; shape = (emptied i).shape; reals = (emptied i).reals; cursors = (row_view mid).cursors }) in
    let listed : t < length (now mid).headings = omega (arith, there, ap (λ (s : State). length s.headings) first.state) in
    let two = labelled mid new t no_heading (without_rowid (pos (t + 1))) low listed (objects_from-unset (now mid).headings 0 t t (omega arith)) second in
    let next = λ (v : View). let w : View = record v {
      trees = with_tree v.trees catalog_tree (without_rowid (pos (t + 1)) (v.trees catalog_tree));
      shape = set_at v.shape t Absent;
      reals = set_at v.reals t 0;
      cursors = (row_view new).cursors;
    } in w in
    let other : with_tree (row_view old).trees t [] catalog_tree ≡ (row_view old).trees catalog_tree = rw (ne_eqb catalog_tree t (omega arith)) refl in
    record {
      sound = refl;
      is = two ∙ ap next one ∙ (λ i. record (row_view old) {
        trees = with_tree (with_tree (row_view old).trees t []) catalog_tree (without_rowid (pos (t + 1)) (other i));
        shape = set_at (row_view old).shape t Absent;
        reals = set_at (row_view old).reals t 0;
        cursors = (row_view new).cursors;
      });
    }

pub relists_none : (v : View) → v.is_broken ≡ false → Relists v v []
relists_none v sound = record { sound = sound; is = λ i. record v { trees = sym (set_same v.trees catalog_tree) i } }

use Rattle.std.proofs.Common.{◌≡◌, ◌<◌, [], ◌∷◌, ◌++◌, length, map, set, refl, ap, arith}
use Rattle.std.proofs.lemmas.List.{length_push}
use Rattle.std.proofs.Math.Logic.{∥∥₁_map}
use Rattle.sqlite_trees.specs.View.{IsShaped}
use Rattle.row_store.specs.declared.log.Undo.TheVariants.{Listed}
use Rattle.row_store.specs.Heading.{heading}
use Rattle.row_store.specs.RowView.{now, rows_in}
use Rattle.row_store.proofs.Kept.{counted}
use Rattle.row_store.proofs.Lists.{map_set}
use Rattle.row_store.proofs.Relabels.{label_back, path_relabelled}
use Rattle.row_store.proofs.store.RowStore.relabel.Goals as goal

pub index_mut-requires : goal.index_mut-requires
index_mut-requires c =
    let s = c.args.self.now in
    let n = (counted s).0 in
    omega (arith, n, s.headings.ok.0)

pub invariant_of-self-2 : goal.invariant_of-self-2
invariant_of-self-2 c =
    let s = c.args.self.now in
    let n = (counted s).0 in
    let was = c.replace-old.result in
    let log : c.push_reserved.new.self.items ≡ s.log.items ++ Listed c.args.tree was ∷ [] = rw (c.push_reserved.ensures.items, c.reserve.ensures.items) refl in
    let low : c.args.tree < length s.headings.items = omega (arith, n) in
    let is = rw (← c.replace-old.ensures.value) at c.index_mut.ensures.value in
    let fits : IsShaped c.replace-old.new.dest.shape (rows_in (now s).rows c.args.tree) = rw c.replace-old.ensures.after (c.requires (omega arith)) in
    record {
      within = λ k d small. omega (arith, s.within k d small, ap length log, length_push s.log.items (Listed c.args.tree was));
      rising = s.rising;
      path = ∥∥₁_map s.path (λ h. rw log (path_relabelled s.headings.items c.args.tree was c.replace-old.new.dest low is (now s).rows _ s.version s.log.items fits h));
    }

pub returns-clause-ok : goal.returns-clause-ok
returns-clause-ok c =
    let s = c.args.self.now in
    let n = (counted s).0 in
    let was = c.replace-old.result in
    let log : c.push_reserved.new.self.items ≡ s.log.items ++ Listed c.args.tree was ∷ [] = rw (c.push_reserved.ensures.items, c.reserve.ensures.items) refl in
    let low : c.args.tree < length s.headings.items = omega (arith, n) in
    let is = rw (← c.replace-old.ensures.value) at c.index_mut.ensures.value in
    let labels : map heading (set s.headings.items c.args.tree c.replace-old.new.dest) ≡ set (now s).headings c.args.tree (heading c.args.head) =
    rw c.replace-old.ensures.after (map_set heading s.headings.items c.args.tree c.args.head) in
    let back : set (set (now s).headings c.args.tree (heading c.args.head)) c.args.tree (heading was) ≡ (now s).headings =
    rw (← map_set heading s.headings.items c.args.tree c.args.head) (label_back s.headings.items c.args.tree was c.args.head low is) in
    record {
      state = λ i. record { headings = labels i; rows = (now s).rows; version = s.version };
      more = Listed c.args.tree was ∷ [];
      log = log;
      back = λ i. record { headings = back i; rows = (now s).rows; version = s.version };
      marks = refl;
    }

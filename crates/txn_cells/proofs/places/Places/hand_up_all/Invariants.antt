use Rattle.std.proofs.Common.{◌≡◌, ℕ, List, nat_eq, not, ◌&&◌, take, if◌then◌else◌}
use Rattle.std.specs.List.{list_any}
use Rattle.std.specs.Map.{keys_of}
use Rattle.txn_names.specs.Path.{label_eq}
use Rattle.txn_cells.specs.Cells.{handed_up}
use Rattle.txn_cells.specs.Kept.{content_kept, place_kept}
use Rattle.txn_cells.proofs.places.Places.hand_up_all.Given as goal

abbrev pub invariant-loop-index : goal.invariant-loop-index
invariant-loop-index g l = record {
  keys : keys_of l.self ≡ keys_of l.initial.self;
  contents : (u : ℕ) (q : List ℕ) → content_kept l.self u q
      ≡ (if list_any (label_eq q) (take l.index (keys_of l.list)) then handed_up g.V.Inherit.inherited (content_kept l.initial.self) l.child l.parent u q else content_kept l.initial.self u q);
  places : (u : ℕ) (q : List ℕ) → place_kept l.self u q ≡ (not (nat_eq l.child u && list_any (label_eq q) (take l.index (keys_of l.list))) && place_kept l.initial.self u q);
}

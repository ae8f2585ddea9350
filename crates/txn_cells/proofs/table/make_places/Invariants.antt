use Rattle.std.proofs.Common.{◌≡◌, ℕ, List, take}
use Rattle.txn_cells.specs.Kept.{AreListed, ArePlaced, content_kept, keys_at, listed_at, place_kept}
use Rattle.txn_cells.proofs.Reserving.{with_keys}
use Rattle.txn_cells.proofs.table.make_places.Given as goal

abbrev pub invariant-loop-index : goal.invariant-loop-index
invariant-loop-index g l = record {
  listed : AreListed l.places l.keys;
  placed : ArePlaced l.places l.keys;
  kept : listed_at l.keys l.child ≡ listed_at l.initial.keys l.child;
  places : (u : ℕ) (q : List ℕ) → place_kept l.places u q ≡ with_keys (place_kept l.initial.places) l.parent (take l.index (keys_at l.initial.keys l.child)) u q;
  contents : (u : ℕ) (q : List ℕ) → content_kept l.places u q ≡ content_kept l.initial.places u q;
}

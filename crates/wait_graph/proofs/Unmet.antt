-- Where nobody between two places waits for what has a key in common with a target, nobody there does so by way of another.
use Rattle.std.proofs.Common.{◌≡◌, ℕ, false, List, take}
use Rattle.std.specs.List.{list_any}
use Rattle.std.proofs.lemmas.Bool.{and_left}
use Rattle.txn_tree.specs.States.{States}
use Rattle.serial_spec.specs.declared.target.Target.{Target}
use Rattle.serial_spec.specs.Targets.{meets, target}
use Rattle.wait_cycles.specs.Waiting.{AreUnmet}
use Rattle.wait_cycles.specs.declared.waits.Wait.{Wait}
use Rattle.wait_graph.specs.Edges.{Keeps, is_held_by_way_of, waits_by_way_of}
use Rattle.wait_graph.proofs.Passing.{further_fails}

pub none_between : (tree : States) (keeps : Keeps) (all : List Wait) (t : ℕ) (s : Target) (ws : List Wait) (from to : ℕ) → list_any (waits_by_way_of tree keeps all t s) (take from ws) ≡ false
    → AreUnmet ws s from to → list_any (waits_by_way_of tree keeps all t s) (take to ws) ≡ false
none_between tree keeps all t s ws from to none unmet =
    further_fails (waits_by_way_of tree keeps all t s) ws from to none
    (λ i w past less at. and_left (meets s (target w.asked)) (is_held_by_way_of tree keeps all t w) (unmet i w past less at))

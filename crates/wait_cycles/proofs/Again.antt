-- The start, reached again from itself.
use Rattle.std.proofs.Common.{◌≡◌, ℕ, zero, suc, ◌≤◌, true, List, [], ◌∷◌, length, Option, Some, None, arith}
use Rattle.std.specs.Prelude.{slice_get}
use Rattle.std.proofs.lemmas.Bool.{false≢true}
use Rattle.wait_cycles.specs.declared.trail.Reached.{Reached}
use Rattle.wait_cycles.specs.Cycles.{Pairs, IsCycle, IsLastCycle, IsLastOn, is_member, waits_in}
use Rattle.wait_cycles.specs.Trails.{IsAt, IsFound, IsLastReached, nodes}
use Rattle.wait_cycles.proofs.Lists.{get-unmap, member_here, place_of}
use Rattle.wait_cycles.proofs.Ways.{IsWay, height, way_first, way_back, way_done}

-- each pair that waits is one
pub no_pairs : (pairs : Pairs) (a b : ℕ) → length pairs ≡ 0 → waits_in pairs a b ≡ true → ⊥
no_pairs [] a b none e = false≢true e
no_pairs (p ∷ pairs) a b none e = absurd (omega (arith, none))

module _ (pairs : Pairs) (start : ℕ) (trail : List Reached) (found : IsFound pairs start trail) where
  -- where there are no pairs nobody is reached
  pub not_again : (n : ℕ) → slice_get (nodes trail) n ≡ Some start → length pairs ≡ 0 → ⊥
  not_again n at none =
      let r = get-unmap (λ (x : Reached). x.txn) trail n start at in
      let c = found.sound n r.0 r.1 in
      no_pairs pairs c.0 r.0.txn none c.2

  lower : (j : ℕ) (from : Option ℕ) (a : ℕ) → IsAt start (nodes trail) j from a → height from ≤ j
  lower j None a is = omega arith
  lower j (Some i) a is = omega (arith, is.0)

  back_on : (place : ℕ) → slice_get (nodes trail) place ≡ Some start → (most : ℕ) (before : Option ℕ) (way : List ℕ) → height before ≤ most
      → IsWay pairs start trail place before way → (ys : List ℕ) × IsCycle pairs (start ∷ ys)
  back_on place at most None way low is = (way, way_done pairs start trail place found at way is)
  back_on place at zero (Some j) way low is = absurd (omega (arith, low))
  back_on place at (suc most) (Some j) way low is =
      let r = get-unmap (λ (x : Reached). x.txn) trail j is.at is.is_at.1 in
      let c = found.sound j r.0 r.1 in
      let less = lower j r.0.from c.0 c.1 in
      back_on place at most r.0.from (r.0.txn ∷ way) (omega (arith, low, less)) (way_back pairs start trail place found at j way is r.0 r.1)

  pub cycle_again : is_member start (nodes trail) ≡ true → (ys : List ℕ) × IsCycle pairs (start ∷ ys)
  cycle_again again =
      let p = place_of start (nodes trail) again in
      let r = get-unmap (λ (x : Reached). x.txn) trail p.0 start p.1 in
      back_on p.0 p.1 (height r.0.from) r.0.from [] (omega arith) (way_first pairs start trail p.0 found p.1 r.0 r.1)

pub is_last_on : (pairs : Pairs) (start : ℕ) (trail : List Reached) → IsLastReached pairs start trail → IsLastOn pairs start
is_last_on pairs start trail is = record {
  through = let ys = cycle_again pairs start trail is.found is.again in (start ∷ ys.0, ys.1, member_here start ys.0);
  last = is.last;
}

pub is_last_cycle : (pairs : Pairs) (start : ℕ) (trail : List Reached) → IsLastReached pairs start trail → (xs : List ℕ) → IsCycle pairs xs → is_member start xs ≡ true
    → IsLastCycle pairs xs
is_last_cycle pairs start trail is xs cycle member = record {
  cycle = cycle;
  last = λ ys other b e a greatest.
      let less = is.last ys other b e in
      let more = greatest.others start member in
      omega (arith, less, more);
}

use Rattle.std.proofs.Common.{◌≡◌, ◌+◌, ◌<◌, ◌≤◌, ℕ, [], ◌∷◌, None, arith, length, length-take-le, refl, sym, take}
use Rattle.txn_cells.proofs.First.{put_in_first}
use Rattle.txn_cells.proofs.few_contents.FewContents.insert.Goals as goal
use Rattle.txn_cells.proofs.few_contents.FewContents.insert.Goals.{in-0, in-1, in-2, in_default}

pub returns : goal.returns
returns g c =
    let f = c.self.inside in
    let n : ℕ = f.count in
    let i : ℕ = c.args.place in
    let xs = f.first ∷ f.second ∷ f.third ∷ f.fourth ∷ [] in
    let long : length (take n xs) ≡ n = length-take-le n xs c.self.invariant in
    let asked : i ≤ length (take n xs) = rw (sym c.self.view_is) at c.requires.within in
    let left : length (take n xs) < 4 = rw (sym c.self.view_is) at c.requires.room in
    let within : i ≤ n = omega (arith, asked, long) in
    let room : n < 4 = omega (arith, left, long) in
    elim c.match-place.branch [
      | in-0 w ↦
          rw (w.self-inside-is, sym c.self.view_is)
          (put_in_first n (n + 1) i xs (None ∷ f.first ∷ f.second ∷ f.third ∷ []) None f.fourth refl (rw w.in-0.is refl) room within c.self.invariant)
      | in-1 w ↦
          rw (w.self-inside-is, sym c.self.view_is)
          (put_in_first n (n + 1) i xs (f.first ∷ None ∷ f.second ∷ f.third ∷ []) None f.fourth refl (rw w.in-1.is refl) room within c.self.invariant)
      | in-2 w ↦
          rw (w.self-inside-is, sym c.self.view_is)
          (put_in_first n (n + 1) i xs (f.first ∷ f.second ∷ None ∷ f.third ∷ []) None f.fourth refl (rw w.in-2.is refl) room within c.self.invariant)
      | in_default w ↦
          let last : i ≡ 3 = omega (arith, within, room, w.in_default) in
          rw (w.self-inside-is, sym c.self.view_is)
          (put_in_first n (n + 1) i xs (f.first ∷ f.second ∷ f.third ∷ None ∷ []) None f.fourth refl (rw last refl) room within c.self.invariant)
    ]

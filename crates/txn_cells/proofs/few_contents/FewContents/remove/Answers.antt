use Rattle.std.proofs.Common.{◌≡◌, ◌-◌, ◌<◌, ◌≤◌, ℕ, [], ◌∷◌, arith, length, length-take-le, refl, sym, take}
use Rattle.txn_cells.proofs.First.{taken_from_first}
use Rattle.txn_cells.proofs.few_contents.FewContents.remove.Goals as goal
use Rattle.txn_cells.proofs.few_contents.FewContents.remove.Goals.{in-0, in-1, in-2, in_default}

pub returns-clause-left : goal.returns-clause-left
returns-clause-left g c =
    let f = c.self.inside in
    let n : ℕ = f.count in
    let i : ℕ = c.args.place in
    let fits : n ≤ 4 = c.self.invariant in
    let xs = f.first ∷ f.second ∷ f.third ∷ f.fourth ∷ [] in
    let long : length (take n xs) ≡ n = length-take-le n xs fits in
    let asked : i < length (take n xs) = rw (sym c.self.view_is) at c.requires in
    let within : i < n = omega (arith, asked, long) in
    elim c.match-place.branch [
      | in-0 w ↦
          rw (w.self-inside-is, sym c.self.view_is)
          (taken_from_first n (n - 1) i xs (f.second ∷ f.third ∷ f.fourth ∷ f.fourth ∷ []) f.fourth refl (rw w.in-0.is refl) within fits)
      | in-1 w ↦
          rw (w.self-inside-is, sym c.self.view_is)
          (taken_from_first n (n - 1) i xs (f.first ∷ f.third ∷ f.fourth ∷ f.fourth ∷ []) f.fourth refl (rw w.in-1.is refl) within fits)
      | in-2 w ↦
          rw (w.self-inside-is, sym c.self.view_is)
          (taken_from_first n (n - 1) i xs (f.first ∷ f.second ∷ f.fourth ∷ f.fourth ∷ []) f.fourth refl (rw w.in-2.is refl) within fits)
      | in_default w ↦
          let last : i ≡ 3 = omega (arith, within, fits, w.in_default) in
          rw (w.self-inside-is, sym c.self.view_is)
          (taken_from_first n (n - 1) i xs (f.first ∷ f.second ∷ f.third ∷ f.fourth ∷ []) f.fourth refl (rw last refl) within fits)
    ]

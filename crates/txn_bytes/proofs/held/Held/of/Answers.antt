use Rattle.std.proofs.Common.{◌≡◌, ℕ, List, length, drop, replicate, ◌∙◌, ap, arith, length-append, length-drop}
use Rattle.std.proofs.lemmas.List.{drop-replicate, length-replicate}
use Rattle.std.proofs.lemmas.Slice.{drop-append-drop}
use Rattle.txn_bytes.proofs.held.Held.of.Goals as goal

pub invariant_of-result : goal.invariant_of-result
invariant_of-result g c =
    let n : ℕ = length c.args.bytes.now in
    let zeros : List ℕ = replicate g.row.N 0 in
    let same : length c.copy.new.to ≡ n = ap (λ (xs : List ℕ). length xs) c.copy.ensures in (
      c.requires.fits,
      omega (arith, c.requires.fits, same, length-append c.copy.new.to (drop n zeros), length-drop n zeros, length-replicate {A = ℕ} g.row.N 0),
      drop-append-drop n zeros c.copy.new.to n (omega arith) same ∙ drop-replicate n g.row.N 0,
    )

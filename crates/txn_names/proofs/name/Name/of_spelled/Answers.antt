use Rattle.std.proofs.Common.{◌≡◌, ℕ, List, length, drop, take, replicate, ◌++◌, ◌-◌, ◌≤◌, ◌∙◌, ap, sym, subst, arith, length-append}
use Rattle.std.proofs.lemmas.List.{length-replicate}
use Rattle.std.proofs.Math.Seq.{drop-append_seam, take-append_seam}
use Rattle.txn_names.specs.Text.{IsName}
use Rattle.txn_names.specs.Reading.{pieces}
use Rattle.txn_names.proofs.Lengths.{fits}
use Rattle.txn_names.proofs.name.Name.of_spelled.Goals as goal

pub filled-requires : goal.filled-requires
filled-requires c = fits c.args.bytes.now c.requires.name

pub invariant_of-result : goal.invariant_of-result
invariant_of-result c =
    let bs : List ℕ = c.args.bytes.now in
    let n : ℕ = length bs in
    let zeros : List ℕ = replicate (271 - n) 0 in
    let short : n ≤ 271 = fits bs c.requires.name in
    let held : List ℕ = c.filled.result in
    let is : held ≡ bs ++ zeros = c.filled.ensures in
    let back : take n held ≡ bs = ap (λ (xs : List ℕ). take n xs) is ∙ take-append_seam bs zeros in
    record {
      within = short;
      whole = ap (λ (xs : List ℕ). length xs) is ∙ omega (arith, short, length-append bs zeros, length-replicate {A = ℕ} (271 - n) 0);
      blank = ap (λ (xs : List ℕ). drop n xs) is ∙ drop-append_seam bs zeros;
      many = ap (λ (xs : List ℕ). length (pieces xs)) back ∙ sym c.requires.many;
      name = subst (λ (xs : List ℕ). IsName (pieces xs)) (sym back) c.requires.name;
    }

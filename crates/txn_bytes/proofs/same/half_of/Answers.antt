use Rattle.std.proofs.Common.{rules, [], ◌∷◌, ap}
use Rattle.std.specs.Hash.{le_bytes}
use Rattle.std.proofs.lemmas.Nat.{le_bytes_4}
use Rattle.txn_bytes.proofs.same.half_of.Goals as goal

pub returns-clause-fed : goal.returns-clause-fed
unfolding le_bytes
returns-clause-fed c =
    ap (λ bytes. bytes ∷ [])
    (le_bytes_4 c.args.bytes.now _ (search rules) (search rules) c.from_le_bytes.ensures)

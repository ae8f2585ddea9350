use Rattle.std.proofs.Common.{rules, [], ◌∷◌, ap}
use Rattle.std.specs.Hash.{le_bytes}
use Rattle.std.proofs.lemmas.Nat.{le_bytes_8}
use Rattle.txn_bytes.proofs.held.word_of.Goals as goal

pub returns-clause-fed : goal.returns-clause-fed
unfolding le_bytes
returns-clause-fed c =
    ap (λ bytes. bytes ∷ [])
    (le_bytes_8 c.args.bytes.now _ (search rules) (search rules) c.from_le_bytes.ensures)

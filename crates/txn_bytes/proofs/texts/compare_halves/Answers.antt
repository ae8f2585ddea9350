use Rattle.std.proofs.Common.{ℕ, List, rules, ap, ◌∙◌}
use Rattle.std.specs.Ordering.{nat_cmp}
use Rattle.std.specs.Int.{from_be_bytes, w32}
use Rattle.txn_bytes.proofs.Ordered.{halves_compare}
use Rattle.txn_bytes.proofs.texts.compare_halves.Goals as goal

pub returns : goal.returns
returns c =
    let xs : List ℕ = c.args.ours.now in
    let ys : List ℕ = c.args.theirs.now in
    c.cmp.ensures
    ∙ ap (λ n. nat_cmp n c.from_be_bytes-2.result) c.from_be_bytes.ensures
    ∙ ap (nat_cmp (from_be_bytes w32 xs)) c.from_be_bytes-2.ensures
    ∙ halves_compare xs ys (search rules) (search rules) (search rules) (search rules)

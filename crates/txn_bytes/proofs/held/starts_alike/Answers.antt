use Rattle.std.proofs.Common.{ℕ, List, [], get_or, nat_eq, take, sym, ap, ◌∙◌}
use Rattle.std.specs.Cmp.{both_ways}
use Rattle.std.specs.Cmp.Lexicographic.{pointwise}
use Rattle.std.specs.Hash as fed
use Rattle.std.specs.Int.{from_le_bytes, w64}
use Rattle.std.proofs.lemmas.Bool.{eq-eqb, eqb-true}
use Rattle.std.proofs.lemmas.Slice.Eq.{bytes_eq-Decides}
use Rattle.txn_bytes.proofs.held.starts_alike.Goals as goal

pub returns-in-Some-Some : goal.returns-in-Some-Some
returns-in-Some-Some c =
    let a : ℕ = c.word_of.result in
    let b : ℕ = c.word_of-in-Some-Some.result in
    let xs : List ℕ = c.in-Some-Some.ours.now in
    let ys : List ℕ = c.in-Some-Some.theirs.now in
    let ours = c.word_of.ensures in
    let theirs = c.word_of-in-Some-Some.ensures in
    let one = bytes_eq-Decides xs ys in
    both_ways (nat_eq a b) (pointwise nat_eq xs ys)
    (λ e. one.1 (ap (λ (fs : List (List ℕ)). get_or fs 0 [])
    (sym ours.fed ∙ ap fed.u64 (eqb-true a b e) ∙ theirs.fed)))
    (λ e. eq-eqb a b (ours.read ∙ ap (from_le_bytes w64) (one.0 e) ∙ sym theirs.read))
    ∙ ap (λ v. pointwise nat_eq v ys) c.in-Some-Some.ensures.cases.same
    ∙ ap (λ v. pointwise nat_eq (take 8 c.args.ours.now) v) c.in-Some-Some.ensures'.cases.same

use Rattle.std.proofs.Common.{take, ap, ◌∙◌}
use Rattle.std.specs.Ordering.{nat_cmp}
use Rattle.std.specs.Cmp.Lexicographic.{slice_cmp}
use Rattle.txn_bytes.proofs.held.compare_starts.Goals as goal

pub returns-in-Some-Some : goal.returns-in-Some-Some
returns-in-Some-Some c =
    c.compare_words.ensures
    ∙ ap (λ v. slice_cmp nat_cmp v c.in-Some-Some.theirs.now) c.in-Some-Some.ensures.cases.same
    ∙ ap (λ v. slice_cmp nat_cmp (take 8 c.args.ours.now) v) c.in-Some-Some.ensures'.cases.same

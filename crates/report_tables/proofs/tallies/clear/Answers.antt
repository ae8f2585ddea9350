use Rattle.std.proofs.Common.{◌≡◌, ◌≤◌, ◌+◌, List, ℕ, length, pos, arith, sym, ap, ◌∙◌, subst}
use Rattle.std.specs.Map.{keys_of}
use Rattle.std.proofs.lemmas.Map.Entries.{length-keys_of}
use Rattle.report_tables.specs.inner.Tallied.{Sums}
use Rattle.report_tables.proofs.Counting.{Cleared, clear_last, clear_more}
use Rattle.report_tables.proofs.Speaking.{keys_set}
use Rattle.report_tables.proofs.tallies.clear.Goals as goal

pub loop-number-preserved : goal.loop-number-preserved
loop-number-preserved c =
    let ss : Sums = c.loop-number.groups.entries in
    let n = c.loop-number.number in (
      ap (λ (xs : Sums). keys_of xs) c.clear_at.ensures.sum ∙ keys_set ss n (pos 0) ∙ c.loop-number.invariant.0,
      subst (λ (xs : Sums). Cleared xs (n + 1)) (sym c.clear_at.ensures.sum) (clear_more ss n c.clear_at.ensures.named c.loop-number.invariant.1),
    )

over : (old ss : Sums) (n m : ℕ) → keys_of ss ≡ keys_of old → m ≡ length old → m ≤ n → length ss ≤ n
over old ss n m same len past =
    let all : length ss ≡ length old = sym (length-keys_of ss) ∙ ap (λ (ks : List (List ℕ)). length ks) same ∙ length-keys_of old in
    omega (arith, all, len, past)

pub returns-clause-named : goal.returns-clause-named
returns-clause-named c =
    let ss : Sums = c.loop-number.groups.entries in
    (clear_last ss c.loop-number.number (over c.args.groups.now.entries ss c.loop-number.number _ c.loop-number.invariant.0 c.len-number-end.ensures.len c.loop-number-test.false) c.loop-number.invariant.1).0

pub returns-clause-sums : goal.returns-clause-sums
returns-clause-sums c =
    let ss : Sums = c.loop-number.groups.entries in
    (clear_last ss c.loop-number.number (over c.args.groups.now.entries ss c.loop-number.number _ c.loop-number.invariant.0 c.len-number-end.ensures.len c.loop-number-test.false) c.loop-number.invariant.1).1
